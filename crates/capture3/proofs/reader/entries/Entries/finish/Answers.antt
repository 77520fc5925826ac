use Rattle.std.proofs.Common.{refl}
use Rattle.capture3.proofs.Lemmas.Reader.EntriesLemmas.{cut_short, finished}
use Rattle.capture3.proofs.reader.entries.Entries.finish.Goals as goal

pub returns-in-Ok-clause-ok : goal.returns-in-Ok-clause-ok
returns-in-Ok-clause-ok g c given handed s =
    finished g.R.Source.observed c.args.self.now _ given handed c.requires.reading refl refl refl
    c.requires.used_up.0 c.requires.used_up.1 c.in-Ok.ensures.ok c.requires.end refl refl refl s

pub returns-in-Err-clause-err : goal.returns-in-Err-clause-err
returns-in-Err-clause-err g c given handed s =
    cut_short g.R.Source.observed c.args.self.now _ given handed c.requires.reading refl refl refl
    c.requires.used_up.0 c.requires.used_up.1 c.in-Err.ensures.err.0
    c.in-Err.ensures.err.1 c.requires.end s
