use Rattle.capture3.proofs.Lemmas.Reader.EntriesLemmas.{has_passed}
use Rattle.capture3.proofs.reader.entries.Entries.progress.Goals as goal

pub returns : goal.returns
returns g c given handed s going =
    let p = c.progress.ensures in
    let (place, messages) = has_passed g.R.Source.observed c.args.self.now given handed s going in
    record {
      place = rw (p.connections, p.records) place;
      calls_are = rw p.calls messages.0;
      replies_are = rw p.replies messages.1;
    }
