use Rattle.canon3.proofs.Common.{[], None, refl, prefix_of_kept}
use Rattle.canon3.proofs.Lemmas.Progress.SummaryLemmas.{concluded, concludes, no_write}
use Rattle.canon3.proofs.summary.check.Goals as goal

pub write_entries-requires-clause-prefixes : goal.write_entries-requires-clause-prefixes
write_entries-requires-clause-prefixes g c = λ entries more first. ([], refl)

pub returns : goal.returns
returns g c =
    let w = c.write_entries.ensures in
    let old = g.R.Source.observed c.args.source.now in
    let new = g.R.Source.observed c.write_entries.new.source in
    let result = c.write_entries.result in
    let never = no_write result w.write in
    let all = concludes old new result None never w.writes in
    record {
      concludes = all;
      whole =
          λ bytes gave.
          concluded bytes old new result (λ given. prefix_of_kept old new given bytes gave) all;
      read = w.read;
      write = never;
    }
