use Rattle.canon3.proofs.Common.{[], None, refl, Appends-nil}
use Rattle.canon3.proofs.Lemmas.Comparison.ComparisonLemmas.{read_out}
use Rattle.canon3.proofs.Lemmas.Progress.SummaryLemmas.{no_write}
use Rattle.canon3.proofs.comparison.drain.Goals as goal

pub write_rest-requires-clause-prefixes : goal.write_rest-requires-clause-prefixes
write_rest-requires-clause-prefixes g c = λ entries more first. ([], refl)

pub returns : goal.returns
returns g c =
    let w = c.write_rest.ensures in
    record {
      out =
          λ start handed h.
          read_out _ _ handed c.write_rest.result
          (w.over start handed None h
          (record { goes = tt; stands_for = tt; written = Appends-nil None }));
      reads = record {
        read = w.devices.read;
        write = no_write c.write_rest.result w.devices.write;
        same_reference = w.devices.same_reference;
      };
    }
