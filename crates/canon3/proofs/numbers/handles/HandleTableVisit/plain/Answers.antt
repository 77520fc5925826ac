use Rattle.canon3.proofs.Common.{run_items, Adds}
use Rattle.canon3.proofs.Lemmas.Numbers.HandleTableLemmas.{gathers_none, none_in_run}
use Rattle.canon3.proofs.numbers.handles.HandleTableVisit.plain.Goals as goal

pub returns : goal.returns
unfolding Adds
returns g c =
    record {
      ok = λ before gathers.
          gathers_none c.args.self.now before (run_items c.args._fields.now c.args._bytes.now)
          (none_in_run c.args._fields.now c.args._bytes.now) gathers;
      err = tt;
    }
