use Rattle.std.proofs.Common.{◌∙◌, ap, arith}
use Rattle.streams3.specs.machinery.Log.{no_run}
use Rattle.payload3.specs.declared.parts.RunPart.{RunPart}
use Rattle.payload3.proofs.PartsLemmas.{begins_run, begins_within}
use Rattle.payload3.proofs.parts.next_part.Goals as goal

pub loop-part-preserved : goal.loop-part-preserved
loop-part-preserved c =
    let runs = c.args.runs.now in
    let part = c.loop-part.part in
    record {
      same = λ file.
          begins_run file runs part no_run c.loop-part-test.true c.if-part-runs.true
          ∙ c.loop-part.invariant.same file;
      within = λ file within.
          begins_within file runs part no_run c.loop-part-test.true c.if-part-runs.true
          (c.loop-part.invariant.within file within);
      stays = λ empty all.
          let same = ap (λ (p : RunPart). p.begun) (c.loop-part.invariant.stays empty all) in
          absurd (omega (arith, same, all));
    }
