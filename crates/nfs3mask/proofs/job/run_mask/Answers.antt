use Rattle.program3.specs.Readings.{readings_in}
use Rattle.nfs3mask.proofs.job.run_mask.Goals as goal

pub returns : goal.returns
returns g c = record {
  masks =
      c.with_mask_text.ensures (record {
        holds = g.F.Files.holds c.args.files.now;
        readings = readings_in c.run_rewriting-ended.result.1;
        finished = (
          g.F.Files.finished c.args.files.now,
          g.F.Files.finished c.run_rewriting-ended.new.files,
        );
      }) c.args.job c.in-Ok.ensures.text c.run_rewriting-ended.ensures.rewrites;
}
