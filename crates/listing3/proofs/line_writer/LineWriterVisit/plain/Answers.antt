use Rattle.std.proofs.lemmas.Result.{on_err_weaker, on_ok_weaker}
use Rattle.xdr3.specs.Plain.{run_items}
use Rattle.listing3.proofs.Lines.LineLemmas.{adds_run, run_kept}
use Rattle.listing3.proofs.line_writer.LineWriterVisit.plain.Goals as goal

pub returns : goal.returns
returns g c =
    record {
      ok =
          on_ok_weaker c.plain.result
          (adds_run g.H.Visit.stands g.met.H.Gathering.skips c.args.self.now c.plain.new.self
          c.args.fields.now c.args.bytes.now)
          c.plain.ensures.ok;
      err =
          on_err_weaker c.plain.result
          (run_kept g.H.Visit.stands c.args.self.now c.plain.new.self
          (run_items c.args.fields.now c.args.bytes.now)) c.plain.ensures.stays;
    }
