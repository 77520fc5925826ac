use Rattle.std.proofs.Common.{rules}
use Rattle.std.proofs.lemmas.Result.{on_err_weaker, on_ok_weaker}
use Rattle.xdr3.specs.Item.{AreBytes}
use Rattle.xdr3.specs.Plain.{run_items}
use Rattle.xdr3.proofs.Lemmas.Shapes.PlainLemmas.{run_written}
use Rattle.xdr3.proofs.Lemmas.Shapes.Walks.{none_written}
use Rattle.xdr3.proofs.writer.WriterVisit.plain.Goals as goal

pub returns : goal.returns
returns c =
    let bytes : AreBytes c.args.bytes.now = search rules in
    record {
      ok =
          on_ok_weaker c.append.result
          (λ is.
          run_written c.args._fields.now c.args.bytes.now c.args.self.now c.append.new.self
          bytes c.requires is) c.append.ensures.ok;
      err =
          on_err_weaker c.append.result
          (none_written c.args.self.now c.append.new.self
          (run_items c.args._fields.now c.args.bytes.now)) c.append.ensures.err;
    }
