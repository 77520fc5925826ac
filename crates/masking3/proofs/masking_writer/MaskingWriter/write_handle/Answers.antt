use Rattle.masking3.proofs.Common.{refl, on_ok_weaker, Handle, Opaque}
use Rattle.masking3.proofs.Lemmas.Writing.WriterLemmas.{adds_handle}
use Rattle.masking3.proofs.masking_writer.MaskingWriter.write_handle.Goals as goal

pub returns : goal.returns
returns g c = record {
  ok =
      on_ok_weaker c.handle-2.result
      (adds_handle g.P.Plan.ways c.args.self.now c.handle.new.self c.handle-2.new.self
      (Opaque Handle c.args.name.now c.args.bytes.now) tt (λ spot. refl)
      c.in_ok-handle.ensures.ok) c.handle-2.ensures.ok;
}
