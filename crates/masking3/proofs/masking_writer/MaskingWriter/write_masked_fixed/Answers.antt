use Rattle.masking3.proofs.Common.{refl, ap, sym, ◌∙◌, on_ok_weaker, big_bytes, with_text, with_value, Fixed}
use Rattle.masking3.proofs.Lemmas.Writing.WriterLemmas.{adds_of_class, stays_found}
use Rattle.masking3.proofs.masking_writer.MaskingWriter.write_masked_fixed.Goals as goal

pub returns-in-Some : goal.returns-in-Some
returns-in-Some g c =
    let i = Fixed c.args.name.now c.args.bytes.now in
    record {
      ok = on_ok_weaker c.fixed.result
          (adds_of_class g.P.Plan.ways c.args.self.now _ _ _ _ _ i _
          c.read_u64-value.ensures refl c.substitute.ensures.ways (
            c.class_of_fixed-class.ensures,
            stays_found g.P.Plan.ways c.args.self.now i tt,
          )
          c.in_ok-substitute.ensures.holds
          (λ seen h.
          ap (λ o. with_text c.args.self.now.classes.ways (with_value i o))
          (sym (c.in_ok-substitute.ensures.stands seen h) ∙ c.in-Some.is)
          ∙ ap (Fixed c.args.name.now)
          (sym (c.spelled_hyper.ensures ∙ ap (big_bytes 8) c.from.ensures))))
          c.fixed.ensures.ok;
    }

pub returns-in-None : goal.returns-in-None
returns-in-None g c =
    let i = Fixed c.args.name.now c.args.bytes.now in
    record {
      ok = on_ok_weaker c.fixed-in-None.result
          (adds_of_class g.P.Plan.ways c.args.self.now _ _ _ _ _ i _
          c.read_u64-value.ensures refl c.substitute.ensures.ways (
            c.class_of_fixed-class.ensures,
            stays_found g.P.Plan.ways c.args.self.now i tt,
          )
          c.in_ok-substitute.ensures.holds
          (λ seen h.
          ap (λ o. with_text c.args.self.now.classes.ways (with_value i o))
          (sym (c.in_ok-substitute.ensures.stands seen h) ∙ c.in-None.is)))
          c.fixed-in-None.ensures.ok;
    }
