use Rattle.masking3.proofs.Common.{refl, on_ok_weaker, Hyper}
use Rattle.masking3.proofs.Lemmas.Writing.WriterLemmas.{adds_of_class, hyper_with, stays_found}
use Rattle.masking3.proofs.masking_writer.MaskingWriter.write_masked_hyper.Goals as goal

pub returns : goal.returns
returns g c =
    let w = c.args.self.now in
    let i = Hyper c.args.name.now c.args.n in
    record {
      ok = on_ok_weaker c.hyper.result
          (adds_of_class g.P.Plan.ways w _ _ _ _ _ i _ refl refl c.replaced_hyper.ensures.ways
          (c.class_of_hyper-class.ensures, stays_found g.P.Plan.ways w i tt)
          c.in_ok-put.ensures.holds
          (λ seen h.
          hyper_with w.classes.ways c.args.name.now c.args.n _ _ _ refl
          (c.in_ok-put.ensures.put seen h))) c.hyper.ensures.ok;
    }
