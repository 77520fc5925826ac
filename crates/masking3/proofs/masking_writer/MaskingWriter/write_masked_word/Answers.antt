use Rattle.masking3.proofs.Common.{refl, ap, ◌∙◌, on_ok_weaker, Word}
use Rattle.std.specs.Option.{unwrap_or}
use Rattle.masking3.proofs.Lemmas.Writing.WriterLemmas.{adds_of_class, word_with}
use Rattle.masking3.proofs.masking_writer.MaskingWriter.write_masked_word.Goals as goal

pub returns : goal.returns
returns g c =
    let w = c.args.self.now in
    record {
      ok = on_ok_weaker c.word.result
          (adds_of_class g.P.Plan.ways w _ _ _ _ _ (Word c.args.name.now c.args.n) _
          c.from.ensures refl c.substitute.ensures.ways
          (c.class_of_word-class.ensures, c.spot_after-self.ensures)
          c.in_ok-substitute.ensures.holds
          (λ seen h.
          word_with w.classes.ways c.args.name.now c.args.n _ _ _ refl
          (c.unwrap_or-put.ensures
          ∙ ap (λ o. unwrap_or o c.args.n) (c.in_ok-substitute.ensures.stands seen h))))
          c.word.ensures.ok;
    }
