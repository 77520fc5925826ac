use Rattle.masking3.proofs.Common.{[], ◌∷◌, ◌∙◌, sym, on_err_weaker, on_ok_weaker, Word, way_of, Owners}
use Rattle.masking3.proofs.Lemmas.Classes.KnownFieldLemmas.{all_stay, free_name_is_kept}
use Rattle.masking3.proofs.Lemmas.Writing.WriterLemmas.{adds_kept, keeps_spelled}
use Rattle.masking3.proofs.masking_writer.MaskingWriterVisit.word.Goals as goal

pub returns-then-is_free_name : goal.returns-then-is_free_name
returns-then-is_free_name g c =
    let w = c.args.self.now in
    record {
      ok = on_ok_weaker c.word.result
          (adds_kept g.P.Plan.ways w c.word.new.self (Word c.args.name.now c.args.n ∷ [])
          (all_stay w.classes.ways (Word c.args.name.now c.args.n ∷ []) (
            free_name_is_kept (way_of w.classes.ways Owners) c.args.name.now
                (sym c.is_free_name.ensures ∙ c.if-is_free_name.true),
            tt,
          ))) c.word.ensures.ok;
      err = on_err_weaker c.word.result (keeps_spelled g.P.Plan.ways w c.word.new.self)
          c.word.ensures.err;
    }
