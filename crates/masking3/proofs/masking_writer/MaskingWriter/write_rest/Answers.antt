use Rattle.masking3.proofs.Common.{◌≡◌, ⊎_elim, ℕ, List, length, ap, [], ◌∷◌, refl, sym, ◌∙◌, ◌++◌, subst, on_ok_weaker, Adds, Rest, raw_by, way_of, Raw}
use Rattle.masking3.proofs.Lemmas.Writing.RunLemmas.{spelled_item, zeros}
use Rattle.masking3.proofs.Lemmas.Writing.WriterLemmas.{Spells, adds_plain}
use Rattle.masking3.proofs.masking_writer.MaskingWriter.write_rest.Goals as goal

pub returns-in-Keep : goal.returns-in-Keep
returns-in-Keep g c = record {
  ok =
      on_ok_weaker c.rest.result
      (λ write.
      adds_plain g.P.Plan.ways c.args.self.now c.rest.new.self
      (Rest c.args.name.now c.args.bytes.now) tt (λ spot. refl) refl
      (subst
      (λ way.
      Adds Spells c.args.self.now.writer c.rest.new.self
      (Rest c.args.name.now (raw_by way c.args.bytes.now) ∷ [])) (sym c.in-Keep.is ∙ c.way.ensures)
      write))
      c.rest.ensures.ok;
}

pub returns-in-Zero : goal.returns-in-Zero
returns-in-Zero g c =
    let b = c.args.bytes.now in
    let old = c.args.self.now.writer in
    let new = c.write_zeros.new.writer in
    let put = raw_by (way_of c.args.self.now.classes.ways Raw) b in
    let are : put ≡ zeros (length b) =
    ⊎_elim (λ is. ap (λ w. raw_by w b) (sym c.way.ensures ∙ is))
    (λ is. ap (λ w. raw_by w b) (sym c.way.ensures ∙ is)) c.in-Zero.is in
    record {
      ok =
          on_ok_weaker c.write_zeros.result
          (λ write.
          adds_plain g.P.Plan.ways c.args.self.now new (Rest c.args.name.now b) tt (λ spot. refl)
          refl
          (spelled_item old new (Rest c.args.name.now put)
          (write ∙ ap (λ (l : List ℕ). old ++ l) (sym are))))
          c.write_zeros.ensures;
    }
