use Rattle.masking3.proofs.Common.{◌∙◌, ◌≡◌, true, refl, sym, subst, list_all, on_ok_weaker, way_of, Owners}
use Rattle.xdr3.specs.Plain.{run_items}
use Rattle.masking3.specs.machinery.KnownFields.{is_kept_field}
use Rattle.masking3.proofs.Lemmas.Classes.KnownFieldLemmas.{all_stay, attributes_named, attributes_size, kept_run}
use Rattle.masking3.proofs.Lemmas.Writing.WriterLemmas.{adds_kept}
use Rattle.masking3.proofs.masking_writer.MaskingWriter.write_run.Goals as goal

pub returns-then-are_kept : goal.returns-then-are_kept
returns-then-are_kept g c =
    record {
      ok =
          on_ok_weaker c.plain.result
          (adds_kept g.P.Plan.ways c.args.self.now c.plain.new.self
          (run_items c.args.fields.now c.args.bytes.now)
          (all_stay c.args.self.now.classes.ways (run_items c.args.fields.now c.args.bytes.now)
          (kept_run (way_of c.args.self.now.classes.ways Owners) c.args.fields.now c.args.bytes.now
          (subst (λ way. list_all (is_kept_field way) c.args.fields.now ≡ true) c.way.ensures
          (sym c.are_kept.ensures ∙ c.if-are_kept.true))))) c.plain.ensures.ok;
    }

pub write_attributes-requires : goal.write_attributes-requires
write_attributes-requires g c =
    c.requires ∙ attributes_size c.args.fields.now (c.if-are_attributes.ensures refl)

pub returns-then-are_attributes : goal.returns-then-are_attributes
returns-then-are_attributes g c =
    record {
      ok =
          rw (attributes_named c.args.fields.now c.args.bytes.now
          (c.if-are_attributes.ensures refl)) c.write_attributes.ensures;
    }
