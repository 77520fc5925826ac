use Rattle.masking3.proofs.Common.{refl, ap, ◌∙◌, Word, big_number}
use Rattle.std.proofs.lemmas.List.{take_rest}
use Rattle.std.specs.Option.{unwrap_or}
use Rattle.std.specs.Prelude.{take}
use Rattle.masking3.specs.machinery.KnownFields.{with_run}
use Rattle.masking3.specs.machinery.UnnamedBody.{body_word}
use Rattle.masking3.proofs.Lemmas.Classes.KnownFieldLemmas.{known_word}
use Rattle.masking3.proofs.Lemmas.Writing.RunLemmas.{put_spells, put_there}
use Rattle.masking3.proofs.Lemmas.Writing.WriterLemmas.{adds_of_class, word_with}
use Rattle.masking3.proofs.masking_writer.MaskingWriter.put_word.Goals as goal

pub returns-clause-ok : goal.returns-clause-ok
returns-clause-ok g c =
    let w = c.args.self.now in
    let name = c.args.name.now in
    let n_is = c.read_u32-n.ensures ∙ ap (big_number 4) (take_rest c.args.bytes.now c.args.at) in
    adds_of_class g.P.Plan.ways (with_run w (take c.args.at c.args.run.now)) _ _ _ _ _
    (Word name (body_word c.args.at c.args.bytes.now)) _ (c.from.ensures ∙ n_is) refl
    c.substitute.ensures.ways
    (known_word w.spot c.args.spot c.args.class name _ c.requires.spot c.requires.known)
    c.in_ok-substitute.ensures.holds
    (λ seen h.
    word_with w.classes.ways name _ _ _ _ n_is (c.unwrap_or-put.ensures
    ∙ ap (λ o. unwrap_or o c.read_u32-n.result) (c.in_ok-substitute.ensures.stands seen h)))
    (put_spells w.writer _ _ _
    (put_there _ c.args.at 4 c.args.run.now _ _ _ c.put_bytes.ensures.end
    c.put_bytes.ensures.written c.spelled_word.ensures refl))
