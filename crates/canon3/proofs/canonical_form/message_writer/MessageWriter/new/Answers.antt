use Rattle.canon3.proofs.Common.{[], refl, values_of}
use Rattle.canon3.proofs.Lemmas.Writing.Opening.{rests}
use Rattle.canon3.proofs.canonical_form.message_writer.MessageWriter.new.Goals as goal

pub returns-clause-rests : goal.returns-clause-rests
returns-clause-rests g c =
    rests _ (values_of [])
    (record {
      handles = ([], c.new.ensures, refl);
      verifiers = c.new-2.ensures;
    }) c.new-3.ensures
