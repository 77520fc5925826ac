use Rattle.canon3.proofs.Common.{◌∙◌, ap, take, on_ok_weaker, big_bytes}
use Rattle.canon3.proofs.Lemmas.Writing.Visiting.{adds_verifier}
use Rattle.canon3.proofs.canonical_form.message_writer.MessageWriter.note_verifier.Goals as goal

pub returns : goal.returns
returns g c =
    let put = take 8 c.spelled_hyper.result in
    record {
      ok = λ name. on_ok_weaker c.replace.result
          (λ replaces.
          adds_verifier c.args.self.now c.replace.new.self c.number_of.new.self c.args.bytes.now
          put c.in_ok-number.number c.in_ok-number.ensures.number
          c.in_ok-number.ensures.given
          (ap (take 8) (c.spelled_hyper.ensures ∙ ap (λ n. big_bytes 8 n) c.from.ensures))
          replaces name)
          c.replace.ensures.ok;
    }
