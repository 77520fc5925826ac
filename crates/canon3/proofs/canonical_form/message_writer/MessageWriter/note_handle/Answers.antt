use Rattle.canon3.proofs.Common.{ℕ, ◌+◌, ap, length, subst, take, on_ok_weaker}
use Rattle.canon3.proofs.Lemmas.Writing.Noting.{ReplacesRun}
use Rattle.canon3.proofs.Lemmas.Writing.Visiting.{adds_handle}
use Rattle.canon3.proofs.canonical_form.message_writer.MessageWriter.note_handle.Goals as goal

pub returns : goal.returns
returns g c =
    let put = take 8 c.spelled_number.result in
    let size : ℕ → ℕ = λ residual. 4 + (length c.args.bytes.now + residual) in
    record {
      ok = λ name. on_ok_weaker c.replace.result
          (λ replaces.
          adds_handle c.args.self.now c.replace.new.self c.number_of_handle.new.handles
          c.args.bytes.now put c.in_ok-number.number c.requires.some
          c.in_ok-number.ensures.number c.in_ok-number.ensures.given
          (ap (take 8) c.spelled_number.ensures)
          (subst (λ n. ReplacesRun c.args.self.now.patches c.replace.new.self n put)
          (ap size c.residue.ensures) replaces) name)
          c.replace.ensures.ok;
    }
