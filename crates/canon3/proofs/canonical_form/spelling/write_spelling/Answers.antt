use Rattle.canon3.proofs.canonical_form.spelling.write_spelling.Goals as goal

pub returns-in-Ok-clause-err : goal.returns-in-Ok-clause-err
returns-in-Ok-clause-err g c =
    rw (c.in-Message.is, ← c.in-Ok.ensures.chunk, ← c.first_bytes.ensures) c.write_both.ensures.err
