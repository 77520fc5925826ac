use Rattle.canon3.proofs.Common.{[], ◌∷◌, ◌++◌, error_is, values_of}
use Rattle.canon3.proofs.canonical_form.write_after_magic.Goals as goal

pub returns-clause-follows : goal.returns-clause-follows
returns-clause-follows g c entries one of first stands =
    let s = c.in-Ok.ensures entries one of first stands in (
      c.end_message.ensures.going,
      c.end_message.ensures.rests (values_of (entries ++ one ∷ []))
          (c.in_ok-write_spelling.ensures.holds (values_of (entries ++ one ∷ [])) s.holds),
      rw s.spelled at c.in_ok-write_spelling.ensures.ok,
    )

pub returns-in_err-write_spelling-clause-follows : goal.returns-in_err-write_spelling-clause-follows
returns-in_err-write_spelling-clause-follows g c entries one of first stands =
    let s = c.in-Ok.ensures entries one of first stands in
    rw (error_is _ _ c.from_residual.ensures) (rw s.spelled at c.in_err-write_spelling.ensures.err)
