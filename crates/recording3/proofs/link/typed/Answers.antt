use Rattle.std.proofs.Common.{inl, refl, arith}
use Rattle.recording3.specs.Link.{past_tag}
use Rattle.recording3.specs.Octets.{octets}
use Rattle.recording3.specs.declared.link.Placed.{Placed}
use Rattle.recording3.proofs.LinkLemmas.{past_tag-later}
use Rattle.recording3.proofs.link.typed.Goals as goal

pub returns-then-frame-size-clause-err : goal.returns-then-frame-size-clause-err
returns-then-frame-size-clause-err c =
    let frame = c.args.frame.now in
    let first : Placed = record { kind = octets frame c.args.place 2; at = c.args.size } in
    inl (
      omega (arith, past_tag-later frame first, past_tag-later frame (past_tag frame first)),
      refl,
    )

pub returns-in_default-clause-err : goal.returns-in_default-clause-err
returns-in_default-clause-err c =
    let frame = c.args.frame.now in
    let first : Placed = record { kind = octets frame c.args.place 2; at = c.args.size } in
    inl (
      omega (
        arith,
        rw c.two.ensures at c.in_default.ensures,
        past_tag-later frame (past_tag frame first),
      ),
      refl,
    )
