use Rattle.std.proofs.Common.{sym, ap, ◌∙◌, ◌++◌, drop, length-append, arith}
use Rattle.std.proofs.lemmas.List.{length-take}
use Rattle.payload3.proofs.PartsLemmas.{stands_more}
use Rattle.payload3.proofs.payload.PayloadSource.read_some.Goals as goal

pub invariant_of-self-then-part-count : goal.invariant_of-self-then-part-count
invariant_of-self-then-part-count g c =
    let inside = c.self.inside in
    stands_more inside.runs.now inside.notes.readings _ inside.given.bytes _ _ inside.failures
    c.in-Ok.count inside.is_spent inside.part c.next_part-part.result c.self.invariant
    c.next_part-part.ensures.same c.next_part-part.ensures.within c.note.ensures
    c.note-in-Ok.ensures
    (omega (
      arith,
      length-take c.in-Ok.count (c.read_at.new.buf ++ drop c.min-room.result c.args.buf.now),
      length-append c.read_at.new.buf (drop c.min-room.result c.args.buf.now),
      c.in-Ok.ensures.bound,
    ))
    (omega arith)
    (omega (
      arith,
      length-take c.min-room.result c.args.buf.now,
      c.in-Ok.ensures.bound,
      c.read_at.auto.buf,
      c.min-room.ensures,
    ))

pub invariant_of-self-in_default : goal.invariant_of-self-in_default
invariant_of-self-in_default g c =
    let inside = c.self.inside in
    record {
      first = λ file allows.
          c.self.invariant.first file allows
          ∙ ap (λ left. inside.given.bytes ++ left) (sym (c.next_part-part.ensures.same file));
      within = λ file allows.
          c.next_part-part.ensures.within file (c.self.invariant.within file allows);
      spent = λ spent.
          let end = c.self.invariant.spent spent in
          let stays = c.next_part-part.ensures.stays end.0 end.1 in
          absurd (c.if-part-eq0.false (ap (λ part. part.left) stays ∙ end.0));
    }
