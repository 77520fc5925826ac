use Rattle.std.proofs.Common.{ℕ, ◌≤◌, ◌+◌, replicate, refl, sym, ◌∙◌, arith}
use Rattle.std.proofs.lemmas.Bool.{iff_false}
use Rattle.std.proofs.lemmas.List.{length-take}
use Rattle.payload3.proofs.RecordedLemmas.{both_read}
use Rattle.payload3.proofs.recorded.Recorded.same_part.Goals as goal

pub returns-then-same_front-clause-some : goal.returns-then-same_front-clause-some
returns-then-same_front-clause-some g c =
    let fewer : c.in_ok-again.again ≤ c.in_ok-count.count =
    omega (
      arith,
      c.in_ok-again.ensures.within.1,
      c.read-2.auto.buf,
      length-take {A = ℕ} c.in_ok-count.count (replicate 4096 0),
    ) in
    let few : c.in_ok-again.again ≤ c.args.most =
    omega (
      arith,
      fewer,
      c.in_ok-count.ensures.within.1,
      c.read.auto.buf,
      c.min-room.ensures,
      length-take {A = ℕ} c.min-room.result (replicate 4096 0),
    ) in (
      c.in_ok-again.ensures.within.0,
      few,
      λ file allows.
          let both =
          both_read file c.args.self.now.readings c.read.new.self.readings
          c.read-2.new.self.readings c.read.new.buf c.read-2.new.buf
          (c.args.pair.now.first.at + c.args.done) (c.args.pair.now.again.at + c.args.done)
          c.in_ok-count.count c.in_ok-again.again c.in_ok-count.ensures.noted
          c.in_ok-again.ensures.noted fewer c.in_ok-count.ensures.within.1
          c.in_ok-again.ensures.within.1 allows in
          both.first ∙ c.if-same_front.ensures.0 refl ∙ sym both.second,
    )

pub returns-else-same_front-clause-more : goal.returns-else-same_front-clause-more
returns-else-same_front-clause-more g c =
    let fewer : c.in_ok-again.again ≤ c.in_ok-count.count =
    omega (
      arith,
      c.in_ok-again.ensures.within.1,
      c.read-2.auto.buf,
      length-take {A = ℕ} c.in_ok-count.count (replicate 4096 0),
    ) in
    λ file allows.
    let both =
    both_read file c.args.self.now.readings c.read.new.self.readings
    c.read-2.new.self.readings c.read.new.buf c.read-2.new.buf
    (c.args.pair.now.first.at + c.args.done) (c.args.pair.now.again.at + c.args.done)
    c.in_ok-count.count c.in_ok-again.again c.in_ok-count.ensures.noted
    c.in_ok-again.ensures.noted fewer c.in_ok-count.ensures.within.1
    c.in_ok-again.ensures.within.1 allows in
    both.before

pub returns-else-same_front-clause-none : goal.returns-else-same_front-clause-none
returns-else-same_front-clause-none g c =
    let fewer : c.in_ok-again.again ≤ c.in_ok-count.count =
    omega (
      arith,
      c.in_ok-again.ensures.within.1,
      c.read-2.auto.buf,
      length-take {A = ℕ} c.in_ok-count.count (replicate 4096 0),
    ) in
    let few : c.in_ok-again.again ≤ c.args.most =
    omega (
      arith,
      fewer,
      c.in_ok-count.ensures.within.1,
      c.read.auto.buf,
      c.min-room.ensures,
      length-take {A = ℕ} c.min-room.result (replicate 4096 0),
    ) in
    λ none. (
      c.in_ok-again.again,
      few,
      λ file allows same.
          let both =
          both_read file c.args.self.now.readings c.read.new.self.readings
          c.read-2.new.self.readings c.read.new.buf c.read-2.new.buf
          (c.args.pair.now.first.at + c.args.done) (c.args.pair.now.again.at + c.args.done)
          c.in_ok-count.count c.in_ok-again.again c.in_ok-count.ensures.noted
          c.in_ok-again.ensures.noted fewer c.in_ok-count.ensures.within.1
          c.in_ok-again.ensures.within.1 allows in
          iff_false c.if-same_front.ensures refl (sym both.first ∙ same ∙ both.second),
    )
