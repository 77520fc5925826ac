use Rattle.std.proofs.Common.{◌≡◌, ◌-◌, ◌∙◌, List, ℕ, ◌++◌, length, take, drop, ap, arith}
use Rattle.std.proofs.lemmas.List.{length-take}
use Rattle.recording3.proofs.Files.Windows.{moved, take_over}
use Rattle.recording3.proofs.frames.fill.Goals as goal

pub returns-in-Ok-clause-bytes : goal.returns-in-Ok-clause-bytes
returns-in-Ok-clause-bytes g c =
    let window = c.args.window.now in
    let shifted = c.copy_within.new.self in
    let rest = c.args.there - c.args.at in
    let n = length-take rest shifted in
    let k : length shifted ≡ length window = c.copy_within.ensures.len in
    let r = c.requires.room in
    let e : length (take rest shifted) ≡ rest = omega arith in
    let m : take rest shifted ≡ drop c.args.at (take c.args.there window) =
    rw c.copy_within.ensures.after
    (moved window c.args.at c.args.there c.requires.order c.requires.within) in (
      take c.in-Ok.count c.read_some.new.buf,
      c.in-Ok.ensures.bytes.0,
      take_over rest c.in-Ok.count (take rest shifted) c.read_some.new.buf _ e
          c.in-Ok.ensures.within
          ∙ ap (λ (z : List ℕ). z ++ take c.in-Ok.count c.read_some.new.buf) m,
    )
