use Rattle.std.proofs.Common.{◌≡◌, ◌+◌, List, [], refl, ℕ, length, take, sym, subst, arith}
use Rattle.std.proofs.lemmas.List.{take_rest, length-drop}
use Rattle.recording3.specs.Frames.{Extends}
use Rattle.recording3.specs.Places.{IsPart, ReadingPlace, frames_of}
use Rattle.recording3.specs.machinery.Reached.{IsInside, Passes, place_of}
use Rattle.recording3.proofs.Files.FramesLemmas.{extends_same, passes_next, passes_none, stops_next}
use Rattle.recording3.proofs.frames.pass.Goals as goal

pub parts-init : goal.parts-init
parts-init g c = (
  omega arith,
  passes_none (place_of c.args.reached.now) (g.T.FrameTaker.took c.args.taker.now),
)

pub parts-preserved : goal.parts-preserved
parts-preserved g c =
    let bytes = c.args.bytes.now in
    let at = c.parts.at in
    let part = c.in-Ok.part in
    let p = place_of c.args.reached.now in
    let q = place_of c.parts.reached in
    let took = g.T.FrameTaker.took in
    let t = take_rest bytes at in
    let i = subst (λ (xs : List ℕ). IsPart q xs part) t c.in-Ok.ensures.ok in
    let w = subst (λ (xs : List ℕ). IsInside (length xs) part) t c.in-Ok.ensures.inside in
    let e = subst
    (λ (xs : List ℕ).
    Extends (took c.parts.taker) (took c.step.new.taker) (frames_of q xs part.content))
    t c.in_default.ensures.took in
    let d = length-drop at bytes in
    let n = w.1 in
    let l = c.parts.invariant.0 in (
      omega arith,
      subst
          (λ (z : ReadingPlace).
          Passes p (Extends (took c.args.taker.now) (took c.step.new.taker))
          (take (at + part.size) bytes) z)
          (sym c.in_default.ensures.ok)
          (passes_next p q bytes at part (took c.args.taker.now) (took c.parts.taker)
          (took c.step.new.taker) c.parts.invariant.1 i w e),
    )

pub returns-in-Err-step-clause-err : goal.returns-in-Err-step-clause-err
returns-in-Err-step-clause-err g c =
    let bytes = c.args.bytes.now in
    let at = c.parts.at in
    let part = c.in-Ok.part in
    let q = place_of c.parts.reached in
    let took = g.T.FrameTaker.took in
    let t = take_rest bytes at in
    let i = subst (λ (xs : List ℕ). IsPart q xs part) t c.in-Ok.ensures.ok in
    stops_next (place_of c.args.reached.now) q bytes at part (took c.args.taker.now)
    (took c.parts.taker) (took c.step.new.taker) (c.step.new.taker ≡ c.parts.taker)
    _ c.in-Err-step.failed c.parts.invariant.1 i
    (rw t at c.in-Err-step.ensures.err)
    (λ e. extends_same took c.parts.taker c.step.new.taker [] e refl)
