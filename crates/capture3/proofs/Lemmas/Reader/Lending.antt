-- The record that stands of a message that is lent.
use Rattle.capture3.proofs.Common.{◌≡◌, ◌∙◌, ap, subst, Option, Some, Stops, Whole, Taking, Led, IsWhole, Kind, props}
use Rattle.std.proofs.Math.Logic.{∥∥₁_elim, ∥∥₁_prop}
use Rattle.std.proofs.Common.{◌≤◌, ◌+◌, ◌-◌, List, ℕ, length, take, drop, slice_range, length-take, take-take, arith}
use Rattle.capture3.specs.machinery.InPlace.{InPlaceState, LiesIn}
use Rattle.capture3.specs.machinery.Pairing.{LiesLast, SpellsKind, SpellsLast}
use Rattle.capture3.specs.declared.reader.entry.Kind.TheVariants as kinds

whole-prop : (t : Taking) → IsProp (IsWhole t)
whole-prop (Led (Stops (Whole body))) = hlevel props
whole-prop t = hlevel props

pub stands_whole : {X : Type 0} (t : Taking) → ∥ IsWhole t × X ∥₁ → IsWhole t
stands_whole t h = ∥∥₁_elim h (whole-prop t) (λ s. s.0)

pub stands_spelled : {X : Type 0} (t : Taking) → ∥ IsWhole t × ∥ X ∥₁ ∥₁ → ∥ X ∥₁
stands_spelled t h = ∥∥₁_elim h ∥∥₁_prop (λ s. s.1)

-- what stands of the last entry, by its kind as the code has it
pub last_stands : (last : Option Kind) (kind one : Kind) (t : Taking) → ∥ SpellsLast last t ∥₁
    → last ≡ Some kind → kind ≡ one → ∥ SpellsKind one t ∥₁
last_stands last kind one t stands is same =
    subst (λ (l : Option Kind). ∥ SpellsLast l t ∥₁) (is ∙ ap Some same) stands

-- ---- where it lies

lies_in-prop : (joiner : InPlaceState) (piece : List ℕ) → IsProp (LiesIn joiner piece)
lies_in-prop joiner piece = hlevel props

lies_last-prop : (last : Option Kind) (joiner : InPlaceState) (piece : List ℕ)
    → IsProp (LiesLast last joiner piece)
lies_last-prop (Some (kinds.Call id)) joiner piece = lies_in-prop joiner piece
lies_last-prop (Some (kinds.Reply id)) joiner piece = lies_in-prop joiner piece
lies_last-prop last joiner piece = hlevel props

pub lies_there : (last : Option Kind) (joiner : InPlaceState) (piece : List ℕ)
    → ∥ LiesLast last joiner piece ∥₁ → LiesLast last joiner piece
lies_there last joiner piece lies = ∥∥₁_elim lies (lies_last-prop last joiner piece) (λ s. s)

lies_so : (last : Option Kind) (joiner : InPlaceState) (piece : List ℕ)
    → LiesIn joiner piece → LiesLast last joiner piece
lies_so (Some (kinds.Call id)) joiner piece lies = lies
lies_so (Some (kinds.Reply id)) joiner piece lies = lies
lies_so last joiner piece lies = tt

-- the bytes that were taken from the start of a piece of the block
pub lies_in_block : (last : Option Kind) (joiner : InPlaceState) (block : List ℕ)
    (start count most : ℕ) → count ≤ length (take most (drop start block))
    → LiesIn joiner (take count (take most (drop start block)))
    → LiesLast last joiner (slice_range block start (start + count))
lies_in_block last joiner block start count most within lies =
    let fits : count ≤ most = omega (arith, within, length-take most (drop start block)) in
    let size : start + count - start ≡ count = omega arith in
    lies_so last joiner (slice_range block start (start + count))
    (rw (size, ← (take-take count most (drop start block) fits)) lies)
