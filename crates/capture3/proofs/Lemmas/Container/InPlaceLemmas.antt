-- Records that stay where they lie.
use Rattle.std.proofs.Common.{◌≡◌, ◌≤◌, ◌+◌, ◌-◌, List, ℕ, Option, Some, None, take, drop, refl, subst, arith}
use Rattle.std.proofs.lemmas.List.{drop-take}
use Rattle.record_mark.specs.Machine.{Runs}
use Rattle.record_mark.specs.Taking.{Taking, Led, IsRunning, IsWhole}
use Rattle.capture3.specs.declared.device.trail.Trail.{Trail}
use Rattle.capture3.specs.machinery.InPlaceInside.{taking_shown}
use Rattle.capture3.specs.machinery.InPlace.{InPlaceState, IsCopied, LiesIn}

not_both : (taking : Taking) → IsRunning taking → IsWhole taking → ⊥
not_both (Led (Runs joining)) runs whole = absurd whole
not_both taking runs whole = absurd runs

-- a record that is not whole lies nowhere
pub running_copied : (joiner : InPlaceState) → IsRunning joiner.taking → IsCopied joiner
running_copied joiner runs whole = absurd (not_both joiner.taking runs whole)

-- and one that was copied lies in no piece
pub copied_lies : (joiner : InPlaceState) (piece : List ℕ) → IsCopied joiner → LiesIn joiner piece
copied_lies joiner piece copied whole lies = let apart = copied whole in absurd (cc)

-- nothing lies in a piece while a record is not whole
pub none_lies : (lying : Option Trail) (taking : Taking)
    → IsRunning (taking_shown lying taking) → lying ≡ None
none_lies None taking runs = refl
none_lies (Some body) taking runs = absurd runs

-- what follows a header that the first bytes of the piece begin with
pub after_header : (piece : List ℕ) (n : ℕ) → 4 ≤ n
    → drop 4 (take n piece) ≡ take (n - 4) (drop 4 piece)
after_header piece n fits =
    let is : 4 + (n - 4) ≡ n = omega arith in
    subst (λ (m : ℕ). drop 4 (take m piece) ≡ take (n - 4) (drop 4 piece)) is
    (drop-take 4 (n - 4) piece)
