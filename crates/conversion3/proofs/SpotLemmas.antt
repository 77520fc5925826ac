-- Runs that have a byte.
use Rattle.std.proofs.Common.{◌≡◌, ◌<◌, ℕ, ◌+◌, ◌-◌, List, Option, None, Some, length, get_or, take, drop, sym, ◌∙◌, ap, ap₂, take-append-drop, inl, inr}
use Rattle.std.proofs.lemmas.List.{drop_more, take_more}
use Rattle.streams3.specs.declared.runs.Run.{Run}
use Rattle.streams3.specs.Repeats.{Has}
use Rattle.streams3.specs.Runs.{or_else, spot_in, spot_of}
use Rattle.streams3.proofs.RunsLemmas.{cases_has, has_it, some_none, spot_append, spot_last}

-- where something lies is a byte
pub has_there : (r : Run) (p : ℕ) (spot : ℕ × ℕ) → spot_in r p ≡ Some spot → Has r p
has_there r p spot e =
    elim (cases_has r p) [
      | inl h ↦ h
      | inr none ↦ absurd (some_none spot (sym e ∙ none))
    ]

-- ---- runs one by one

pub none_more : (runs : List Run) (i : ℕ) (d : Run) (p : ℕ) → i < length runs
    → spot_of (take i runs) p ≡ None → (Has (get_or runs i d) p → ⊥)
    → spot_of (take (i + 1) runs) p ≡ None
none_more runs i d p lt before has_not =
    elim (cases_has (get_or runs i d) p) [
      | inl has ↦ absurd (has_not has)
      | inr none ↦
          ap (λ (rs : List Run). spot_of rs p) (take_more runs i d lt)
          ∙ spot_last (take i runs) (get_or runs i d) p
          ∙ ap₂ or_else before none
    ]

pub found_at : (runs : List Run) (i : ℕ) (d : Run) (p : ℕ) → i < length runs
    → spot_of (take i runs) p ≡ None → Has (get_or runs i d) p → spot_of runs p
    ≡ Some ((get_or runs i d).at + (p - (get_or runs i d).position), (get_or runs i d).frame)
found_at runs i d p lt before has =
    let run = get_or runs i d in
    ap (λ (rs : List Run). spot_of rs p) (sym (take-append-drop i runs))
    ∙ spot_append (take i runs) (drop i runs) p
    ∙ ap₂ (λ (a b : Option (ℕ × ℕ)). or_else a b) before
    (ap (λ (rs : List Run). spot_of rs p) (drop_more runs i d lt)
    ∙ ap (λ (o : Option (ℕ × ℕ)). or_else o (spot_of (drop (i + 1) runs) p))
    (has_it run p has.0 has.1))
