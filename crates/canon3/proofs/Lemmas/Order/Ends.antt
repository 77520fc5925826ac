-- Two complete captures that are the same so far end together.
use Rattle.canon3.proofs.Common.{◌≡◌, ◌↔◌, ℕ, ◌≤◌, List, [], ◌∷◌, ◌++◌, length, take, drop, None, Some, refl, ap, arith, take-append-drop, inl, inr, cases_lt, Entry, End, Typed, Same}
use Rattle.std.specs.Prelude.{slice_get, get_or}
use Rattle.std.proofs.lemmas.List.{take_all, length-drop}
use Rattle.std.proofs.lemmas.Option.{slice_get_past, slice_get-get_or}
use Rattle.canon3.proofs.Lemmas.Order.Order.{Stage, Between, Over, Runs, stays, steps}
use Rattle.canon3.proofs.Lemmas.Renaming.Equality.{same_symmetric}
use Rattle.canon3.proofs.Lemmas.Comparison.Places.{AreAlike, stages_alike}
use Rattle.canon3.proofs.Lemmas.WellFormed.Files.{holds}
use Rattle.canon3.proofs.Lemmas.Order.InOrder.{runs_all}

typed_runs : (file : List ℕ) (all : List Entry) → Typed file all → Runs Between all Over
typed_runs file all typed =
    let h = holds file all typed in
    rw h.is (runs_all h.cs h.are.converse)

runs_split : (p q : List Entry) (s u : Stage) → Runs s (p ++ q) u
    → (t : Stage) × Runs s p t × Runs t q u
runs_split [] q s u r = (s, stays, r)
runs_split (x ∷ p) q s u (steps {t = t} st r) =
    let k = runs_split p q t u r in (k.0, steps st k.1, k.2)

over_ends : (q : List Entry) (u : Stage) → Runs Over q u → q ≡ []
over_ends q u stays = refl
over_ends q u (steps x r) = elim x [ ]

is_over : (t : Stage) → AreAlike Over t → t ≡ Over
is_over Over k = refl
is_over _ k = absurd k

pub past : (l : List Entry) (i : ℕ) → slice_get l i ≡ None → length l ≤ i
past l i e =
    elim (cases_lt i (length l)) [
      | inl lt ↦ let f : slice_get l i ≡ Some (get_or l i End) =
          slice_get-get_or l i End lt in absurd (cc)
      | inr le ↦ le
    ]

module _ (file other : List ℕ) (a b : List Entry) (p : Typed file a) (q : Typed other b)
    (i : ℕ) where
  pub ends_too : Same (take i a) (take i b) → slice_get a i ≡ None → slice_get b i ≡ None
  ends_too s e =
      let whole : take i a ≡ a = take_all i a (past a i e) in
      let runs : Runs Between (take i a) Over = rw whole (typed_runs file a p) in
      let parts =
      runs_split (take i b) (drop i b) Between Over (rw take-append-drop (typed_runs other b q)) in
      let over : parts.0 ≡ Over =
      is_over parts.0 (stages_alike s.renames Between Between Over parts.0 runs parts.1 tt) in
      let none : drop i b ≡ [] = over_ends (drop i b) Over (rw over at parts.2) in
      slice_get_past b i (omega (arith, ap length none, length-drop i b))

pub end_together : (file other : List ℕ) (a b : List Entry) → Typed file a → Typed other b → (i : ℕ)
    → Same (take i a) (take i b) → slice_get a i ≡ None ↔ slice_get b i ≡ None
end_together file other a b p q i s = (
  ends_too file other a b p q i s,
  ends_too other file b a q p i (same_symmetric (take i a) (take i b) s),
)
