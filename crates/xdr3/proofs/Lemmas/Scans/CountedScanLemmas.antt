-- Scans of counted arrays, part by part.
use Rattle.std.proofs.Common.{ℕ, ◌+◌, ◌<◌, ◌≤◌, List, [], ◌∷◌, ◌++◌, length, refl, subst, ◌∙◌, arith}
use Rattle.xdr3.proofs.Common.{GetError, TooLong, Item, Word, reading, Shape, array_named, is_at_most, MovesOn, View, Adds, Scans, ScansWord, Stops, StopsWord}
use Rattle.xdr3.proofs.Lemmas.Reading.Counted.{TimesSoFar, times_all, times_start, times_step, times_stop}
use Rattle.xdr3.proofs.Lemmas.Shapes.Walks.{adds_both, adds_joined, adds_nothing}
use Rattle.xdr3.proofs.Lemmas.Scans.ScanLemmas.{moves_both}

-- i parts of n were read and passed to the visitor
pub record ScansTimes {V : Type 0} (stands : V → List Item → Type 0) (s : Shape) (n i : ℕ)
    (v0 v : View) (s0 st : V) : Type 0 where
  pub front : List Item
  pub so_far : TimesSoFar s front n i v0.body v0.at v.at
  pub moves : MovesOn v0 v
  pub adds : Adds stands s0 st front

pub times_begin : {V : Type 0} (stands : V → List Item → Type 0) (s : Shape) (n : ℕ) (v0 : View)
    (s0 : V) → v0.at ≤ length v0.body → ScansTimes stands s n 0 v0 v0 s0 s0
times_begin stands s n v0 s0 h = record {
  front = [];
  so_far = times_start s n v0.body v0.at;
  moves = record { same_body = refl; forward = omega arith; within = h };
  adds = adds_nothing stands s0;
}

pub times_next : {V : Type 0} (stands : V → List Item → Type 0) (s : Shape) (n i : ℕ)
    (v0 v1 v2 : View) (s0 s1 s2 : V)
    → i < n → ScansTimes stands s n i v0 v1 s0 s1 → Scans stands s (v1, s1) (v2, s2)
    → ScansTimes stands s n (i + 1) v0 v2 s0 s2
unfolding Scans
times_next stands s n i v0 v1 v2 s0 s1 s2 h l y = record {
  front = l.front ++ y.0;
  so_far =
      times_step s l.front y.0 n i v0.body v1.body v0.at v1.at v2.at l.moves.same_body h l.so_far
      y.1;
  moves = moves_both v0 v1 v2 l.moves y.2;
  adds = adds_both stands s0 s1 s2 l.front y.0 l.adds y.3;
}

pub times_finish : {V : Type 0} (stands : V → List Item → Type 0) (name : List ℕ) (s : Shape)
    (max n i : ℕ) (before v0 v : View) (sb s0 st : V)
    → ScansWord stands (name, is_at_most max, TooLong) n (before, sb) (v0, s0)
    → ScansTimes stands s n i v0 v s0 st → i ≤ n → n ≤ i
    → Scans stands (array_named name max s) (before, sb) (v, st)
unfolding Scans ScansWord
times_finish stands name s max n i before v0 v sb s0 st w l h g =
    let so_far =
    subst (λ (body : List ℕ). TimesSoFar s l.front n i body v0.at v.at) w.1.same_body
    l.so_far in (
      Word name n ∷ l.front,
      times_all name s l.front max n i before.body before.at v0.at v.at h g w.0 so_far,
      moves_both before v0 v w.1 l.moves,
      adds_joined stands sb s0 st (Word name n ∷ []) l.front (Word name n ∷ l.front) w.2 l.adds
          refl,
    )

pub times_part_stops : {V : Type 0} (stands : V → List Item → Type 0) (name : List ℕ) (s : Shape)
    (max n i : ℕ) (before v0 v : View) (sb s0 st : V) (e : GetError)
    → ScansWord stands (name, is_at_most max, TooLong) n (before, sb) (v0, s0) → i < n
    → ScansTimes stands s n i v0 v s0 st → Stops s v e → Stops (array_named name max s) before e
unfolding Stops ScansWord
times_part_stops stands name s max n i before v0 v sb s0 st e w h l cut = λ stop is.
    let so_far =
    subst (λ (body : List ℕ). TimesSoFar s l.front n i body v0.at v.at) w.1.same_body
    l.so_far in
    times_stop name s l.front stop max n i before.body v.body before.at v0.at v.at
    (l.moves.same_body ∙ w.1.same_body) h w.0 so_far (cut stop is)

pub times_count_stops : (name : List ℕ) (s : Shape) (max : ℕ) (before : View) (e : GetError)
    → StopsWord (is_at_most max) TooLong before e → Stops (array_named name max s) before e
unfolding Stops StopsWord reading array_named
times_count_stops name s max before e h = λ stop is. let cut = h stop is in rw cut refl

pub word_within : {V : Type 0} (stands : V → List Item → Type 0) (name : List ℕ) (max n : ℕ)
    (before v0 : View) (sb s0 : V)
    → ScansWord stands (name, is_at_most max, TooLong) n (before, sb) (v0, s0)
    → v0.at ≤ length v0.body
unfolding ScansWord
word_within stands name max n before v0 sb s0 w = w.1.within
