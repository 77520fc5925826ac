-- Scans of lists, link by link.
use Rattle.xdr3.proofs.Common.{◌≡◌, ℕ, ◌<◌, ◌≤◌, Bool, List, [], ◌∷◌, ◌++◌, length, Ok, Err, refl, ap, subst, ◌∙◌, arith, GetError, Reason, BadBool, Item, Word, reading, word_at, Shape, is_bool, linked, optional_named, MovesOn, View, Adds, Scans, ScansWord, Stops, StopsWord}
use Rattle.xdr3.proofs.Lemmas.Reading.Linked.{LinksSoFar, links_start, links_more, links_end, links_fail}
use Rattle.xdr3.proofs.Lemmas.Shapes.Walks.{adds_both, adds_joined, adds_nothing}
use Rattle.xdr3.proofs.Lemmas.Scans.ScanLemmas.{moves_both}

-- whole links were read and passed to the visitor, and the word of the next one follows
pub record ScansLinks {V : Type 0} (stands : V → List Item → Type 0) (name : List ℕ) (s : Shape)
    (v0 v : View) (s0 st : V) : Type 0 where
  pub front : List Item
  pub so_far : LinksSoFar name s front v0.body v0.at v.at
  pub moves : MovesOn v0 v
  pub adds : Adds stands s0 st front

pub links_begin : {V : Type 0} (stands : V → List Item → Type 0) (name : List ℕ) (s : Shape)
    (v0 : View) (s0 : V) → v0.at ≤ length v0.body → ScansLinks stands name s v0 v0 s0 s0
links_begin stands name s v0 s0 h = record {
  front = [];
  so_far = links_start name s v0.body v0.at h;
  moves = record { same_body = refl; forward = omega arith; within = h };
  adds = adds_nothing stands s0;
}

pub links_next : {V : Type 0} (stands : V → List Item → Type 0) (name : List ℕ) (s : Shape)
    (v0 v1 v2 v3 : View) (s0 s1 s2 s3 : V)
    → ScansLinks stands name s v0 v1 s0 s1
    → ScansWord stands (name, is_bool, BadBool) 1 (v1, s1) (v2, s2)
    → v1.at < v2.at → Scans stands s (v2, s2) (v3, s3) → ScansLinks stands name s v0 v3 s0 s3
unfolding Scans ScansWord reading optional_named
links_next stands name s v0 v1 v2 v3 s0 s1 s2 s3 l w f y =
    let word : word_at is_bool BadBool v0.body v1.at ≡ Ok (1, v2.at) =
    subst (λ (body : List ℕ). word_at is_bool BadBool body v1.at ≡ Ok (1, v2.at)) l.moves.same_body
    w.0 in
    let part : reading s v0.body v2.at ≡ Ok (y.0, v3.at) =
    subst (λ (body : List ℕ). reading s body v2.at ≡ Ok (y.0, v3.at))
    (w.1.same_body ∙ l.moves.same_body) y.1 in
    let one : reading (optional_named name s) v0.body v1.at ≡ Ok (Word name 1 ∷ y.0, v3.at) =
    rw (word, part) refl in
    record {
      front = l.front ++ (Word name 1 ∷ y.0);
      so_far =
          links_more name s l.front y.0 v0.body v0.at v1.at v3.at
          (omega (arith, l.moves.within, ap length l.moves.same_body))
          (omega (arith, f, y.2.forward)) l.so_far one;
      moves = moves_both v0 v1 v3 l.moves (moves_both v1 v2 v3 w.1 y.2);
      adds =
          adds_both stands s0 s1 s3 l.front (Word name 1 ∷ y.0) l.adds
          (adds_joined stands s1 s2 s3 (Word name 1 ∷ []) y.0 (Word name 1 ∷ y.0) w.2 y.3 refl);
    }

pub links_finish : {V : Type 0} (stands : V → List Item → Type 0) (name : List ℕ) (s : Shape)
    (v0 v1 v2 : View) (s0 s1 s2 : V)
    → ScansLinks stands name s v0 v1 s0 s1
    → ScansWord stands (name, is_bool, BadBool) 0 (v1, s1) (v2, s2)
    → Scans stands (linked name s) (v0, s0) (v2, s2)
unfolding Scans ScansWord reading optional_named
links_finish stands name s v0 v1 v2 s0 s1 s2 l w =
    let word : word_at is_bool BadBool v0.body v1.at ≡ Ok (0, v2.at) =
    subst (λ (body : List ℕ). word_at is_bool BadBool body v1.at ≡ Ok (0, v2.at)) l.moves.same_body
    w.0 in
    let one : reading (optional_named name s) v0.body v1.at ≡ Ok (Word name 0 ∷ [], v2.at) =
    rw word refl in (
      l.front ++ Word name 0 ∷ [],
      links_end name s l.front v0.body v0.at v1.at v2.at
          (omega (arith, l.moves.within, ap length l.moves.same_body)) l.so_far one,
      moves_both v0 v1 v2 l.moves w.1,
      adds_both stands s0 s1 s2 l.front (Word name 0 ∷ []) l.adds w.2,
    )

pub links_word_stops : {V : Type 0} (stands : V → List Item → Type 0) (name : List ℕ) (s : Shape)
    (v0 v1 : View) (s0 s1 : V) (e : GetError)
    → ScansLinks stands name s v0 v1 s0 s1 → StopsWord is_bool BadBool v1 e
    → Stops (linked name s) v0 e
unfolding Stops StopsWord reading optional_named
links_word_stops stands name s v0 v1 s0 s1 e l h = λ stop is.
    let cut : word_at is_bool BadBool v0.body v1.at ≡ Err stop =
    subst (λ (body : List ℕ). word_at is_bool BadBool body v1.at ≡ Err stop) l.moves.same_body
    (h stop is) in
    let one : reading (optional_named name s) v0.body v1.at ≡ Err stop = rw cut refl in
    links_fail name s l.front v0.body v0.at v1.at stop
    (omega (arith, l.moves.within, ap length l.moves.same_body)) l.so_far one

pub links_part_stops : {V : Type 0} (stands : V → List Item → Type 0) (name : List ℕ) (s : Shape)
    (v0 v1 v2 : View) (s0 s1 s2 : V) (e : GetError)
    → ScansLinks stands name s v0 v1 s0 s1
    → ScansWord stands (name, is_bool, BadBool) 1 (v1, s1) (v2, s2)
    → Stops s v2 e → Stops (linked name s) v0 e
unfolding Stops ScansWord reading optional_named
links_part_stops stands name s v0 v1 v2 s0 s1 s2 e l w h = λ stop is.
    let word : word_at is_bool BadBool v0.body v1.at ≡ Ok (1, v2.at) =
    subst (λ (body : List ℕ). word_at is_bool BadBool body v1.at ≡ Ok (1, v2.at)) l.moves.same_body
    w.0 in
    let cut : reading s v0.body v2.at ≡ Err stop =
    subst (λ (body : List ℕ). reading s body v2.at ≡ Err stop) (w.1.same_body ∙ l.moves.same_body)
    (h stop is) in
    let one : reading (optional_named name s) v0.body v1.at ≡ Err stop = rw (word, cut) refl in
    links_fail name s l.front v0.body v0.at v1.at stop
    (omega (arith, l.moves.within, ap length l.moves.same_body)) l.so_far one

pub scans_move : {V : Type 0} (stands : V → List Item → Type 0) (s : Shape) (v0 v1 : View)
    (s0 s1 : V) → Scans stands s (v0, s0) (v1, s1) → MovesOn v0 v1
unfolding Scans
scans_move stands s v0 v1 s0 s1 x = x.2

pub word_moves : {V : Type 0} (stands : V → List Item → Type 0) (name : List ℕ)
    (accepted : ℕ → Bool) (other : Reason) (n : ℕ) (v0 v1 : View) (s0 s1 : V)
    → ScansWord stands (name, accepted, other) n (v0, s0) (v1, s1) → MovesOn v0 v1
unfolding ScansWord
word_moves stands name accepted other n v0 v1 s0 s1 x = x.1

pub ruleset links = (links_begin, links_next, links_finish, links_word_stops, links_part_stops)
