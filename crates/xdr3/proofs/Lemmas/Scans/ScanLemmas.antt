-- Scans of shapes by those of their parts.
use Rattle.std.specs.Prelude.{IfErr, OnOk}
use Rattle.xdr3.proofs.Common.{◌≡◌, ℕ, Bool, List, [], ◌∷◌, ◌++◌, Result, Ok, Err, refl, sym, ap, subst, ◌∙◌, ◌≤◌, ◌+◌, length, take, arith, length-take, GetError, Reason, Stop, TooLong, Item, Word, residue, reading, word_at, run_at, opaque_at, ◌>>=◌, Shape, both, choose, nothing, is_at_most, MovesOn, View, Layout, exactly, reading_layout}
use Rattle.xdr3.proofs.Lemmas.Reading.Bytes.{bind_ok, pair_is, run_takes}
use Rattle.xdr3.proofs.Lemmas.Shapes.Walks.{adds_both, adds_joined, adds_nothing}
use Rattle.xdr3.specs.declared.reason.GetError.TheVariants as errors
use Rattle.xdr3.specs.Scan.{Scans, ScansLayout, ScansWord, Stops, StopsLayout, StopsWord}

pub moves_both : (v0 v1 v2 : View) → MovesOn v0 v1 → MovesOn v1 v2 → MovesOn v0 v2
moves_both v0 v1 v2 a b = record {
  same_body = b.same_body ∙ a.same_body;
  forward = omega (arith, a.forward, b.forward);
  within = b.within;
}

pub then_scans : {V : Type 0} (stands : V → List Item → Type 0) (a b : Shape) (v0 v1 v2 : View)
    (s0 s1 s2 : V) → Scans stands a (v0, s0) (v1, s1) → Scans stands b (v1, s1) (v2, s2)
    → Scans stands (both a b) (v0, s0) (v2, s2)
unfolding Scans reading
then_scans stands a b v0 v1 v2 s0 s1 s2 x y =
    let first : reading a v0.body v0.at ≡ Ok (x.0, v1.at) = x.1 in
    let second : reading b v0.body v1.at ≡ Ok (y.0, v2.at) =
    subst (λ (body : List ℕ). reading b body v1.at ≡ Ok (y.0, v2.at)) x.2.same_body y.1 in (
      x.0 ++ y.0,
      rw (first, second) refl,
      moves_both v0 v1 v2 x.2 y.2,
      adds_both stands s0 s1 s2 x.0 y.0 x.3 y.3,
    )

pub first_stops : (a b : Shape) (v0 : View) (e : GetError) → Stops a v0 e → Stops (both a b) v0 e
unfolding Stops reading
first_stops a b v0 e h = λ stop is. let cut = h stop is in rw cut refl

pub next_stops : {V : Type 0} (stands : V → List Item → Type 0) (a b : Shape) (v0 v1 : View)
    (s0 s1 : V) (e : GetError) → Scans stands a (v0, s0) (v1, s1) → Stops b v1 e
    → Stops (both a b) v0 e
unfolding Scans Stops reading
next_stops stands a b v0 v1 s0 s1 e x h = λ stop is.
    let first : reading a v0.body v0.at ≡ Ok (x.0, v1.at) = x.1 in
    let cut : reading b v0.body v1.at ≡ Err stop =
    subst (λ (body : List ℕ). reading b body v1.at ≡ Err stop) x.2.same_body (h stop is) in
    rw (first, cut) refl

pub chosen_scans : {V : Type 0} (stands : V → List Item → Type 0) (name : List ℕ)
    (accepted : ℕ → Bool) (other : Reason) (next : ℕ → Shape) (n : ℕ) (v0 v1 v2 : View)
    (s0 s1 s2 : V)
    → ScansWord stands (name, accepted, other) n (v0, s0) (v1, s1)
    → Scans stands (next n) (v1, s1) (v2, s2)
    → Scans stands (choose name accepted other next) (v0, s0) (v2, s2)
unfolding Scans ScansWord reading
chosen_scans stands name accepted other next n v0 v1 v2 s0 s1 s2 w y =
    let first : word_at accepted other v0.body v0.at ≡ Ok (n, v1.at) = w.0 in
    let second : reading (next n) v0.body v1.at ≡ Ok (y.0, v2.at) =
    subst (λ (body : List ℕ). reading (next n) body v1.at ≡ Ok (y.0, v2.at)) w.1.same_body y.1 in (
      Word name n ∷ y.0,
      rw (first, second) refl,
      moves_both v0 v1 v2 w.1 y.2,
      adds_joined stands s0 s1 s2 (Word name n ∷ []) y.0 (Word name n ∷ y.0) w.2 y.3 refl,
    )

pub word_scans : {V : Type 0} (stands : V → List Item → Type 0) (name : List ℕ)
    (accepted : ℕ → Bool) (other : Reason) (n : ℕ) (v0 v1 : View) (s0 s1 : V)
    → ScansWord stands (name, accepted, other) n (v0, s0) (v1, s1)
    → Scans stands (choose name accepted other (λ n. nothing)) (v0, s0) (v1, s1)
unfolding Scans ScansWord reading
word_scans stands name accepted other n v0 v1 s0 s1 w =
    let first : word_at accepted other v0.body v0.at ≡ Ok (n, v1.at) = w.0 in
    (Word name n ∷ [], rw first refl, w.1, w.2)

pub word_stops : (name : List ℕ) (accepted : ℕ → Bool) (other : Reason) (next : ℕ → Shape)
    (v0 : View) (e : GetError) → StopsWord accepted other v0 e
    → Stops (choose name accepted other next) v0 e
unfolding Stops StopsWord reading
word_stops name accepted other next v0 e h = λ stop is. let cut = h stop is in rw cut refl

pub chosen_stops : {V : Type 0} (stands : V → List Item → Type 0) (name : List ℕ)
    (accepted : ℕ → Bool) (other : Reason) (next : ℕ → Shape) (n : ℕ) (v0 v1 : View) (s0 s1 : V)
    (e : GetError)
    → ScansWord stands (name, accepted, other) n (v0, s0) (v1, s1) → Stops (next n) v1 e
    → Stops (choose name accepted other next) v0 e
unfolding ScansWord Stops reading
chosen_stops stands name accepted other next n v0 v1 s0 s1 e w h = λ stop is.
    let first : word_at accepted other v0.body v0.at ≡ Ok (n, v1.at) = w.0 in
    let cut : reading (next n) v0.body v1.at ≡ Err stop =
    subst (λ (body : List ℕ). reading (next n) body v1.at ≡ Err stop) w.1.same_body (h stop is) in
    rw (first, cut) refl

pub nothing_scans : {V : Type 0} (stands : V → List Item → Type 0) (v0 : View) (s0 : V)
    → v0.at ≤ length v0.body → Scans stands nothing (v0, s0) (v0, s0)
unfolding Scans reading
nothing_scans stands v0 s0 h = (
  [],
  refl,
  record { same_body = refl; forward = omega arith; within = h },
  adds_nothing stands s0,
)

pub chosen_ends : {V : Type 0} (stands : V → List Item → Type 0) (name : List ℕ)
    (accepted : ℕ → Bool) (other : Reason) (next : ℕ → Shape) (n : ℕ) (v0 v1 : View) (s0 s1 : V)
    → ScansWord stands (name, accepted, other) n (v0, s0) (v1, s1) → next n ≡ nothing
    → Scans stands (choose name accepted other next) (v0, s0) (v1, s1)
unfolding Scans ScansWord reading
chosen_ends stands name accepted other next n v0 v1 s0 s1 w e =
    let first : word_at accepted other v0.body v0.at ≡ Ok (n, v1.at) = w.0 in
    (Word name n ∷ [], rw (first, e) refl, w.1, w.2)

-- a run is no longer than the body
pub run_fits : (max : ℕ) (body bytes : List ℕ) (at to : ℕ) → opaque_at max body at ≡ Ok (bytes, to)
    → length bytes ≤ length body
run_fits max body bytes at to e =
    let w =
    bind_ok (word_at (is_at_most max) TooLong body at)
    (λ n. run_at (n.0 + residue n.0) body n.1 >>= λ run. Ok (take n.0 run.0, run.1)) (bytes, to)
    e in
    let r =
    bind_ok (run_at (w.0.0 + residue w.0.0) body w.0.1) (λ run. Ok (take w.0.0 run.0, run.1))
    (bytes, to) w.2 in
    let t = run_takes (w.0.0 + residue w.0.0) body r.0.0 w.0.1 r.0.1 r.1 in
    let p = pair_is (take w.0.0 r.0.0) bytes r.0.1 to r.2 in
    omega (arith, length-take w.0.0 r.0.0, ap length p.0, t.len_is, t.to_is, t.within)

-- how a scan follows from those of the parts
pub ruleset scans = (
  then_scans,
  first_stops,
  next_stops,
  chosen_scans,
  word_scans,
  word_stops,
  chosen_stops,
  nothing_scans,
  chosen_ends,
)

-- the same for the last part's own answer

pub last_scans : {V X : Type 0} (stands : V → List Item → Type 0) (a b : Shape) (v0 v1 v2 : View)
    (s0 s1 s2 : V) (r : Result X GetError) → Scans stands a (v0, s0) (v1, s1)
    → OnOk r (Scans stands b (v1, s1) (v2, s2)) → OnOk r (Scans stands (both a b) (v0, s0) (v2, s2))
last_scans stands a b v0 v1 v2 s0 s1 s2 (Ok x) first h =
    then_scans stands a b v0 v1 v2 s0 s1 s2 first h
last_scans stands a b v0 v1 v2 s0 s1 s2 (Err e) first h = h

pub last_stops : {V X : Type 0} (stands : V → List Item → Type 0) (a b : Shape) (v0 v1 : View)
    (s0 s1 : V) (r : Result X GetError) → Scans stands a (v0, s0) (v1, s1)
    → IfErr r (λ e. Stops b v1 e) → IfErr r (λ e. Stops (both a b) v0 e)
last_stops stands a b v0 v1 s0 s1 (Ok x) first h = h
last_stops stands a b v0 v1 s0 s1 (Err e) first h = next_stops stands a b v0 v1 s0 s1 e first h

-- ---- layouts

pub exactly_scans : {V : Type 0} (stands : V → List Item → Type 0) (s : Shape) (v0 v1 : View)
    (s0 s1 : V) → Scans stands s (v0, s0) (v1, s1)
    → ScansLayout stands (exactly s) (v0, s0) (v1, s1)
unfolding Scans ScansLayout reading_layout
exactly_scans stands s v0 v1 s0 s1 h = h

pub exactly_stops : (s : Shape) (v0 : View) (e : GetError) → Stops s v0 e
    → StopsLayout (exactly s) v0 e
unfolding Stops StopsLayout reading_layout
exactly_stops s v0 e h = h

pub memory_stops : (layout : Layout) (v0 : View) (e : GetError) → e ≡ errors.Memory
    → StopsLayout layout v0 e
unfolding StopsLayout
memory_stops layout v0 e is = λ stop stopped. absurd (no_stop stop (sym is ∙ stopped))
  where
    no_stop : (stop : Stop) → errors.Memory ≡ errors.Stop stop → ⊥
    no_stop stop h = absurd (cc)

-- how the scan of a layout follows from that of its shape
pub ruleset layouts = (exactly_scans, exactly_stops, memory_stops)
