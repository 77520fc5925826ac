-- Scans of bodies whose length is given by a word.
use Rattle.xdr3.proofs.Common.{◌≡◌, ℕ, ◌+◌, ltb, List, [], ◌∷◌, length, take, Ok, Err, refl, sym, ap, subst, GetError, Short, TooLong, Stop, Fails, Item, Word, reading, word_at, from_window, Shape, is_at_most, sized, Scans, ScansWord, Stops, StopsWord, MovesOn, View, view_at}
use Rattle.xdr3.proofs.Lemmas.Reading.Bytes.{guard_ok, guard_err}
use Rattle.xdr3.proofs.Lemmas.Shapes.Walks.{adds_joined}
use Rattle.xdr3.specs.machinery.WindowScans.{ScansInside, StopsInside}
use Rattle.xdr3.proofs.Lemmas.Scans.ScanLemmas.{moves_both}

pub sized_scans : {V : Type 0} (stands : V → List Item → Type 0) (name : List ℕ) (s : Shape)
    (len : ℕ) (v0 v1 v2 window : View) (s0 s1 s2 : V)
    → ScansWord stands (name, is_at_most 400, TooLong) len (v0, s0) (v1, s1)
    → view_at len v1.body v1.at ≡ Ok (window, v2.at) → MovesOn v1 v2
    → (length window.body ≡ v1.at + len) × (window.at ≡ v1.at)
    → ScansInside stands s window s1 s2 → Scans stands (sized name s) (v0, s0) (v2, s2)
unfolding Scans ScansWord ScansInside reading
sized_scans stands name s len v0 v1 v2 window s0 s1 s2 w v m shown y =
    let view =
    subst (λ (body : List ℕ). view_at len body v1.at ≡ Ok (window, v2.at)) w.1.same_body v in
    let g =
    guard_ok (ltb (length v0.body) (v1.at + len)) (record { at = v1.at; reason = Short })
    (record { body = take (v1.at + len) v0.body; at = v1.at }, v1.at + len) (window, v2.at) view
    in
    let long = g.0 in
    let body_is : take (v1.at + len) v0.body ≡ window.body = ap (λ (x : View × ℕ). x.0.body) g.1 in
    let end_is : v1.at + len ≡ v2.at = ap (λ (x : View × ℕ). x.1) g.1 in
    let inside : from_window (v1.at + len) (reading s (take (v1.at + len) v0.body) v1.at)
    ≡ Ok (y.0, v1.at + len) =
    subst (λ (x : List ℕ). from_window (v1.at + len) (reading s x v1.at) ≡ Ok (y.0, v1.at + len))
    (sym body_is)
    (subst (λ (k : ℕ). from_window k (reading s window.body v1.at) ≡ Ok (y.0, k)) shown.0
    (subst
    (λ (k : ℕ).
    from_window (length window.body) (reading s window.body k)
    ≡ Ok (y.0, length window.body)) shown.1 y.1)) in
    let word : word_at (is_at_most 400) TooLong v0.body v0.at ≡ Ok (len, v1.at) = w.0 in (
      Word name len ∷ y.0,
      rw (word, long, inside) (ap (λ (k : ℕ). Ok (Word name len ∷ y.0, k)) end_is),
      moves_both v0 v1 v2 w.1 m,
      adds_joined stands s0 s1 s2 (Word name len ∷ []) y.0 (Word name len ∷ y.0) w.2 y.2 refl,
    )

pub sized_cut : {V : Type 0} (stands : V → List Item → Type 0) (name : List ℕ) (s : Shape) (len : ℕ)
    (v0 v1 : View) (s0 s1 : V) (e : GetError)
    → ScansWord stands (name, is_at_most 400, TooLong) len (v0, s0) (v1, s1)
    → Fails e (view_at len v1.body v1.at) → Stops (sized name s) v0 e
unfolding Stops ScansWord reading
sized_cut stands name s len v0 v1 s0 s1 e w h = λ stop is.
    let view =
    subst (λ (body : List ℕ). view_at len body v1.at ≡ Err stop) w.1.same_body (h stop is) in
    let g =
    guard_err (ltb (length v0.body) (v1.at + len)) (record { at = v1.at; reason = Short })
    (record { body = take (v1.at + len) v0.body; at = v1.at }, v1.at + len) stop view in
    let short = g.0 in
    let word : word_at (is_at_most 400) TooLong v0.body v0.at ≡ Ok (len, v1.at) = w.0 in
    rw (word, short) (ap (λ (d : Stop). Err d) g.1)

pub sized_word_stops : (name : List ℕ) (s : Shape) (v0 : View) (e : GetError)
    → StopsWord (is_at_most 400) TooLong v0 e → Stops (sized name s) v0 e
unfolding Stops StopsWord reading
sized_word_stops name s v0 e h = λ stop is. let cut = h stop is in rw cut refl

pub sized_stops : {V : Type 0} (stands : V → List Item → Type 0) (name : List ℕ) (s : Shape)
    (len : ℕ) (v0 v1 v2 window : View) (s0 s1 : V) (e : GetError)
    → ScansWord stands (name, is_at_most 400, TooLong) len (v0, s0) (v1, s1)
    → view_at len v1.body v1.at ≡ Ok (window, v2.at)
    → (length window.body ≡ v1.at + len) × (window.at ≡ v1.at)
    → StopsInside s window e → Stops (sized name s) v0 e
unfolding Stops StopsInside ScansWord reading
sized_stops stands name s len v0 v1 v2 window s0 s1 e w v shown h = λ stop is.
    let view =
    subst (λ (body : List ℕ). view_at len body v1.at ≡ Ok (window, v2.at)) w.1.same_body v in
    let g =
    guard_ok (ltb (length v0.body) (v1.at + len)) (record { at = v1.at; reason = Short })
    (record { body = take (v1.at + len) v0.body; at = v1.at }, v1.at + len) (window, v2.at) view
    in
    let long = g.0 in
    let body_is : take (v1.at + len) v0.body ≡ window.body = ap (λ (x : View × ℕ). x.0.body) g.1 in
    let inside : from_window (v1.at + len) (reading s (take (v1.at + len) v0.body) v1.at)
    ≡ Err stop =
    subst (λ (x : List ℕ). from_window (v1.at + len) (reading s x v1.at) ≡ Err stop) (sym body_is)
    (subst (λ (k : ℕ). from_window k (reading s window.body v1.at) ≡ Err stop) shown.0
    (subst
    (λ (k : ℕ). from_window (length window.body) (reading s window.body k) ≡ Err stop)
    shown.1 (h stop is))) in
    let word : word_at (is_at_most 400) TooLong v0.body v0.at ≡ Ok (len, v1.at) = w.0 in
    rw (word, long, inside) refl

pub ruleset sizes = (sized_scans, sized_cut, sized_word_stops, sized_stops)
