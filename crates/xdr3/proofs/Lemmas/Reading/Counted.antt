-- Reading a counted array, as a loop does.
use Rattle.xdr3.proofs.Common.{◌≡◌, ℕ, suc, ◌+◌, ◌-◌, ◌<◌, ◌≤◌, List, [], ◌∷◌, ◌++◌, length, Ok, Err, refl, sym, ap, subst, ◌∙◌, append_assoc, arith, flat_map, append-nil, flat_map-append, TooLong, Stop, GetError, Item, Word, Shape, array_named, is_at_most, repeated, Outcome, ◌>>=◌, word_at, reading, Fails}
use Rattle.xdr3.specs.Combined.{counted_items}
use Rattle.xdr3.proofs.Lemmas.Reading.Linked.{with_front}

-- what is still to be read, after what was read
pub record TimesSoFar (s : Shape) (front : List Item) (n i : ℕ) (body : List ℕ) (start at : ℕ) :
    Type 0 where
  pub total : with_front front (reading (repeated (n - i) s) body at)
      ≡ reading (repeated n s) body start

nothing_before : (r : Outcome (List Item)) → with_front [] r ≡ r
unfolding with_front
nothing_before (Ok x) = refl
nothing_before (Err e) = refl

pub times_start : (s : Shape) (n : ℕ) (body : List ℕ) (start : ℕ)
    → TimesSoFar s [] n 0 body start start
times_start s n body start =
    record {
      total = (let e : n - 0 ≡ n = omega arith in
          rw e (nothing_before (reading (repeated n s) body start)));
    }

regroup : (front part : List Item) (r : Outcome (List Item))
    → with_front front (r >>= λ parts. Ok (part ++ parts.0, parts.1)) ≡ with_front (front ++ part) r
unfolding with_front
regroup front part (Ok x) =
    ap (λ (xs : List Item). Ok (xs, x.1)) (sym (append_assoc front part x.0))
regroup front part (Err e) = refl

pub times_step : (s : Shape) (front part : List Item) (n i : ℕ) (body now : List ℕ)
    (start at to : ℕ) → now ≡ body → i < n → TimesSoFar s front n i body start at
    → reading s now at ≡ Ok (part, to) → TimesSoFar s (front ++ part) n (i + 1) body start to
unfolding reading
times_step s front part n i body now start at to b h t e =
    let read : reading s body at ≡ Ok (part, to) =
    subst (λ (v : List ℕ). reading s v at ≡ Ok (part, to)) b e in
    let k : n - i ≡ suc (n - (i + 1)) = omega arith in
    let step : reading (repeated (n - i) s) body at
    ≡ (reading (repeated (n - (i + 1)) s) body to >>= λ parts. Ok (part ++ parts.0, parts.1)) =
    rw (k, read) refl in
    record {
      total =
          sym (regroup front part (reading (repeated (n - (i + 1)) s) body to))
          ∙ ap (with_front front) (sym step) ∙ t.total;
    }

-- the same of values
pub times_more : {T : Type 0} (items : T → List Item) (s : Shape) (values pushed : List T) (x : T)
    (n i : ℕ) (body now : List ℕ) (start at to : ℕ) → pushed ≡ values ++ x ∷ [] → now ≡ body
    → i < n → TimesSoFar s (flat_map items values) n i body start at
    → reading s now at ≡ Ok (items x, to)
    → TimesSoFar s (flat_map items pushed) n (i + 1) body start to
times_more items s values pushed x n i body now start at to p b h t e =
    let front : flat_map items pushed ≡ flat_map items values ++ items x =
    ap (flat_map items) p ∙ flat_map-append items values (x ∷ [])
    ∙ ap (λ (xs : List Item). flat_map items values ++ xs) (append-nil (items x)) in
    subst (λ (xs : List Item). TimesSoFar s xs n (i + 1) body start to) (sym front)
    (times_step s (flat_map items values) (items x) n i body now start at to b h t e)

pub times_stop : (name : List ℕ) (s : Shape) (front : List Item) (stop : Stop) (max n i : ℕ)
    (body now : List ℕ) (before start at : ℕ) → now ≡ body → i < n
    → word_at (is_at_most max) TooLong body before ≡ Ok (n, start)
    → TimesSoFar s front n i body start at → reading s now at ≡ Err stop
    → reading (array_named name max s) body before ≡ Err stop
unfolding reading with_front array_named
times_stop name s front stop max n i body now before start at b h w t e =
    let read : reading s body at ≡ Err stop =
    subst (λ (v : List ℕ). reading s v at ≡ Err stop) b e in
    let k : n - i ≡ suc (n - (i + 1)) = omega arith in
    let step : reading (repeated (n - i) s) body at ≡ Err stop = rw (k, read) refl in
    let total : reading (repeated n s) body start ≡ Err stop =
    sym t.total ∙ ap (with_front front) step in
    rw (w, total) refl

pub times_gone : (name : List ℕ) (s : Shape) (front : List Item) (error : GetError) (max n i : ℕ)
    (body now : List ℕ) (before start at : ℕ) → now ≡ body → i < n
    → word_at (is_at_most max) TooLong body before ≡ Ok (n, start)
    → TimesSoFar s front n i body start at → Fails error (reading s now at)
    → Fails error (reading (array_named name max s) body before)
times_gone name s front error max n i body now before start at b h w t e =
    λ stop is. times_stop name s front stop max n i body now before start at b h w t (e stop is)

-- as many as the count were read
pub times_all : (name : List ℕ) (s : Shape) (front : List Item) (max n i : ℕ) (body : List ℕ)
    (before start at : ℕ) → i ≤ n → n ≤ i
    → word_at (is_at_most max) TooLong body before ≡ Ok (n, start)
    → TimesSoFar s front n i body start at
    → reading (array_named name max s) body before ≡ Ok (Word name n ∷ front, at)
unfolding reading with_front array_named
times_all name s front max n i body before start at h h' w t =
    let k : n - i ≡ 0 = omega arith in
    let step : reading (repeated (n - i) s) body at ≡ Ok ([], at) = rw k refl in
    let total : reading (repeated n s) body start ≡ Ok (front ++ [], at) =
    sym t.total ∙ ap (with_front front) step in
    rw (w, total, append-nil front) refl

pub times_done : {T : Type 0} (name : List ℕ) (items : T → List Item) (s : Shape) (values : List T)
    (max n i : ℕ) (body : List ℕ) (before start at : ℕ) → length values ≡ i → i ≤ n → n ≤ i
    → word_at (is_at_most max) TooLong body before ≡ Ok (n, start)
    → TimesSoFar s (flat_map items values) n i body start at
    → reading (array_named name max s) body before ≡ Ok (counted_items name items values, at)
times_done name items s values max n i body before start at l h h' w t =
    let count : n ≡ length values = omega (arith, l) in
    times_all name s (flat_map items values) max n i body before start at h h' w t
    ∙ ap (λ (c : ℕ). Ok (Word name c ∷ flat_map items values, at)) count
