-- Reading a linked list, as a loop does.
use Rattle.xdr3.proofs.Common.{◌≡◌, ℕ, zero, suc, ◌+◌, ◌-◌, ◌<◌, ◌≤◌, Bool, true, false, cond, eqb, List, [], ◌∷◌, ◌++◌, length, map, Ok, Err, refl, sym, ap, subst, ◌∙◌, append_assoc, arith, inl, inr, flat_map, flat_map-append, BadBool, Stop, GetError, Item, Word, Shape, nothing, optional_named, linked, links, is_bool, Outcome, ◌>>=◌, word_at, links_at, reading, Fails}
use Rattle.std.specs.Prelude.{Option, Some, None}
use Rattle.std.proofs.lemmas.List.{append-nil, map_push}
use Rattle.xdr3.specs.Combined.{linked_items, optional_items}
use Rattle.xdr3.proofs.Lemmas.Reading.Bytes.{bind_ok, bind_err, pair_is, never}

unfoldable pub with_front : List Item → Outcome (List Item) → Outcome (List Item)
with_front front read = read >>= λ x. Ok (front ++ x.0, x.1)

abbrev second : List ℕ → List Item → ℕ
second name [] = 0
second name (Word other n ∷ items) = n
second name (_ ∷ items) = 0

abbrev others : List Item → List Item
others [] = []
others (x ∷ items) = items

-- one link: its word and its part
record IsOne (name : List ℕ) (s : Shape) (body : List ℕ) (at to n : ℕ) (part : List Item) : Type
    0 where
  after : ℕ
  word : word_at is_bool BadBool body at ≡ Ok (n, after)
  rest : reading (cond (eqb n 0) nothing s) body after ≡ Ok (part, to)

is_one : (name : List ℕ) (s : Shape) (body : List ℕ) (at to n : ℕ) (part : List Item)
    → reading (optional_named name s) body at ≡ Ok (Word name n ∷ part, to)
    → IsOne name s body at to n part
unfolding reading optional_named
is_one name s body at to n part e =
    let w =
    bind_ok (word_at is_bool BadBool body at)
    (λ n. reading (cond (eqb n.0 0) nothing s) body n.1 >>= λ more.
    Ok (Word name n.0 ∷ more.0, more.1)) (Word name n ∷ part, to) e in
    let m =
    bind_ok (reading (cond (eqb w.0.0 0) nothing s) body w.0.1)
    (λ more. Ok (Word name w.0.0 ∷ more.0, more.1)) (Word name n ∷ part, to) w.2 in
    let p = pair_is (Word name w.0.0 ∷ m.0.0) (Word name n ∷ part) m.0.1 to m.2 in
    let same : w.0.0 ≡ n = ap (second name) p.0 in
    let same_part : m.0.0 ≡ part = ap others p.0 in
    let made : IsOne name s body at m.0.1 w.0.0 m.0.0 =
    record { after = w.0.1; word = w.1; rest = m.1 } in
    subst (λ (k : ℕ). IsOne name s body at to k part) same (subst
    (λ (xs : List Item). IsOne name s body at to w.0.0 xs) same_part
    (subst (λ (k : ℕ). IsOne name s body at k w.0.0 m.0.0) p.1 made))

-- the rest of the list, after what was read
pub record LinksSoFar (name : List ℕ) (s : Shape) (front : List Item) (body : List ℕ)
    (start at : ℕ) : Type 0 where
  pub fuel : ℕ
  pub enough : length body < fuel + at
  pub total : with_front front (links_at (reading s) name fuel body at)
      ≡ reading (linked name s) body start

nothing_before : (r : Outcome (List Item)) → with_front [] r ≡ r
unfolding with_front
nothing_before (Ok x) = refl
nothing_before (Err e) = refl

pub links_start : (name : List ℕ) (s : Shape) (body : List ℕ) (start : ℕ) → start ≤ length body
    → LinksSoFar name s [] body start start
unfolding reading
links_start name s body start h = record {
  fuel = suc (length body - start);
  enough = omega arith;
  total = nothing_before (links_at (reading s) name (suc (length body - start)) body start);
}

regroup : (front : List Item) (name : List ℕ) (part : List Item) (r : Outcome (List Item))
    → with_front front (r >>= λ parts. Ok (Word name 1 ∷ (part ++ parts.0), parts.1))
    ≡ with_front (front ++ (Word name 1 ∷ part)) r
unfolding with_front
regroup front name part (Ok x) =
    ap (λ (xs : List Item). Ok (xs, x.1)) (sym (append_assoc front (Word name 1 ∷ part) x.0))
regroup front name part (Err e) = refl

-- one link more
pub links_more : (name : List ℕ) (s : Shape) (front part : List Item) (body : List ℕ)
    (start at to : ℕ) → at ≤ length body → at < to → LinksSoFar name s front body start at
    → reading (optional_named name s) body at ≡ Ok (Word name 1 ∷ part, to)
    → LinksSoFar name s (front ++ (Word name 1 ∷ part)) body start to
links_more name s front part body start at to h moved l e = go l.fuel l.enough l.total
  where
    one : IsOne name s body at to 1 part
    one = is_one name s body at to 1 part e

    go : (fuel : ℕ) → length body < fuel + at
        → with_front front (links_at (reading s) name fuel body at)
        ≡ reading (linked name s) body start
        → LinksSoFar name s (front ++ (Word name 1 ∷ part)) body start to
    go zero enough total = absurd (omega arith)
    go (suc fuel) enough total =
        let word = one.word in
        let rest : reading s body one.after ≡ Ok (part, to) = one.rest in
        let step : links_at (reading s) name (suc fuel) body at
        ≡ (links_at (reading s) name fuel body to >>= λ parts.
        Ok (Word name 1 ∷ (part ++ parts.0), parts.1)) = rw (word, rest) refl in
        record {
          fuel = fuel;
          enough = omega arith;
          total =
              sym (regroup front name part (links_at (reading s) name fuel body to))
              ∙ ap (with_front front) (sym step) ∙ total;
        }

-- the last link
pub links_end : (name : List ℕ) (s : Shape) (front : List Item) (body : List ℕ) (start at to : ℕ)
    → at ≤ length body → LinksSoFar name s front body start at
    → reading (optional_named name s) body at ≡ Ok (Word name 0 ∷ [], to)
    → reading (linked name s) body start ≡ Ok (front ++ Word name 0 ∷ [], to)
unfolding with_front reading
links_end name s front body start at to h l e = go l.fuel l.enough l.total
  where
    one : IsOne name s body at to 0 []
    one = is_one name s body at to 0 [] e

    go : (fuel : ℕ) → length body < fuel + at
        → with_front front (links_at (reading s) name fuel body at)
        ≡ reading (linked name s) body start
        → reading (linked name s) body start ≡ Ok (front ++ Word name 0 ∷ [], to)
    go zero enough total = absurd (omega arith)
    go (suc fuel) enough total =
        let word = one.word in
        let place = pair_is {A = List Item} [] [] one.after to one.rest in
        let step : links_at (reading s) name (suc fuel) body at ≡ Ok (Word name 0 ∷ [], to) =
        rw word (ap (λ (k : ℕ). Ok (Word name 0 ∷ [], k)) place.1) in
        sym total ∙ ap (with_front front) step

chosen_err : (b : Bool) (s : Shape) (body : List ℕ) (at : ℕ) (stop : Stop)
    → reading (cond b nothing s) body at ≡ Err stop → (b ≡ false) × (reading s body at ≡ Err stop)
unfolding reading
chosen_err true s body at stop e = absurd (never {A = List Item × ℕ} ([], at) stop e)
chosen_err false s body at stop e = (refl, e)

-- a link that is refused
pub links_fail : (name : List ℕ) (s : Shape) (front : List Item) (body : List ℕ) (start at : ℕ)
    (stop : Stop) → at ≤ length body → LinksSoFar name s front body start at
    → reading (optional_named name s) body at ≡ Err stop
    → reading (linked name s) body start ≡ Err stop
unfolding with_front reading optional_named
links_fail name s front body start at stop h l e = go l.fuel l.enough l.total
  where
    go : (fuel : ℕ) → length body < fuel + at
        → with_front front (links_at (reading s) name fuel body at)
        ≡ reading (linked name s) body start → reading (linked name s) body start ≡ Err stop
    go zero enough total = absurd (omega arith)
    go (suc fuel) enough total =
        let step : links_at (reading s) name (suc fuel) body at ≡ Err stop =
        elim
        (bind_err (word_at is_bool BadBool body at)
        (λ n. reading (cond (eqb n.0 0) nothing s) body n.1 >>= λ more.
        Ok (Word name n.0 ∷ more.0, more.1)) stop e) [
          | inl cut ↦ rw cut refl
          | inr w ↦
              elim
              (bind_err (reading (cond (eqb w.0.0 0) nothing s) body w.0.1)
              (λ more. Ok (Word name w.0.0 ∷ more.0, more.1)) stop w.2) [
                | inl cut ↦
                    let c = chosen_err (eqb w.0.0 0) s body w.0.1 stop cut in
                    let word = w.1 in
                    rw (word, c.0, c.1) refl
                | inr m ↦ absurd (never (Word name w.0.0 ∷ m.0.0, m.0.1) stop m.2)
              ]
        ] in
        sym total ∙ ap (with_front front) step

-- ---- the loop

links_push : {T : Type 0} (name : List ℕ) (items : T → List Item) (values : List T) (x : T)
    → links name (map items (values ++ x ∷ []))
    ≡ links name (map items values) ++ (Word name 1 ∷ items x)
links_push name items values x =
    ap (links name) (map_push items values x)
    ∙ flat_map-append (λ (part : List Item). Word name 1 ∷ part) (map items values)
    (items x ∷ [])
    ∙ ap (λ (xs : List Item). links name (map items values) ++ xs)
    (append-nil (Word name 1 ∷ items x))

pub links_pushed : {T : Type 0} (name : List ℕ) (s : Shape) (items : T → List Item)
    (values pushed : List T) (link : Option T) (x : T) (body now : List ℕ) (start at to : ℕ)
    → pushed ≡ values ++ x ∷ [] → link ≡ Some x → now ≡ body → at < to → to ≤ length now
    → LinksSoFar name s (links name (map items values)) body start at
    → reading (optional_named name s) now at ≡ Ok (optional_items name items link, to)
    → LinksSoFar name s (links name (map items pushed)) body start to
links_pushed name s items values pushed link x body now start at to p o b h w l e =
    let read : reading (optional_named name s) body at ≡ Ok (Word name 1 ∷ items x, to) =
    subst (λ (v : List ℕ). reading (optional_named name s) v at ≡ Ok (Word name 1 ∷ items x, to)) b
    (rw o at e) in
    let within : at ≤ length body = omega (arith, ap length b) in
    subst (λ (front : List Item). LinksSoFar name s front body start to)
    (sym (ap (λ (vs : List _). links name (map items vs)) p ∙ links_push name items values x))
    (links_more name s (links name (map items values)) (items x) body start at to within h l
    read)

links-map : {T : Type 0} (name : List ℕ) (items : T → List Item) (values : List T)
    → links name (map items values) ≡ flat_map (λ x. Word name 1 ∷ items x) values
links-map name items [] = refl
links-map name items (x ∷ values) =
    ap (λ (xs : List Item). (Word name 1 ∷ items x) ++ xs) (links-map name items values)

pub links_done : {T : Type 0} (name : List ℕ) (s : Shape) (items : T → List Item) (values : List T)
    (link : Option T) (body now : List ℕ) (start at to : ℕ) → link ≡ None → now ≡ body → at < to
    → to ≤ length now → LinksSoFar name s (links name (map items values)) body start at
    → reading (optional_named name s) now at ≡ Ok (optional_items name items link, to)
    → reading (linked name s) body start ≡ Ok (linked_items name items values, to)
links_done name s items values link body now start at to o b h w l e =
    let read : reading (optional_named name s) body at ≡ Ok (Word name 0 ∷ [], to) =
    subst (λ (v : List ℕ). reading (optional_named name s) v at ≡ Ok (Word name 0 ∷ [], to)) b
    (rw o at e)
    in
    links_end name s (links name (map items values)) body start at to (omega (arith, ap length b)) l
    read
    ∙ ap (λ (xs : List Item). Ok (xs ++ Word name 0 ∷ [], to)) (links-map name items values)

pub links_gone : (name : List ℕ) (s : Shape) (front : List Item) (error : GetError)
    (body now : List ℕ) (start at to : ℕ) → now ≡ body → at ≤ to → to ≤ length now
    → LinksSoFar name s front body start at
    → Fails error (reading (optional_named name s) now at)
    → Fails error (reading (linked name s) body start)
links_gone name s front error body now start at to b h w l e = λ stop is.
    let read : reading (optional_named name s) body at ≡ Err stop =
    subst (λ (v : List ℕ). reading (optional_named name s) v at ≡ Err stop) b (e stop is) in
    links_fail name s front body start at stop (omega (arith, ap length b)) l read
