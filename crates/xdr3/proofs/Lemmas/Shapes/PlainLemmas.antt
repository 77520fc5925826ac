-- Runs of words and numbers of eight bytes.
use Rattle.xdr3.proofs.Common.{◌≡◌, ℕ, ◌+◌, ◌-◌, ◌<◌, ◌≤◌, List, [], ◌∷◌, ◌++◌, ltb, length, get_or, take, drop, Ok, Err, refl, sym, ap, subst, ◌∙◌, arith, flat_map-append, big_bytes, Short, Stop, AreBytes, Item, zero_spelling, zero_spelling_of, reading, run_at, Scans, Stops, MovesOn, View, Adds, AddsSome, ltb-false, lt-ltb, le-ltb, drop-drop, drop_all, drop_more, drop-take, length-drop, length-take, take-append-drop, big_from-take}
use Rattle.xdr3.specs.declared.plain.PlainField.{PlainField}
use Rattle.xdr3.specs.declared.plain.PlainField.TheVariants as fields
use Rattle.xdr3.specs.declared.reason.GetError.TheVariants as errors
use Rattle.xdr3.specs.Plain.{plain_item, run_items, run_shape, run_size, shape_of, width}
use Rattle.xdr3.proofs.Lemmas.Reading.Bytes.{AreBytes-drop, AreBytes-take, guard_ok, wide4, wide8}
use Rattle.xdr3.specs.Visit.{Keeps}
use Rattle.xdr3.proofs.Lemmas.Shapes.Walks.{adds_joined, adds_nothing, some_after, some_none}

-- ---- one field

pub field_read : (field : PlainField) (body : List ℕ) (at : ℕ) → at + width field ≤ length body
    → reading (shape_of field) body at ≡ Ok (plain_item field (drop at body) ∷ [], at + width field)
unfolding reading
field_read (fields.Word name) body at h = rw (le-ltb (length body) (at + 4) h) refl
field_read (fields.Hyper name) body at h = rw (le-ltb (length body) (at + 8) h) refl

pub field_short : (field : PlainField) (body : List ℕ) (at : ℕ) → length body < at + width field
    → reading (shape_of field) body at ≡ Err (record { at = at; reason = Short })
unfolding reading
field_short (fields.Word name) body at h = rw (lt-ltb (length body) (at + 4) h) refl
field_short (fields.Hyper name) body at h = rw (lt-ltb (length body) (at + 8) h) refl

pub field_taken : (field : PlainField) (bytes : List ℕ) (n : ℕ) → width field ≤ n
    → plain_item field (take n bytes) ≡ plain_item field bytes
field_taken (fields.Word name) bytes n h = rw (big_from-take 0 4 n bytes (omega (arith, h))) refl
field_taken (fields.Hyper name) bytes n h = rw (big_from-take 0 8 n bytes (omega (arith, h))) refl

pub field_spelled : (field : PlainField) (bytes : List ℕ) → AreBytes bytes
    → width field ≤ length bytes
    → zero_spelling_of (plain_item field bytes) ≡ take (width field) bytes
field_spelled (fields.Word name) bytes b h =
    ap (big_bytes 4) (sym (big_from-take 0 4 4 bytes (omega arith)))
    ∙ wide4.back (take 4 bytes) (omega (arith, length-take 4 bytes, h))
    (AreBytes-take 4 bytes b)
field_spelled (fields.Hyper name) bytes b h =
    ap (big_bytes 8) (sym (big_from-take 0 8 8 bytes (omega arith)))
    ∙ wide8.back (take 8 bytes) (omega (arith, length-take 8 bytes, h))
    (AreBytes-take 8 bytes b)

-- ---- a run

-- the fields are read from their bytes
pub run_read : (all : List PlainField) (body : List ℕ) (at : ℕ) → at + run_size all ≤ length body
    → reading (run_shape all) body at ≡ Ok (run_items all (drop at body), at + run_size all)
unfolding reading
run_read [] body at h = let e : at + 0 ≡ at = omega arith in rw e refl
run_read (field ∷ more) body at h =
    let first : reading (shape_of field) body at
    ≡ Ok (plain_item field (drop at body) ∷ [], at + width field) =
    field_read field body at (omega (arith, h)) in
    let rest : reading (run_shape more) body (at + width field)
    ≡ Ok (run_items more (drop (at + width field) body), (at + width field) + run_size more) =
    run_read more body (at + width field) (omega (arith, h)) in
    let there : drop (at + width field) body ≡ drop (width field) (drop at body) =
    sym (drop-drop (width field) at body) in
    let end : (at + width field) + run_size more ≡ at + (width field + run_size more) =
    omega arith in
    rw (first, rest, there, end) refl

-- no more bytes are read than the fields have
pub run_taken : (all : List PlainField) (bytes : List ℕ) (n : ℕ) → run_size all ≤ n
    → run_items all (take n bytes) ≡ run_items all bytes
run_taken [] bytes n h = refl
run_taken (field ∷ more) bytes n h =
    let n-is : n ≡ width field + (n - width field) = omega (arith, h) in
    let later : drop (width field) (take n bytes)
    ≡ take (n - width field) (drop (width field) bytes) =
    subst
    (λ (m : ℕ).
    drop (width field) (take m bytes) ≡ take (n - width field) (drop (width field) bytes))
    (sym n-is) (drop-take (width field) (n - width field) bytes) in
    let rest = run_taken more (drop (width field) bytes) (n - width field) (omega (arith, h)) in
    rw (field_taken field bytes n (omega (arith, h)), later, rest) refl

-- the items are spelled by their bytes
pub run_spelled : (all : List PlainField) (bytes : List ℕ) → AreBytes bytes
    → length bytes ≡ run_size all → zero_spelling (run_items all bytes) ≡ bytes
run_spelled [] [] b h = refl
run_spelled [] (x ∷ bytes) b h = absurd (omega (arith, h))
run_spelled (field ∷ more) bytes b h =
    let first = field_spelled field bytes b (omega (arith, h)) in
    let rest =
    run_spelled more (drop (width field) bytes) (AreBytes-drop (width field) bytes b)
    (omega (arith, h, length-drop (width field) bytes)) in
    rw (first, rest) (take-append-drop (width field) bytes)

-- ---- the first field that is not whole

-- The first fields are whole, up to the place, and what stops the others there stops them all.
pub record IsBefore (all : List PlainField) (body : List ℕ) (start at left i : ℕ) : Type 0 where
  pub left_is : at + left ≡ length body
  pub few : length body < at + run_size (drop i all)
  pub stops : (stop : Stop) → reading (run_shape (drop i all)) body at ≡ Err stop
      → reading (run_shape all) body start ≡ Err stop

pub before_begins : (all : List PlainField) (body : List ℕ) (start left : ℕ)
    → left + start ≡ length body → length body < start + run_size all
    → IsBefore all body start start left 0
before_begins all body start left is few =
    record { left_is = omega (arith, is); few = few; stops = λ stop h. h }

pub before_next : (all : List PlainField) (body : List ℕ) (start at left i w : ℕ) (d : PlainField)
    → IsBefore all body start at left i → i < length all → w ≡ width (get_or all i d) → w ≤ left
    → IsBefore all body start (at + w) (left - w) (i + 1)
unfolding reading
before_next all body start at left i w d b h is fits =
    let field = get_or all i d in
    let more = drop_more all i d h in
    let first : reading (shape_of field) body at
    ≡ Ok (plain_item field (drop at body) ∷ [], at + width field) =
    field_read field body at (omega (arith, b.left_is, is, fits)) in
    let few : length body < at + run_size (field ∷ drop (i + 1) all) =
    subst (λ (fs : List PlainField). length body < at + run_size fs) more b.few in
    record {
      left_is = omega (arith, b.left_is, fits);
      few = omega (arith, few, is);
      stops =
          λ stop cut.
          b.stops stop (let there : reading (run_shape (drop (i + 1) all)) body
          (at + width field) ≡ Err stop =
          subst
          (λ (v : ℕ).
          reading (run_shape (drop (i + 1) all)) body (at + v) ≡ Err stop) is
          cut in
          rw (more, first, there) refl);
    }

pub before_stops : (all : List PlainField) (body : List ℕ) (start at left i w : ℕ) (d : PlainField)
    → IsBefore all body start at left i → i < length all → w ≡ width (get_or all i d) → left < w
    → reading (run_shape all) body start ≡ Err (record { at = at; reason = Short })
unfolding reading
before_stops all body start at left i w d b h is few =
    let field = get_or all i d in
    let more = drop_more all i d h in
    let first : reading (shape_of field) body at ≡ Err (record { at = at; reason = Short }) =
    field_short field body at (omega (arith, b.left_is, is, few)) in
    b.stops (record { at = at; reason = Short }) (rw (more, first) refl)

pub before_never : (all : List PlainField) (body : List ℕ) (start at left i : ℕ)
    → IsBefore all body start at left i → length all ≤ i → ⊥
before_never all body start at left i b h =
    omega (arith, b.left_is, b.few, ap run_size (drop_all i all h))

-- ---- items passed one by one

-- The first items were passed, and the others are those of the rest of the bytes.
pub record IsPassing {V : Type 0} (stands : V → List Item → Type 0) (all : List PlainField)
    (bytes rest : List ℕ) (old now : V) (i : ℕ) : Type 0 where
  pub size : length rest ≡ run_size (drop i all)
  pub adds : (new : V) → Adds stands now new (run_items (drop i all) rest)
      → Adds stands old new (run_items all bytes)
  pub adds_some : (new : V) → AddsSome stands now new (run_items (drop i all) rest)
      → AddsSome stands old new (run_items all bytes)

pub passing_begins : {V : Type 0} (stands : V → List Item → Type 0) (all : List PlainField)
    (bytes : List ℕ) (old : V) → length bytes ≡ run_size all
    → IsPassing stands all bytes bytes old old 0
passing_begins stands all bytes old h =
    record { size = h; adds = λ new a. a; adds_some = λ new a. a }

pub passing_next : {V : Type 0} (stands : V → List Item → Type 0) (all : List PlainField)
    (bytes rest later : List ℕ) (old now next after : V) (i : ℕ) (field d : PlainField)
    → IsPassing stands all bytes rest old now i → i < length all → get_or all i d ≡ field
    → Adds stands now next (plain_item field rest ∷ []) → later ≡ drop (width field) rest
    → after ≡ next → IsPassing stands all bytes later old after (i + 1)
passing_next stands all bytes rest later old now next after i field d t h is passed later-is
    after-is =
    let more : drop i all ≡ field ∷ drop (i + 1) all =
    drop_more all i d h ∙ ap (λ (x : PlainField). x ∷ drop (i + 1) all) is in
    rw (later-is, after-is) (record {
      size = omega (arith, t.size, ap run_size more, length-drop (width field) rest);
      adds =
          λ new a.
          t.adds new (rw more (adds_joined stands now next new (plain_item field rest ∷ [])
          (run_items (drop (i + 1) all) (drop (width field) rest))
          (run_items (field ∷ drop (i + 1) all) rest) passed a refl));
      adds_some =
          λ new a.
          t.adds_some new (rw more (some_after stands now next new (plain_item field rest ∷ [])
          (run_items (drop (i + 1) all) (drop (width field) rest))
          (run_items (field ∷ drop (i + 1) all) rest) passed a refl));
    })

pub passing_stops : {V : Type 0} (stands : V → List Item → Type 0) (all : List PlainField)
    (bytes rest : List ℕ) (old now new : V) (i : ℕ) → IsPassing stands all bytes rest old now i
    → Keeps stands now new → AddsSome stands old new (run_items all bytes)
passing_stops stands all bytes rest old now new i t k =
    t.adds_some new (some_none stands now new (run_items (drop i all) rest) k)

pub passing_ends : {V : Type 0} (stands : V → List Item → Type 0) (all : List PlainField)
    (bytes rest : List ℕ) (old now : V) (i : ℕ) → IsPassing stands all bytes rest old now i
    → length all ≤ i → Adds stands old now (run_items all bytes)
passing_ends stands all bytes rest old now i t h =
    let none : drop i all ≡ [] = drop_all i all h in
    t.adds now (rw none (adds_nothing stands now))

-- a writer's items are spelled by the bytes that it appends
pub run_written : (all : List PlainField) (bytes old new : List ℕ) → AreBytes bytes
    → length bytes ≡ run_size all → new ≡ old ++ bytes
    → Adds (λ w items. w ≡ zero_spelling items) old new (run_items all bytes)
unfolding Adds
run_written all bytes old new b h is = λ before was.
    is ∙ ap (λ (w : List ℕ). w ++ bytes) was
    ∙ ap (λ (w : List ℕ). zero_spelling before ++ w) (sym (run_spelled all bytes b h))
    ∙ sym (flat_map-append zero_spelling_of before (run_items all bytes))

-- ---- the scan

pub run_stops : (all : List PlainField) (v : View) (stop : Stop)
    → reading (run_shape all) v.body v.at ≡ Err stop → Stops (run_shape all) v (errors.Stop stop)
unfolding Stops
run_stops all v stop h =
    λ other is. h ∙ ap (λ (s : Stop). Err s) (let same : stop ≡ other = cc in same)

pub run_scans : {V : Type 0} (stands : V → List Item → Type 0) (all : List PlainField)
    (v0 v1 : View) (s0 s1 : V) (size : ℕ) (run : List ℕ) → size ≡ run_size all
    → run_at size v0.body v0.at ≡ Ok (run, v1.at) → MovesOn v0 v1
    → Adds stands s0 s1 (run_items all run) → Scans stands (run_shape all) (v0, s0) (v1, s1)
unfolding Scans
run_scans stands all v0 v1 s0 s1 size run is e moves a =
    let g =
    guard_ok (ltb (length v0.body) (v0.at + size)) (record { at = v0.at; reason = Short })
    (take size (drop v0.at v0.body), v0.at + size) (run, v1.at) e in
    let long : v0.at + size ≤ length v0.body = ltb-false _ _ g.0 in
    let run-is : take size (drop v0.at v0.body) ≡ run = ap (λ (x : List ℕ × ℕ). x.0) g.1 in
    let to-is : v0.at + size ≡ v1.at = ap (λ (x : List ℕ × ℕ). x.1) g.1 in
    let same : run_items all run ≡ run_items all (drop v0.at v0.body) =
    ap (run_items all) (sym run-is) ∙ run_taken all (drop v0.at v0.body) size (omega (arith, is)) in
    let end : v0.at + run_size all ≡ v1.at = omega (arith, is, to-is) in (
      run_items all run,
      run_read all v0.body v0.at (omega (arith, long, is)) ∙ (rw (same, end) refl),
      moves,
      a,
    )

-- how a scan of a run follows
pub ruleset runs = (run_scans, run_stops)
