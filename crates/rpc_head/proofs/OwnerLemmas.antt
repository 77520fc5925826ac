-- The user and the groups of a caller, which are read as runs.
use Rattle.rpc_head.proofs.Common.{IfErr, OnOk, big_number, GetError, Item, Word, Scans, Stops, MovesOn, View, Adds, adds_joined, short_after, called, gids}
use Rattle.std.proofs.Common.{inl, inr, ◌≡◌, ℕ, zero, suc, ◌+◌, ◌-◌, ◌*◌, ◌/◌, ◌<◌, ◌≤◌, true, false, List, [], ◌∷◌, length, take, drop, replicate, Result, Ok, Err, refl, ap, subst, ◌∙◌, arith}
use Rattle.std.proofs.lemmas.Bool.{cases_lt, le-leb, lt-leb, lt-ltb}
use Rattle.std.proofs.lemmas.List.{drop-drop, take-replicate}
use Rattle.xdr3.specs.declared.plain.PlainField.{PlainField}
use Rattle.xdr3.specs.declared.reason.GetError.TheVariants as errors
use Rattle.xdr3.specs.declared.reason.Reason.TheVariants.{BadEnum, Short, TooLong}
use Rattle.xdr3.specs.Plain.{run_shape, run_size, shape_of, width}
use Rattle.xdr3.specs.Reading.{number_at, reading, run_at, word_at}
use Rattle.xdr3.specs.Named.{word}
use Rattle.xdr3.specs.Shape.{◌then◌, array_named, is_any, is_at_most, nothing, repeated}
use Rattle.xdr3.proofs.Lemmas.Scans.ScanLemmas.{last_scans, last_stops, moves_both}
use Rattle.rpc_head.specs.machinery.HeadEnds.{owner}
use Rattle.rpc_head.proofs.HeadRunLemmas.{later_stop, one_short, run_accepts, run_ends, run_refuses, run_word, stops_at}

-- ---- the groups

fields_shape : (n : ℕ) (g : PlainField) → shape_of g ≡ word "group"
    → run_shape (replicate n g) ≡ repeated n (word "group")
fields_shape zero g is = refl
fields_shape (suc n) g is = let more = fields_shape n g is in rw (is, more) refl

fields_size : (n : ℕ) (g : PlainField) → width g ≡ 4 → run_size (replicate n g) ≡ 4 * n
fields_size zero g is = refl
fields_size (suc n) g is = let more = fields_size n g is in omega (arith, is, more)

pub groups_shape : (n : ℕ) (g : PlainField) → n ≤ 16 → shape_of g ≡ word "group"
    → run_shape (take n (replicate 16 g)) ≡ repeated n (word "group")
groups_shape n g few is = ap run_shape (take-replicate n 16 g few) ∙ fields_shape n g is

pub groups_size : (n : ℕ) (g : PlainField) → n ≤ 16 → width g ≡ 4
    → run_size (take n (replicate 16 g)) ≡ 4 * n
groups_size n g few is = ap run_size (take-replicate n 16 g few) ∙ fields_size n g is

-- ---- the user, the group and the number of groups

-- the words before the number, and that word
record IsOwned (v : View) (run : List ℕ) : Type 0 where
  uid : word_at is_any BadEnum v.body v.at ≡ Ok (big_number 4 run, v.at + 4)
  gid : word_at is_any BadEnum v.body (v.at + 4) ≡ Ok (big_number 4 (drop 4 run), v.at + 8)
  gids : number_at 4 v.body (v.at + 8) ≡ Ok (big_number 4 (drop 8 run), v.at + 12)

owned : (v v1 : View) (run : List ℕ) → run_at 12 v.body v.at ≡ Ok (run, v1.at) → IsOwned v run
owned v v1 run e =
    let uid =
    run_word 0 12 v.body run v.at v1.at v.at (v.at + 4) e (omega arith) (omega arith) refl in
    let gid =
    run_word 4 8 v.body run v.at v1.at (v.at + 4) (v.at + 8) e (omega arith) refl (omega arith) in
    record {
      uid = run_accepts is_any BadEnum v.body (big_number 4 run) v.at (v.at + 4) uid refl;
      gid =
          run_accepts is_any BadEnum v.body (big_number 4 (drop 4 run)) (v.at + 4) (v.at + 8) gid
          refl;
      gids =
          run_word 8 4 v.body run v.at v1.at (v.at + 8) (v.at + 12) e (omega arith) refl
          (omega arith);
    }

few_is : (n : ℕ) → n ≤ 16 → is_at_most 16 n ≡ true
few_is n few = le-leb n 16 few

few_is_not : (n : ℕ) → 16 < n → is_at_most 16 n ≡ false
few_is_not n more = lt-leb n 16 more

pub count_refused : (v v1 : View) (run : List ℕ) → run_at 12 v.body v.at ≡ Ok (run, v1.at)
    → 16 < big_number 4 (drop 8 run)
    → Stops owner v (errors.Stop (record { at = v.at + 8; reason = TooLong }))
unfolding reading owner gids array_named
count_refused v v1 run e more =
    let w = owned v v1 run e in
    let count =
    run_refuses (is_at_most 16) TooLong v.body (big_number 4 (drop 8 run)) (v.at + 8) (v.at + 12)
    w.gids (few_is_not (big_number 4 (drop 8 run)) more) in
    stops_at owner v (record { at = v.at + 8; reason = TooLong }) (rw (w.uid, w.gid, count) refl)

gids_short : (body : List ℕ) (at place : ℕ) → length body < at + 4 → place ≡ at
    → reading gids body at ≡ Err (record { at = place; reason = Short })
unfolding reading gids array_named
gids_short body at place h is = rw (lt-ltb (length body) (at + 4) h, is) refl

pub owner_short : (v : View) → length v.body < v.at + 12 → v.at ≤ length v.body
    → Stops owner v (errors.Stop (short_after v.at (length v.body - v.at)))
unfolding owner gids
owner_short v few within =
    let left = length v.body - v.at in
    stops_at owner v (short_after v.at (length v.body - v.at)) (
    elim (cases_lt (length v.body - v.at) 4) [
      | inl lt ↦ one_short (called "uid") is_any BadEnum (λ n. nothing)
          (word "gid" then gids) v.body v.at (v.at + (length v.body - v.at) / 4 * 4)
          (omega (arith, lt, within)) (omega (arith, lt))
      | inr le ↦ later_stop (called "uid") (word "gid" then gids) v.body v.at
          (short_after v.at (length v.body - v.at)) (omega (arith, le, within)) (
          elim (cases_lt (length v.body - v.at) 8) [
            | inl lt ↦ one_short (called "gid") is_any BadEnum (λ n. nothing) gids v.body (v.at + 4)
                (v.at + (length v.body - v.at) / 4 * 4) (omega (arith, lt, within))
                (omega (arith, le, lt))
            | inr le8 ↦ later_stop (called "gid") gids v.body (v.at + 4)
                (short_after v.at (length v.body - v.at)) (omega (arith, le8, within))
                (gids_short v.body (v.at + 4 + 4) (v.at + (length v.body - v.at) / 4 * 4)
                (omega (arith, few, within)) (omega (arith, few, within, le8)))
          ])
    ])

pub owner_scans : {V : Type 0} (stands : V → List Item → Type 0) (run : List ℕ) (v0 v1 v2 : View)
    (s0 s1 s2 : V) → run_at 12 v0.body v0.at ≡ Ok (run, v1.at) → MovesOn v0 v1
    → big_number 4 (drop 8 run) ≤ 16
    → Adds stands s0 s1 (Word (called "uid") (big_number 4 run)
    ∷ Word (called "gid") (big_number 4 (drop 4 run))
    ∷ Word (called "gids") (big_number 4 (drop 4 (drop 4 run))) ∷ [])
    → Scans stands (repeated (big_number 4 (drop 8 run)) (word "group")) (v1, s1) (v2, s2)
    → Scans stands owner (v0, s0) (v2, s2)
unfolding Scans reading owner gids array_named
owner_scans stands run v0 v1 v2 s0 s1 s2 e moves few a y =
    let w = owned v0 v1 run e in
    let n = big_number 4 (drop 8 run) in
    let end : v0.at + 12 ≡ v1.at = run_ends 12 v0.body run v0.at v1.at e in
    let count =
    run_accepts (is_at_most 16) TooLong v0.body (big_number 4 (drop 8 run)) (v0.at + 8) v1.at
    (w.gids ∙ ap (λ (to : ℕ). Ok (big_number 4 (drop 8 run), to)) end)
    (few_is (big_number 4 (drop 8 run)) few) in
    let there : reading (repeated (big_number 4 (drop 8 run)) (word "group")) v0.body v1.at
    ≡ Ok (y.0, v2.at) =
    subst
    (λ (body : List ℕ).
    reading (repeated (big_number 4 (drop 8 run)) (word "group")) body v1.at ≡ Ok (y.0, v2.at))
    moves.same_body y.1 in
    let d8 : drop 4 (drop 4 run) ≡ drop 8 run = drop-drop 4 4 run in
    let passed : Adds stands s0 s1 (Word (called "uid") (big_number 4 run)
    ∷ Word (called "gid") (big_number 4 (drop 4 run))
    ∷ Word (called "gids") (big_number 4 (drop 8 run)) ∷ []) =
    subst
    (λ (x : List ℕ).
    Adds stands s0 s1 (Word (called "uid") (big_number 4 run)
    ∷ Word (called "gid") (big_number 4 (drop 4 run))
    ∷ Word (called "gids") (big_number 4 x) ∷ [])) d8 a in (
      Word (called "uid") (big_number 4 run) ∷ Word (called "gid") (big_number 4 (drop 4 run))
          ∷ Word (called "gids") (big_number 4 (drop 8 run)) ∷ y.0,
      rw (w.uid, w.gid, count, there) refl,
      moves_both v0 v1 v2 moves y.2,
      adds_joined stands s0 s1 s2
          (Word (called "uid") (big_number 4 run) ∷ Word (called "gid") (big_number 4 (drop 4 run))
          ∷ Word (called "gids") (big_number 4 (drop 8 run)) ∷ []) y.0
          (Word (called "uid") (big_number 4 run) ∷ Word (called "gid") (big_number 4 (drop 4 run))
          ∷ Word (called "gids") (big_number 4 (drop 8 run)) ∷ y.0) passed y.3 refl,
    )

pub groups_stop : (run : List ℕ) (v0 v1 : View) (error : GetError)
    → run_at 12 v0.body v0.at ≡ Ok (run, v1.at) → MovesOn v0 v1 → big_number 4 (drop 8 run) ≤ 16
    → Stops (repeated (big_number 4 (drop 8 run)) (word "group")) v1 error → Stops owner v0 error
unfolding Stops reading owner gids array_named
groups_stop run v0 v1 error e moves few h = λ stop is.
    let w = owned v0 v1 run e in
    let end : v0.at + 12 ≡ v1.at = run_ends 12 v0.body run v0.at v1.at e in
    let count =
    run_accepts (is_at_most 16) TooLong v0.body (big_number 4 (drop 8 run)) (v0.at + 8) v1.at
    (w.gids ∙ ap (λ (to : ℕ). Ok (big_number 4 (drop 8 run), to)) end)
    (few_is (big_number 4 (drop 8 run)) few) in
    let there : reading (repeated (big_number 4 (drop 8 run)) (word "group")) v0.body v1.at
    ≡ Err stop =
    subst
    (λ (body : List ℕ).
    reading (repeated (big_number 4 (drop 8 run)) (word "group")) body v1.at ≡ Err stop)
    moves.same_body (h stop is) in
    rw (w.uid, w.gid, count, there) refl

-- the same for the groups' own answer

pub owner_scanned : {V X : Type 0} (stands : V → List Item → Type 0) (run : List ℕ)
    (v0 v1 v2 : View) (s0 s1 s2 : V) (r : Result X GetError)
    → run_at 12 v0.body v0.at ≡ Ok (run, v1.at) → MovesOn v0 v1 → big_number 4 (drop 8 run) ≤ 16
    → Adds stands s0 s1 (Word (called "uid") (big_number 4 run)
    ∷ Word (called "gid") (big_number 4 (drop 4 run))
    ∷ Word (called "gids") (big_number 4 (drop 4 (drop 4 run))) ∷ [])
    → OnOk r (Scans stands (repeated (big_number 4 (drop 8 run)) (word "group")) (v1, s1) (v2, s2))
    → OnOk r (Scans stands owner (v0, s0) (v2, s2))
owner_scanned stands run v0 v1 v2 s0 s1 s2 (Ok x) e moves few a h =
    owner_scans stands run v0 v1 v2 s0 s1 s2 e moves few a h
owner_scanned stands run v0 v1 v2 s0 s1 s2 (Err error) e moves few a h = h

pub owner_stopped : {X : Type 0} (run : List ℕ) (v0 v1 : View) (r : Result X GetError)
    → run_at 12 v0.body v0.at ≡ Ok (run, v1.at) → MovesOn v0 v1 → big_number 4 (drop 8 run) ≤ 16
    → IfErr r (λ error. Stops (repeated (big_number 4 (drop 8 run)) (word "group")) v1 error)
    → IfErr r (λ error. Stops owner v0 error)
owner_stopped run v0 v1 (Ok x) e moves few h = h
owner_stopped run v0 v1 (Err error) e moves few h = groups_stop run v0 v1 error e moves few h

-- ---- an owner by its parts

pub whole_scans : {V X : Type 0} (stands : V → List Item → Type 0) (v0 v1 : View) (s0 s1 : V)
    (r : Result X GetError) → OnOk r (Scans stands owner (v0, s0) (v1, s1))
    → OnOk r
    (Scans stands (word "uid" then word "gid" then gids) (v0, s0) (v1, s1))
unfolding owner
whole_scans stands v0 v1 s0 s1 r h = h

pub whole_stops : {X : Type 0} (v0 : View) (r : Result X GetError) → IfErr r (λ e. Stops owner v0 e)
    → IfErr r (λ e. Stops (word "uid" then word "gid" then gids) v0 e)
unfolding owner
whole_stops v0 r h = h

pub ruleset whole_owners = (whole_scans, whole_stops, last_scans, last_stops)
