-- Scans of heads by those of their parts.
use Rattle.std.proofs.Common.{inl, inr, ◌≡◌, ℕ, ◌+◌, ◌-◌, ◌*◌, ◌/◌, ◌<◌, ◌≤◌, Bool, true, false, cond, ◌==◌, List, [], ◌∷◌, ◌++◌, length, drop, Ok, Err, refl, sym, ap, subst, ◌∙◌, arith, eq-eqb}
use Rattle.rpc_head.proofs.Common.{cases_lt, ne_eqb, lt-ltb, big_number, GetError, Stop, MovesOn, View, Adds, moves_both, adds_joined, called, BadEnum, Flavor, Short}
use Rattle.xdr3.specs.Layout.{word_in}
use Rattle.xdr3.specs.declared.reason.GetError.TheVariants as errors
use Rattle.xdr3.specs.Item.{Item, Word, Opaque, Var}
use Rattle.xdr3.specs.Reading.{number_at, reading, run_at, word_at, opaque_at}
use Rattle.xdr3.specs.Scan.{Scans, ScansWord, Stops}
use Rattle.xdr3.specs.Shape.{◌then◌, is_any, is_listed, opaque}
use Rattle.xdr3.proofs.Lemmas.Reading.Bytes.{bind_ok, pair_is}
use Rattle.rpc_head.specs.HeadScan.{ScansReplyHead}
use Rattle.rpc_head.specs.declared.scans.reply.Beginning.TheVariants.{Accepted, Denied}
use Rattle.rpc_head.specs.machinery.HeadEnds.{ScansAccept, denied_for}
use Rattle.rpc_head.specs.machinery.HeadRuns.{ScansBeginning, short_after}
use Rattle.rpc_head.specs.Shapes.{accept, deny, reply_head, verifier}
use Rattle.rpc_head.proofs.HeadRunLemmas.{flavor_is, flavor_is_not, run_accepts, run_ends, run_refuses, run_word, stops_at, word_ends}

-- ---- replies

pub accept_alone : {V : Type 0} (stands : V → List Item → Type 0) (n : ℕ) (v0 v1 : View) (s0 s1 : V)
    → ScansWord stands ((called "accept_stat"), is_listed (0 ∷ 1 ∷ 2 ∷ 3 ∷ 4 ∷ 5 ∷ []), BadEnum) n
    (v0, s0) (v1, s1)
    → (n ≡ 2 → ⊥) → ScansAccept stands n (v0, s0) (v1, s1)
unfolding ScansAccept ScansWord reading accept
accept_alone stands n v0 v1 s0 s1 w other =
    (Word (called "accept_stat") n ∷ [], rw (w.0, ne_eqb n 2 other) refl, refl, w.1, w.2)

pub accept_versions : {V : Type 0} (stands : V → List Item → Type 0) (n low high : ℕ)
    (v0 v1 v2 v3 : View) (s0 s1 s2 s3 : V)
    → ScansWord stands ((called "accept_stat"), is_listed (0 ∷ 1 ∷ 2 ∷ 3 ∷ 4 ∷ 5 ∷ []), BadEnum) n
    (v0, s0) (v1, s1)
    → n ≡ 2
    → ScansWord stands ((called "low"), is_any, BadEnum) low (v1, s1) (v2, s2)
    → ScansWord stands ((called "high"), is_any, BadEnum) high (v2, s2) (v3, s3)
    → ScansAccept stands n (v0, s0) (v3, s3)
unfolding ScansAccept ScansWord reading accept
accept_versions stands n low high v0 v1 v2 v3 s0 s1 s2 s3 w is a b =
    let second : word_at is_any BadEnum v0.body v1.at ≡ Ok (low, v2.at) =
    subst (λ (body : List ℕ). word_at is_any BadEnum body v1.at ≡ Ok (low, v2.at)) w.1.same_body a.0
    in
    let third : word_at is_any BadEnum v0.body v2.at ≡ Ok (high, v3.at) =
    subst (λ (body : List ℕ). word_at is_any BadEnum body v2.at ≡ Ok (high, v3.at))
    (a.1.same_body ∙ w.1.same_body) b.0 in
    let from_low =
    adds_joined stands s1 s2 s3 (Word (called "low") low ∷ []) (Word (called "high") high ∷ [])
    (Word (called "low") low ∷ Word (called "high") high ∷ []) a.2 b.2 refl in (
      Word (called "accept_stat") n ∷ Word (called "low") low ∷ Word (called "high") high ∷ [],
      rw (w.0, eq-eqb n 2 is, second, third) refl,
      refl,
      moves_both v0 v1 v3 w.1 (moves_both v1 v2 v3 a.1 b.1),
      adds_joined stands s0 s1 s3 (Word (called "accept_stat") n ∷ [])
          (Word (called "low") low ∷ Word (called "high") high ∷ [])
          (Word (called "accept_stat") n ∷ Word (called "low") low ∷ Word (called "high") high ∷ [])
          w.2 from_low refl,
    )

-- opaque data is one item
one_opaque : (name : List ℕ) (max : ℕ) (body : List ℕ) (items : List Item) (at to : ℕ)
    → reading (opaque Var name max) body at ≡ Ok (items, to)
    → (bytes : List ℕ) × (Opaque Var name bytes ∷ [] ≡ items)
unfolding reading
one_opaque name max body items at to e =
    let r =
    bind_ok (opaque_at max body at) (λ run. Ok (Opaque Var name run.0 ∷ [], run.1)) (items, to) e in
    let p = pair_is (Opaque Var name r.0.0 ∷ []) items r.0.1 to r.2 in
    (r.0.0, p.0)

pub reply_accepted : {V : Type 0} (stands : V → List Item → Type 0) (stat : ℕ) (v0 v2 v3 v4 : View)
    (s0 s2 s3 s4 : V) → ScansBeginning stands Accepted (v0, s0) (v2, s2)
    → Scans stands (opaque Var (called "verf_body") 400) (v2, s2) (v3, s3)
    → ScansAccept stands stat (v3, s3) (v4, s4)
    → ScansReplyHead stands (stat == 0) (v0, s0) (v4, s4)
unfolding ScansReplyHead ScansAccept Scans reading reply_head verifier
reply_accepted stands stat v0 v2 v3 v4 s0 s2 s3 s4 a b c =
    let body2 = a.moves.same_body in
    let body3 = b.2.same_body ∙ body2 in
    let opaque_body : reading (opaque Var (called "verf_body") 400) v0.body v2.at
    ≡ Ok (b.0, v3.at) =
    subst
    (λ (body : List ℕ).
    reading (opaque Var (called "verf_body") 400) body v2.at ≡ Ok (b.0, v3.at)) body2 b.1 in
    let last : reading accept v0.body v3.at ≡ Ok (c.0, v4.at) =
    subst (λ (body : List ℕ). reading accept body v3.at ≡ Ok (c.0, v4.at)) body3 c.1 in
    let one = one_opaque (called "verf_body") 400 v0.body b.0 v2.at v3.at opaque_body in
    let same_stat : (word_in
    (Word (called "reply_stat") 0 ∷ Word (called "verf_flavor") 0 ∷ (b.0 ++ c.0)) 3)
    ≡ stat =
    subst
    (λ (xs : List Item).
    word_in (Word (called "reply_stat") 0 ∷ Word (called "verf_flavor") 0 ∷ (xs ++ c.0))
    3 ≡ stat) one.1 c.2 in (
      Word (called "reply_stat") 0 ∷ Word (called "verf_flavor") 0 ∷ (b.0 ++ c.0),
      rw (a.reply_stat, a.next, opaque_body, last) refl,
      rw same_stat refl,
      moves_both v0 v2 v4 a.moves (moves_both v2 v3 v4 b.2 c.3),
      adds_joined stands s0 s2 s4
          (Word (called "reply_stat") 0 ∷ Word (called "verf_flavor") 0 ∷ []) (b.0 ++ c.0)
          (Word (called "reply_stat") 0 ∷ Word (called "verf_flavor") 0 ∷ (b.0 ++ c.0)) a.adds
          (adds_joined stands s2 s3 s4 b.0 c.0 (b.0 ++ c.0) b.3 c.4 refl) refl,
    )

pub reply_denied : {V : Type 0} (stands : V → List Item → Type 0) (n : ℕ) (v0 v1 v2 : View)
    (s0 s1 s2 : V) → ScansBeginning stands (Denied n) (v0, s0) (v1, s1)
    → Scans stands (denied_for n) (v1, s1) (v2, s2) → ScansReplyHead stands false (v0, s0) (v2, s2)
unfolding ScansReplyHead Scans reading reply_head deny
reply_denied stands n v0 v1 v2 s0 s1 s2 a d =
    let denied : reading (denied_for n) v0.body v1.at ≡ Ok (d.0, v2.at) =
    subst (λ (body : List ℕ). reading (denied_for n) body v1.at ≡ Ok (d.0, v2.at))
    a.moves.same_body d.1 in (
      Word (called "reply_stat") 1 ∷ Word (called "reject_stat") n ∷ d.0,
      rw (a.reply_stat, a.next, denied) refl,
      refl,
      moves_both v0 v1 v2 a.moves d.2,
      adds_joined stands s0 s1 s2
          (Word (called "reply_stat") 1 ∷ Word (called "reject_stat") n ∷ []) d.0
          (Word (called "reply_stat") 1 ∷ Word (called "reject_stat") n ∷ d.0) a.adds d.3 refl,
    )

pub denied_stops : {V : Type 0} (stands : V → List Item → Type 0) (n : ℕ) (v0 v1 : View) (s0 s1 : V)
    (e : GetError) → ScansBeginning stands (Denied n) (v0, s0) (v1, s1) → Stops (denied_for n) v1 e
    → Stops reply_head v0 e
unfolding Stops reading reply_head deny
denied_stops stands n v0 v1 s0 s1 e a h = λ stop is.
    let cut : reading (denied_for n) v0.body v1.at ≡ Err stop =
    subst (λ (body : List ℕ). reading (denied_for n) body v1.at ≡ Err stop) a.moves.same_body
    (h stop is) in
    rw (a.reply_stat, a.next, cut) refl

pub verf_body_stops : {V : Type 0} (stands : V → List Item → Type 0) (v0 v2 : View) (s0 s2 : V)
    (e : GetError) → ScansBeginning stands Accepted (v0, s0) (v2, s2)
    → Stops (opaque Var (called "verf_body") 400) v2 e → Stops reply_head v0 e
unfolding Stops reading reply_head verifier
verf_body_stops stands v0 v2 s0 s2 e a h = λ stop is.
    let cut : reading (opaque Var (called "verf_body") 400) v0.body v2.at ≡ Err stop =
    subst (λ (body : List ℕ). reading (opaque Var (called "verf_body") 400) body v2.at ≡ Err stop)
    a.moves.same_body (h stop is) in
    rw (a.reply_stat, a.next, cut) refl

pub accept_stops : {V : Type 0} (stands : V → List Item → Type 0) (v0 v2 v3 : View) (s0 s2 s3 : V)
    (e : GetError) → ScansBeginning stands Accepted (v0, s0) (v2, s2)
    → Scans stands (opaque Var (called "verf_body") 400) (v2, s2) (v3, s3) → Stops accept v3 e
    → Stops reply_head v0 e
unfolding Stops Scans reading reply_head verifier
accept_stops stands v0 v2 v3 s0 s2 s3 e a b h = λ stop is.
    let body2 = a.moves.same_body in
    let opaque_body : reading (opaque Var (called "verf_body") 400) v0.body v2.at
    ≡ Ok (b.0, v3.at) =
    subst
    (λ (body : List ℕ).
    reading (opaque Var (called "verf_body") 400) body v2.at ≡ Ok (b.0, v3.at)) body2 b.1 in
    let cut : reading accept v0.body v3.at ≡ Err stop =
    subst (λ (body : List ℕ). reading accept body v3.at ≡ Err stop) (b.2.same_body ∙ body2)
    (h stop is) in
    rw (a.reply_stat, a.next, opaque_body, cut) refl

-- how the scan of a reply's head follows from those of its parts
pub ruleset replies = (reply_accepted, reply_denied, denied_stops, verf_body_stops, accept_stops)

-- ---- the first two words of a reply's head

-- two words of a run
record AreTwo (v v1 : View) (run : List ℕ) : Type 0 where
  first : number_at 4 v.body v.at ≡ Ok (big_number 4 (drop 0 run), v.at + 4)
  second : number_at 4 v.body (v.at + 4) ≡ Ok (big_number 4 (drop 4 run), v1.at)

are_two : (v v1 : View) (run : List ℕ) → run_at 8 v.body v.at ≡ Ok (run, v1.at) → AreTwo v v1 run
are_two v v1 run e =
    let end : v.at + 8 ≡ v1.at = run_ends 8 v.body run v.at v1.at e in
    record {
      first = run_word 0 8 v.body run v.at v1.at v.at (v.at + 4) e (omega arith) (omega arith) refl;
      second =
          run_word 4 4 v.body run v.at v1.at (v.at + 4) v1.at e (omega arith) refl
          (omega (arith, end));
    }

two_passed : (name : List ℕ) (a0 a1 b0 b1 : ℕ) → a0 ≡ a1 → b0 ≡ b1
    → (Word (called "reply_stat") a0 ∷ Word name b0 ∷ [])
    ≡ (Word (called "reply_stat") a1 ∷ Word name b1 ∷ [])
two_passed name a0 a1 b0 b1 a b = cc

pub accepted_begins : {V : Type 0} (stands : V → List Item → Type 0) (run : List ℕ) (v v1 : View)
    (s0 s1 : V) → run_at 8 v.body v.at ≡ Ok (run, v1.at) → MovesOn v v1
    → big_number 4 (drop 0 run) ≡ 0 → big_number 4 (drop 4 run) ≡ 0
    → Adds stands s0 s1 (Word (called "reply_stat") (big_number 4 run)
    ∷ Word (called "verf_flavor") (big_number 4 (drop 4 run)) ∷ [])
    → ScansBeginning stands Accepted (v, s0) (v1, s1)
accepted_begins stands run v v1 s0 s1 e moves is then_is a =
    let w = are_two v v1 run e in
    record {
      reply_stat =
          run_accepts (is_listed (0 ∷ 1 ∷ [])) BadEnum v.body 0 v.at (v.at + 4)
          (w.first ∙ ap (λ (n : ℕ). Ok (n, v.at + 4)) is) refl;
      next =
          run_accepts (is_listed (0 ∷ [])) Flavor v.body 0 (v.at + 4) v1.at
          (w.second ∙ ap (λ (n : ℕ). Ok (n, v1.at)) then_is) refl;
      moves = moves;
      adds = subst (Adds stands s0 s1) (two_passed (called "verf_flavor") _ 0 _ 0 is then_is) a;
    }

pub denied_begins : {V : Type 0} (stands : V → List Item → Type 0) (run : List ℕ) (v v1 : View)
    (s0 s1 : V) → run_at 8 v.body v.at ≡ Ok (run, v1.at) → MovesOn v v1
    → big_number 4 (drop 0 run) ≡ 1 → big_number 4 (drop 4 run) ≤ 1
    → Adds stands s0 s1 (Word (called "reply_stat") (big_number 4 run)
    ∷ Word (called "reject_stat") (big_number 4 (drop 4 run)) ∷ [])
    → ScansBeginning stands (Denied (big_number 4 (drop 4 run))) (v, s0) (v1, s1)
denied_begins stands run v v1 s0 s1 e moves is few a =
    let w = are_two v v1 run e in
    record {
      reply_stat =
          run_accepts (is_listed (0 ∷ 1 ∷ [])) BadEnum v.body 1 v.at (v.at + 4)
          (w.first ∙ ap (λ (n : ℕ). Ok (n, v.at + 4)) is) refl;
      next =
          run_accepts (is_listed (0 ∷ 1 ∷ [])) BadEnum v.body (big_number 4 (drop 4 run)) (v.at + 4)
          v1.at w.second (flavor_is (big_number 4 (drop 4 run)) few);
      moves = moves;
      adds =
          subst (Adds stands s0 s1)
          (two_passed (called "reject_stat") _ 1 (big_number 4 (drop 4 run)) _ is refl) a;
    }

pub is_zero : (n : ℕ) → n ≤ 1 → (n ≡ 1 → ⊥) → n ≡ 0
is_zero n few other = elim (cases_lt n 1) [
  | inl lt ↦ omega (arith, lt)
  | inr le ↦ absurd (other (omega (arith, le, few)))
]

-- ---- first two words that are refused

accepted_not : (n : ℕ) → (n ≡ 0 → ⊥) → is_listed (0 ∷ []) n ≡ false
accepted_not n other = rw (ne_eqb 0 n (λ is. other (sym is))) refl

pub flavor_refused_there : (v v1 : View) (run : List ℕ) → run_at 8 v.body v.at ≡ Ok (run, v1.at)
    → big_number 4 (drop 0 run) ≡ 0 → (big_number 4 (drop 4 run) ≡ 0 → ⊥)
    → Stops reply_head v (errors.Stop (record { at = v.at + 4; reason = Flavor }))
unfolding reading reply_head verifier
flavor_refused_there v v1 run e is other =
    let w = are_two v v1 run e in
    let stat =
    run_accepts (is_listed (0 ∷ 1 ∷ [])) BadEnum v.body 0 v.at (v.at + 4)
    (w.first ∙ ap (λ (n : ℕ). Ok (n, v.at + 4)) is) refl in
    let flavor =
    run_refuses (is_listed (0 ∷ [])) Flavor v.body (big_number 4 (drop 4 run)) (v.at + 4)
    v1.at w.second (accepted_not (big_number 4 (drop 4 run)) other) in
    stops_at reply_head v (record { at = v.at + 4; reason = Flavor }) (rw (stat, flavor) refl)

pub reject_refused : (v v1 : View) (run : List ℕ) → run_at 8 v.body v.at ≡ Ok (run, v1.at)
    → big_number 4 (drop 0 run) ≡ 1 → 1 < big_number 4 (drop 4 run)
    → Stops reply_head v (errors.Stop (record { at = v.at + 4; reason = BadEnum }))
unfolding reading reply_head deny
reject_refused v v1 run e is more =
    let w = are_two v v1 run e in
    let stat =
    run_accepts (is_listed (0 ∷ 1 ∷ [])) BadEnum v.body 1 v.at (v.at + 4)
    (w.first ∙ ap (λ (n : ℕ). Ok (n, v.at + 4)) is) refl in
    let reject =
    run_refuses (is_listed (0 ∷ 1 ∷ [])) BadEnum v.body (big_number 4 (drop 4 run)) (v.at + 4) v1.at
    w.second (flavor_is_not (big_number 4 (drop 4 run)) more) in
    stops_at reply_head v (record { at = v.at + 4; reason = BadEnum }) (rw (stat, reject) refl)

pub beginning_stops : (body : List ℕ) (at : ℕ) (stop : Stop)
    → word_at (is_listed (0 ∷ 1 ∷ [])) BadEnum body at ≡ Err stop
    → reading reply_head body at ≡ Err stop
unfolding reading reply_head
beginning_stops body at stop e = rw e refl

pub stat_refused : (v v1 : View) (run : List ℕ) → run_at 8 v.body v.at ≡ Ok (run, v1.at)
    → 1 < big_number 4 (drop 0 run)
    → Stops reply_head v (errors.Stop (record { at = v.at; reason = BadEnum }))
stat_refused v v1 run e more =
    let w = are_two v v1 run e in
    let refused_there =
    run_refuses (is_listed (0 ∷ 1 ∷ [])) BadEnum v.body (big_number 4 (drop 0 run)) v.at (v.at + 4)
    w.first (flavor_is_not (big_number 4 (drop 0 run)) more) in
    stops_at reply_head v (record { at = v.at; reason = BadEnum })
    (beginning_stops v.body v.at (record { at = v.at; reason = BadEnum }) refused_there)

-- the second word is short, whichever it is
second_short : (stat : ℕ) (body : List ℕ) (at place : ℕ) → length body < at + 4 → place ≡ at
    → reading (cond (stat == 0) (verifier then accept) deny) body at
    ≡ Err (record { at = place; reason = Short })
unfolding reading verifier deny
second_short stat body at place h is = by_test (stat == 0)
  where
    by_test : (b : Bool)
        → reading (cond b (verifier then accept) deny) body at
        ≡ Err (record { at = place; reason = Short })
    by_test true = rw (lt-ltb (length body) (at + 4) h, is) refl
    by_test false = rw (lt-ltb (length body) (at + 4) h, is) refl

pub beginning_short : (body : List ℕ) (n at to : ℕ)
    → word_at (is_listed (0 ∷ 1 ∷ [])) BadEnum body at ≡ Ok (n, to) → to ≤ length body
    → length body < at + 8 → reading reply_head body at ≡ Err (short_after to (length body - to))
unfolding reading reply_head
beginning_short body n at to e within few =
    let end = word_ends (is_listed (0 ∷ 1 ∷ [])) BadEnum body n at to e in
    let next =
    second_short n body to (to + (length body - to) / 4 * 4) (omega (arith, few, end))
    (omega (arith, few, within, end)) in
    rw (e, next) refl
