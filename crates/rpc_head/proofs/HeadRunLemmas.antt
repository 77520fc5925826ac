-- Words of heads that are read as one run.
use Rattle.std.proofs.Common.{inl, inr, ◌≡◌, ℕ, ◌+◌, ◌-◌, ◌*◌, ◌/◌, ◌<◌, ◌≤◌, Bool, true, false, cond, ltb, List, [], ◌∷◌, ◌++◌, length, take, drop, Ok, Err, refl, sym, ap, subst, ◌∙◌, arith}
use Rattle.std.proofs.lemmas.Bool.{cases_lt, ne_eqb, ltb-false, lt-ltb, le-ltb}
use Rattle.std.proofs.lemmas.List.{drop-drop, drop-take}
use Rattle.rpc_head.proofs.Common.{big_number, GetError, Stop, Item, Word, Scans, Stops, MovesOn, View, Adds, moves_both, adds_joined, called, BadEnum, Flavor, RpcVersion, Short, number_at, reading, refused, run_at, word_at, Shape, ◌then◌, choose, is_any, is_listed, nothing, word, word_named, Opening}
use Rattle.byteorder.specs.Numbers.{big_from-take}
use Rattle.xdr3.specs.declared.reason.GetError.TheVariants as errors
use Rattle.xdr3.specs.declared.reason.Reason.{Reason}
use Rattle.xdr3.proofs.Lemmas.Reading.Bytes.{accept_ok, bind_ok, guard_ok, run_takes}
use Rattle.rpc_head.specs.HeadScan.{ScansCallHead}
use Rattle.rpc_head.specs.machinery.HeadEnds.{credential_of}
use Rattle.rpc_head.specs.machinery.HeadRuns.{ScansOpening, opening_in, short_after}
use Rattle.rpc_head.specs.Shapes.{call_head, credential, verifier}

pub stops_at : (shape : Shape) (v : View) (stop : Stop) → reading shape v.body v.at ≡ Err stop
    → Stops shape v (errors.Stop stop)
unfolding Stops
stops_at shape v stop h =
    λ other is. h ∙ ap (λ (s : Stop). Err s) (let same : stop ≡ other = cc in same)

-- a word of a run stands in the body
pub run_word : (k m : ℕ) (body run : List ℕ) (at to from next : ℕ)
    → run_at (k + m) body at ≡ Ok (run, to) → 4 ≤ m → from ≡ at + k → from + 4 ≡ next
    → number_at 4 body from ≡ Ok (big_number 4 (drop k run), next)
run_word k m body run at to from next e h is next-is =
    let g =
    guard_ok (ltb (length body) (at + (k + m))) (record { at = at; reason = Short })
    (take (k + m) (drop at body), at + (k + m)) (run, to) e in
    let long : at + (k + m) ≤ length body = ltb-false _ _ g.0 in
    let fits : ltb (length body) (from + 4) ≡ false = le-ltb _ _ (omega (arith, long, h, is)) in
    let run-is : take (k + m) (drop at body) ≡ run = ap (λ (x : List ℕ × ℕ). x.0) g.1 in
    let same : big_number 4 (drop k run) ≡ big_number 4 (drop from body) =
    ap (λ (x : List ℕ). big_number 4 (drop k x)) (sym run-is)
    ∙ ap (big_number 4) (drop-take k m (drop at body))
    ∙ big_from-take 0 4 m (drop k (drop at body)) h ∙ ap (big_number 4) (drop-drop k at body)
    ∙ ap (λ (n : ℕ). big_number 4 (drop n body)) (sym is) in
    rw (fits, same, next-is) refl

-- the same where only some words are accepted
pub run_accepts : (accepted : ℕ → Bool) (other : Reason) (body : List ℕ) (n at to : ℕ)
    → number_at 4 body at ≡ Ok (n, to) → accepted n ≡ true
    → word_at accepted other body at ≡ Ok (n, to)
run_accepts accepted other body n at to e is = rw (e, is) refl

pub run_refuses : (accepted : ℕ → Bool) (other : Reason) (body : List ℕ) (n at to : ℕ)
    → number_at 4 body at ≡ Ok (n, to) → accepted n ≡ false
    → word_at accepted other body at ≡ Err (record { at = at; reason = other })
run_refuses accepted other body n at to e is = rw (e, is) refl

-- ---- words that are not whole

pub one_short : (name : List ℕ) (accepted : ℕ → Bool) (other : Reason) (next : ℕ → Shape)
    (rest : Shape) (body : List ℕ) (at place : ℕ) → length body < at + 4 → place ≡ at
    → reading (choose name accepted other next then rest) body at
    ≡ Err (record { at = place; reason = Short })
unfolding reading
one_short name accepted other next rest body at place h is =
    rw (lt-ltb (length body) (at + 4) h, is) refl

pub later_stop : (name : List ℕ) (rest : Shape) (body : List ℕ) (at : ℕ) (stop : Stop)
    → at + 4 ≤ length body → reading rest body (at + 4) ≡ Err stop
    → reading (word_named name then rest) body at ≡ Err stop
unfolding reading
later_stop name rest body at stop h e = rw (le-ltb (length body) (at + 4) h, e) refl

-- the first word that is not whole, after the RPC version
after_version_short : (body : List ℕ) (at left : ℕ) → left + at ≡ length body → left < 16
    → reading
    (word "prog" then word "vers" then word "proc"
    then credential then verifier) body at
    ≡ Err (record { at = at + left / 4 * 4; reason = Short })
unfolding credential
after_version_short body at left is few =
    let place = at + left / 4 * 4 in
    let last = credential then verifier in
    elim (cases_lt left 4) [
      | inl lt ↦ one_short (called "prog") is_any BadEnum (λ n. nothing)
          (word "vers" then word "proc" then last) body at (at + left / 4 * 4)
          (omega (arith, is, lt)) (omega (arith, lt))
      | inr le ↦ later_stop (called "prog")
          (word "vers" then word "proc" then last) body at
          (record { at = at + left / 4 * 4; reason = Short }) (omega (arith, is, le)) (
          elim (cases_lt left 8) [
            | inl lt ↦ one_short (called "vers") is_any BadEnum (λ n. nothing)
                (word "proc" then last) body (at + 4) (at + left / 4 * 4)
                (omega (arith, is, lt)) (omega (arith, le, lt))
            | inr le8 ↦ later_stop (called "vers") (word "proc" then last) body (at + 4)
                (record { at = at + left / 4 * 4; reason = Short }) (omega (arith, is, le8)) (
                elim (cases_lt left 12) [
                  | inl lt ↦ one_short (called "proc") is_any BadEnum (λ n. nothing) last body
                      (at + 4 + 4) (at + left / 4 * 4) (omega (arith, is, lt))
                      (omega (arith, le8, lt))
                  | inr le12 ↦ later_stop (called "proc") last body (at + 4 + 4)
                      (record { at = at + left / 4 * 4; reason = Short }) (omega (arith, is, le12))
                      (one_short (called "cred_flavor") (is_listed (0 ∷ 1 ∷ [])) Flavor
                      (λ flavor. credential_of flavor) verifier body (at + 4 + 4 + 4)
                      (at + left / 4 * 4) (omega (arith, is, few)) (omega (arith, le12, few)))
                ])
          ])
    ]

-- a word has four bytes
pub word_ends : (accepted : ℕ → Bool) (other : Reason) (body : List ℕ) (n at to : ℕ)
    → word_at accepted other body at ≡ Ok (n, to) → at + 4 ≡ to
word_ends accepted other body n at to e =
    let b =
    bind_ok (number_at 4 body at) (λ x. cond (accepted x.0) (Ok x) (refused at other)) (n, to) e in
    let taken = accept_ok (accepted b.0.0) (record { at = at; reason = other }) b.0 (n, to) b.2 in
    let g =
    guard_ok (ltb (length body) (at + 4)) (record { at = at; reason = Short })
    (big_number 4 (drop at body), at + 4) b.0 b.1 in
    ap (λ (x : ℕ × ℕ). x.1) (g.1 ∙ taken.1)

pub opening_short : (body : List ℕ) (n at to : ℕ)
    → word_at (is_listed (2 ∷ [])) RpcVersion body at ≡ Ok (n, to) → to ≤ length body
    → length body < at + 20
    → reading call_head body at ≡ Err (short_after to (length body - to))
unfolding reading call_head
opening_short body n at to e within few =
    let rest =
    after_version_short body to (length body - to) (omega (arith, within))
    (omega (arith, few, within, word_ends (is_listed (2 ∷ [])) RpcVersion body n at to e))
    in
    rw (e, rest) refl

pub version_stops : (body : List ℕ) (at : ℕ) (stop : Stop)
    → word_at (is_listed (2 ∷ [])) RpcVersion body at ≡ Err stop
    → reading call_head body at ≡ Err stop
unfolding reading call_head
version_stops body at stop e = rw e refl

-- ---- the words up to the credential's flavor

version_is : (n : ℕ) → n ≡ 2 → is_listed (2 ∷ []) n ≡ true
version_is n is = rw is refl

version_is_not : (n : ℕ) → (n ≡ 2 → ⊥) → is_listed (2 ∷ []) n ≡ false
version_is_not n other = rw (ne_eqb 2 n (λ is. other (sym is))) refl

pub flavor_is : (n : ℕ) → n ≤ 1 → is_listed (0 ∷ 1 ∷ []) n ≡ true
flavor_is n few = elim (cases_lt n 1) [
  | inl lt ↦ let is : n ≡ 0 = omega (arith, lt) in rw is refl
  | inr le ↦ let is : n ≡ 1 = omega (arith, le, few) in rw is refl
]

pub flavor_is_not : (n : ℕ) → 1 < n → is_listed (0 ∷ 1 ∷ []) n ≡ false
flavor_is_not n more =
    rw (
      ne_eqb 0 n (λ is. absurd (omega (arith, is, more))),
      ne_eqb 1 n (λ is. absurd (omega (arith, is, more))),
    ) refl

pub version_refused : (v v1 : View) (run : List ℕ) → run_at 20 v.body v.at ≡ Ok (run, v1.at)
    → (big_number 4 (drop 0 run) ≡ 2 → ⊥)
    → Stops call_head v (errors.Stop (record { at = v.at; reason = RpcVersion }))
version_refused v v1 run e other =
    let word =
    run_word 0 20 v.body run v.at v1.at v.at (v.at + 4) e (omega arith) (omega arith) refl in
    let refused_there =
    run_refuses (is_listed (2 ∷ [])) RpcVersion v.body (big_number 4 run) v.at (v.at + 4) word
    (version_is_not (big_number 4 run) other) in
    stops_at call_head v (record { at = v.at; reason = RpcVersion })
    (version_stops v.body v.at (record { at = v.at; reason = RpcVersion }) refused_there)

-- the words before the credential's flavor, and that word
record IsNamed (v : View) (run : List ℕ) : Type 0 where
  rpcvers : word_at (is_listed (2 ∷ [])) RpcVersion v.body v.at ≡ Ok (2, v.at + 4)
  prog : word_at is_any BadEnum v.body (v.at + 4) ≡ Ok (big_number 4 (drop 4 run), v.at + 8)
  vers : word_at is_any BadEnum v.body (v.at + 8) ≡ Ok (big_number 4 (drop 8 run), v.at + 12)
  proc : word_at is_any BadEnum v.body (v.at + 12) ≡ Ok (big_number 4 (drop 12 run), v.at + 16)
  flavor : number_at 4 v.body (v.at + 16) ≡ Ok (big_number 4 (drop 16 run), v.at + 20)

named : (v v1 : View) (run : List ℕ) → run_at 20 v.body v.at ≡ Ok (run, v1.at)
    → big_number 4 (drop 0 run) ≡ 2 → IsNamed v run
named v v1 run e is =
    let rpcvers =
    run_word 0 20 v.body run v.at v1.at v.at (v.at + 4) e (omega arith) (omega arith) refl in
    let prog =
    run_word 4 16 v.body run v.at v1.at (v.at + 4) (v.at + 8) e (omega arith) refl (omega arith) in
    let vers =
    run_word 8 12 v.body run v.at v1.at (v.at + 8) (v.at + 12) e (omega arith) refl (omega arith) in
    let proc =
    run_word 12 8 v.body run v.at v1.at (v.at + 12) (v.at + 16) e (omega arith) refl (omega arith)
    in
    record {
      rpcvers =
          run_accepts (is_listed (2 ∷ [])) RpcVersion v.body 2 v.at (v.at + 4)
          (rpcvers ∙ ap (λ (n : ℕ). Ok (n, v.at + 4)) is) refl;
      prog =
          run_accepts is_any BadEnum v.body (big_number 4 (drop 4 run)) (v.at + 4) (v.at + 8) prog
          refl;
      vers =
          run_accepts is_any BadEnum v.body (big_number 4 (drop 8 run)) (v.at + 8) (v.at + 12) vers
          refl;
      proc =
          run_accepts is_any BadEnum v.body (big_number 4 (drop 12 run)) (v.at + 12) (v.at + 16)
          proc refl;
      flavor =
          run_word 16 4 v.body run v.at v1.at (v.at + 16) (v.at + 20) e (omega arith) refl
          (omega arith);
    }

pub flavor_refused : (v v1 : View) (run : List ℕ) → run_at 20 v.body v.at ≡ Ok (run, v1.at)
    → big_number 4 (drop 0 run) ≡ 2 → 1 < (opening_in run).flavor
    → Stops call_head v (errors.Stop (record { at = v.at + 16; reason = Flavor }))
unfolding reading call_head credential opening_in
flavor_refused v v1 run e is more =
    let w = named v v1 run e is in
    let flavor =
    run_refuses (is_listed (0 ∷ 1 ∷ [])) Flavor v.body (big_number 4 (drop 16 run))
    (v.at + 16) (v.at + 20) w.flavor (flavor_is_not (big_number 4 (drop 16 run)) more) in
    stops_at call_head v (record { at = v.at + 16; reason = Flavor })
    (rw (w.rpcvers, w.prog, w.vers, w.proc, flavor) refl)

pub run_ends : (size : ℕ) (body run : List ℕ) (at to : ℕ) → run_at size body at ≡ Ok (run, to)
    → at + size ≡ to
run_ends size body run at to e =
    let g =
    guard_ok (ltb (length body) (at + size)) (record { at = at; reason = Short })
    (take size (drop at body), at + size) (run, to) e in
    ap (λ (x : List ℕ × ℕ). x.1) g.1

pub run_size_is : (size : ℕ) (body run : List ℕ) (at to : ℕ) → run_at size body at ≡ Ok (run, to)
    → length run ≡ size
run_size_is size body run at to e = (run_takes size body run at to e).len_is

passed_words : (a0 a1 b c0 c1 d0 d1 f0 f1 : ℕ) → a0 ≡ a1 → c0 ≡ c1 → d0 ≡ d1 → f0 ≡ f1
    → (Word (called "rpcvers") a0 ∷ Word (called "prog") b ∷ Word (called "vers") c0
    ∷ Word (called "proc") d0 ∷ Word (called "cred_flavor") f0 ∷ [])
    ≡ (Word (called "rpcvers") a1 ∷ Word (called "prog") b ∷ Word (called "vers") c1
    ∷ Word (called "proc") d1 ∷ Word (called "cred_flavor") f1 ∷ [])
passed_words a0 a1 b c0 c1 d0 d1 f0 f1 a c d f = cc

pub opening_scans : {V : Type 0} (stands : V → List Item → Type 0) (run : List ℕ) (v0 v1 : View)
    (s0 s1 : V) → run_at 20 v0.body v0.at ≡ Ok (run, v1.at) → MovesOn v0 v1
    → big_number 4 (drop 0 run) ≡ 2 → (opening_in run).flavor ≤ 1
    → Adds stands s0 s1 (Word (called "rpcvers") (big_number 4 run)
    ∷ Word (called "prog") (big_number 4 (drop 4 run))
    ∷ Word (called "vers") (big_number 4 (drop 4 (drop 4 run)))
    ∷ Word (called "proc") (big_number 4 (drop 4 (drop 4 (drop 4 run))))
    ∷ Word (called "cred_flavor") (big_number 4 (drop 4 (drop 4 (drop 4 (drop 4 run)))))
    ∷ [])
    → ScansOpening stands (opening_in run) v0 v1 s0 s1
unfolding opening_in
opening_scans stands run v0 v1 s0 s1 e moves is few a =
    let w = named v0 v1 run e is in
    let end : v0.at + 20 ≡ v1.at = run_ends 20 v0.body run v0.at v1.at e in
    let flavor =
    run_accepts (is_listed (0 ∷ 1 ∷ [])) Flavor v0.body (big_number 4 (drop 16 run))
    (v0.at + 16) (v0.at + 20) w.flavor (flavor_is (big_number 4 (drop 16 run)) few) in
    let d8 : drop 4 (drop 4 run) ≡ drop 8 run = drop-drop 4 4 run in
    let d12 : drop 4 (drop 4 (drop 4 run)) ≡ drop 12 run = ap (drop 4) d8 ∙ drop-drop 4 8 run in
    let d16 : drop 4 (drop 4 (drop 4 (drop 4 run))) ≡ drop 16 run =
    ap (drop 4) d12 ∙ drop-drop 4 12 run in
    record {
      rpcvers = w.rpcvers;
      prog = w.prog;
      vers = w.vers;
      proc = w.proc;
      flavor = flavor ∙ ap (λ (to : ℕ). Ok (big_number 4 (drop 16 run), to)) end;
      moves = moves;
      adds =
          subst (Adds stands s0 s1)
          (passed_words _ 2 (big_number 4 (drop 4 run)) _ (big_number 4 (drop 8 run))
          _ (big_number 4 (drop 12 run)) _ (big_number 4 (drop 16 run)) is
          (ap (big_number 4) d8) (ap (big_number 4) d12) (ap (big_number 4) d16)) a;
    }

-- ---- the whole head

pub head_scanned : {V : Type 0} (stands : V → List Item → Type 0) (opening : Opening)
    (v0 v1 v2 v3 : View) (s0 s1 s2 s3 : V) → ScansOpening stands opening v0 v1 s0 s1
    → Scans stands (credential_of opening.flavor) (v1, s1) (v2, s2)
    → Scans stands verifier (v2, s2) (v3, s3)
    → ScansCallHead stands opening.id (v0, s0) (v3, s3)
unfolding ScansCallHead Scans reading call_head credential
head_scanned stands opening v0 v1 v2 v3 s0 s1 s2 s3 o c v =
    let body1 = o.moves.same_body in
    let body2 = c.2.same_body ∙ body1 in
    let second : reading (credential_of opening.flavor) v0.body v1.at ≡ Ok (c.0, v2.at) =
    subst (λ (body : List ℕ). reading (credential_of opening.flavor) body v1.at ≡ Ok (c.0, v2.at))
    body1 c.1 in
    let third : reading verifier v0.body v2.at ≡ Ok (v.0, v3.at) =
    subst (λ (body : List ℕ). reading verifier body v2.at ≡ Ok (v.0, v3.at)) body2 v.1 in
    let items =
    Word (called "rpcvers") 2 ∷ Word (called "prog") opening.id.prog
    ∷ Word (called "vers") opening.id.vers ∷ Word (called "proc") opening.id.proc_no
    ∷ Word (called "cred_flavor") opening.flavor ∷ (c.0 ++ v.0) in (
      Word (called "rpcvers") 2 ∷ Word (called "prog") opening.id.prog
          ∷ Word (called "vers") opening.id.vers ∷ Word (called "proc") opening.id.proc_no
          ∷ Word (called "cred_flavor") opening.flavor ∷ (c.0 ++ v.0),
      rw (o.rpcvers, o.prog, o.vers, o.proc, o.flavor, second, third) refl,
      refl,
      moves_both v0 v1 v3 o.moves (moves_both v1 v2 v3 c.2 v.2),
      adds_joined stands s0 s1 s3
          (Word (called "rpcvers") 2 ∷ Word (called "prog") opening.id.prog
          ∷ Word (called "vers") opening.id.vers ∷ Word (called "proc") opening.id.proc_no
          ∷ Word (called "cred_flavor") opening.flavor ∷ []) (c.0 ++ v.0)
          (Word (called "rpcvers") 2 ∷ Word (called "prog") opening.id.prog
          ∷ Word (called "vers") opening.id.vers ∷ Word (called "proc") opening.id.proc_no
          ∷ Word (called "cred_flavor") opening.flavor ∷ (c.0 ++ v.0)) o.adds
          (adds_joined stands s1 s2 s3 c.0 v.0 (c.0 ++ v.0) c.3 v.3 refl) refl,
    )

pub credential_stops : {V : Type 0} (stands : V → List Item → Type 0) (opening : Opening)
    (v0 v1 : View) (s0 s1 : V) (e : GetError) → ScansOpening stands opening v0 v1 s0 s1
    → Stops (credential_of opening.flavor) v1 e → Stops call_head v0 e
unfolding Stops reading call_head credential
credential_stops stands opening v0 v1 s0 s1 e o h = λ stop is.
    let cut : reading (credential_of opening.flavor) v0.body v1.at ≡ Err stop =
    subst (λ (body : List ℕ). reading (credential_of opening.flavor) body v1.at ≡ Err stop)
    o.moves.same_body (h stop is) in
    rw (o.rpcvers, o.prog, o.vers, o.proc, o.flavor, cut) refl

pub verifier_stops : {V : Type 0} (stands : V → List Item → Type 0) (opening : Opening)
    (v0 v1 v2 : View) (s0 s1 s2 : V) (e : GetError) → ScansOpening stands opening v0 v1 s0 s1
    → Scans stands (credential_of opening.flavor) (v1, s1) (v2, s2) → Stops verifier v2 e
    → Stops call_head v0 e
unfolding Stops Scans reading call_head credential
verifier_stops stands opening v0 v1 v2 s0 s1 s2 e o c h = λ stop is.
    let body1 = o.moves.same_body in
    let second : reading (credential_of opening.flavor) v0.body v1.at ≡ Ok (c.0, v2.at) =
    subst (λ (body : List ℕ). reading (credential_of opening.flavor) body v1.at ≡ Ok (c.0, v2.at))
    body1 c.1 in
    let cut : reading verifier v0.body v2.at ≡ Err stop =
    subst (λ (body : List ℕ). reading verifier body v2.at ≡ Err stop) (c.2.same_body ∙ body1)
    (h stop is) in
    rw (o.rpcvers, o.prog, o.vers, o.proc, o.flavor, second, cut) refl

pub ruleset heads = (head_scanned, credential_stops, verifier_stops)
