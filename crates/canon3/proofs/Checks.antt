-- Small captures are checked by computing.
use Rattle.std.proofs.Common.{◌≡◌, ◌≢◌, ℕ, Bool, true, false, ◌&&◌, List, [], ◌∷◌, ◌++◌, length, refl, arith, nat_lt, ltb-true}
use Rattle.canon3.proofs.Common.{nat_eq, list_any, Decides-eqb, Word, Entry, Begin, Call, Turn, Reply, Close, End, handles, verifiers, Member, here, there, IsHandle, IsVerifier, canonical, Same}
use Rattle.canon3.proofs.Lemmas.Order.Order.{Stage, Between, InCalls, InReplies, Over, begin, call, turn, reply, close, end, Runs, stays, steps, IsWellFormed}
use Rattle.canon3.proofs.Lemmas.Numbers.RankLemmas.{member_of_test}
use Rattle.canon3.proofs.Lemmas.Renaming.Equality.{same_from_canonical}
use Rattle.canon3.proofs.Lemmas.Canonical.OneFormLemmas.{canonical-same}

and_left : (a b : Bool) → (a && b) ≡ true → a ≡ true
and_left true b e = refl
and_left false b e = absurd cc

and_right : (a b : Bool) → (a && b) ≡ true → b ≡ true
and_right true b e = e
and_right false b e = absurd cc

abbrev ordered : Stage → List Entry → Bool
ordered s [] = true
ordered Between (Begin ∷ es) = ordered (InCalls []) es
ordered Between (End ∷ es) = ordered Over es
ordered (InCalls xs) (Call (Word name x ∷ items) ∷ es) = ordered (InCalls (xs ++ x ∷ [])) es
ordered (InCalls xs) (Turn ∷ es) = ordered (InReplies xs) es
ordered (InReplies xs) (Reply id (Word name x ∷ items) ∷ es) =
    list_any (nat_eq x) xs && ordered (InReplies xs) es
ordered (InReplies xs) (Close ∷ es) = ordered Between es
ordered _ _ = false

runs_by : (s : Stage) (es : List Entry) → ordered s es ≡ true → (t : Stage) × Runs s es t
runs_by Between [] e = (Between, stays)
runs_by Between (Begin ∷ es) e = let r = runs_by (InCalls []) es e in (r.0, steps begin r.1)
runs_by Between (End ∷ es) e = let r = runs_by Over es e in (r.0, steps end r.1)
runs_by Between _ e = absurd cc
runs_by (InCalls xs) [] e = (InCalls xs, stays)
runs_by (InCalls xs) (Call (Word name x ∷ items) ∷ es) e =
    let r = runs_by (InCalls (xs ++ x ∷ [])) es e in
    (r.0, steps (call (Word name x ∷ items) tt) r.1)
runs_by (InCalls xs) (Turn ∷ es) e = let r = runs_by (InReplies xs) es e in (r.0, steps turn r.1)
runs_by (InCalls xs) _ e = absurd cc
runs_by (InReplies xs) [] e = (InReplies xs, stays)
runs_by (InReplies xs) (Reply id (Word name x ∷ items) ∷ es) e =
    let r =
    runs_by (InReplies xs) es
    (and_right (list_any (nat_eq x) xs) (ordered (InReplies xs) es) e) in (
      r.0,
      steps
          (reply (Word name x ∷ items) (member_of_test nat_eq Decides-eqb x xs
          (and_left (list_any (nat_eq x) xs) (ordered (InReplies xs) es) e))) r.1,
    )
runs_by (InReplies xs) (Close ∷ es) e = let r = runs_by Between es e in (r.0, steps close r.1)
runs_by (InReplies xs) _ e = absurd cc
runs_by Over [] e = (Over, stays)
runs_by Over _ e = absurd cc

abbrev handles_fit : List (List ℕ) → Bool
handles_fit [] = true
handles_fit (h ∷ hs) = (nat_lt 0 (length h) && nat_lt (length h) 65) && handles_fit hs

fit_by : (hs : List (List ℕ)) → handles_fit hs ≡ true → (h : List ℕ) → Member h hs → IsHandle h
fit_by [] e h m = elim m [ ]
fit_by (k ∷ hs) e h here =
    let own = and_left (nat_lt 0 (length k) && nat_lt (length k) 65) (handles_fit hs) e in (
      omega (
        arith,
        ltb-true 0 (length k) (and_left (nat_lt 0 (length k)) (nat_lt (length k) 65) own),
      ),
      omega (
        arith,
        ltb-true (length k) 65
            (and_right (nat_lt 0 (length k)) (nat_lt (length k) 65) own),
      ),
    )
fit_by (k ∷ hs) e h (there m) =
    fit_by hs (and_right (nat_lt 0 (length k) && nat_lt (length k) 65) (handles_fit hs) e) h m

abbrev verifiers_fit : List (List ℕ) → Bool
verifiers_fit [] = true
verifiers_fit (v ∷ vs) = nat_eq (length v) 8 && verifiers_fit vs

verifiers_by : (vs : List (List ℕ)) → verifiers_fit vs ≡ true → (v : List ℕ) → Member v vs
    → IsVerifier v
verifiers_by [] e v m = elim m [ ]
verifiers_by (w ∷ vs) e v here =
    (Decides-eqb (length w) 8).0 (and_left (nat_eq (length w) 8) (verifiers_fit vs) e)
verifiers_by (w ∷ vs) e v (there m) =
    verifiers_by vs (and_right (nat_eq (length w) 8) (verifiers_fit vs) e) v m

abbrev pub checks : List Entry → Bool
checks es =
    ordered Between es
    && (handles_fit (handles es)
    && (verifiers_fit (verifiers es)
    && (nat_lt (length (handles es)) 100 && nat_lt (length (verifiers es)) 100)))

pub in_order_by : (es : List Entry) → checks es ≡ true → IsWellFormed es
in_order_by es e =
    let a = handles_fit (handles es) in
    let b = verifiers_fit (verifiers es) in
    let c = nat_lt (length (handles es)) 100 in
    let d = nat_lt (length (verifiers es)) 100 in
    let run = runs_by Between es (and_left (ordered Between es) (a && (b && (c && d))) e) in
    let after_run = and_right (ordered Between es) (a && (b && (c && d))) e in
    let after_handles = and_right a (b && (c && d)) after_run in
    let counts = and_right b (c && d) after_handles in
    record {
      stage = run.0;
      run = run.1;
      handles_fit = fit_by (handles es) (and_left a (b && (c && d)) after_run);
      verifiers_fit = verifiers_by (verifiers es) (and_left b (c && d) after_handles);
      few_handles = omega (arith, ltb-true (length (handles es)) 100 (and_left c d counts));
      few_verifiers = omega (arith, ltb-true (length (verifiers es)) 100 (and_right c d counts));
    }

pub same_by : (a b : List Entry) → checks a ≡ true → checks b ≡ true → canonical a ≡ canonical b
    → Same a b
same_by a b p q e = same_from_canonical a b (in_order_by a p) (in_order_by b q) e

pub not_same_by : (a b : List Entry) → canonical a ≢ canonical b → Same a b → ⊥
not_same_by a b d s = d (canonical-same s)
