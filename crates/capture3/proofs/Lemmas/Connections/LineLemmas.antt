-- Calls in a line, each at the home of its xid.
use Rattle.capture3.proofs.Common.{◌≡◌, ◌≢◌, ℕ, zero, suc, ◌==◌, ◌+◌, ◌-◌, ◌<◌, ◌≤◌, ◌%◌, Bool, true, false, cond, if◌then◌else◌, nat_eq, Option, Some, None, List, [], ◌∷◌, ◌++◌, length, take, take_all, refl, sym, ap, ◌∙◌, eq-eqb, eqb-true, arith, slice_get, swap_bytes, w32, home_of, XidCounting, NumberedCall, AreSame, Puts, at_home, lined, get_or, replicate, reverse, set, ◌^◌, slice_get_past, from_be_bytes, to_be_bytes, to_le_bytes}
use Rattle.std.proofs.Math.Dec.{eqb-suc-suc, eqb-suc-zero, eqb-zero-suc}
use Rattle.std.proofs.lemmas.Nat.{be_bytes_4, from_be_bytes-to_be_bytes_4}
use Rattle.capture3.proofs.Lemmas.Connections.RankLemmas.{by_test}

-- ---- homes

all_bytes : (n i : ℕ) → get_or (to_le_bytes w32 n) i 0 < 256
all_bytes n zero = omega arith
all_bytes n (suc zero) = omega arith
all_bytes n (suc (suc zero)) = omega arith
all_bytes n (suc (suc (suc zero))) = omega arith
all_bytes n (suc (suc (suc (suc i)))) = omega arith

pub swapped_twice : (n : ℕ) → n < 2 ^ 32 → swap_bytes w32 (swap_bytes w32 n) ≡ n
swapped_twice n lt =
    let m = swap_bytes w32 n in
    let bytes : to_be_bytes w32 m ≡ to_le_bytes w32 n =
    be_bytes_4 (to_le_bytes w32 n) m refl (all_bytes n) refl in
    ap (λ (l : List ℕ). from_be_bytes w32 (reverse l)) bytes ∙ from_be_bytes-to_be_bytes_4 n lt

swapped_below : (n : ℕ) → swap_bytes w32 n < 4294967296
swapped_below n = omega arith

apart_still : (m n k : ℕ) → m < 4294967296 → n < 4294967296
    → (m + k) % 4294967296 ≡ (n + k) % 4294967296 → m ≡ n
apart_still m n k small_m small_n e = omega (arith, small_m, small_n, e)

-- no two xids have one home
pub one_at_home : (counting : XidCounting) (a b : ℕ) → a < 2 ^ 32 → b < 2 ^ 32
    → home_of counting a ≡ home_of counting b → a ≡ b
unfolding home_of
one_at_home counting a b small_a small_b e = by_order counting.swapped e
  where
    by_order : (s : Bool)
        → ((if s then swap_bytes w32 a else a) + (2 ^ 32 - counting.first)) % 2 ^ 32
        ≡ ((if s then swap_bytes w32 b else b) + (2 ^ 32 - counting.first)) % 2 ^ 32 → a ≡ b
    by_order true same =
        let swapped =
        apart_still (swap_bytes w32 a) (swap_bytes w32 b) (2 ^ 32 - counting.first)
        (swapped_below a) (swapped_below b) same in
        sym (swapped_twice a small_a) ∙ ap (swap_bytes w32) swapped ∙ swapped_twice b small_b
    by_order false same = apart_still a b (2 ^ 32 - counting.first) small_a small_b same

-- ---- the homes of a line that changes

pub is_apart : (a b : ℕ) → (a ≡ b → ⊥) → nat_eq a b ≡ false
is_apart a b apart = by_test (nat_eq a b) (λ is. absurd (apart (eqb-true a b is))) (λ is. is)

-- the call at the i-th home
abbrev pub home_at : List NumberedCall → ℕ → Option NumberedCall
home_at line i = at_home (slice_get line i)

pub at_home_is : (call : NumberedCall) → call.number ≢ 0 → at_home (Some call) ≡ Some call
at_home_is call some = ap (λ b. cond b None (Some call)) (is_apart call.number 0 some)

pub nothing_past : (line : List NumberedCall) (i : ℕ) → length line ≤ i → home_at line i ≡ None
nothing_past line i past = ap at_home (slice_get_past line i past)

pub emptied : (line : List NumberedCall) (n : ℕ) (none : NumberedCall) → none.number ≡ 0 → (i : ℕ)
    → home_at (line ++ replicate n none) i ≡ home_at line i
emptied [] zero none is i = refl
emptied [] (suc n) none is zero = ap (λ b. cond b None (Some none)) (eq-eqb none.number 0 is)
emptied [] (suc n) none is (suc i) = emptied [] n none is i
emptied (call ∷ line) n none is zero = refl
emptied (call ∷ line) n none is (suc i) = emptied line n none is i

pub pushed : (line : List NumberedCall) (call : NumberedCall) → call.number ≢ 0 → (i : ℕ)
    → home_at (line ++ call ∷ []) i ≡ (if length line == i then Some call else home_at line i)
pushed [] call some zero = at_home_is call some
pushed [] call some (suc i) = ap (λ b. cond b (Some call) None) (sym (eqb-zero-suc i))
pushed (one ∷ line) call some zero =
    ap (λ b. cond b (Some call) (home_at (one ∷ line) zero)) (sym (eqb-suc-zero (length line)))
pushed (one ∷ line) call some (suc i) =
    pushed line call some i
    ∙ ap (λ b. cond b (Some call) (home_at line i)) (sym (eqb-suc-suc (length line) i))

pub replaced : (line : List NumberedCall) (at : ℕ) (call : NumberedCall) → call.number ≢ 0
    → at < length line → (i : ℕ)
    → home_at (set line at call) i ≡ (if at == i then Some call else home_at line i)
replaced [] at call some within i = absurd (omega (arith, within))
replaced (one ∷ line) zero call some within zero = at_home_is call some
replaced (one ∷ line) zero call some within (suc i) =
    ap (λ b. cond b (Some call) (home_at line i)) (sym (eqb-zero-suc i))
replaced (one ∷ line) (suc at) call some within zero =
    ap (λ b. cond b (Some call) (home_at (one ∷ line) zero)) (sym (eqb-suc-zero at))
replaced (one ∷ line) (suc at) call some within (suc i) =
    replaced line at call some (omega (arith, within)) i
    ∙ ap (λ b. cond b (Some call) (home_at line i)) (sym (eqb-suc-suc at i))

-- ---- the xids of a line that changes

-- what is put at its home is put for its xid
pub puts_home : (counting : XidCounting) (old new : List NumberedCall) (xid : ℕ)
    (call : NumberedCall)
    → xid < 2 ^ 32
    → ((i : ℕ) → home_at new i
    ≡ (if home_of counting xid == i then Some call else home_at old i))
    → Puts (lined counting old) xid call (lined counting new)
puts_home counting old new xid call small puts q small_q =
    puts (home_of counting q)
    ∙ rw (by_test (nat_eq xid q)
    (λ t.
    eq-eqb (home_of counting xid) (home_of counting q)
    (ap (home_of counting) (eqb-true xid q t)) ∙ sym t) (λ f.
    is_apart (home_of counting xid) (home_of counting q)
    (λ e. differ f (one_at_home counting xid q small small_q e)) ∙ sym f))
  where
    differ : nat_eq xid q ≡ false → xid ≡ q → ⊥
    differ f e = let t = eq-eqb xid q e in absurd (cc)

-- a call after the last home, up to which the line was filled with empty ones
pub puts_last : (counting : XidCounting) (line grown : List NumberedCall) (xid : ℕ)
    (call : NumberedCall) → xid < 2 ^ 32 → call.number ≢ 0
    → ((i : ℕ) → home_at grown i ≡ home_at line i) → length grown ≡ home_of counting xid
    → Puts (lined counting line) xid call (lined counting (grown ++ call ∷ []))
puts_last counting line grown xid call small some same ends =
    puts_home counting line (grown ++ call ∷ []) xid call small
    (λ i. pushed grown call some i
    ∙ ap (λ (n : ℕ). if n == i then Some call else home_at grown i) ends
    ∙ ap (λ (o : Option NumberedCall). if home_of counting xid == i then Some call else o) (same i))

pub filled : (line : List NumberedCall) (upto n : ℕ) (none : NumberedCall) → length line ≤ upto
    → none.number ≡ 0 → (i : ℕ) → home_at (take upto line ++ replicate n none) i ≡ home_at line i
filled line upto n none short is i =
    ap (λ (l : List NumberedCall). home_at (l ++ replicate n none) i) (take_all upto line short)
    ∙ emptied line n none is i

-- a call in a home of the line
pub puts_set : (counting : XidCounting) (line : List NumberedCall) (at xid : ℕ)
    (call : NumberedCall)
    → xid < 2 ^ 32 → call.number ≢ 0 → at ≡ home_of counting xid → at < length line
    → Puts (lined counting line) xid call (lined counting (set line at call))
puts_set counting line at xid call small some is within =
    puts_home counting line (set line at call) xid call small
    (λ i. replaced line at call some within i
    ∙ ap (λ (n : ℕ). if n == i then Some call else home_at line i) is)

-- the xid of a line's only call has the first home, however the xids count
pub counted_anew : (old new : XidCounting) (line : List NumberedCall) (first : ℕ) → length line ≡ 1
    → first < 2 ^ 32 → home_of old first ≡ 0 → home_of new first ≡ 0
    → AreSame (lined old line) (lined new line)
counted_anew old new line first one small in_old in_new q small_q =
    by_test (nat_eq q first)
    (λ t. let is = eqb-true q first t in
    ap (home_at line) (ap (home_of new) is ∙ in_new ∙ sym in_old ∙ sym (ap (home_of old) is)))
    (λ f. nothing_past line (home_of new q) (not_first (home_of new q)
    (λ e. differ f (one_at_home new q first small_q small (e ∙ sym in_new))))
    ∙ sym (nothing_past line (home_of old q) (not_first (home_of old q)
    (λ e. differ f (one_at_home old q first small_q small (e ∙ sym in_old))))))
  where
    differ : nat_eq q first ≡ false → q ≡ first → ⊥
    differ f e = let t = eq-eqb q first e in absurd (cc)

    not_first : (i : ℕ) → (i ≡ 0 → ⊥) → length line ≤ i
    not_first zero other = absurd (other refl)
    not_first (suc i) other = omega (arith, one)
