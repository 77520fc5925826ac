-- Tables of calls: what a call that comes makes of them.
use Rattle.capture3.proofs.Common.{◌≡◌, ℕ, ◌==◌, ◌+◌, ◌<◌, Bool, true, false, cond, if◌then◌else◌, is_some, nat_eq, Option, Some, None, List, [], ◌∷◌, ◌++◌, length, refl, sym, ap, ◌∙◌, eq-eqb, eqb-true, arith, ProcId, Item, agrees, procedure_of, procedure_in, xid_in, NumberedCall, Gains, HasProcedures, IsTableOf, Known, KnowsNone, Puts, length-append, in_list, next_number, number_for, number_in, over, procedure_in_call, xids_in, ◌^◌, ◌||◌, min, IsSome, map-append, number_or, list_any, none-some, same_Some, distinct, number_limit, rank, with_key}
use Rattle.std.specs.Cmp.{IsEquivalence}
use Rattle.capture3.proofs.Lemmas.Connections.RankLemmas.{any-absent, any-distinct, before-absent, before-append, before-push, by_test, distinct-push}
use Rattle.capture3.proofs.Lemmas.Messages.BodiesLemmas.{same_is}

-- ---- a call that comes

pub same_either_way : (a b : ℕ) → nat_eq a b ≡ nat_eq b a
same_either_way a b = by_tests (nat_eq a b) refl (nat_eq b a) refl
  where
    by_tests : (x : Bool) → nat_eq a b ≡ x → (y : Bool) → nat_eq b a ≡ y → x ≡ y
    by_tests true is true other = refl
    by_tests false is false other = refl
    by_tests true is false other = let swapped = eq-eqb b a (sym (eqb-true a b is)) in cc
    by_tests false is true other = let swapped = eq-eqb a b (sym (eqb-true b a other)) in cc

-- a new call gets the next number
pub known_anew : (old new : Known) (xid : ℕ) (call : NumberedCall)
    → old.call_of xid ≡ None → call.number ≡ next_number old.count
    → Puts old.call_of xid call new.call_of → new.count ≡ call.number
    → (Some call.number ≡ number_for old xid call.id)
    × (IsSome (Some call.number) → Gains old xid call.id new)
known_anew old new xid call absent number puts count = (
  ap (λ (n : ℕ). Some n) number
      ∙ sym (ap (λ (o : Option NumberedCall). if agrees (procedure_in_call o) call.id then Some
      (number_or o (next_number old.count)) else None) absent),
  λ some. record {
    puts = λ q small. puts q small
        ∙ rw (number
        ∙ sym (ap (λ (o : Option NumberedCall). number_or o (next_number old.count)) absent));
    counts = count ∙ number
        ∙ sym (ap (λ (o : Option NumberedCall). if is_some o then old.count else next_number
        old.count) absent);
  },
)

-- ---- a line and the others

pub over_none : (line other : Option NumberedCall) → line ≡ None → over line other ≡ other
over_none line other none = ap (λ (o : Option NumberedCall). over o other) none

-- a call that is put into the line
pub puts_in_line : (old new others : ℕ → Option NumberedCall) (xid : ℕ) (call : NumberedCall)
    → Puts old xid call new
    → Puts (λ q. over (old q) (others q)) xid call (λ q. over (new q) (others q))
puts_in_line old new others xid call puts q small =
    ap (λ (o : Option NumberedCall). over o (others q)) (puts q small)
    ∙ by_case (nat_eq xid q)
  where
    by_case : (b : Bool) → over (cond b (Some call) (old q)) (others q)
        ≡ cond b (Some call) (over (old q) (others q))
    by_case true = refl
    by_case false = refl

-- a call at the end of a list that has none with its xid
pub puts_listed : (pairs : List (ℕ × NumberedCall)) (xid : ℕ) (call : NumberedCall)
    → in_list pairs xid ≡ None → Puts (in_list pairs) xid call (in_list (pairs ++ (xid, call) ∷ []))
puts_listed [] xid call none q small =
    ap (λ b. cond b (Some call) None) (same_either_way q xid)
puts_listed (pair ∷ pairs) xid call none q small =
    by_head (λ absent. puts_listed pairs xid call absent q small) (nat_eq xid pair.0) refl none
  where
    by_head : (in_list pairs xid ≡ None → in_list (pairs ++ (xid, call) ∷ []) q
        ≡ (if xid == q then Some call else in_list pairs q)) → (b : Bool) → nat_eq xid pair.0 ≡ b
        → cond b (Some pair.1) (in_list pairs xid) ≡ None
        → in_list ((pair ∷ pairs) ++ (xid, call) ∷ []) q
        ≡ (if xid == q then Some call else in_list (pair ∷ pairs) q)
    by_head later true is absent = absurd (none-some pair.1 (sym absent))
    by_head later false is absent =
        ap (cond (nat_eq q pair.0) (Some pair.1)) (later absent)
        ∙ by_test (nat_eq xid q)
        (λ t.
        let other : nat_eq q pair.0 ≡ false =
        ap (λ (x : ℕ). nat_eq x pair.0) (sym (eqb-true xid q t)) ∙ is in
        rw (t, other) refl)
        (λ f. rw f refl)

-- ---- the calls of a connection

-- a list has an xid exactly if a call has it
has_xid : (calls : List (List Item)) (xid : ℕ)
    → list_any (nat_eq xid) (xids_in calls) ≡ is_some (procedure_of calls xid)
has_xid [] xid = refl
has_xid (call ∷ calls) xid =
    ap (λ b. b || list_any (nat_eq xid) (xids_in calls)) (same_either_way xid (xid_in call))
    ∙ by_case (has_xid calls xid) (nat_eq (xid_in call) xid)
  where
    by_case : list_any (nat_eq xid) (xids_in calls) ≡ is_some (procedure_of calls xid) → (b : Bool)
        → (b || list_any (nat_eq xid) (xids_in calls))
        ≡ is_some (cond b (Some (procedure_in call)) (procedure_of calls xid))
    by_case more true = refl
    by_case more false = more

-- the first of two procedures that is there
abbrev either : Option ProcId → Option ProcId → Option ProcId
either None other = other
either (Some id) other = Some id

-- equal numbers
pub equality : IsEquivalence nat_eq
equality = record {
  refl = λ x. eq-eqb x x refl;
  symm = λ x y. same_either_way x y;
  congr = λ x y z t. ap (λ (k : ℕ). nat_eq k z) (eqb-true x y t);
}

-- the procedures, with one call more
procedure_more : (calls : List (List Item)) (call : List Item) (q : ℕ)
    → procedure_of (calls ++ call ∷ []) q
    ≡ either (procedure_of calls q)
    (if xid_in call == q then Some (procedure_in call) else None)
procedure_more [] call q = refl
procedure_more (one ∷ calls) call q = by_case (procedure_more calls call q) (nat_eq (xid_in one) q)
  where
    by_case : procedure_of (calls ++ call ∷ []) q
        ≡ either (procedure_of calls q)
        (if xid_in call == q then Some (procedure_in call) else None)
        → (b : Bool)
        → cond b (Some (procedure_in one)) (procedure_of (calls ++ call ∷ []) q)
        ≡ either (cond b (Some (procedure_in one)) (procedure_of calls q))
        (if xid_in call == q then Some (procedure_in call) else None)
    by_case more true = refl
    by_case more false = more

agrees_either : (known : Option ProcId) (id : ProcId) → agrees known id ≡ true
    → either known (Some id) ≡ Some id
agrees_either None id agree = refl
agrees_either (Some other) id agree = ap (λ (p : ProcId). Some p) (same_is other id agree)

either_none : (known : Option ProcId) → either known None ≡ known
either_none None = refl
either_none (Some id) = refl

-- where a call with this xid comes after others
module _ (calls : List (List Item)) (call : List Item) (xid : ℕ) (id : ProcId)
    (xid_is : xid_in call ≡ xid) (id_is : procedure_in call ≡ id) where
  xids_more : xids_in (calls ++ call ∷ []) ≡ xids_in calls ++ xid ∷ []
  xids_more = map-append xid_in calls (call ∷ []) ∙ ap (λ (x : ℕ). xids_in calls ++ x ∷ []) xid_is

  -- with its xid
  procedure_there : (q : ℕ) → nat_eq xid q ≡ true → agrees (procedure_of calls xid) id ≡ true
      → procedure_of (calls ++ call ∷ []) q ≡ Some id
  procedure_there q same agree =
      procedure_more calls call q
      ∙ ap (λ (x : ℕ). either (procedure_of calls q) (if x == q then Some (procedure_in call) else
      None)) xid_is
      ∙ ap (λ b. either (procedure_of calls q) (cond b (Some (procedure_in call)) None)) same
      ∙ ap (λ (x : ℕ). either (procedure_of calls x) (Some (procedure_in call)))
      (sym (eqb-true xid q same))
      ∙ ap (λ (p : ProcId). either (procedure_of calls xid) (Some p)) id_is
      ∙ agrees_either (procedure_of calls xid) id agree

  -- with another
  procedure_elsewhere : (q : ℕ) → nat_eq xid q ≡ false
      → procedure_of (calls ++ call ∷ []) q ≡ procedure_of calls q
  procedure_elsewhere q other =
      procedure_more calls call q
      ∙ ap (λ (x : ℕ). either (procedure_of calls q) (if x == q then Some (procedure_in call) else
      None)) xid_is
      ∙ ap (λ b. either (procedure_of calls q) (cond b (Some (procedure_in call)) None)) other
      ∙ either_none (procedure_of calls q)

-- a table without calls
pub table_empty : (table : Known) → KnowsNone table → IsTableOf table []
table_empty table none = record {
  procedures = λ xid small. ap procedure_in_call (none.0 xid);
  numbers = λ xid small call is. absurd (none-some call (sym (none.0 xid) ∙ is));
  count = none.1;
}

min_next : (n : ℕ) → next_number (min n number_limit) ≡ min (1 + n) number_limit
min_next n = omega arith

-- a table with one call more
module _ (old new : Known) (calls : List (List Item)) (call : List Item) (xid : ℕ) (id : ProcId)
    (xid_is : xid_in call ≡ xid) (id_is : procedure_in call ≡ id) (small : xid < 2 ^ 32)
    (table : IsTableOf old calls) (agree : agrees (procedure_of calls xid) id ≡ true)
    (gains : Gains old xid id new) where
  its_call : NumberedCall
  its_call = record { number = number_in old xid; id = id }

  -- whether the xid is known, of the table and of the calls
  is_known : (q : ℕ) → q < 2 ^ 32
      → list_any (nat_eq q) (xids_in calls) ≡ is_some (old.call_of q)
  is_known q small_q =
      has_xid calls q ∙ ap is_some (sym (table.procedures q small_q)) ∙ still (old.call_of q)
    where
      still : (o : Option NumberedCall) → is_some (procedure_in_call o) ≡ is_some o
      still None = refl
      still (Some c) = refl

  procedures_more : HasProcedures new (calls ++ call ∷ [])
  unfolding its_call
  procedures_more q small_q =
      by_test (nat_eq xid q)
      (λ t.
      ap procedure_in_call (gains.puts q small_q
      ∙ ap (λ b. cond b (Some its_call) (old.call_of q)) t)
      ∙ sym (procedure_there calls call xid id xid_is id_is q t agree))
      (λ f.
      ap procedure_in_call (gains.puts q small_q
      ∙ ap (λ b. cond b (Some its_call) (old.call_of q)) f)
      ∙ table.procedures q small_q ∙ sym (procedure_elsewhere calls call xid id xid_is id_is q f))

  its_number : number_in old xid ≡ min (rank nat_eq xid (xids_in calls ++ xid ∷ [])) number_limit
  its_number =
      by_known (old.call_of xid) refl
      ∙ ap (λ (l : List ℕ). min (1 + length (distinct nat_eq l)) number_limit)
      (sym (before-push nat_eq equality xid (xids_in calls)))
    where
      by_known : (o : Option NumberedCall) → old.call_of xid ≡ o
          → number_in old xid ≡ min (rank nat_eq xid (xids_in calls)) number_limit
      by_known (Some c) is =
          ap (λ (o : Option NumberedCall). number_or o (next_number old.count)) is
          ∙ table.numbers xid small c is
      by_known None is =
          ap (λ (o : Option NumberedCall). number_or o (next_number old.count)) is
          ∙ ap next_number table.count ∙ min_next (length (distinct nat_eq (xids_in calls)))
          ∙ ap (λ (l : List ℕ). min (1 + length (distinct nat_eq l)) number_limit)
          (sym (before-absent nat_eq equality xid (xids_in calls)
          (is_known xid small ∙ ap is_some is)))

  numbers_more : (q : ℕ) → q < 2 ^ 32 → (c : NumberedCall) → new.call_of q ≡ Some c
      → c.number ≡ min (rank nat_eq q (xids_in calls ++ xid ∷ [])) number_limit
  unfolding its_call
  numbers_more q small_q c is =
      by_test (nat_eq xid q)
      (λ t.
      ap (λ (o : NumberedCall). o.number) (sym (same_Some its_call c (sym (gains.puts q small_q
      ∙ ap (λ b. cond b (Some its_call) (old.call_of q)) t) ∙ is)))
      ∙ its_number
      ∙ rw (eqb-true xid q t))
      (λ f.
      let was : old.call_of q ≡ Some c =
      sym (gains.puts q small_q ∙ ap (λ b. cond b (Some its_call) (old.call_of q)) f) ∙ is in
      table.numbers q small_q c was
      ∙ rw (← (before-append nat_eq equality q (xids_in calls) (xid ∷ [])
      (is_known q small_q ∙ ap is_some was))))

  count_more : new.count
      ≡ min (length (distinct nat_eq (xids_in calls ++ xid ∷ []))) number_limit
  count_more =
      gains.counts
      ∙ by_known (is_some (old.call_of xid)) (is_known xid small)
      ∙ ap (λ (l : List ℕ). min (length l) number_limit)
      (sym (distinct-push nat_eq equality xid (xids_in calls)))
    where
      by_known : (b : Bool) → list_any (nat_eq xid) (xids_in calls) ≡ b
          → (if b then old.count else next_number old.count)
          ≡ min (length (with_key nat_eq (distinct nat_eq (xids_in calls)) xid)) number_limit
      by_known true is =
          table.count
          ∙ ap (λ b. min (length (cond b (distinct nat_eq (xids_in calls))
          (distinct nat_eq (xids_in calls) ++ xid ∷ []))) number_limit)
          (sym (any-distinct nat_eq equality xid (xids_in calls) [] is))
      by_known false is =
          ap next_number table.count ∙ min_next (length (distinct nat_eq (xids_in calls)))
          ∙ ap (λ (n : ℕ). min n number_limit)
          (sym (length-append (distinct nat_eq (xids_in calls)) (xid ∷ []) ∙ omega arith))
          ∙ ap (λ b. min (length (cond b (distinct nat_eq (xids_in calls))
          (distinct nat_eq (xids_in calls) ++ xid ∷ []))) number_limit)
          (sym (any-absent nat_eq equality xid (xids_in calls) [] refl is))

  pub table_added : IsTableOf new (calls ++ call ∷ [])
  table_added = record {
    procedures = procedures_more;
    numbers = λ q small_q c is. numbers_more q small_q c is
        ∙ rw (← (xids_more calls call xid id xid_is id_is));
    count = count_more
        ∙ rw (← (xids_more calls call xid id xid_is id_is));
  }

  -- the number that its call has
  pub number_added : number_in old xid
      ≡ min (rank nat_eq xid (xids_in (calls ++ call ∷ []))) number_limit
  number_added =
      its_number
      ∙ rw (← (xids_more calls call xid id xid_is id_is))

-- whether the calls agree with a call that comes
module _ (old : Known) (calls : List (List Item)) (xid : ℕ) (id : ProcId) (small : xid < 2 ^ 32)
    (table : IsTableOf old calls) where
  known_agrees : agrees (procedure_of calls xid) id
      ≡ agrees (procedure_in_call (old.call_of xid)) id
  known_agrees = ap (λ (p : Option ProcId). agrees p id) (sym (table.procedures xid small))

  pub admits_agree : (result : Option ℕ) (number : ℕ) → result ≡ Some number
      → result ≡ number_for old xid id → agrees (procedure_of calls xid) id ≡ true
  admits_agree result number some is =
      by_test (agrees (procedure_in_call (old.call_of xid)) id) (λ t. known_agrees ∙ t)
      (λ f. absurd (none-some number
      (sym (sym some ∙ is ∙ ap (λ b. cond b (Some (number_in old xid)) None) f))))

  pub admits_number : (result : Option ℕ) (number : ℕ) → result ≡ Some number
      → result ≡ number_for old xid id → number ≡ number_in old xid
  admits_number result number some is =
      by_test (agrees (procedure_in_call (old.call_of xid)) id)
      (λ t. same_Some number (number_in old xid)
      (sym some ∙ is ∙ ap (λ b. cond b (Some (number_in old xid)) None) t))
      (λ f. absurd (none-some number
      (sym (sym some ∙ is ∙ ap (λ b. cond b (Some (number_in old xid)) None) f))))
