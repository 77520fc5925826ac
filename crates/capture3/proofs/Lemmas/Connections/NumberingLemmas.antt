-- The numbers of messages, and the xids that are open after entries.
use Rattle.capture3.proofs.Common.{lengths, ◌≡◌, ℕ, ◌+◌, ◌<◌, ◌≤◌, nat_eq, Some, List, [], ◌∷◌, ◌++◌, length, length-append, refl, sym, ap, subst, ◌∙◌, arith, Item, Word, Entry, xid_in, xids_in, min, IfSome, map-append, open_xids, xid_of, before, number_limit, rank, HasNumber}
use Rattle.capture3.specs.Entry.{Begin, Call}
use Rattle.capture3.specs.declared.reader.entry.LentEntry.{LentEntry}
use Rattle.capture3.specs.declared.reader.entry.LentEntry.TheVariants as lent
use Rattle.capture3.specs.Kept.{IsLent}
use Rattle.capture3.specs.Numbering.{number_after, number_lent, rank_among}
use Rattle.capture3.proofs.Lemmas.Connections.KnownLemmas.{equality}
use Rattle.capture3.proofs.Lemmas.Connections.RankLemmas.{length-before, length-with_keys}

-- ---- open xids

pub open-append : (a b : List Entry) (xs : List ℕ)
    → open_xids xs (a ++ b) ≡ open_xids (open_xids xs a) b
open-append [] b xs = refl
open-append (Begin ∷ a) b xs = open-append a b []
open-append (Call m ∷ a) b xs = open-append a b (xs ++ xid_of m)
open-append (entry ∷ a) b xs = open-append a b xs

one_xid : (m : List Item) → length (xid_of m) ≤ 1
one_xid (Word name x ∷ items) = omega arith
one_xid m = omega arith

pub few_open : (a : List Entry) (xs : List ℕ) → length (open_xids xs a) ≤ length xs + length a
few_open [] xs = omega arith
few_open (Begin ∷ a) xs = omega (arith, few_open a [])
few_open (Call m ∷ a) xs =
    omega (lengths, few_open a (xs ++ xid_of m), one_xid m)
few_open (entry ∷ a) xs = omega (arith, few_open a xs)

-- an entry that is no call, and begins no connection
pub opened_still : (all : List Entry) (entry : Entry) (xs : List ℕ)
    → ((before : List ℕ) → open_xids before (entry ∷ []) ≡ before)
    → open_xids [] all ≡ xs → open_xids [] (all ++ entry ∷ []) ≡ xs
opened_still all entry xs still opened =
    open-append all (entry ∷ []) [] ∙ still (open_xids [] all) ∙ opened

pub opened_more : (all : List Entry) (calls : List (List Item)) (items : List Item)
    → xid_of items ≡ xid_in items ∷ [] → open_xids [] all ≡ xids_in calls
    → open_xids [] (all ++ Call items ∷ []) ≡ xids_in (calls ++ items ∷ [])
opened_more all calls items begins opened =
    open-append all (Call items ∷ []) []
    ∙ ap (λ (l : List ℕ). l ++ xid_of items) opened
    ∙ ap (λ (l : List ℕ). xids_in calls ++ l) begins
    ∙ sym (map-append xid_in calls (items ∷ []))

-- ---- numbers

pub numbered_in : (number x : ℕ) (xs ys : List ℕ) → ys ≡ xs
    → number ≡ min (rank nat_eq x xs) number_limit → number ≡ min (rank nat_eq x ys) number_limit
numbered_in number x xs ys same is =
    is ∙ ap (λ (l : List ℕ). min (rank nat_eq x l) number_limit) (sym same)

rank_few : (x : ℕ) (xs : List ℕ) → rank nat_eq x xs ≤ 1 + length xs
rank_few x xs =
    omega (
      arith,
      length-with_keys nat_eq equality (before nat_eq x xs) [],
      length-before nat_eq equality x xs,
    )

-- where there are few xids, numbers are ranks
min_is : (n m : ℕ) → n ≡ min m number_limit → m ≤ number_limit → n ≡ m
min_is n m is few = omega (arith, is, few)

number_is : (number x : ℕ) (xs : List ℕ) → length xs < number_limit
    → number ≡ min (rank nat_eq x xs) number_limit → number ≡ rank nat_eq x xs
number_is number x xs few is =
    min_is number (rank nat_eq x xs) is (omega (arith, few, rank_few x xs))

few_after : (front : List Entry) (entry : Entry) → length front + 1 < number_limit
    → length (open_xids [] (front ++ entry ∷ [])) < number_limit
few_after front entry few =
    omega (arith, few, few_open (front ++ entry ∷ []) [], length-append front (entry ∷ []))

-- a lent message has the number of its entry
pub lent_number : (one : LentEntry) (front : List Entry) (entry : Entry) (number : ℕ)
    → length front + 1 < number_limit → IsLent one entry
    → IfSome (number_lent one) (λ n. n ≡ number)
    → HasNumber number (open_xids [] (front ++ entry ∷ [])) entry
    → number_lent one ≡ number_after front entry
lent_number one front entry number few is own has =
    by_kind one (open_xids [] (front ++ entry ∷ [])) (few_after front entry few) is own has
  where
    by_kind : (one : LentEntry) (xs : List ℕ) → length xs < number_limit → IsLent one entry
        → IfSome (number_lent one) (λ n. n ≡ number) → HasNumber number xs entry
        → number_lent one ≡ rank_among xs entry
    by_kind lent.Begin xs few is own has = ap (rank_among xs) (sym is)
    by_kind (lent.Call call) xs few is own has =
        rw (own ∙ number_is number (xid_in is.0) xs few (subst (HasNumber number xs) is.3 has))
        (ap (rank_among xs) (sym is.3))
    by_kind lent.Turn xs few is own has = ap (rank_among xs) (sym is)
    by_kind (lent.Reply reply) xs few is own has =
        ap (λ (n : ℕ). Some n)
        (own ∙ number_is number (xid_in is.0) xs few (subst (HasNumber number xs) is.2 has))
        ∙ ap (rank_among xs) (sym is.2)
    by_kind lent.Close xs few is own has = ap (rank_among xs) (sym is)
    by_kind lent.End xs few is own has = ap (rank_among xs) (sym is)
