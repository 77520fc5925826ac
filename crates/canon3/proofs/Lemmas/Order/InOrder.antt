-- The entries of a well-formed file are in order, and their handles and write verifiers fit.
use Rattle.canon3.proofs.Common.{ℕ, ◌≤◌, List, [], ◌∷◌, ◌++◌, length, map, sym, subst, arith, length-append, append_assoc, append-nil, AllByRecursion, flat_map, Item, Spells, zero_spelling, max_bytes, Entry, Begin, Call, items_of, IsIn, reply_entry, Typed, handles_in, verifiers_in, xid_of, Member, IsHandle, IsVerifier, ReplyItems, xid_in}
use Rattle.capture3.specs.Laws.{spelled}
use Rattle.capture3.proofs.Lemmas.Reached.Limits.{typed_within}
use Rattle.canon3.proofs.Lemmas.Order.Order.{BeginsWithXid, IsAnswering, Between, InCalls, InReplies, Over, begin, call, turn, reply, close, end, Runs, stays, steps, IsWellFormed}
use Rattle.canon3.proofs.Lemmas.Renaming.RenamingLemmas.{all_weaker}
use Rattle.canon3.proofs.Lemmas.WellFormed.Items.{IsShort, all_members, handles_are, verifiers_are, few_handles, few_verifiers}
use Rattle.canon3.proofs.Lemmas.WellFormed.Messages.{BeginsWithWord, call_begins, reply_begins, call_short, reply_short}
use Rattle.canon3.proofs.Lemmas.WellFormed.Conversations.{all_in, of_all, Conversation, IsSpelledCall, IsSpelledReply, AreConversing}
use Rattle.canon3.proofs.Lemmas.WellFormed.Conversing.{xids_of, reply_known}
use Rattle.canon3.proofs.Lemmas.WellFormed.Files.{all_entries, all_of, all_regrouped, holds}

-- ---- order

begins_with_xid : (m : List Item) → BeginsWithWord m → BeginsWithXid m
begins_with_xid m b = rw b.is tt

answering : (xs : List ℕ) (m : List Item) → BeginsWithWord m → Member (xid_in m) xs
    → IsAnswering xs m
answering xs m b k = rw b.is (rw b.is at k)

runs_calls : (calls : List (List Item)) (tail : List Entry) (xs : List ℕ)
    → AllByRecursion IsSpelledCall calls → Runs (InCalls (xs ++ xids_of calls)) tail Over
    → Runs (InCalls xs) (map Call calls ++ tail) Over
runs_calls [] tail xs h r = rw append-nil at r
runs_calls (m ∷ calls) tail xs h r =
    steps (call m (begins_with_xid m (call_begins m h.0.0.0)))
    (runs_calls calls tail (xs ++ xid_of m) h.1 (rw append_assoc r))

runs_replies : (replies : List ReplyItems) (tail : List Entry) (xs : List ℕ)
    → AllByRecursion (λ r. IsAnswering xs r.items) replies → Runs (InReplies xs) tail Over
    → Runs (InReplies xs) (map reply_entry replies ++ tail) Over
runs_replies [] tail xs h r = r
runs_replies (m ∷ replies) tail xs h r =
    steps (reply m.items h.0) (runs_replies replies tail xs h.1 r)

reply_answers : (c : Conversation) → AreConversing c → (r : ReplyItems) → IsIn r c.replies
    → IsAnswering (xids_of c.calls) r.items
reply_answers c h r i =
    answering (xids_of c.calls) r.items
    (reply_begins r.id r.items (of_all IsSpelledReply c.replies r h.replies_are i).0.0)
    (reply_known c h r i)

pub runs_all : (cs : List Conversation) → AllByRecursion AreConversing cs
    → Runs Between (all_of cs) Over
runs_all [] h = steps end stays
runs_all (c ∷ cs) h =
    subst (λ l. Runs Between l Over) (sym (all_regrouped c cs))
    (steps begin (runs_calls c.calls _ [] h.0.calls_are
    (steps turn (runs_replies c.replies _ (xids_of c.calls)
    (all_in _ c.replies (reply_answers c h.0)) (steps close (runs_all cs h.1))))))

-- ---- handles and write verifiers

record HasFit (m : List Item) : Type 0 where
  handle_fits : (h : List ℕ) → Member h (handles_in m) → IsHandle h
  verifier_fits : (v : List ℕ) → Member v (verifiers_in m) → IsVerifier v
  handle_count : length (handles_in m) ≤ length (zero_spelling m)
  verifier_count : length (verifiers_in m) ≤ length (zero_spelling m)

abbrev EntryFits : Entry → Type 0
EntryFits e = HasFit (items_of e)

nothing_fits : HasFit []
nothing_fits =
    record {
      handle_fits = λ h m. elim m [ ];
      verifier_fits = λ v m. elim m [ ];
      handle_count = omega arith;
      verifier_count = omega arith;
    }

message_fits : (m : List Item) (body : List ℕ) → AllByRecursion IsShort m → Spells m body → HasFit m
message_fits m body s p =
    record {
      handle_fits = handles_are m s;
      verifier_fits = verifiers_are m body p;
      handle_count = few_handles m body p;
      verifier_count = few_verifiers m body p;
    }

call_fits : (m : List Item) → IsSpelledCall m → EntryFits (Call m)
call_fits m s = message_fits m (zero_spelling m) (call_short m s.0.0) s.0.1

reply_fits : (r : ReplyItems) → IsSpelledReply r → EntryFits (reply_entry r)
reply_fits r s = message_fits r.items (zero_spelling r.items) (reply_short r.id r.items s.0.0) s.0.1

count_of : (f : List Item → List (List ℕ)) (es : List Entry)
    → AllByRecursion (λ e. length (f (items_of e)) ≤ length (zero_spelling (items_of e))) es
    → length (flat_map (λ e. f (items_of e)) es) ≤ spelled es
count_of f [] h = omega arith
count_of f (Begin ∷ es) h =
    rw length-append (omega (arith, h.0, count_of f es h.1))
count_of f (_ ∷ es) h = rw length-append (omega (arith, h.0, count_of f es h.1))

in_order : (cs : List Conversation) → AllByRecursion AreConversing cs
    → spelled (all_of cs) ≤ max_bytes → IsWellFormed (all_of cs)
in_order cs h small =
    let all = all_of cs in
    let fit : AllByRecursion EntryFits all =
    all_entries EntryFits call_fits reply_fits nothing_fits nothing_fits nothing_fits nothing_fits
    cs h in
    record {
      stage = Over;
      run = runs_all cs h;
      handles_fit =
          all_members IsHandle (λ e. handles_in (items_of e)) all
          (all_weaker _ _ (λ e f. f.handle_fits) all fit);
      verifiers_fit =
          all_members IsVerifier (λ e. verifiers_in (items_of e)) all
          (all_weaker _ _ (λ e f. f.verifier_fits) all fit);
      few_handles =
          omega (
            arith,
            small,
            count_of handles_in all (all_weaker _ _ (λ e f. f.handle_count) all fit),
          );
      few_verifiers =
          omega (
            arith,
            small,
            count_of verifiers_in all (all_weaker _ _ (λ e f. f.verifier_count) all fit),
          );
    }

pub typed_in_order : (file : List ℕ) (all : List Entry) → Typed file all → IsWellFormed all
typed_in_order file all typed =
    let h = holds file all typed in
    let small : spelled all ≤ max_bytes = (typed_within file all typed).small in
    rw h.is (in_order h.cs h.are.converse (rw h.is at small))
