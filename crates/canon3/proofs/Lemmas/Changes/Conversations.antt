-- Conversations of other messages converse, if these are of the same procedures and no longer, and
-- their xids are others one to one.
use Rattle.canon3.proofs.Common.{◌≡◌, ℕ, ◌≤◌, List, [], ◌∷◌, length, map, sym, ap, ◌∙◌, arith, length-append, AllByRecursion, Item, Spells, zero_spelling, ReplyItems, xid_in, IsIn, HaveOneProcedure, AnswerCalls, max_bytes, Entry, Typed}
use Rattle.std.proofs.lemmas.List.{length-map}
use Rattle.std.proofs.lemmas.Simd.{map-map}
use Rattle.rpc_head.specs.Messages.{procedure_in}
use Rattle.capture3.specs.Capture.{total_size}
use Rattle.canon3.specs.Laws.{AreOfTheirBytes}
use Rattle.canon3.proofs.Lemmas.Renaming.RenamingLemmas.{all_mapped}
use Rattle.canon3.proofs.Lemmas.WellFormed.Conversations.{AreConversing, Conversation, IsSpelledCall, IsSpelledReply, all_in, in_map, items_of_reply, map_in, of_all, reply_items, stream_of, weight}
use Rattle.canon3.proofs.Lemmas.WellFormed.Files.{AreCapture, all_of, holds, total_of_anew, total_weight, typed_anew}
use Rattle.canon3.proofs.Lemmas.WellFormed.Messages.{FitsCall, FitsReply}

abbrev pub IsNoLonger : List Item → List Item → Type 0
IsNoLonger n m = length (zero_spelling n) ≤ length (zero_spelling m)

-- n has other values than m and is no longer
pub record IsLike (number : ℕ → ℕ) (m n : List Item) : Type 0 where
  pub spelled : Spells n (zero_spelling n)
  pub no_longer : IsNoLonger n m
  pub xid : xid_in n ≡ number (xid_in m)

-- what becomes of the items of a call, and of a reply
module _ (call reply : List Item → List Item) where
  abbrev pub changed_reply : ReplyItems → ReplyItems
  changed_reply r = record { id = r.id; items = reply r.items }

  abbrev pub changed : Conversation → Conversation
  changed c = record { calls = map call c.calls; replies = map changed_reply c.replies }

  pub record IsChange (number : ℕ → ℕ) (c : Conversation) : Type 0 where
    pub calls : (m : List Item) → IsIn m c.calls → IsSpelledCall m
        → FitsCall (call m) × IsLike number m (call m) × (procedure_in (call m) ≡ procedure_in m)
    pub replies : (r : ReplyItems) → IsIn r c.replies → IsSpelledReply r
        → FitsReply r.id (reply r.items) × IsLike number r.items (reply r.items)
    pub one_to_one : (a b : List Item) → IsIn a c.calls → IsIn b c.calls
        → number (xid_in a) ≡ number (xid_in b) → xid_in a ≡ xid_in b

  module _ (number : ℕ → ℕ) (c : Conversation) (h : AreConversing c) (k : IsChange number c) where
    of_call : (m : List Item) → IsIn m c.calls
        → IsSpelledCall (call m) × IsLike number m (call m)
        × (procedure_in (call m) ≡ procedure_in m)
    of_call m i =
        let s = of_all IsSpelledCall c.calls m h.calls_are i in
        let d = k.calls m i s in
        (((d.0, d.1.spelled), omega (arith, d.1.no_longer, s.1)), d.1, d.2)

    of_reply : (r : ReplyItems) → IsIn r c.replies
        → IsSpelledReply (changed_reply r) × IsLike number r.items (reply r.items)
    of_reply r i =
        let s = of_all IsSpelledReply c.replies r h.replies_are i in
        let d = k.replies r i s in
        (((d.0, d.1.spelled), omega (arith, d.1.no_longer, s.1)), d.1)

    one_procedure : HaveOneProcedure (map call c.calls)
    one_procedure a b i j e =
        let p = in_map call c.calls a i.0 i.1 i.2 in
        let q = in_map call c.calls b j.0 j.1 j.2 in
        let m = of_call p.0 p.1 in
        let n = of_call q.0 q.1 in
        let same : xid_in p.0 ≡ xid_in q.0 =
        k.one_to_one p.0 q.0 p.1 q.1
        (sym m.1.xid ∙ (rw (p.2, q.2) at e) ∙ n.1.xid) in
        rw (p.2, q.2, m.2, n.2) (h.one_procedure p.0 q.0 p.1 q.1 same)

    answers : AnswerCalls (map call c.calls) (map changed_reply c.replies)
    answers other i =
        let p = in_map changed_reply c.replies other i.0 i.1 i.2 in
        let a = h.answers p.0 p.1 in
        let m = of_call a.0 a.1 in
        rw p.2 (
          call a.0,
          map_in call c.calls a.0 a.1,
          m.1.xid ∙ ap number a.2 ∙ sym (of_reply p.0 p.1).1.xid,
          m.2 ∙ a.3,
        )

    pub conversing_changed : AreConversing (changed c)
    conversing_changed = record {
      calls_are =
          all_mapped _ IsSpelledCall call (λ m i. (of_call m i).0) c.calls
          (all_in _ c.calls (λ m i. i));
      replies_are =
          all_mapped _ IsSpelledReply changed_reply (λ r i. (of_reply r i).0) c.replies
          (all_in _ c.replies (λ r i. i));
      one_procedure = one_procedure;
      answers = answers;
    }

    pub weight_changed : weight (changed c) ≤ weight c
    weight_changed =
        let same : reply_items (map changed_reply c.replies) ≡ map reply (reply_items c.replies) =
        simp map-map in
        omega (
          arith,
          shorter call c.calls (all_in _ c.calls (λ m i. (of_call m i).1.no_longer)),
          shorter reply (reply_items c.replies) (all_mapped _ _ items_of_reply
              (λ r i. (of_reply r i).1.no_longer) c.replies (all_in _ c.replies (λ r i. i))),
          ap (λ l. length (stream_of l)) same,
        )
      where
        shorter : (f : List Item → List Item) (l : List (List Item))
            → AllByRecursion (λ m. IsNoLonger (f m) m) l
            → length (stream_of (map f l)) ≤ length (stream_of l)
        shorter f [] s = omega arith
        shorter f (m ∷ l) s = simp length-append (omega (arith, s.0, shorter f l s.1))

-- ---- captures

module _ (f : Conversation → Conversation)
    (keeps : (c : Conversation) → AreConversing c → weight c ≤ max_bytes
    → AreConversing (f c) × (weight (f c) ≤ weight c)) where
  all_changed : (cs : List Conversation) → AllByRecursion AreConversing cs
      → total_weight cs ≤ max_bytes
      → AllByRecursion AreConversing (map f cs) × (total_weight (map f cs) ≤ total_weight cs)
  all_changed [] h small = (tt, omega arith)
  all_changed (c ∷ cs) h small =
      let one = keeps c h.0 (omega (arith, small)) in
      let later = all_changed cs h.1 (omega (arith, small)) in
      ((one.0, later.0), omega (arith, one.1, later.1))

  pub capture_changed : (cs : List Conversation) → AreCapture cs → AreCapture (map f cs)
  capture_changed cs h =
      let n = all_changed cs h.converse h.small in
      record {
        converse = n.0;
        few = rw length-map h.few;
        small = omega (arith, n.1, h.small);
      }

  -- the changed entries are those of their own bytes, in no more stream bytes
  pub file_changed : (file : List ℕ) (all : List Entry) (typed : Typed file all)
      → (others : List Entry) → others ≡ all_of (map f (holds file all typed).cs)
      → AreOfTheirBytes others (total_size typed.connections)
  file_changed file all typed others is =
      let h = holds file all typed in
      let are = capture_changed h.cs h.are in
      rw is (
        typed_anew (map f h.cs) are,
        omega (
          arith,
          total_of_anew (map f h.cs) are,
          (all_changed h.cs h.are.converse h.are.small).1,
          h.light,
        ),
      )
