-- What an entry is written as in the canonical form.
use Rattle.canon3.proofs.Common.{◌≡◌, ◌<◌, ◌≤◌, ◌^◌, ◌⊎◌, inl, inr, ℕ, List, [], ◌∷◌, ◌++◌, length, length-append, append-nil, drop, refl, subst, sym, ap, ◌∙◌, arith, Some, nat_eq, max_body, Item, Spells, Word, word_bytes, zero_spelling, Entry, Begin, Call, Turn, Reply, Close, End, items_of, MessageWriter, chunk_bytes, message_bytes, record_bytes, open_xids, xid_in, xid_of, AreFirst, rank, IsLentAfter, handles, handles_in, verifiers, verifiers_in, LentEntry, items_after, message_after, bytes_after, spelling_of, HasSpelled, AreFew, HoldsBefore, IsGoing, IsNotedAs, IsWithinMessage, WriterRests, WriterStands, values_before, values_of}
use Rattle.patches.specs.Patches.{patched}
use Rattle.capture3.specs.Numbering.{number_after}
use Rattle.canon3.specs.declared.canonical_form.spelling.Spelling.{Spelling}
use Rattle.canon3.specs.declared.canonical_form.spelling.Spelling.TheVariants.{Zero, One, Message}
use Rattle.capture3.specs.declared.reader.entry.CallRef.{CallRef}
use Rattle.capture3.specs.declared.reader.entry.ReplyRef.{ReplyRef}
use Rattle.capture3.specs.declared.reader.entry.LentEntry.TheVariants as lent
use Rattle.capture3.specs.MessageVisit.{HasHeard}
use Rattle.canon3.specs.machinery.MessageWriter.{IsNotedMessage, message_of}
use Rattle.capture3.proofs.Lemmas.Connections.NumberingLemmas.{open-append}
use Rattle.canon3.proofs.Lemmas.Order.First.{first_in_order}
use Rattle.canon3.proofs.Lemmas.Order.Order.{BeginsWithXid}
use Rattle.canon3.proofs.Lemmas.Canonical.Growing.{answering_begins, handles_push, last_paired, verifiers_push}
use Rattle.canon3.proofs.Lemmas.Writing.Opening.{is_held, is_under_way}
use Rattle.canon3.proofs.Lemmas.Writing.Visiting.{items_of_writer-append}

are_few : (entries : List Entry) (one : Entry) → AreFirst (entries ++ one ∷ [])
    → AreFew (handles entries ++ handles_in (items_of one))
    (verifiers entries ++ verifiers_in (items_of one))
are_few entries one first =
    let order = first_in_order (entries ++ one ∷ []) first in (
      rw (handles_push entries one) at order.few_handles,
      rw (verifiers_push entries one) at order.few_verifiers,
    )

module _ {S H : Type 0} (n : MessageWriter S H) (entries : List Entry) where
  -- the items of a message that the writer was passed
  within : (items : List Item) → IsGoing n → WriterStands n (values_before entries ++ items)
      → IsWithinMessage n (values_of entries) items
  within items going stands =
      is_under_way n (values_of entries) items going
      (subst (WriterStands n) (sym (items_of_writer-append (values_of entries) [] items)) stands)

  holds_after : (one : Entry) (number : ℕ) → IsWithinMessage n (values_of entries) (items_of one)
      → HoldsBefore (record n { xid = number }) (values_of (entries ++ one ∷ []))
  holds_after one number u = record {
    handles = rw (handles_push entries one, u.begins) u.handles;
    verifiers = rw (verifiers_push entries one, u.begins) u.verifiers;
  }

  -- ---- an entry that is no message

  word_held : (one : Entry) (form : Spelling) → spelling_of form n ≡ bytes_after entries (one ∷ [])
      → items_of one ≡ [] → IsGoing n → WriterRests n (values_before entries)
      → HasSpelled n form entries one
  word_held one form is none going rests =
      let h = is_held n (values_of entries) going rests in
      record {
        holds = record {
          handles = rw (handles_push entries one, none, append-nil) h.handles;
          verifiers = rw (verifiers_push entries one, none, append-nil) h.verifiers;
        };
        spelled = is;
      }

  -- ---- a message

  message_is : (number : ℕ) (body name : List ℕ) (x : ℕ) (items others : List Item)
      → IsNotedAs n.patches items others → Spells (Word name x ∷ items) body
      → length body ≤ max_body
      → message_of (record n { xid = number }) body ≡ zero_spelling (Word name number ∷ others)
  message_is number body name x items others noted (front, back, first, more, split) short =
      let rest : drop 4 body ≡ back = rw (split, first.1) in
      let few : length back < 2 ^ 64 =
      omega (arith, short, ap length split, length-append front back) in
      ap (λ (l : List ℕ). word_bytes number ++ l)
      (ap (patched n.patches) rest ∙ (noted back more few).makes)

  -- its xid has the number that is its rank among these
  message_with : (xs : List ℕ) (items : List Item) (number : ℕ) (body : List ℕ)
      → BeginsWithXid items → Spells items body → length body ≤ max_body
      → Some number ≡ Some (rank nat_eq (xid_in items) xs)
      → AreFew (handles entries ++ handles_in items) (verifiers entries ++ verifiers_in items)
      → IsWithinMessage n (values_of entries) items
      → chunk_bytes (record_bytes (message_of (record n { xid = number }) body))
      ≡ message_bytes (message_after (handles entries) (verifiers entries) xs items) ++ []
  message_with xs (Word name x ∷ rest) number body begins spells short is few u =
      let items : List Item = Word name x ∷ rest in
      let after : u.rest ≡ rest = cc (u.begins) in
      let noted = subst (IsNotedMessage n.patches (values_of entries)) after u.noted in
      let others = items_after (handles entries) (verifiers entries) rest in
      let same : number ≡ rank nat_eq x xs = cc in
      ap (λ (l : List ℕ). chunk_bytes (record_bytes l))
      (message_is number body name x rest others (noted few) spells short
      ∙ ap (λ k. zero_spelling (Word name k ∷ others)) same)
      ∙ sym
      (append-nil
      (message_bytes (message_after (handles entries) (verifiers entries) xs items)))
  message_with xs _ number body begins spells short is few u = absurd begins

  -- ---- a lent entry of each kind

  pub begin_spelled : (entry : LentEntry) (one : Entry) → entry ≡ lent.Begin
      → IsLentAfter entries entry one → IsGoing n
      → HasHeard WriterRests WriterStands n (values_before entries) one
      → HasSpelled n One entries one
  begin_spelled entry one is of =
      let this : one ≡ Begin = rw is at of.0 in
      rw this (word_held Begin One (sym (append-nil (word_bytes 1))) refl)

  pub word_spelled : (entry : LentEntry) (one : Entry)
      → (entry ≡ lent.Turn) ⊎ ((entry ≡ lent.Close) ⊎ (entry ≡ lent.End))
      → IsLentAfter entries entry one → IsGoing n
      → HasHeard WriterRests WriterStands n (values_before entries) one
      → HasSpelled n Zero entries one
  word_spelled entry one (inl is) of =
      let this : one ≡ Turn = rw is at of.0 in
      rw this (word_held Turn Zero (sym (append-nil (word_bytes 0))) refl)
  word_spelled entry one (inr (inl is)) of =
      let this : one ≡ Close = rw is at of.0 in
      rw this (word_held Close Zero (sym (append-nil (word_bytes 0))) refl)
  word_spelled entry one (inr (inr is)) of =
      let this : one ≡ End = rw is at of.0 in
      rw this (word_held End Zero (sym (append-nil (word_bytes 0))) refl)

  pub call_spelled : (entry : LentEntry) (one : Entry) (call : CallRef) → entry ≡ lent.Call call
      → IsLentAfter entries entry one → AreFirst (entries ++ one ∷ []) → IsGoing n
      → HasHeard WriterRests WriterStands n (values_before entries) one
      → HasSpelled (record n { xid = call.number }) (Message call.body) entries one
  call_spelled entry one call is of =
      let ((items, spells, asks, this), number) = rw is at of in
      let ranked : Some call.number
      ≡ Some (rank nat_eq (xid_in items) (open_xids [] entries ++ xid_of items)) =
      number
      ∙ (ap (number_after entries) this
      ∙ ap (λ xs. Some (rank nat_eq (xid_in items) xs))
      (open-append entries (Call items ∷ []) [])) in
      rw this (λ first going stands.
      let u = within items going stands in
      record {
        holds = holds_after (Call items) call.number u;
        spelled =
            message_with (open_xids [] entries ++ xid_of items) items call.number call.body.now
            (last_paired entries (Call items) first).0 spells.1 call.short ranked
            (are_few entries (Call items) first) u;
      })

  pub reply_spelled : (entry : LentEntry) (one : Entry) (reply : ReplyRef)
      → entry ≡ lent.Reply reply → IsLentAfter entries entry one → AreFirst (entries ++ one ∷ [])
      → IsGoing n → HasHeard WriterRests WriterStands n (values_before entries) one
      → HasSpelled (record n { xid = reply.number }) (Message reply.body) entries one
  reply_spelled entry one reply is of =
      let ((items, spells, this), number) = rw is at of in
      let ranked : Some reply.number ≡ Some (rank nat_eq (xid_in items) (open_xids [] entries)) =
      number
      ∙ (ap (number_after entries) this
      ∙ ap (λ xs. Some (rank nat_eq (xid_in items) xs))
      (open-append entries (Reply reply.id items ∷ []) [])) in
      rw this (λ first going stands.
      let u = within items going stands in
      record {
        holds = holds_after (Reply reply.id items) reply.number u;
        spelled =
            message_with (open_xids [] entries) items reply.number reply.body.now
            (answering_begins (open_xids [] entries) items
            (last_paired entries (Reply reply.id items) first).0) spells.1 reply.short ranked
            (are_few entries (Reply reply.id items) first) u;
      })
