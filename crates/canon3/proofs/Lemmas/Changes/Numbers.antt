-- Messages, conversations and captures under canonical numbers.
use Rattle.canon3.proofs.Common.{◌≡◌, ℕ, ◌<◌, ◌≤◌, ◌^◌, List, [], ◌∷◌, ◌++◌, length, map, refl, sym, ap, ◌∙◌, arith, append_assoc, append-nil, nat_eq, bytes_eq, Decides-eqb, Item, Opaque, Handle, WriteVerf, ProcId, Spells, zero_spelling, rank, numbered_item, numbered_message, numbered, canonical, handles, verifiers, Member, ReplyItems, xid_in, call_head, reply_head, arguments_of, max_bytes, Entry, Call, Turn, Close, call_xids, reply_entry, Typed}
use Rattle.xdr3.specs.Named.{listed}
use Rattle.xdr3.specs.Shape.{Shape, choose, hyper, fixed, write_verf, opaque, nothing, both, linked, sized, Fits}
use Rattle.xdr3.specs.Layout.{Layout, exactly, remaining, after}
use Rattle.xdr3.proofs.Lemmas.Shapes.ShapeParts.{HasParts, Part, RowHasParts, opaque_part, parts_weaker, row_weaker, write_verf_part}
use Rattle.rpc_head.specs.Messages.{procedure_in}
use Rattle.capture3.specs.Capture.{total_size}
use Rattle.procs3.proofs.HeadParts.{call_head_parts, reply_head_parts}
use Rattle.procs3.proofs.ProcedureParts.{IsProtocolRow, arguments_have_parts, reply_has_parts}
use Rattle.procs3.proofs.ProtocolParts.{HasRoom, IsProtocolPart, IsUnnumbered}
use Rattle.canon3.specs.Laws.{AreOfTheirBytes}
use Rattle.canon3.proofs.Lemmas.Numbers.RankLemmas.{rank-le-length, same_rank}
use Rattle.canon3.proofs.Lemmas.Changes.Shapes.{IsSpelledAnew, ItemStaysAsLong, RowTakes, Takes, become_mapped, size_stays}
use Rattle.canon3.proofs.Lemmas.Changes.Messages.{ChangesTo, HeadsStay, call_becomes, message_anew, procedure_becomes, reply_becomes}
use Rattle.canon3.proofs.Lemmas.Changes.Conversations.{IsChange, IsLike, changed, changed_reply, conversing_changed, capture_changed, file_changed, weight_changed}
use Rattle.canon3.proofs.Lemmas.WellFormed.Conversations.{AreConversing, Conversation, weight}
use Rattle.canon3.proofs.Lemmas.WellFormed.Conversing.{call_known, length_of_xids, reply_known, xids_of}
use Rattle.canon3.proofs.Lemmas.WellFormed.Files.{AreCapture, all_of, all_regrouped, holds}
use Rattle.canon3.proofs.Lemmas.WellFormed.Items.{IsEach, are_bytes_of_number, length_of_opaque, zero_spelled_one}
use Rattle.canon3.proofs.Lemmas.WellFormed.Messages.{BeginsWithWord, FitsCall, FitsReply, call_begins, reply_begins, reply_next}

module _ (hs vs : List (List ℕ)) where
  abbrev IsNumbered : Item → Item → Type 0
  IsNumbered i j = j ≡ numbered_item hs vs i

  -- ---- shapes

  stays_as_long : (part : Part) → IsUnnumbered part → IsEach (ItemStaysAsLong IsNumbered) part
  stays_as_long (opaque_part Handle name max) h = absurd h
  stays_as_long (opaque_part _ name max) h = λ bytes le j e. rw e refl
  stays_as_long (write_verf_part name) h = absurd h
  stays_as_long _ h = λ x j e. rw e refl

  handle_fits : (name bytes : List ℕ) (max : ℕ) → 4 ≤ max → length bytes ≤ max
      → Fits (opaque Handle name max) (numbered_item hs vs (Opaque Handle name bytes) ∷ [])
  handle_fits name [] max room le = ([], omega arith, refl)
  handle_fits name (b ∷ bs) max room le = (_, omega arith, refl)

  takes : (s : Shape) → HasParts HasRoom s → Takes IsNumbered s
  takes (choose name accepted reason next) h =
      ((λ n j a e. (n, e, a, refl)), λ n. takes (next n) (h.1 n))
  takes (hyper name) h = λ n j e. rw e (n, refl)
  takes (fixed name) h = λ bytes j e. rw e (bytes, refl)
  takes (write_verf name) h = λ bytes j e. rw e (_, refl)
  takes (opaque Handle name max) h = λ bytes j le e. rw e (handle_fits name bytes max h.0 le)
  takes (opaque _ name max) h = λ bytes j le e. rw e (bytes, le, refl)
  takes nothing h = tt
  takes (both a b) h = (takes a h.0, takes b h.1)
  takes (linked name s) h = ((λ n j e. e), takes s h.1)
  takes (sized name s) h = (
    (λ n j e. e),
    size_stays IsNumbered s
        (parts_weaker IsUnnumbered (IsEach (ItemStaysAsLong IsNumbered)) stays_as_long s h.0),
    takes s h.1,
  )

  row_takes : (layout : Layout) → IsProtocolRow layout → RowTakes IsNumbered layout
  row_takes layout h =
      of_room layout (row_weaker IsProtocolPart HasRoom (λ part is. is.room) layout h)
    where
      of_room : (layout : Layout) → RowHasParts HasRoom layout → RowTakes IsNumbered layout
      of_room (exactly s) k = takes s k
      of_room (remaining name) k = λ bytes j e. (bytes, e)
      of_room (after s next) k = absurd k

  is_spelled : IsSpelledAnew IsNumbered
  is_spelled (Opaque Handle name (b ∷ bs)) j bytes e p =
      rw e (
        (
          [],
          omega arith,
          are_bytes_of_number 4 (rank bytes_eq (b ∷ bs) hs),
          refl,
          (λ i. omega arith),
          refl,
        ),
        omega (arith, length_of_opaque (b ∷ bs)),
      )
  is_spelled (WriteVerf name v) j bytes e p =
      rw e ((refl, are_bytes_of_number 8 (rank bytes_eq v vs), refl), omega (arith, p.0))
  is_spelled i j bytes e p = rw e (zero_spelled_one i bytes p, omega arith)

  -- ---- messages

  heads_stay : HeadsStay IsNumbered
  heads_stay = record {
    prog = λ n j e. e;
    vers = λ n j e. e;
    proc = λ n j e. e;
    reply_stat = λ n j e. e;
    accept_stat = λ n j e. e;
  }

  starts : (types : List ℕ) → Takes IsNumbered (listed "mtype" types)
  starts types = takes (listed "mtype" types) (tt, λ n. tt)

  module _ (xs : List ℕ) where
    abbrev under : List Item → List Item
    under items = numbered_message hs vs xs items

    abbrev change : (items : List Item) → BeginsWithWord items
        → ChangesTo IsNumbered items (under items)
    change items b = record {
      first = b;
      number = rank nat_eq b.number xs;
      later = map (numbered_item hs vs) b.more;
      each = become_mapped (numbered_item hs vs) b.more;
      is = rw b.is refl;
    }

    pub call_numbered : (items : List Item) → FitsCall items → FitsCall (under items)
    call_numbered items p =
        call_becomes IsNumbered heads_stay starts
        (takes call_head (call_head_parts HasRoom (λ part is. is.room) tt))
        (λ id. row_takes (arguments_of id) (arguments_have_parts id)) items (under items) p
        (change items (call_begins items p))

    pub procedure_numbered : (items : List Item) → FitsCall items
        → procedure_in (under items) ≡ procedure_in items
    procedure_numbered items p =
        procedure_becomes IsNumbered heads_stay items (under items) p
        (change items (call_begins items p))

    pub reply_numbered : (id : ProcId) (items : List Item) → FitsReply id items
        → FitsReply id (under items)
    reply_numbered id items p =
        reply_becomes IsNumbered heads_stay starts
        (takes reply_head
        (parts_weaker IsProtocolPart HasRoom (λ part is. is.room) reply_head reply_head_parts))
        (λ id l. row_takes (reply_next id l) (reply_has_parts id l)) id items (under items) p
        (change items (reply_begins id items p))

    -- the number of the xid is a word
    message_numbered : length xs < 2 ^ 32 → (m : List Item) → BeginsWithWord m
        → Member (xid_in m) xs → Spells m (zero_spelling m)
        → IsLike (λ x. rank nat_eq x xs) m (under m)
    message_numbered few m b k p =
        let low : rank nat_eq b.number xs < 2 ^ 32 =
        omega (arith, few, rank-le-length nat_eq Decides-eqb (rw b.is at k)) in
        let n =
        message_anew IsNumbered is_spelled m (under m) (zero_spelling m) (change m b) low p in
        record { spelled = n.0; no_longer = n.1; xid = rw b.is refl }

  -- ---- conversations

  abbrev pub numbered_conversation : Conversation → Conversation
  numbered_conversation c = changed (under (xids_of c.calls)) (under (xids_of c.calls)) c

  conversation_numbered : (c : Conversation) → AreConversing c → weight c ≤ max_bytes
      → AreConversing (numbered_conversation c) × (weight (numbered_conversation c) ≤ weight c)
  conversation_numbered c h small =
      let xs = xids_of c.calls in
      let few : length xs < 2 ^ 32 = omega (arith, length_of_xids c.calls, small) in
      let k : IsChange (under xs) (under xs) (λ x. rank nat_eq x xs) c =
      record {
        calls = λ m i s. (
          call_numbered xs m s.0.0,
          message_numbered xs few m (call_begins m s.0.0) (call_known c h m i) s.0.1,
          procedure_numbered xs m s.0.0,
        );
        replies = λ r i s. (
          reply_numbered xs r.id r.items s.0.0,
          message_numbered xs few r.items (reply_begins r.id r.items s.0.0) (reply_known c h r i)
              s.0.1,
        );
        one_to_one = λ a b i j e.
            same_rank nat_eq Decides-eqb (call_known c h a i) (call_known c h b j) e;
      } in (
        conversing_changed (under xs) (under xs) (λ x. rank nat_eq x xs) c h k,
        weight_changed (under xs) (under xs) (λ x. rank nat_eq x xs) c h k,
      )

  pub capture_numbered : (cs : List Conversation) → AreCapture cs
      → AreCapture (map numbered_conversation cs)
  capture_numbered = capture_changed numbered_conversation conversation_numbered

-- ---- the entries of a capture

call_xids-calls : (calls : List (List Item)) (tail : List Entry)
    → call_xids (map Call calls ++ tail) ≡ xids_of calls ++ call_xids tail
call_xids-calls [] tail = refl
call_xids-calls (m ∷ calls) tail = simp (call_xids-calls calls, append_assoc)

call_xids-replies : (replies : List ReplyItems) (tail : List Entry)
    → call_xids (map reply_entry replies ++ tail) ≡ call_xids tail
call_xids-replies [] tail = refl
call_xids-replies (r ∷ replies) tail = call_xids-replies replies tail

-- no call comes before the next Begin
no_calls : (cs : List Conversation) → call_xids (all_of cs) ≡ []
no_calls [] = refl
no_calls (c ∷ cs) = refl

own_xids : (c : Conversation) (cs : List Conversation)
    → call_xids (map Call c.calls ++ (Turn ∷ (map reply_entry c.replies ++ (Close ∷ all_of cs))))
    ≡ xids_of c.calls
own_xids c cs =
    rw (call_xids-calls c.calls, call_xids-replies c.replies, no_calls cs, append-nil)

module _ (hs vs : List (List ℕ)) where
  numbered-calls : (xs : List ℕ) (calls : List (List Item)) (tail : List Entry)
      → numbered hs vs xs (map Call calls ++ tail)
      ≡ map Call (map (numbered_message hs vs xs) calls) ++ numbered hs vs xs tail
  numbered-calls xs [] tail = refl
  numbered-calls xs (m ∷ calls) tail = simp (numbered-calls xs calls)

  numbered-replies : (xs : List ℕ) (replies : List ReplyItems) (tail : List Entry)
      → numbered hs vs xs (map reply_entry replies ++ tail)
      ≡ map reply_entry (map (changed_reply (λ m. m) (numbered_message hs vs xs)) replies)
      ++ numbered hs vs xs tail
  numbered-replies xs [] tail = refl
  numbered-replies xs (r ∷ replies) tail = simp (numbered-replies xs replies)

  pub numbered-all : (cs : List Conversation) (xs : List ℕ)
      → numbered hs vs xs (all_of cs) ≡ all_of (map (numbered_conversation hs vs) cs)
  numbered-all [] xs = refl
  numbered-all (c ∷ cs) xs =
      let own = xids_of c.calls in
      ap (numbered hs vs xs) (all_regrouped c cs)
      ∙ rw (
        own_xids c cs,
        numbered-calls own c.calls,
        numbered-replies own c.replies,
        numbered-all cs own,
      ) (sym (all_regrouped (numbered_conversation hs vs c) _))

  -- the canonical entries of a well-formed file
  pub canonical_of : (file : List ℕ) (all : List Entry) (typed : Typed file all)
      → numbered hs vs [] all
      ≡ all_of (map (numbered_conversation hs vs) (holds file all typed).cs)
  canonical_of file all typed =
      let h = holds file all typed in
      ap (numbered hs vs []) h.is ∙ numbered-all h.cs []

-- the canonical form has the entries of its own bytes, in no more stream bytes
pub canonical_is_file : (file : List ℕ) (all : List Entry) (typed : Typed file all)
    → AreOfTheirBytes (canonical all) (total_size typed.connections)
canonical_is_file file all typed =
    let hs = handles all in
    let vs = verifiers all in
    file_changed (numbered_conversation hs vs) (conversation_numbered hs vs) file all typed
    (canonical all) (canonical_of hs vs file all typed)
