-- The masked form of a well-formed file is a well-formed file.
use Rattle.masking3.proofs.Common.{◌≡◌, ℕ, ◌≤◌, List, [], ◌∷◌, ◌++◌, length, map, refl, ap, ◌∙◌, arith, Item, zero_spelling, max_bytes, Entry, Begin, Call, Turn, Close, End, Class, InCall, InReply, Ways, way_of, Machines, masked, masked_entry, values, map-append, ReplyItems, named_by, named_entry, Typed, connection_entries, reply_entry, AreOfTheirBytes, AreConversing, Conversation, weight, all_of, entries_of, holds}
use Rattle.std.proofs.lemmas.Simd.{map-map}
use Rattle.capture3.specs.Capture.{total_size}
use Rattle.canon3.proofs.Lemmas.Changes.Conversations.{IsChange, changed, changed_reply, conversing_changed, file_changed, weight_changed}
use Rattle.masking3.proofs.Lemmas.Classes.FewValues.{few_of_file}
use Rattle.masking3.proofs.Lemmas.Masked.MaskedMessages.{call_is_like, call_masked, masks, procedure_masked, reply_is_like, reply_masked}
use Rattle.masking3.proofs.Lemmas.Unnamed.UnnamedCalls.{call_named, named_procedure, named_spelled, named_xid}

module _ (ways : Ways) (seen : Class → List ℕ) where
  -- a call with masked names
  abbrev calls_masked : List Item → List Item
  calls_masked items = named_by (way_of ways Machines) (masks ways seen InCall items)

  abbrev replies_masked : ReplyItems → ReplyItems
  replies_masked reply = changed_reply calls_masked (masks ways seen InReply) reply

  abbrev masked_conversation : Conversation → Conversation
  masked_conversation c = changed calls_masked (masks ways seen InReply) c

  abbrev masked_one : Entry → Entry
  masked_one entry = named_entry ways (masked_entry ways seen entry)

  -- ---- the entries of conversations

  masked_connection : (c : Conversation)
      → map masked_one (connection_entries c.calls c.replies)
      ≡ connection_entries (map calls_masked c.calls) (map replies_masked c.replies)
  masked_connection c =
      let calls = map Call c.calls in
      let replies = map reply_entry c.replies in
      let first : map masked_one calls ≡ map Call (map calls_masked c.calls) = simp map-map in
      let second : map masked_one replies ≡ map reply_entry (map replies_masked c.replies) =
      simp map-map in
      cc (
        map-append masked_one ((Begin ∷ calls) ++ (Turn ∷ replies)) (Close ∷ []),
        map-append masked_one (Begin ∷ calls) (Turn ∷ replies),
        first,
        second,
      )

  masked_entries : (cs : List Conversation)
      → map masked_one (entries_of cs) ≡ entries_of (map masked_conversation cs)
  masked_entries [] = refl
  masked_entries (c ∷ cs) =
      cc (
        map-append masked_one (connection_entries c.calls c.replies) (entries_of cs),
        masked_connection c,
        masked_entries cs,
      )

  masked_all : (cs : List Conversation)
      → map masked_one (all_of cs) ≡ all_of (map masked_conversation cs)
  masked_all cs = cc (map-append masked_one (entries_of cs) (End ∷ []), masked_entries cs)

  -- ---- they converse

  conversation_masked : ((d : Class) → length (seen d) ≤ max_bytes) → (c : Conversation)
      → AreConversing c → weight c ≤ max_bytes
      → AreConversing (masked_conversation c) × (weight (masked_conversation c) ≤ weight c)
  conversation_masked few c h small =
      let way = way_of ways Machines in
      let replies = masks ways seen InReply in
      let k : IsChange calls_masked replies (λ x. x) c =
      record {
        calls = λ m i s.
            let n = masks ways seen InCall m in
            let like = call_is_like ways seen few m s.0.0 s.0.1 in
            let named = named_spelled way n (zero_spelling n) like.spelled in (
              call_named way n (call_masked ways seen m s.0.0),
              record {
                spelled = named.0;
                no_longer = omega (arith, named.1, like.no_longer);
                xid = named_xid way n ∙ like.xid;
              },
              named_procedure way n ∙ procedure_masked ways seen m s.0.0,
            );
        replies = λ r i s. (
          reply_masked ways seen r.id r.items s.0.0,
          reply_is_like ways seen few r.id r.items s.0.0 s.0.1,
        );
        one_to_one = λ a b i j e. e;
      } in (
        conversing_changed calls_masked replies (λ x. x) c h k,
        weight_changed calls_masked replies (λ x. x) c h k,
      )

-- the masked form has the entries of its own bytes, in no more stream bytes
pub masked_is_file : (ways : Ways) (file : List ℕ) (all : List Entry) (typed : Typed file all)
    → AreOfTheirBytes (masked ways all) (total_size typed.connections)
masked_is_file ways file all typed =
    let seen : Class → List ℕ = values all in
    file_changed (masked_conversation ways seen)
    (conversation_masked ways seen (λ d. few_of_file d file all typed)) file all typed
    (masked ways all) (map-map (named_entry ways) (masked_entry ways seen) all
    ∙ ap (map (masked_one ways seen)) (holds file all typed).is
    ∙ masked_all ways seen (holds file all typed).cs)
