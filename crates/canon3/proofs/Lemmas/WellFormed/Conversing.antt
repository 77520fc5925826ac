-- Messages of connections: from their streams, and in streams of their own.
use Rattle.canon3.proofs.Common.{ℕ, ◌≤◌, List, [], ◌∷◌, length, ap, subst, arith, length-append, AllByRecursion, flat_map, Item, Word, length_of_spelling, xid_of, Member, here, zero_spelled_all, ReplyItems, IsCall, IsReply, xid_in, Streams, size, Joins, IsRecordOf, IsIn, Converses}
use Rattle.std.proofs.lemmas.List.{map-id}
use Rattle.std.proofs.lemmas.List.Concat.{flat_map-append}
use Rattle.canon3.proofs.Lemmas.Numbers.RankLemmas.{member-append_left, member-append_right}
use Rattle.canon3.proofs.Lemmas.Renaming.RenamingLemmas.{all_mapped, all_weaker}
use Rattle.canon3.proofs.Lemmas.WellFormed.Messages.{BeginsWithWord, call_begins}
use Rattle.canon3.proofs.Lemmas.WellFormed.Conversations.{of_all, stream_of, IsSmall, HasBody, each_has_body, each_size, each_from, Conversation, items_of_reply, reply_items, itself, IsSpelledCall, IsSpelledReply, AreConversing, weight, streams_of}

-- ---- from streams

spelled_call : (m : List Item) → HasBody itself IsCall (λ body m p. p.1) m → IsSpelledCall m
spelled_call m p =
    ((p.1.0, zero_spelled_all m p.0 p.1.1), omega (arith, p.2, length_of_spelling m p.0 p.1.1))

spelled_reply : (r : ReplyItems) → HasBody items_of_reply IsReply (λ body m p. p.1) r
    → IsSpelledReply r
spelled_reply r p = (
  (p.1.0, zero_spelled_all r.items p.0 p.1.1),
  omega (arith, p.2, length_of_spelling r.items p.0 p.1.1),
)

pub conversing : (streams : Streams) (calls : List (List Item)) (replies : List ReplyItems)
    → Converses streams calls replies → AreConversing (record { calls = calls; replies = replies })
conversing streams calls replies c = record {
  calls_are =
      all_weaker _ _ spelled_call calls (each_has_body itself IsCall (λ body m p. p.1) calls
      streams.client c.client);
  replies_are =
      all_weaker _ _ spelled_reply replies (each_has_body items_of_reply IsReply (λ body m p. p.1)
      replies streams.server c.server);
  one_procedure = c.one_procedure;
  answers = c.answers;
}

pub conversing_weight : (streams : Streams) (calls : List (List Item)) (replies : List ReplyItems)
    → Converses streams calls replies
    → weight (record { calls = calls; replies = replies }) ≤ size streams
conversing_weight streams calls replies c =
    omega (
      arith,
      each_size itself IsCall (λ body m p. p.1) calls streams.client c.client,
      ap (λ l. length (stream_of l)) (map-id calls),
      each_size items_of_reply IsReply (λ body m p. p.1) replies streams.server c.server,
    )

-- ---- in streams of their own

pub small_items : (replies : List ReplyItems) → AllByRecursion IsSpelledReply replies
    → AllByRecursion IsSmall (reply_items replies)
small_items replies h = all_mapped _ _ items_of_reply (λ r p. p.1) replies h

pub converses_anew : (c : Conversation) → AreConversing c
    → Converses (streams_of c) c.calls c.replies
converses_anew c h = record {
  client =
      subst (λ l. Joins (IsRecordOf IsCall) (stream_of l) c.calls) (map-id c.calls)
      (each_from itself IsCall (λ body m p. p.1) c.calls h.calls_are);
  server = each_from items_of_reply IsReply (λ body m p. p.1) c.replies h.replies_are;
  one_procedure = h.one_procedure;
  answers = h.answers;
}

-- ---- xids

abbrev pub xids_of : List (List Item) → List ℕ
xids_of calls = flat_map xid_of calls

in_xids : (calls : List (List Item)) (call : List Item) → IsIn call calls → BeginsWithWord call
    → Member (xid_in call) (xids_of calls)
in_xids calls call p b =
    let own : Member (xid_in call) (xid_of call) = rw b.is here in
    rw (p.2, flat_map-append xid_of)
    (member-append_right (xids_of p.0) (member-append_left (xids_of p.1) own))

pub length_of_xids : (calls : List (List Item)) → length (xids_of calls) ≤ length (stream_of calls)
length_of_xids [] = omega arith
length_of_xids (m ∷ calls) =
    simp length-append (omega (arith, one m, length_of_xids calls))
  where
    one : (m : List Item) → length (xid_of m) ≤ 1
    one [] = omega arith
    one (Word name x ∷ items) = omega arith
    one (_ ∷ items) = omega arith

pub begins_in : (c : Conversation) → AreConversing c → (call : List Item) → IsIn call c.calls
    → BeginsWithWord call
begins_in c h call p = call_begins call (of_all IsSpelledCall c.calls call h.calls_are p).0.0

pub call_known : (c : Conversation) → AreConversing c → (call : List Item) → IsIn call c.calls
    → Member (xid_in call) (xids_of c.calls)
call_known c h call p = in_xids c.calls call p (begins_in c h call p)

pub reply_known : (c : Conversation) → AreConversing c → (reply : ReplyItems) → IsIn reply c.replies
    → Member (xid_in reply.items) (xids_of c.calls)
reply_known c h reply p =
    let a = h.answers reply p in
    subst (λ x. Member x (xids_of c.calls)) a.2 (call_known c h a.0 a.1)
