-- Where the listings of two captures are equal, the captures are equal up to connections without
-- messages at their ends.
use Rattle.listing3.proofs.Common.{◌≡◌, ◌≢◌, ◌≤◌, ℕ, zero, suc, ◌+◌, List, [], ◌∷◌, ◌++◌, length, refl, sym, ap, ◌∙◌, append_assoc, append-nil, length-append, arith, AllByRecursion, lines_after, shown, ReplyItems, Entry, Begin, Turn, Close, End, connections, records_after, Item, Word, zero_spelling, all_in, AreConversing, Conversation, IsSpelledCall, IsSpelledReply, length_of_record, of_all, reply_items, stream_of, weight, BeginsWithWord, call_begins, reply_begins}
use Rattle.capture3.specs.Chunks.{max_bytes}
use Rattle.capture3.specs.Typed.{connection_entries, Typed}
use Rattle.canon3.specs.Bytes.{record_bytes}
use Rattle.canon3.proofs.Lemmas.WellFormed.Files.{all_of, entries_of, holds, total_weight}
use Rattle.canon3.proofs.Lemmas.Renaming.RenamingLemmas.{all_weaker}
use Rattle.listing3.specs.Laws.{AreEqualUpToSilence, silent}
use Rattle.listing3.proofs.Lines.LineTexts.{all_text, IsDetermined, IsDeterminedConversation, IsDeterminedReply, lines_all, quiet, same_text}
use Rattle.listing3.proofs.ListingLemmas.{lines-append}
use Rattle.listing3.proofs.NamedItems.{call_named, reply_named}
use Rattle.listing3.proofs.Texts.{spellable}

-- ---- messages

begins_some : (items : List Item) → BeginsWithWord items → items ≢ []
begins_some items b e =
    let no : [] ≡ Word b.name b.number ∷ b.more = sym e ∙ b.is in
    absurd cc

told_call : (items : List Item) → IsSpelledCall items → IsDetermined items
told_call items h = record {
  are_named = call_named items h.0.0;
  spell = spellable items (zero_spelling items) h.0.1;
  some = begins_some items (call_begins items h.0.0);
}

told_reply : (r : ReplyItems) → IsSpelledReply r → IsDetermined r.items
told_reply r h = record {
  are_named = reply_named r.id r.items h.0.0;
  spell = spellable r.items (zero_spelling r.items) h.0.1;
  some = begins_some r.items (reply_begins r.id r.items h.0.0);
}

-- ---- few messages in few bytes

few_messages : (ms : List (List Item)) → length ms ≤ length (stream_of ms)
few_messages [] = omega arith
few_messages (m ∷ ms) =
    omega (
      arith,
      few_messages ms,
      length-append (record_bytes (zero_spelling m)) (stream_of ms),
      length_of_record (zero_spelling m),
    )

as_many : (replies : List ReplyItems) → length replies ≡ length (reply_items replies)
as_many [] = refl
as_many (r ∷ replies) = ap suc (as_many replies)

told_conversation : (c : Conversation) → AreConversing c → weight c ≤ max_bytes
    → IsDeterminedConversation c
told_conversation c h small = record {
  calls_told = all_weaker IsSpelledCall IsDetermined told_call c.calls h.calls_are;
  replies_told =
      all_in (IsDeterminedReply c.calls) c.replies (λ r p.
      (told_reply r (of_all IsSpelledReply c.replies r h.replies_are p), h.answers r p));
  one_procedure = h.one_procedure;
  few_calls = omega (arith, small, few_messages c.calls);
  few_replies = omega (arith, small, few_messages (reply_items c.replies), as_many c.replies);
}

told_all : (cs : List Conversation) → AllByRecursion AreConversing cs → total_weight cs ≤ max_bytes
    → AllByRecursion IsDeterminedConversation cs
told_all [] h small = tt
told_all (c ∷ cs) h small = (told_conversation c h.0 (omega arith), told_all cs h.1 (omega arith))

-- ---- entries

entries_append : (a b : List Conversation) → entries_of (a ++ b) ≡ entries_of a ++ entries_of b
entries_append [] b = refl
entries_append (c ∷ a) b =
    ap (λ (l : List Entry). connection_entries c.calls c.replies ++ l) (entries_append a b)
    ∙ sym (append_assoc (connection_entries c.calls c.replies) (entries_of a) (entries_of b))

quiet_entries : (i : ℕ) → entries_of (quiet i) ≡ silent i
quiet_entries zero = refl
quiet_entries (suc i) = ap (λ (l : List Entry). Begin ∷ Turn ∷ Close ∷ l) (quiet_entries i)

quiet_end : (cs same : List Conversation) (i : ℕ) → cs ≡ same ++ quiet i
    → all_of cs ≡ entries_of same ++ (silent i ++ End ∷ [])
quiet_end cs same i is =
    ap (λ (l : List Entry). l ++ End ∷ []) (ap entries_of is
    ∙ (entries_append same (quiet i)
    ∙ ap (λ (l : List Entry). entries_of same ++ l) (quiet_entries i)))
    ∙ append_assoc (entries_of same) (silent i) (End ∷ [])

pub told_apart : (file other : List ℕ) (a b : List Entry) → Typed file a → Typed other b
    → shown a ≡ shown b → AreEqualUpToSilence a b
told_apart file other a b typed typed_other e =
    let h = holds file a typed in
    let g = holds other b typed_other in
    let texts : all_text 0 h.cs ≡ all_text 0 g.cs =
    sym (lines_all 0 0 h.cs) ∙ (ap shown (sym h.is) ∙ (e ∙ (ap shown g.is ∙ lines_all 0 0 g.cs))) in
    let p =
    same_text 0 h.cs g.cs (omega (arith, h.are.few)) (omega (arith, g.are.few))
    (told_all h.cs h.are.converse h.are.small) (told_all g.cs g.are.converse g.are.small) texts
    in
    record {
      same = entries_of p.same;
      first_silent = p.first_quiet;
      second_silent = p.second_quiet;
      first = h.is ∙ quiet_end h.cs p.same p.first_quiet p.first;
      second = g.is ∙ quiet_end g.cs p.same p.second_quiet p.second;
    }

-- ---- connections without messages have no lines

silent_lines : (n k i : ℕ) → lines_after n k (silent i ++ End ∷ []) ≡ []
silent_lines n k zero = refl
silent_lines n k (suc i) = silent_lines (n + 1 + 0 + 0) 0 i

pub silent_shown : (same : List Entry) (i : ℕ) → shown (same ++ (silent i ++ End ∷ [])) ≡ shown same
silent_shown same i =
    lines-append 0 0 same (silent i ++ End ∷ [])
    ∙ (ap (λ (l : List ℕ). shown same ++ l)
    (silent_lines (0 + connections same) (records_after 0 same) i) ∙ append-nil (shown same))

pub told_alike : (a b : List Entry) → AreEqualUpToSilence a b → shown a ≡ shown b
told_alike a b h =
    ap shown h.first
    ∙ (silent_shown h.same h.first_silent
    ∙ (sym (silent_shown h.same h.second_silent) ∙ ap shown (sym h.second)))
