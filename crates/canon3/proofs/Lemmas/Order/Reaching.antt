-- What any bytes reach are the first entries of a well-formed file.
use Rattle.canon3.proofs.Common.{◌≡◌, inl, inr, ℕ, ◌+◌, ◌<◌, ◌≤◌, List, [], ◌∷◌, ◌++◌, length, map, refl, sym, ap, ◌∙◌, subst, arith, append_assoc, append-nil, length-append, Item, ReplyItems, max_bytes, Entry, Begin, Call, Turn, Close, End, bytes_of, AreFirst, Converses, HaveEntries, connection_entries, reply_entry}
use Rattle.capture3.specs.Capture.{Version, One, Two, total_size, max_connections}
use Rattle.capture3.specs.SidedChunks.{Streams, size, BeginsMixed}
use Rattle.capture3.specs.Reached.{AreFirstReached, AreWhole, InMagic, BetweenConnections, InConnection, Reached, ReachesInside}
use Rattle.capture3.proofs.Lemmas.Connections.JudgedInTurn.{conversed}
use Rattle.capture3.proofs.Lemmas.Reached.Limits.{begun_size}
use Rattle.capture3.proofs.Lemmas.Reached.ReachedMore.{reached_more}
use Rattle.canon3.proofs.Lemmas.WellFormed.Conversations.{AreConversing, Conversation, weight}
use Rattle.canon3.proofs.Lemmas.WellFormed.Conversing.{conversing, conversing_weight}
use Rattle.canon3.proofs.Lemmas.WellFormed.Files.{AreCapture, all_of, entries_of, have, total_weight, typed_anew}
use Rattle.canon3.proofs.Lemmas.Canonical.Growing.{first_front}
use Rattle.canon3.proofs.Lemmas.WellFormed.Items.{all_append}

first_of : (cs : List Conversation) (entries rest : List Entry) → AreCapture cs
    → all_of cs ≡ entries ++ rest → AreFirst entries
first_of cs entries rest are split =
    record {
      file = bytes_of (all_of cs);
      all = all_of cs;
      more = rest;
      typed = typed_anew cs are;
      split = split;
    }

-- ---- a connection more

all_with : (cs : List Conversation) (c : Conversation)
    → all_of (cs ++ c ∷ []) ≡ entries_of cs ++ (connection_entries c.calls c.replies ++ End ∷ [])
all_with [] c =
    ap (λ (l : List Entry). l ++ End ∷ []) (append-nil (connection_entries c.calls c.replies))
all_with (d ∷ cs) c =
    append_assoc (connection_entries d.calls d.replies) _ _
    ∙ ap (λ (l : List Entry). connection_entries d.calls d.replies ++ l) (all_with cs c)
    ∙ sym (append_assoc (connection_entries d.calls d.replies) _ _)

weight_with : (cs : List Conversation) (c : Conversation)
    → total_weight (cs ++ c ∷ []) ≡ total_weight cs + weight c
weight_with [] c = omega arith
weight_with (d ∷ cs) c = omega (arith, weight_with cs c)

-- after whole connections, the first entries of one with these messages so far
open_first : (connections : List Streams) (before : List Entry) (streams : Streams)
    (calls : List (List Item)) (replies : List ReplyItems) (entries rest : List Entry)
    → HaveEntries connections before → Converses streams calls replies
    → length connections < max_connections → total_size connections + size streams ≤ max_bytes
    → connection_entries calls replies ≡ entries ++ rest → AreFirst (before ++ entries)
open_first connections before streams calls replies entries rest messages converses few small
    split =
    let h = have connections before messages in
    let c : Conversation = record { calls = calls; replies = replies } in
    first_of (h.cs ++ c ∷ []) (before ++ entries) (rest ++ End ∷ [])
    (record {
      converse =
          all_append AreConversing h.cs (c ∷ []) h.converse
          (conversing streams calls replies converses, tt);
      few = omega (arith, length-append h.cs (c ∷ []), h.count, few);
      small =
          omega (
            arith,
            weight_with h.cs c,
            h.light,
            conversing_weight streams calls replies converses,
            small,
          );
    })
    (all_with h.cs c
    ∙ ap (λ (l : List Entry). l ++ (connection_entries calls replies ++ End ∷ [])) (sym h.is)
    ∙ ap (λ (l : List Entry). before ++ l)
    (ap (λ (l : List Entry). l ++ End ∷ []) split ∙ append_assoc entries rest (End ∷ []))
    ∙ sym (append_assoc before entries (rest ++ End ∷ [])))

mixed_fits : (before : ℕ) (bytes : List ℕ) → BeginsMixed before bytes → before ≤ max_bytes
mixed_fits before bytes (inl b) = omega (arith, b.fits)
mixed_fits before bytes (inr (inl b)) = omega (arith, b.fits)
mixed_fits before bytes (inr (inr b)) = omega (arith, b.fits)

inside_first : (version : Version) (connections : List Streams) (before : List Entry)
    (bytes : List ℕ) (more : List Entry) → HaveEntries connections before
    → length connections < max_connections
    → ReachesInside version (total_size connections) bytes more → AreFirst (before ++ more)
inside_first One connections before bytes more messages few (inl r) =
    let streams : Streams = record { client = r.holds.front; server = [] } in
    let fits : total_size connections + size streams ≤ max_bytes =
    omega (
      arith,
      begun_size (total_size connections) bytes r.stream r.begins,
      ap length r.holds.split,
      length-append r.holds.front r.holds.last,
    ) in
    rw r.entries_are
    (open_first connections before streams r.calls [] (Begin ∷ map Call r.calls) (Turn ∷ Close ∷ [])
    messages (conversed streams r.calls [] r.holds.holds ([], refl, refl)) few fits
    (append_assoc (Begin ∷ map Call r.calls) (Turn ∷ []) (Close ∷ [])))
inside_first One connections before bytes more messages few (inr r) =
    let streams : Streams = record { client = r.client; server = r.answers.front } in
    let fits : total_size connections + size streams ≤ max_bytes =
    omega (
      arith,
      begun_size (total_size connections + length r.client) r.last r.server r.begins,
      ap length r.answers.split,
      length-append r.answers.front r.answers.last,
    ) in
    let calls : List Entry = Begin ∷ map Call r.calls in
    let replies : List Entry = Turn ∷ map reply_entry r.replies in
    rw r.entries_are
    (open_first connections before streams r.calls r.replies (calls ++ replies) (Close ∷ [])
    messages (conversed streams r.calls r.replies r.holds r.answers.holds) few fits refl)
inside_first Two connections before bytes more messages few (begins, is) =
    let streams : Streams = record { client = []; server = [] } in
    let fits : total_size connections + size streams ≤ max_bytes =
    omega (arith, mixed_fits (total_size connections) bytes begins) in
    rw is
    (open_first connections before streams [] [] (Begin ∷ []) (Turn ∷ Close ∷ []) messages
    (conversed streams [] [] ([], refl, refl) ([], refl, refl)) few fits refl)

-- ---- a file

whole_first : (bytes : List ℕ) (entries : List Entry) → AreWhole bytes entries → AreFirst entries
whole_first bytes entries (InMagic version more e none) =
    rw none (first_of [] [] (all_of [])
    (record { converse = tt; few = omega arith; small = omega arith }) refl)
whole_first bytes entries (BetweenConnections version front part connections split opens last) =
    let h = have connections entries opens.messages in
    first_of h.cs entries (End ∷ [])
    (record {
      converse = h.converse;
      few = omega (arith, h.count, opens.few);
      small = omega (arith, h.light, opens.small);
    })
    (ap (λ (l : List Entry). l ++ End ∷ []) (sym h.is))
whole_first bytes entries
    (InConnection version front mark rest connections before more split opens one few inside are) =
    rw are (inside_first version connections before rest more opens.messages few inside)

pub reached_first : (bytes : List ℕ) (entries : List Entry) → Reached bytes entries
    → AreFirst entries
reached_first bytes entries (inl h) =
    record { file = bytes; all = entries; more = []; typed = h; split = sym (append-nil entries) }
reached_first bytes entries (inr h) =
    let (bad, front, whole, more, longest, is_whole, is) = h in
    elim (reached_more bytes front whole more longest is_whole) [
      | inl none ↦ subst AreFirst
          (sym (is ∙ ap (λ (l : List Entry). whole ++ l) none ∙ append-nil whole))
          (whole_first front whole is_whole)
      | inr part ↦ subst AreFirst (sym (is ∙ part.is)) (open_first part.connections part.before
          part.streams part.calls part.replies part.inside part.rest part.messages part.converses
          part.few part.small part.split)
    ]

-- the first of what they reach are so too
pub first_reached : (given : List ℕ) (entries : List Entry) → AreFirstReached given entries
    → AreFirst entries
first_reached given entries (more, reached) =
    first_front entries more (reached_first given (entries ++ more) reached)
