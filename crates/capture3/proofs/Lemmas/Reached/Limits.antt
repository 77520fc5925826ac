-- The entries that bytes reach are within the limits.
use Rattle.capture3.proofs.Common.{lengths, Fault, Stop, ◌≡◌, inl, inr, ℕ, ◌+◌, ◌<◌, ◌≤◌, List, [], ◌∷◌, ◌++◌, length, map, refl, ap, ◌∙◌, append_assoc, arith, false, concat, Joins, Item, Version, One, Two, max_connections, total_size, Streams, size, AreMixed, BeginsMixed, max_bytes, BeginsStream, calls_in_turn, replies_to, StreamsShow, InClientStream, InServerStream, ReachesInside, AreWhole, InMagic, BetweenConnections, InConnection, Judgement, AreMessages, Holds, HoldsSoFar, FirstRecordFault, Converses, reply_entry, connection_entries, HaveEntries, Typed, IsFragment, IsRecord, Marks, length_of_spelling, ReplyItems, AcceptsCall, AcceptsReply, begins, spelled, AreWithinLimits, RefusesRecord, PassesLimit, CutsOpen}
use Rattle.capture3.specs.Entry.{Entry, Begin, Call, Turn, Reply, Close, End}
use Rattle.capture3.proofs.Lemmas.Connections.JudgedInTurn.{calls_hold, conversed, replies_hold}

pub begins-append : (xs ys : List Entry) → begins (xs ++ ys) ≡ begins xs + begins ys
begins-append [] ys = omega arith
begins-append (Begin ∷ xs) ys = omega (arith, begins-append xs ys)
begins-append (entry ∷ xs) ys = begins-append xs ys

pub spelled-append : (xs ys : List Entry) → spelled (xs ++ ys) ≡ spelled xs + spelled ys
spelled-append [] ys = omega arith
spelled-append (Call items ∷ xs) ys = omega (arith, spelled-append xs ys)
spelled-append (Reply id items ∷ xs) ys = omega (arith, spelled-append xs ys)
spelled-append (entry ∷ xs) ys = spelled-append xs ys

no_begins : {M : Type 0} (entry : M → Entry) (messages : List M)
    → ((m : M) → begins (entry m ∷ []) ≡ 0) → begins (map entry messages) ≡ 0
no_begins entry [] none = refl
no_begins entry (m ∷ messages) none =
    begins-append (entry m ∷ []) (map entry messages)
    ∙ omega (arith, none m, no_begins entry messages none)

-- ---- records carry their bodies

carried_size : (last : List (List ℕ)) (bytes : List ℕ) → Joins (IsFragment false) bytes last
    → length (concat last) ≤ length bytes
carried_size [] bytes h = omega arith
carried_size (part ∷ parts) bytes h =
    omega (lengths, carried_size parts h.1 h.4, ap length h.2, ap length h.3.1)

pub record_size : (bytes body : List ℕ) → IsRecord bytes body → 4 + length body ≤ length bytes
record_size bytes body h =
    omega (
      lengths,
      carried_size h.fragments h.front h.joined,
      ap length h.carried,
      ap length h.split,
      ap length h.closes.1,
      h.closes.2.word,
    )

-- messages that are no longer than their bodies are together no longer than the stream
messages_size : {M : Type 0} (judge : Judgement M) (entry : M → Entry) (bodies : List (List ℕ))
    (before messages : List M) (stream : List ℕ)
    → ((before : List M) (body : List ℕ) (m : M) → judge.accepts before body m
    → spelled (entry m ∷ []) ≤ length body)
    → Marks stream bodies → AreMessages judge before bodies messages
    → spelled (map entry messages) ≤ length stream
messages_size judge entry [] before messages stream fits marks h =
    let none = ap (λ ms. spelled (map entry ms)) h in omega (arith, none)
messages_size judge entry (body ∷ bodies) before messages stream fits marks h =
    let more = messages_size judge entry bodies (before ++ h.0 ∷ []) h.1 marks.1 fits marks.4 h.4 in
    let first = fits before body h.0 h.3 in
    let same = ap (λ ms. spelled (map entry ms)) h.2 in
    omega (
      lengths,
      more,
      first,
      same,
      spelled-append (entry h.0 ∷ []) (map entry h.1),
      record_size marks.0 body marks.3,
      ap length marks.2,
    )

call_fits : (before : List (List Item)) (body : List ℕ) (items : List Item)
    → AcceptsCall before body items → spelled (Call items ∷ []) ≤ length body
call_fits before body items h = omega (arith, length_of_spelling items body h.0.1)

reply_fits : (calls : List (List Item)) (body : List ℕ) (reply : ReplyItems)
    → AcceptsReply calls body reply → spelled (reply_entry reply ∷ []) ≤ length body
reply_fits calls body reply h = omega (arith, length_of_spelling reply.items body h.0.1)

calls_size : (stream : List ℕ) (calls : List (List Item)) → Holds calls_in_turn stream calls
    → spelled (map Call calls) ≤ length stream
calls_size stream calls h = messages_size calls_in_turn Call h.0 [] calls stream call_fits h.1 h.2

replies_size : (calls : List (List Item)) (stream : List ℕ) (replies : List ReplyItems)
    → Holds (replies_to calls) stream replies → spelled (map reply_entry replies) ≤ length stream
replies_size calls stream replies h =
    messages_size (replies_to calls) reply_entry h.0 [] replies stream (λ _. reply_fits calls) h.1
    h.2

-- ---- connections

connection_begins : (calls : List (List Item)) (replies : List ReplyItems)
    → begins (connection_entries calls replies) ≡ 1
connection_begins calls replies =
    omega (
      arith,
      begins-append ((Begin ∷ map Call calls) ++ (Turn ∷ map reply_entry replies)) (Close ∷ []),
      begins-append (Begin ∷ map Call calls) (Turn ∷ map reply_entry replies),
      no_begins Call calls (λ m. refl),
      no_begins reply_entry replies (λ m. refl),
    )

connection_spelled : (streams : Streams) (calls : List (List Item)) (replies : List ReplyItems)
    → Converses streams calls replies → spelled (connection_entries calls replies) ≤ size streams
connection_spelled streams calls replies h =
    omega (
      arith,
      spelled-append,
      calls_size streams.client calls (calls_hold streams calls replies h),
      replies_size calls streams.server replies (replies_hold streams calls replies h),
    )

pub have_begins : (connections : List Streams) (entries : List Entry)
    → HaveEntries connections entries → begins entries ≡ length connections
have_begins [] entries h = ap begins h
have_begins (streams ∷ connections) entries h =
    omega (
      arith,
      ap begins h.3,
      begins-append (connection_entries h.0 h.1) h.2,
      connection_begins h.0 h.1,
      have_begins connections h.2 h.5,
    )

pub have_spelled : (connections : List Streams) (entries : List Entry)
    → HaveEntries connections entries → spelled entries ≤ total_size connections
have_spelled [] entries h = omega (arith, ap spelled h)
have_spelled (streams ∷ connections) entries h =
    omega (
      arith,
      ap spelled h.3,
      spelled-append (connection_entries h.0 h.1) h.2,
      connection_spelled streams h.0 h.1 h.4,
      have_spelled connections h.2 h.5,
    )

-- ---- files

pub typed_within : (file : List ℕ) (entries : List Entry) → Typed file entries
    → AreWithinLimits entries
typed_within file entries h =
    record {
      few =
          omega (
            arith,
            ap begins h.ends,
            begins-append h.front (End ∷ []),
            have_begins h.connections h.front h.messages,
          );
      small =
          omega (
            arith,
            ap spelled h.ends,
            spelled-append h.front (End ∷ []),
            have_spelled h.connections h.front h.messages,
          );
    }

-- ---- what is not whole

pub begun_size : (before : ℕ) (bytes stream : List ℕ) → BeginsStream before bytes stream
    → before + length stream ≤ max_bytes
begun_size before bytes stream (inl b) = b.fits
begun_size before bytes stream (inr b) = omega (arith, b.fits)

so_far_size : {M : Type 0} (judge : Judgement M) (entry : M → Entry) (stream : List ℕ)
    (messages : List M)
    → ((before : List M) (body : List ℕ) (m : M) → judge.accepts before body m
    → spelled (entry m ∷ []) ≤ length body) → HoldsSoFar judge stream messages
    → spelled (map entry messages) ≤ length stream
so_far_size judge entry stream messages fits h =
    omega (
      lengths,
      messages_size judge entry h.holds.0 [] messages h.front fits h.holds.1 h.holds.2,
      ap length h.split,
    )

inside_within : (version : Version) (before : ℕ) (bytes : List ℕ) (more : List Entry)
    → ReachesInside version before bytes more
    → (begins more ≡ 1) × (before + spelled more ≤ max_bytes)
inside_within One before bytes more (inl r) = (
  omega (arith, ap begins r.entries_are, no_begins Call r.calls (λ m. refl)),
  omega (
    arith,
    ap spelled r.entries_are,
    so_far_size calls_in_turn Call r.stream r.calls call_fits r.holds,
    begun_size before bytes r.stream r.begins,
  ),
)
inside_within One before bytes more (inr r) = (
  omega (
    arith,
    ap begins r.entries_are,
    begins-append (Begin ∷ map Call r.calls) (Turn ∷ map reply_entry r.replies),
    no_begins Call r.calls (λ m. refl),
    no_begins reply_entry r.replies (λ m. refl),
  ),
  omega (
    arith,
    ap spelled r.entries_are,
    spelled-append (Begin ∷ map Call r.calls) (Turn ∷ map reply_entry r.replies),
    calls_size r.client r.calls r.holds,
    so_far_size (replies_to r.calls) reply_entry r.server r.replies (λ _. reply_fits r.calls)
        r.answers,
    begun_size (before + length r.client) r.last r.server r.begins,
  ),
)
inside_within Two before bytes more r =
    (omega (arith, ap begins r.1), omega (arith, ap spelled r.1, mixed_begun r.0))
  where
    mixed_begun : BeginsMixed before bytes → before ≤ max_bytes
    mixed_begun (inl b) = omega (arith, b.fits)
    mixed_begun (inr (inl b)) = omega (arith, b.fits)
    mixed_begun (inr (inr b)) = omega (arith, b.fits)

pub whole_within : (bytes : List ℕ) (entries : List Entry) → AreWhole bytes entries
    → AreWithinLimits entries
whole_within bytes entries (InMagic version more e none) =
    record { few = omega (arith, ap begins none); small = omega (arith, ap spelled none) }
whole_within bytes entries (BetweenConnections version front part connections split opens ends) =
    record {
      few = omega (arith, have_begins connections entries opens.messages, opens.few);
      small = omega (arith, have_spelled connections entries opens.messages, opens.small);
    }
whole_within bytes entries
    (InConnection version front mark rest connections before more split opens one few inside are) =
    let w = inside_within version (total_size connections) rest more inside in
    record {
      few =
          omega (
            arith,
            ap begins are,
            begins-append before more,
            have_begins connections before opens.messages,
            few,
          );
      small =
          omega (
            arith,
            ap spelled are,
            spelled-append before more,
            have_spelled connections before opens.messages,
          );
    }

-- ---- after a connection whose streams have a fault

-- whole connections, and the first entries of one whose messages so far have so many bytes
pub record IsAfter (entries : List Entry) : Type 0 where
  pub connections : List Streams
  pub before : List Entry
  pub streams : Streams
  pub calls : List (List Item)
  pub replies : List ReplyItems
  pub inside : List Entry
  pub rest : List Entry
  pub messages : HaveEntries connections before
  pub converses : Converses streams calls replies
  pub few : length connections < max_connections
  pub small : total_size connections + size streams ≤ max_bytes
  pub split : connection_entries calls replies ≡ inside ++ rest
  pub is : entries ≡ before ++ inside

pub after_within : (entries : List Entry) → IsAfter entries → AreWithinLimits entries
after_within entries h = record {
  few =
      omega (
        arith,
        ap begins h.is,
        begins-append,
        have_begins h.connections h.before h.messages,
        connection_begins h.calls h.replies,
        ap begins h.split,
      );
  small =
      omega (
        arith,
        ap spelled h.is,
        spelled-append,
        have_spelled h.connections h.before h.messages,
        connection_spelled h.streams h.calls h.replies h.converses,
        ap spelled h.split,
      );
}

-- the messages before the first fault of a stream are those of a front
cut_front : {M : Type 0} (judge : Judgement M) (stream : List ℕ) (messages : List M)
    (stop : Stop) → FirstRecordFault judge stream messages stop
    → (front : List ℕ) × Holds judge front messages × (length front ≤ length stream)
cut_front judge stream messages stop (inl (
  before,
  rest,
  split,
  RefusesRecord front last body within holds whole refused,
)) =
    (front, holds, omega (lengths, ap length split, ap length within))
cut_front judge stream messages stop (inl (
  before,
  rest,
  split,
  PassesLimit front last within holds long is,
)) =
    (front, holds, omega (lengths, ap length split, ap length within))
cut_front judge stream messages stop (inr (CutsOpen front last body split holds is_open is)) =
    (front, holds, omega (lengths, ap length split))

pub streams_after : (number : ℕ) (connections : List Streams) (before : List Entry) (bytes : List ℕ)
    (more : List Entry) (fault : Fault) → HaveEntries connections before
    → length connections < max_connections
    → ((streams : Streams) → AreMixed bytes streams
    → total_size connections + size streams ≤ max_bytes) → StreamsShow number bytes more fault
    → IsAfter ((before ++ Begin ∷ []) ++ more)
streams_after number connections before bytes more fault messages few fits
    (InClientStream streams calls stop mixed first same at_is) =
    let cut = cut_front calls_in_turn streams.client calls stop first in
    record {
      connections = connections;
      before = before;
      streams = record { client = cut.0; server = [] };
      calls = calls;
      replies = [];
      inside = Begin ∷ map Call calls;
      rest = Turn ∷ Close ∷ [];
      messages = messages;
      converses =
          conversed (record { client = cut.0; server = [] }) calls [] cut.1 ([], refl, refl);
      few = few;
      small = omega (arith, fits streams mixed, cut.2);
      split = append_assoc (Begin ∷ map Call calls) (Turn ∷ []) (Close ∷ []);
      is =
          append_assoc before (Begin ∷ []) more
          ∙ ap (λ (l : List Entry). before ++ (Begin ∷ l)) same;
    }
streams_after number connections before bytes more fault messages few fits
    (InServerStream streams calls replies stop mixed holds first same at_is) =
    let cut = cut_front (replies_to calls) streams.server replies stop first in
    record {
      connections = connections;
      before = before;
      streams = record { client = streams.client; server = cut.0 };
      calls = calls;
      replies = replies;
      inside = (Begin ∷ map Call calls) ++ (Turn ∷ map reply_entry replies);
      rest = Close ∷ [];
      messages = messages;
      converses =
          conversed (record { client = streams.client; server = cut.0 }) calls replies holds cut.1;
      few = few;
      small = omega (arith, fits streams mixed, cut.2);
      split = refl;
      is =
          append_assoc before (Begin ∷ []) more
          ∙ ap (λ (l : List Entry). before ++ (Begin ∷ l)) same;
    }
