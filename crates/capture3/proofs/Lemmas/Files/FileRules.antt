-- The same of the rules of connections and of files.
use Rattle.capture3.proofs.Common.{lengths, ◌≡◌, ◌⊎◌, inl, inr, ℕ, suc, ◌+◌, ◌<◌, List, [], ◌∷◌, ◌++◌, length, refl, sym, ap, ap₂, ◌∙◌, append_assoc, append-nil, arith, nat_lt, le-ltb, Run, Runs, Stops, landed, after, Between, IsWord, Joins, Item, TooManyConnections, AfterEnd, Fault, Side, Client, Server, ReplyItems, Version, One, Two, magic, max_connections, total_size, AreStreams, IsConnection, Streams, size, AreMixed, IsStream, Entry, AfterConnections, Rule, MagicDiffers, MarkIsBad, ConnectionIsTooMany, WithinConnection, ByteAfterEnd, judge_call, mixing_from, judge_replies, Opening, InServer, Closing, Closes, Refuses, after_server, after_client, opened, Judgement, StreamEnd, Held, Faulty, stream_end, unread, Position, Reading, file_fault, SideShows, PassesBytes, CutsRecord, ShowsRecord, connection_entries, siding_from, reading_with, ShownFault, EndsStreams, fault_at, shown_with, refusal, client_refusal, server_refusal, server_position, calls_in_turn, replies_to, InTurnShows, InCalls, InReplies, StreamsShow, InClientStream, InServerStream, ConnectionShows, Parsing, marked, file_next, parsed}
use Rattle.capture3.proofs.Lemmas.Connections.ConnectionMachineLemmas.{RefusedClosing, in_client, in_mixed, in_server, opening_taken}
use Rattle.capture3.proofs.Lemmas.Connections.RankLemmas.{by_test}
use Rattle.capture3.proofs.Lemmas.Sides.SideRules.{side_closed_or, side_over}
use Rattle.capture3.proofs.Lemmas.Messages.BodiesLemmas.{the_calls, the_replies}
use Rattle.capture3.proofs.Lemmas.Files.FileMachineLemmas.{AnyRefusal, at_mark, context_at, in_file, inside_at, mark_runs, magics_run, length_magic, bad_mark_stops, magic_stops}
use Rattle.capture3.proofs.Lemmas.Container.SidedChunksRules.{closes_over, mixed_over, mixed_some}
use Rattle.capture3.proofs.Lemmas.Files.EndedMachines.{Past, Over, Comes, At, Fails, after_two, comes_on, over_on, comes_inside, over_inside, past_inside, stops_inside}
use Rattle.capture3.proofs.Lemmas.Sides.StreamEnds.{stream_ends}
use Rattle.capture3.proofs.Lemmas.Sides.StreamMachineLemmas.{held_runs, stream_after}

-- ---- a fault's bytes are not none

side_some : {M : Type 0} (judge : Judgement M) (side : Side) (position : Position)
    (bytes : List ℕ) (fault : Fault) → SideShows judge side position bytes fault
    → 0 < length bytes
side_some judge side position bytes fault
    (PassesBytes front last stream count split chunks word some passes is) =
    omega (lengths, ap length split, word.0)
side_some judge side position bytes fault (CutsRecord stream messages shown closed cut is) =
    omega (lengths, ap length closed.split, closed.closes.0)
side_some judge side position bytes fault
    (ShowsRecord front header got stream left messages shown split chunks word some shows is) =
    omega (lengths, ap length split)

pub shown_mixed : (number : ℕ) (bytes : List ℕ) (entries : List Entry) (fault : Fault)
    → StreamsShow number bytes entries fault → (streams : Streams) × AreMixed bytes streams
shown_mixed number bytes entries fault
    (InClientStream streams calls stop mixed first same is) =
    (streams, mixed)
shown_mixed number bytes entries fault
    (InServerStream streams calls replies stop mixed holds first same is) =
    (streams, mixed)

pub streams_some : (number : ℕ) (bytes : List ℕ) (entries : List Entry) (fault : Fault)
    → StreamsShow number bytes entries fault → 0 < length bytes
streams_some number bytes entries fault h =
    let m = (shown_mixed number bytes entries fault h).1 in
    omega (lengths, ap length m.split)

words_some : (word rest : List ℕ) (n : ℕ) → IsWord word n → 0 < length (word ++ rest)
words_some word rest n is = omega lengths

-- a whole connection
abbrev ClosedConnection : ℕ → ℕ → Run Opening Closing → Type 0
ClosedConnection end sum run =
    Comes {A = List Entry} RefusedClosing (λ entries. Stops (Closes end sum entries)) run

module _ (context : Position) where
  -- ---- a connection of version 1

  -- after the client stream
  turned_or : (front client : List ℕ) → IsStream front client
      → Comes {A = (calls : List (List Item))
      × (stream_after the_calls unread client ≡ Runs (reading_with calls Between))} RefusedClosing
      (λ calls.
      Runs (InServer calls.0
      (siding_from (context.start + length front) (context.before + length client))))
      (opening_taken One context front)
  turned_or front client h =
      comes_inside (in_client context.connection) front 0 (siding_from context.start context.before)
      (side_closed_or the_calls Client context front client h) (λ calls. At calls refl)

  in_turn_over : (bytes : List ℕ) (fault : Fault) → InTurnShows context bytes fault
      → Over RefusedClosing (opening_taken One context bytes) (Refuses (refusal fault))
  in_turn_over bytes fault (InCalls h) =
      over_inside (in_client context.connection) bytes 0 (siding_from context.start context.before)
      refl
      (side_over the_calls Client context bytes fault h)
  in_turn_over bytes fault (InReplies front last client calls split first holds h) =
      over_on _ _ front last split (turned_or front client first)
      (side_some (replies_to calls) Server (server_position context front client) last fault h)
      (λ others.
      let held = held_runs the_calls client calls holds in
      let read : reading_with others.0 Between ≡ reading_with calls Between = cc (others.1) in
      rw (ap (λ (r : Reading (List Item)). r.messages) read)
      (over_inside (in_server context.connection calls) last 0
      (siding_from (context.start + length front) (context.before + length client)) refl
      (side_over (the_replies calls) Server (server_position context front client) last fault h)))

  in_turn_some : (bytes : List ℕ) (fault : Fault) → InTurnShows context bytes fault
      → 0 < length bytes
  in_turn_some bytes fault (InCalls h) = side_some calls_in_turn Client context bytes fault h
  in_turn_some bytes fault (InReplies front last client calls split first holds h) =
      omega (
        lengths,
        ap length split,
        side_some (replies_to calls) Server (server_position context front client) last fault h,
      )

  -- ---- version 2

  -- after the streams, which are gathered
  gathered_or : (bytes : List ℕ) (streams : Streams) → AreMixed bytes streams
      → (opening_taken Two context bytes
      ≡ landed (after_client context.connection (context.start + length bytes)
      (context.before + size streams) streams.server (stream_end judge_call streams.client)))
      ⊎ Past RefusedClosing (opening_taken Two context bytes)
  gathered_or bytes streams h =
      let start = mixing_from context.start context.before in
      elim (closes_over context bytes streams h) [
        | inl e ↦ inl (stops_inside (in_mixed context.connection) bytes 0 start e)
        | inr past ↦ inr (past_inside (in_mixed context.connection) bytes 0 start past)
      ]

  streams_over : (bytes : List ℕ) (entries : List Entry) (fault : Fault)
      → StreamsShow context.connection bytes entries fault
      → Over RefusedClosing (opening_taken Two context bytes) (Refuses (shown_with entries fault))
  streams_over bytes entries fault (InClientStream streams calls stop mixed first same is) =
      elim (gathered_or bytes streams mixed) [
        | inl e ↦
            inl (e ∙ rw (
              stream_ends the_calls streams.client
                  (Faulty calls (fault_at calls stop.at stop.reason)) (stop, first, refl),
              same,
              is,
            ))
        | inr past ↦ inr past
      ]
  streams_over bytes entries fault
      (InServerStream streams calls replies stop mixed holds first same is) =
      elim (gathered_or bytes streams mixed) [
        | inl e ↦
            inl (e ∙ rw (
              stream_ends the_calls streams.client (Held calls) holds,
              stream_ends (the_replies calls) streams.server
                  (Faulty replies (fault_at replies stop.at stop.reason)) (stop, first, refl),
              same,
              is,
            ))
        | inr past ↦ inr past
      ]

  server_or : (end sum : ℕ) (calls : List (List Item)) (x : StreamEnd ReplyItems)
      → ClosedConnection end sum (landed (after_server context.connection end sum calls x))
  server_or end sum calls (Held replies) = At (connection_entries calls replies) refl
  server_or end sum calls (Faulty replies fault) =
      Fails (Refuses (server_refusal context.connection calls replies fault), tt, inl refl)

  client_or : (end sum : ℕ) (server : List ℕ) (x : StreamEnd (List Item))
      → ClosedConnection end sum (landed (after_client context.connection end sum server x))
  client_or end sum server (Held calls) =
      server_or end sum calls (stream_end (judge_replies calls) server)
  client_or end sum server (Faulty calls fault) =
      Fails (Refuses (client_refusal context.connection calls fault), tt, inl refl)

  -- ---- by version

  connection_over : (version : Version) (bytes : List ℕ) (fault : Fault)
      → ConnectionShows version context bytes fault
      → (entries : List Entry)
      × Over RefusedClosing (opening_taken version context bytes)
      (Refuses (shown_with entries fault))
  connection_over One bytes fault h = ([], in_turn_over bytes fault h)
  connection_over Two bytes fault (inl h) = (
    [],
    over_inside (in_mixed context.connection) bytes 0 (mixing_from context.start context.before)
        refl (mixed_over context bytes fault h),
  )
  connection_over Two bytes fault (inr h) = (h.0, streams_over bytes h.0 fault h.1)

  connection_some : (version : Version) (bytes : List ℕ) (fault : Fault)
      → ConnectionShows version context bytes fault → 0 < length bytes
  connection_some One bytes fault h = in_turn_some bytes fault h
  connection_some Two bytes fault (inl h) = mixed_some context bytes fault h
  connection_some Two bytes fault (inr h) = streams_some context.connection bytes h.0 fault h.1

  connection_or : (version : Version) (bytes : List ℕ) (streams : Streams)
      → AreStreams version bytes streams
      → ClosedConnection (context.start + length bytes) (context.before + size streams)
      (opening_taken version context bytes)
  connection_or One bytes streams (front, last, split, client, server) =
      let end_is : context.start + length front + length last ≡ context.start + length bytes =
      omega (lengths, ap length split) in
      let sum_is : context.before + length streams.client + length streams.server
      ≡ context.before + size streams =
      omega arith in
      comes_on _ _ front last split (turned_or front streams.client client)
      (λ calls.
      comes_inside (in_server context.connection calls.0) last 0
      (siding_from (context.start + length front) (context.before + length streams.client))
      (side_closed_or (the_replies calls.0) Server (server_position context front streams.client)
      last streams.server server)
      (λ replies.
      At (connection_entries calls.0 replies.0)
      (ap₂ (λ n m. Stops (Closes n m (connection_entries calls.0 replies.0))) end_is sum_is)))
  connection_or Two bytes streams h =
      elim (gathered_or bytes streams h) [
        | inl e ↦
            rw e (client_or (context.start + length bytes) (context.before + size streams)
            streams.server (stream_end judge_call streams.client))
        | inr past ↦ Fails (past.0, past.1, inr past.2)
      ]

-- ---- a file

-- the word 1 opens a connection, or there are too many
pub begins_or : (version : Version) (at total number : ℕ) (entries : List Entry) (word : List ℕ)
    → IsWord word 1
    → Comes {A = Unit {0}} AnyRefusal
    (λ _.
    Runs (inside_at version (at + 4) total (suc number) entries (opened version (at + 4) total)))
    (after file_next (Runs (at_mark version at total number entries)) word)
begins_or version at total number entries word is =
    rw (mark_runs version at total number entries word 1 is)
    (by_test (nat_lt number max_connections) (λ e. At tt (rw e))
    (λ e. Fails (refusal (file_fault at TooManyConnections), tt, inl (rw e))))

-- after whole connections
abbrev pub Marked : Version → ℕ → ℕ → ℕ → Run Parsing ShownFault → Type 0
Marked version end sum count run =
    Comes {A = List Entry} AnyRefusal (λ entries. Runs (at_mark version end sum count entries)) run

one_or : (version : Version) (at total number end sum : ℕ) (entries : List Entry) (bytes : List ℕ)
    (streams : Streams) → IsConnection version bytes streams → end ≡ at + length bytes
    → sum ≡ total + size streams
    → Marked version end sum (suc number)
    (after file_next (Runs (at_mark version at total number entries)) bytes)
one_or version at total number end sum entries bytes streams h end_is sum_is =
    let there : at + 4 + length h.rest ≡ end =
    omega (lengths, ap length h.split) in
    comes_on _ _ h.mark h.rest h.split (begins_or version at total number entries h.mark h.one)
    (λ _.
    comes_inside (in_file version (at + 4) total (suc number) entries) h.rest 0
    (opened version (at + 4) total)
    (connection_or (context_at (suc number) (at + 4) total) version h.rest streams h.both)
    (λ more.
    At (entries ++ more)
    (ap₂ (λ n m. Runs (at_mark version n m (suc number) (entries ++ more))) there (sym sum_is))))

connections_or : (version : Version) (connections : List Streams)
    (at total number end sum count : ℕ) (entries : List Entry) (bytes : List ℕ)
    → Joins (IsConnection version) bytes connections → end ≡ at + length bytes
    → sum ≡ total + total_size connections → count ≡ number + length connections
    → Marked version end sum count
    (after file_next (Runs (at_mark version at total number entries)) bytes)
connections_or version [] at total number end sum count entries bytes h end_is sum_is count_is =
    let at_end : at ≡ end = omega (arith, ap length h) in
    let all : total ≡ sum = omega arith in
    let each : number ≡ count = omega arith in
    rw h (At entries (λ i. Runs (at_mark version (at_end i) (all i) (each i) entries)))
connections_or version (streams ∷ connections) at total number end sum count entries bytes h end_is
    sum_is count_is =
    comes_on _ _ h.0 h.1 h.2
    (one_or version at total number (at + length h.0) (total + size streams) entries h.0 streams h.3
    refl refl)
    (λ more.
    connections_or version connections (at + length h.0) (total + size streams) (suc number) end
    sum count more h.1 h.4 (omega (lengths, ap length h.2))
    (omega arith) (omega arith))

-- after the magic and whole connections
pub begun_or : (bytes : List ℕ) (b : AfterConnections bytes)
    → Marked b.version (length b.front) (total_size b.connections) (length b.connections)
    (parsed b.front)
begun_or bytes b =
    rw (after_two _ _ (magic b.version) b.whole b.begins (magics_run b.version) refl)
    (connections_or b.version b.connections 8 0 0 (length b.front) (total_size b.connections)
    (length b.connections) [] b.whole b.joined
    (omega (lengths, ap length b.begins, length_magic b.version)) (omega lengths) (omega lengths))

-- and the word 1
pub inside_or : (bytes : List ℕ) (b : AfterConnections bytes) → b.mark ≡ 1
    → Comes {A = List Entry} AnyRefusal
    (λ entries.
    Runs (inside_at b.version (length b.front + 4) (total_size b.connections)
    (suc (length b.connections)) entries
    (opened b.version (length b.front + 4) (total_size b.connections))))
    (parsed (b.front ++ b.word))
inside_or bytes b one =
    comes_on _ _ b.front b.word refl (begun_or bytes b)
    (λ entries.
    elim (begins_or b.version (length b.front) (total_size b.connections) (length b.connections)
    entries b.word (b.is_word.0, b.is_word.1 ∙ one)) [
      | At _ e ↦ At entries e
      | Fails gone ↦ Fails gone
    ])

-- what comes after whole connections, from where the machine stands
after_over : (bytes : List ℕ) (b : AfterConnections bytes) (shown : ShownFault)
    → ((entries : List Entry)
    → Over AnyRefusal
    (after file_next
    (Runs (at_mark b.version (length b.front) (total_size b.connections)
    (length b.connections) entries)) (b.word ++ b.rest)) shown)
    → Over AnyRefusal (parsed bytes) shown
after_over bytes b shown =
    over_on _ _ b.front (b.word ++ b.rest)
    (b.split ∙ append_assoc b.front b.word b.rest) (begun_or bytes b)
    (words_some b.word b.rest b.mark b.is_word)

-- where nothing comes after the word
word_over : (bytes : List ℕ) (b : AfterConnections bytes) (shown : ShownFault) → b.rest ≡ []
    → ((entries : List Entry)
    → landed (marked b.version (length b.front) (total_size b.connections) (length b.connections)
    entries b.mark) ≡ Stops shown)
    → Over AnyRefusal (parsed bytes) shown
word_over bytes b shown none stops =
    after_over bytes b shown (λ entries.
    inl (rw (none, append-nil) (mark_runs b.version (length b.front) (total_size b.connections)
    (length b.connections) entries b.word b.mark b.is_word ∙ stops entries)))

end_over : (version : Version) (at total number : ℕ) (entries : List Entry) (word rest : List ℕ)
    (mark : ℕ) → IsWord word mark → mark ≡ 0 → length rest ≡ 1
    → after file_next (Runs (at_mark version at total number entries)) (word ++ rest)
    ≡ Stops (refusal (file_fault (at + 4) AfterEnd))
end_over version at total number entries word [] mark is none one = absurd (omega arith)
end_over version at total number entries word (byte ∷ []) mark is none one =
    after_two _ _ word (byte ∷ []) refl
    (mark_runs version at total number entries word 0 (is.0, is.1 ∙ none)) refl
end_over version at total number entries word (byte ∷ other ∷ more) mark is none one =
    absurd (omega arith)

-- the connection after whole connections
abbrev position_in : {bytes : List ℕ} → AfterConnections bytes → Position
position_in b =
    context_at (suc (length b.connections)) (length b.front + 4) (total_size b.connections)

-- what comes after the word 1
inside_over : (bytes : List ℕ) (b : AfterConnections bytes) (shown : ShownFault) → b.mark ≡ 1
    → 0 < length b.rest
    → Over RefusedClosing (opening_taken b.version (position_in b) b.rest) (Refuses shown)
    → Over AnyRefusal (parsed bytes) shown
inside_over bytes b shown one some over =
    let at : ℕ = length b.front + 4 in
    let total : ℕ = total_size b.connections in
    let number : ℕ = suc (length b.connections) in
    over_on _ _ (b.front ++ b.word) b.rest b.split (inside_or bytes b one) some
    (λ entries.
    over_inside (in_file b.version at total number entries) b.rest 0 (opened b.version at total)
    refl over)

-- the machine stops with the fault, and with some entries that are still reached
pub rule_over : (bytes : List ℕ) (fault : Fault) → Rule bytes fault
    → (entries : List Entry) × Over AnyRefusal (parsed bytes) (shown_with entries fault)
rule_over bytes fault (MagicDiffers version front more byte due split begins differs is) =
    ([], inl (rw is (magic_stops version bytes front more byte due split begins differs)))
rule_over bytes fault (MarkIsBad b none bad is) = (
  [],
  word_over bytes b (refusal fault) none
      (λ entries.
      rw is (bad_mark_stops b.version (length b.front) (total_size b.connections)
      (length b.connections) entries b.mark bad)),
)
rule_over bytes fault (ConnectionIsTooMany b none one full is) = (
  [],
  word_over bytes b (refusal fault) none
      (λ entries.
      rw (is, one, le-ltb (length b.connections) max_connections (omega (arith, full)))),
)
rule_over bytes fault (WithinConnection b one shows) =
    let over = connection_over (position_in b) b.version b.rest fault shows in (
      over.0,
      inside_over bytes b (shown_with over.0 fault) one
          (connection_some (position_in b) b.version b.rest fault shows) over.1,
    )
rule_over bytes fault (ByteAfterEnd b none one is) = (
  [],
  after_over bytes b (refusal fault)
      (λ entries.
      inl (rw is (end_over b.version (length b.front) (total_size b.connections)
      (length b.connections) entries b.word b.rest b.mark b.is_word none one))),
)

-- where streams end with a fault, the machine stops with what comes before it
pub ends_over : (bytes : List ℕ) (entries : List Entry) (ends : EndsStreams bytes entries)
    → Over AnyRefusal (parsed bytes) (shown_with entries ends.fault)
ends_over bytes entries ends =
    let b = ends.here in
    inside_over bytes b (shown_with entries ends.fault) ends.opens
    (streams_some (suc (length b.connections)) b.rest entries ends.fault ends.shows)
    (rw ends.two (streams_over (position_in b) b.rest entries ends.fault ends.shows))
