-- The machine for a connection against its two sides.
use Rattle.capture3.proofs.Common.{lengths, ◌⊎◌, Ends, Run, Runs, Stops, after, Leads, leads_within, Item, AreBytes, Client, Server, ReplyItems, Version, One, Two, AreStreams, Streams, size, max_bytes, IsStream, Position, server_position, calls_in_turn, refusal, replies_to, ShownFault, StreamsShow, client_refusal, server_refusal, ConnectionShows, InCalls, InReplies, InClientStream, InServerStream, Entry, judge_call, MixedEnd, MixedCloses, MixedRefuses, mixed_next, mixing_from, judge_replies, Opening, InClient, InServer, InMixed, Closing, Closes, Refuses, turning, ending, after_server, after_client, conversing, opening_next, opened, StreamEnd, Held, Faulty, stream_end, Holds, fault_of_record, Converses, connection_entries, Siding, SideEnd, SideCloses, SideRefuses, side_next, siding_from, ◌≡◌, inl, inr, ℕ, ◌+◌, ◌≤◌, List, [], ◌∷◌, ◌++◌, length, refl, sym, ap, ◌∙◌, append_assoc, append-nil, arith}
use Rattle.capture3.proofs.Lemmas.Messages.BodiesLemmas.{the_calls, the_replies}
use Rattle.capture3.proofs.Lemmas.Container.BytesOf.{split_bytes, mixed_bytes}
use Rattle.capture3.proofs.Lemmas.Connections.JudgedInTurn.{conversed, calls_hold, replies_hold}
use Rattle.capture3.proofs.Lemmas.Container.SidedChunksMachineLemmas.{HasMixed, ClosesMixed, EndsMixed, RefusedMixed, mixed_leads, mixed_runs, mixed_closes, nothing_gathered}
use Rattle.capture3.proofs.Lemmas.Files.EndedMachines.{Nested, after_two, runs_inside, stops_inside}
use Rattle.capture3.proofs.Lemmas.Sides.SideMachineLemmas.{HasSide, EndsSide, RefusedSide, side_leads, nothing_taken, side_runs, side_closes}
use Rattle.capture3.proofs.Lemmas.Sides.StreamEnds.{EndsStream, ends_stream, stream_ends}

-- after the client side
pub record InServerSide (context : Position) (bytes : List ℕ) (calls : List (List Item))
    (s : Siding ReplyItems) : Type 0 where
  pub front : List ℕ
  pub last : List ℕ
  pub client : List ℕ
  pub split : bytes ≡ front ++ last
  pub first : IsStream front client
  pub holds : Holds calls_in_turn client calls
  pub fits : context.before + length client ≤ max_bytes
  pub rest : HasSide (replies_to calls) (server_position context front client) last s

-- what has come of a connection
abbrev pub HasOpening : Version → Position → List ℕ → Opening → Type 0
HasOpening One context bytes (InClient s) = HasSide calls_in_turn context bytes s
HasOpening One context bytes (InServer calls s) = InServerSide context bytes calls s
HasOpening Two context bytes (InMixed s) = HasMixed context bytes s
HasOpening version context bytes o = ⊥

-- a connection is whole, with these entries
pub record ClosesConnection (version : Version) (context : Position) (bytes : List ℕ) (at total : ℕ)
    (entries : List Entry) : Type 0 where
  pub streams : Streams
  pub calls : List (List Item)
  pub replies : List ReplyItems
  pub whole : AreStreams version bytes streams
  pub converses : Converses streams calls replies
  pub at_is : at ≡ context.start + length bytes
  pub total_is : total ≡ context.before + size streams
  pub fits : total ≤ max_bytes
  pub entries_are : entries ≡ connection_entries calls replies

-- what a refusal says of a connection: its fault, and no entries, or those of its streams
abbrev pub RefusesConnection : Version → Position → List ℕ → ShownFault → Type 0
RefusesConnection version context bytes shown =
    ConnectionShows version context bytes shown.fault
    × ((shown.more ≡ [])
    ⊎ ((version ≡ Two) × StreamsShow context.connection bytes shown.more shown.fault))

abbrev pub EndsConnection : Version → Position → List ℕ → Closing → Type 0
EndsConnection version context bytes (Closes at total entries) =
    ClosesConnection version context bytes at total entries
EndsConnection version context bytes (Refuses shown) =
    RefusesConnection version context bytes shown

-- ---- the machines inside

abbrev pub RefusedClosing : Closing → Type 0
RefusedClosing (Closes at total entries) = ⊥
RefusedClosing (Refuses shown) = Unit {0}

module _ (number : ℕ) where
  pub in_client : Nested (side_next judge_call (fault_of_record number Client))
      (opening_next number)
      (λ n. InClient) (λ n. turning) RefusedSide RefusedClosing
  in_client = record { commutes = λ n s byte. refl; ends = λ n. refused }
    where
      refused : (x : SideEnd (List Item)) → RefusedSide x
          → (y : Closing) × RefusedClosing y × (turning x ≡ Ends y)
      refused (SideCloses at total messages) h = absurd h
      refused (SideRefuses fault) h = (Refuses (refusal fault), tt, refl)

  pub in_server : (calls : List (List Item))
      → Nested (side_next (judge_replies calls) (fault_of_record number Server))
      (opening_next number)
      (λ n. InServer calls) (λ n. ending calls) RefusedSide RefusedClosing
  in_server calls = record { commutes = λ n s byte. refl; ends = λ n. refused }
    where
      refused : (x : SideEnd ReplyItems) → RefusedSide x
          → (y : Closing) × RefusedClosing y × (ending calls x ≡ Ends y)
      refused (SideCloses at total messages) h = absurd h
      refused (SideRefuses fault) h = (Refuses (refusal fault), tt, refl)

  pub in_mixed : Nested mixed_next (opening_next number) (λ n. InMixed) (λ n. conversing number)
      RefusedMixed RefusedClosing
  in_mixed = record { commutes = λ n s byte. refl; ends = λ n. refused }
    where
      refused : (x : MixedEnd) → RefusedMixed x
          → (y : Closing) × RefusedClosing y × (conversing number x ≡ Ends y)
      refused (MixedCloses at total streams) h = absurd h
      refused (MixedRefuses fault) h = (Refuses (refusal fault), tt, refl)

-- the machine for a connection, from its start
abbrev pub opening_taken : Version → Position → List ℕ → Run Opening Closing
opening_taken version context =
    after (opening_next context.connection) (Runs (opened version context.start context.before))

module _ (context : Position) where
  -- ---- version 1

  turning_leads : (bytes : List ℕ) (x : SideEnd (List Item))
      → EndsSide calls_in_turn Client context bytes x
      → Leads (HasOpening One context) (EndsConnection One context) bytes (turning x)
  turning_leads bytes (SideCloses at total calls) h =
      record {
        front = bytes;
        last = [];
        client = h.stream;
        split = sym (append-nil bytes);
        first = h.closed;
        holds = h.holds;
        fits = omega (arith, h.fits, h.total_is);
        rest =
            rw (h.at_is, h.total_is) (nothing_taken (the_replies calls) Server
            (server_position context bytes h.stream) (omega (arith, h.fits, h.total_is)));
      }
  turning_leads bytes (SideRefuses fault) h = (InCalls h, inl refl)

  ending_leads : (bytes front last client : List ℕ) (calls : List (List Item))
      → bytes ≡ front ++ last → IsStream front client → Holds calls_in_turn client calls
      → (x : SideEnd ReplyItems)
      → EndsSide (replies_to calls) Server (server_position context front client) last x
      → Leads (HasOpening One context) (EndsConnection One context) bytes (ending calls x)
  ending_leads bytes front last client calls split first holds (SideCloses at total replies) h =
      let streams : Streams = record { client = client; server = h.stream } in
      record {
        streams = streams;
        calls = calls;
        replies = replies;
        whole = (front, last, split, first, h.closed);
        converses = conversed streams calls replies holds h.holds;
        at_is = omega (lengths, ap length split);
        total_is = omega (arith, h.total_is);
        fits = h.fits;
        entries_are = refl;
      }
  ending_leads bytes front last client calls split first holds (SideRefuses fault) h =
      (InReplies front last client calls split first holds h, inl refl)

  -- after the client side
  turned : (front client : List ℕ) (calls : List (List Item)) → IsStream front client
      → Holds calls_in_turn client calls → context.before + length client ≤ max_bytes
      → opening_taken One context front
      ≡ Runs (InServer calls
      (siding_from (context.start + length front) (context.before + length client)))
  turned front client calls first holds fits =
      stops_inside (in_client context.connection) front 0 (siding_from context.start context.before)
      (side_closes the_calls Client context front (context.start + length front)
      (context.before + length client) calls
      (record {
        stream = client;
        closed = first;
        holds = holds;
        at_is = refl;
        total_is = refl;
        fits = fits;
      }))

  -- ---- version 2

  streams_show : (bytes : List ℕ) (shown : ShownFault)
      → StreamsShow context.connection bytes shown.more shown.fault
      → RefusesConnection Two context bytes shown
  streams_show bytes shown h = (inr (shown.more, h), inr (refl, h))

  after_server_ends : (bytes : List ℕ) (at total : ℕ) (streams : Streams)
      (calls : List (List Item)) → ClosesMixed context bytes at total streams
      → Holds calls_in_turn streams.client calls
      → (x : StreamEnd ReplyItems) → EndsStream (replies_to calls) streams.server x
      → Leads (HasOpening Two context) (EndsConnection Two context) bytes
      (after_server context.connection at total calls x)
  after_server_ends bytes at total streams calls h holds (Held replies) ends =
      record {
        streams = streams;
        calls = calls;
        replies = replies;
        whole = h.mixed;
        converses = conversed streams calls replies holds ends;
        at_is = h.at_is;
        total_is = h.total_is;
        fits = h.fits;
        entries_are = refl;
      }
  after_server_ends bytes at total streams calls h holds (Faulty replies fault) ends =
      streams_show bytes (server_refusal context.connection calls replies fault)
      (InServerStream streams calls replies ends.0 h.mixed holds ends.1 refl
      (ap (fault_of_record context.connection Server) ends.2))

  after_client_ends : (bytes : List ℕ) (at total : ℕ) (streams : Streams)
      → AreBytes streams.server → ClosesMixed context bytes at total streams
      → (x : StreamEnd (List Item)) → EndsStream calls_in_turn streams.client x
      → Leads (HasOpening Two context) (EndsConnection Two context) bytes
      (after_client context.connection at total streams.server x)
  after_client_ends bytes at total streams are h (Held calls) ends =
      after_server_ends bytes at total streams calls h ends
      (stream_end (judge_replies calls) streams.server)
      (ends_stream (the_replies calls) streams.server are)
  after_client_ends bytes at total streams are h (Faulty calls fault) ends =
      streams_show bytes (client_refusal context.connection calls fault)
      (InClientStream streams calls ends.0 h.mixed ends.1 refl
      (ap (fault_of_record context.connection Client) ends.2))

  conversing_ends : (bytes : List ℕ) (x : MixedEnd) → AreBytes bytes → EndsMixed context bytes x
      → Leads (HasOpening Two context) (EndsConnection Two context) bytes
      (conversing context.connection x)
  conversing_ends bytes (MixedCloses at total streams) are h =
      let both = mixed_bytes bytes streams h.mixed are in
      after_client_ends bytes at total streams both.1 h (stream_end judge_call streams.client)
      (ends_stream the_calls streams.client both.0)
  conversing_ends bytes (MixedRefuses fault) are h = (inl h, inl refl)

  -- ---- by version

  pub opening_leads : (version : Version) (bytes : List ℕ) (o : Opening) (byte : ℕ)
      → AreBytes (bytes ++ byte ∷ []) → HasOpening version context bytes o
      → Leads (HasOpening version context) (EndsConnection version context) (bytes ++ byte ∷ [])
      (opening_next context.connection o byte)
  opening_leads One bytes (InClient s) byte are h =
      leads_within (HasSide calls_in_turn context)
      (EndsSide calls_in_turn Client context) (HasOpening One context)
      (EndsConnection One context) InClient turning (bytes ++ byte ∷ []) (bytes ++ byte ∷ [])
      (λ t side. side) (turning_leads (bytes ++ byte ∷ []))
      (side_next judge_call (fault_of_record context.connection Client) s byte)
      (side_leads the_calls Client context bytes s byte are h)
  opening_leads One bytes (InServer calls s) byte are h =
      let split : bytes ++ byte ∷ [] ≡ h.front ++ (h.last ++ byte ∷ []) =
      rw (h.split, append_assoc) in
      leads_within (HasSide (replies_to calls) (server_position context h.front h.client))
      (EndsSide (replies_to calls) Server (server_position context h.front h.client))
      (HasOpening One context) (EndsConnection One context) (InServer calls) (ending calls)
      (h.last ++ byte ∷ []) (bytes ++ byte ∷ [])
      (λ t side.
      record {
        front = h.front;
        last = h.last ++ byte ∷ [];
        client = h.client;
        split = split;
        first = h.first;
        holds = h.holds;
        fits = h.fits;
        rest = side;
      })
      (ending_leads (bytes ++ byte ∷ []) h.front (h.last ++ byte ∷ []) h.client calls split h.first
      h.holds)
      (side_next (judge_replies calls) (fault_of_record context.connection Server) s byte)
      (side_leads
      (the_replies calls) Server (server_position context h.front h.client) h.last s byte
      (split_bytes (bytes ++ byte ∷ []) h.front (h.last ++ byte ∷ []) split are).1 h.rest)
  opening_leads Two bytes (InMixed s) byte are h =
      leads_within (HasMixed context) (EndsMixed context) (HasOpening Two context)
      (EndsConnection Two context) InMixed (conversing context.connection) (bytes ++ byte ∷ [])
      (bytes ++ byte ∷ [])
      (λ t mixed. mixed) (λ x ends. conversing_ends (bytes ++ byte ∷ []) x are ends)
      (mixed_next s byte) (mixed_leads context bytes s byte h)
  opening_leads version bytes o byte are h = absurd h

  pub opening_runs : (version : Version) (bytes : List ℕ) (o : Opening)
      → HasOpening version context bytes o → opening_taken version context bytes ≡ Runs o
  opening_runs One bytes (InClient s) h =
      runs_inside (in_client context.connection) bytes 0 (siding_from context.start context.before)
      (side_runs the_calls Client context bytes s h)
  opening_runs One bytes (InServer calls s) h =
      after_two _ _ h.front h.last h.split (turned h.front h.client calls h.first h.holds h.fits)
      (runs_inside (in_server context.connection calls) h.last 0
      (siding_from (context.start + length h.front) (context.before + length h.client))
      (side_runs (the_replies calls) Server (server_position context h.front h.client) h.last s
      h.rest))
  opening_runs Two bytes (InMixed s) h =
      runs_inside (in_mixed context.connection) bytes 0 (mixing_from context.start context.before)
      (mixed_runs context bytes s h)
  opening_runs version bytes o h = absurd h

  pub opening_closes : (version : Version) (bytes : List ℕ) (at total : ℕ)
      (entries : List Entry) → ClosesConnection version context bytes at total entries
      → opening_taken version context bytes ≡ Stops (Closes at total entries)
  opening_closes One bytes at total entries h =
      let (front, last, split, client, server) = h.whole in
      let holds = calls_hold h.streams h.calls h.replies h.converses in
      rw h.entries_are (after_two _ _ front last split
      (turned front h.streams.client h.calls client holds (omega (arith, h.fits, h.total_is)))
      (stops_inside (in_server context.connection h.calls) last 0
      (siding_from (context.start + length front) (context.before + length h.streams.client))
      (side_closes (the_replies h.calls) Server (server_position context front h.streams.client)
      last at total h.replies
      (record {
        stream = h.streams.server;
        closed = server;
        holds = replies_hold h.streams h.calls h.replies h.converses;
        fits = h.fits;
        at_is = omega (lengths, ap length split);
        total_is = omega (arith, h.total_is);
      }))))
  opening_closes Two bytes at total entries h =
      stops_inside (in_mixed context.connection) bytes 0 (mixing_from context.start context.before)
      (mixed_closes context bytes at total h.streams
      (record { mixed = h.whole; at_is = h.at_is; total_is = h.total_is; fits = h.fits }))
      ∙ rw (
        stream_ends the_calls h.streams.client (Held h.calls)
            (calls_hold h.streams h.calls h.replies h.converses),
        stream_ends (the_replies h.calls) h.streams.server (Held h.replies)
            (replies_hold h.streams h.calls h.replies h.converses),
        h.entries_are,
      )

  pub nothing_opened : (version : Version) → context.before ≤ max_bytes
      → HasOpening version context [] (opened version context.start context.before)
  nothing_opened One fits = nothing_taken the_calls Client context fits
  nothing_opened Two fits = nothing_gathered context fits
