-- Judging the records of streams that are gathered, one after another.
use Rattle.capture3.proofs.Common.{◌≡◌, inl, inr, ℕ, ◌+◌, List, [], ◌∷◌, ◌++◌, length, map, take, drop, take-append-drop, Result, Ok, Err, refl, sym, ap, subst, ◌∙◌, append_assoc, append-nil, arith, length-append, common_steps, Stop, Item, AreBytes, Joining, Between, Header, Bytes, Joined, Whole, TooLong, join_next, Next, Goes, Ends, Run, Runs, Stops, Stopped, after, landed, within, last_running, after-append, last_running-append, Known, Fault, Side, Client, Server, ReplyItems, Two, Entry, Shows, FirstFault, judge_call, judge_reply, Opening, Closing, judge_replies, after_server, after_client, Parsing, file_next, file_start, parsed, emitted, verdict, verdict_of, AreFirstReached, Reached, RecordFault, Streams, reply_entry, connection_entries, Unpacking, Mark, ShownFault, client_refusal, server_refusal, IsTableOf, xid_in, xids_in, Judge, Reading, judged, StreamEnd, Held, Faulty, left_in, end_of, rest_end, stream_end, stream_next, recorded, Judged, parsing_in, parsing_at, client_entries, server_entries, with_call, with_reply, turned, connection_closed, unpacking_with, reading_with, between_records, Recalls, ShowsFirst, map-append, xid_of}
use Rattle.capture3.specs.Entry as entries
use Rattle.capture3.specs.FileMachine as parsing
use Rattle.capture3.proofs.Lemmas.Reader.PlacingLemmas.{counted_on}
use Rattle.capture3.proofs.Lemmas.Container.BytesOf.{split_bytes}
use Rattle.capture3.proofs.Lemmas.Reader.WholeEntries.{call_added, reply_added}
use Rattle.capture3.proofs.Lemmas.Sides.StreamEnds.{rest_accepts, rest_refuses, rest_leaves}
use Rattle.capture3.proofs.Lemmas.Reached.EmittedEntries.{stop_reaches}
use Rattle.capture3.proofs.Lemmas.Reached.ReachedBeforeFaults.{first_reached_at}
use Rattle.capture3.proofs.Lemmas.Files.Verdicts.{clean_from_runs, shows_from_stops, stays, run_shows, verdict_from_typed}
use Rattle.capture3.proofs.Lemmas.Reached.ReachedLemmas.{stands_whole}
use Rattle.capture3.proofs.Lemmas.Reader.FileStandingLemmas.{whole_connections}
use Rattle.capture3.proofs.Lemmas.Connections.NumberingLemmas.{opened_more, opened_still}

-- ---- the rest of a stream

drop_more : (n count : ℕ) (stream : List ℕ) → drop count (drop n stream) ≡ drop (n + count) stream
drop_more n count stream = grind (arith, common_steps)

-- the rest, cut after the bytes that were taken of it
cut_rest : {M : Type 0} (judge : Judge M) (s : Reading M) (n count : ℕ) (stream : List ℕ)
    → rest_end judge s (drop n stream)
    ≡ rest_end judge s (take count (drop n stream) ++ drop (n + count) stream)
cut_rest judge s n count stream =
    ap (rest_end judge s) (sym (take-append-drop count (drop n stream))
    ∙ ap (λ (b : List ℕ). take count (drop n stream) ++ b) (drop_more n count stream))

-- after so many bytes of a stream and these messages, whose rest is to be judged yet
module _ {M : Type 0} (judge : Judge M) (messages : List M) (taken : ℕ) (stream : List ℕ)
    (here : stream_end judge stream
    ≡ rest_end judge (between_records messages) (drop taken stream)) where
  accepts_next : (count : ℕ) (body : List ℕ) (m : M)
      → after join_next (Runs Between) (take count (drop taken stream)) ≡ Stops (Whole body)
      → judge messages body ≡ Ok m
      → stream_end judge stream
      ≡ rest_end judge (between_records (messages ++ m ∷ [])) (drop (taken + count) stream)
  accepts_next count body m whole ok =
      here ∙ cut_rest judge (between_records messages) taken count stream
      ∙ rest_accepts judge messages (take count (drop taken stream)) (drop (taken + count) stream)
      body m whole ok

  -- the next record is refused, or too long
  pub refuses_next : (count : ℕ) (x : Joined) (fault : RecordFault)
      → after join_next (Runs Between) (take count (drop taken stream)) ≡ Stops x
      → recorded judge messages x ≡ Ends fault → stream_end judge stream ≡ Faulty messages fault
  refuses_next count x fault stops ends =
      here ∙ cut_rest judge (between_records messages) taken count stream
      ∙ rest_refuses judge messages (take count (drop taken stream)) (drop (taken + count) stream)
      x fault stops ends

  -- the stream ends, between records or within one
  pub leaves_next : (j : Joining) → after join_next (Runs Between) (drop taken stream) ≡ Runs j
      → stream_end judge stream ≡ left_in messages j
  leaves_next j runs = here ∙ rest_leaves judge messages (drop taken stream) j runs

-- the last of the bytes shows the fault
pub shows_at_last : {bytes : List ℕ} {handed : List Entry} (front : List ℕ) (byte : ℕ)
    (state : Parsing) (shown : ShownFault) → bytes ≡ front ++ byte ∷ [] → parsed front ≡ Runs state
    → file_next state byte ≡ Ends shown → handed ≡ emitted state ++ shown.more
    → ShowsFirst bytes handed shown.fault
shows_at_last front byte state shown split runs ends emits =
    record {
      front = front;
      byte = byte;
      back = [];
      state = state;
      shown = shown;
      split = split;
      runs = runs;
      ends = ends;
      is = refl;
      emits = emits;
    }

-- ---- the client stream

-- its fault is the file's
abbrev pub said : Unpacking → Judged → Next Opening Closing → Next Parsing ShownFault
said u j n =
    within (λ p. parsing_in Two j.start j.before u.connections j.entries (parsing.Inside p))
    (parsing.closed Two u.connections j.entries) n

module _ (u : Unpacking) (streams : Streams) (taken records : ℕ) (table : Known)
    (bytes : List ℕ) (handed : List Entry)
    (r : Recalls u streams Client taken records table bytes handed) where
  pub call_recalled : (count : ℕ) (body : List ℕ) (call : List Item) (new : Known)
      → after join_next (Runs Between) (take count (drop taken streams.client)) ≡ Stops (Whole body)
      → judge_call r.so_far.calls body ≡ Ok call
      → IsTableOf new (r.so_far.calls ++ call ∷ []) → xid_of call ≡ xid_in call ∷ []
      → Recalls u streams Client (taken + count) (records + 1) new bytes
      (handed ++ entries.Call call ∷ [])
  call_recalled count body call new whole ok table_is begins =
      let h = r.here in
      record {
        front = r.front;
        byte = r.byte;
        state = r.state;
        so_far = with_call r.so_far call;
        split = r.split;
        runs = r.runs;
        ends = r.ends;
        emits = r.emits;
        calls = table_is;
        opened = opened_more handed r.so_far.calls call begins r.opened;
        here = (
          accepts_next judge_call r.so_far.calls taken streams.client h.0 count body call whole ok,
          omega (arith, h.1, length-append r.so_far.calls (call ∷ [])),
          ap (λ (l : List Entry). l ++ entries.Call call ∷ []) h.2
              ∙ sym (call_added r.so_far.entries r.so_far.calls call),
        );
        placed =
            counted_on u.connections records u.connections (records + 1) handed (entries.Call call)
            r.placed (omega arith) refl;
      }

  pub client_shows : (fault : RecordFault)
      → stream_end judge_call streams.client ≡ Faulty r.so_far.calls fault
      → ShowsFirst bytes handed (client_refusal u.connections r.so_far.calls fault).fault
  client_shows fault faulty =
      shows_at_last r.front r.byte r.state (client_refusal u.connections r.so_far.calls fault)
      r.split r.runs
      (r.ends
      ∙ ap (λ x. said u r.so_far (after_client u.connections u.at u.total streams.server x)) faulty)
      (r.here.2
      ∙ sym (append_assoc r.so_far.entries (entries.Begin ∷ []) (map entries.Call r.so_far.calls))
      ∙ ap (λ (l : List Entry). l ++ map entries.Call r.so_far.calls) (sym r.emits))

  -- the stream ends
  pub turn_recalled : after join_next (Runs Between) (drop taken streams.client) ≡ Runs Between
      → Recalls u streams Server 0 0 table bytes (handed ++ entries.Turn ∷ [])
  turn_recalled runs =
      let h = r.here in
      record {
        front = r.front;
        byte = r.byte;
        state = r.state;
        so_far = turned r.so_far;
        split = r.split;
        runs = r.runs;
        ends = r.ends;
        emits = r.emits;
        calls = r.calls;
        opened =
            opened_still handed entries.Turn (xids_in r.so_far.calls) (λ xs. refl) r.opened;
        here = (
          leaves_next judge_call r.so_far.calls taken streams.client h.0 Between runs,
          refl,
          refl,
          ap (λ (l : List Entry). l ++ entries.Turn ∷ []) h.2
              ∙ append_assoc r.so_far.entries (client_entries r.so_far.calls) (entries.Turn ∷ []),
        );
        placed =
            counted_on u.connections records u.connections 0 handed entries.Turn r.placed
            (omega arith) refl;
      }

-- ---- the server stream

module _ (u : Unpacking) (streams : Streams) (taken records : ℕ) (table : Known)
    (bytes : List ℕ) (handed : List Entry)
    (r : Recalls u streams Server taken records table bytes handed) where
  pub reply_recalled : (count : ℕ) (body : List ℕ) (reply : ReplyItems)
      → after join_next (Runs Between) (take count (drop taken streams.server)) ≡ Stops (Whole body)
      → judge_reply r.so_far.calls body ≡ Ok reply
      → Recalls u streams Server (taken + count) (records + 1) table bytes
      (handed ++ reply_entry reply ∷ [])
  reply_recalled count body reply whole ok =
      let h = r.here in
      record {
        front = r.front;
        byte = r.byte;
        state = r.state;
        so_far = with_reply r.so_far reply;
        split = r.split;
        runs = r.runs;
        ends = r.ends;
        emits = r.emits;
        calls = r.calls;
        opened =
            opened_still handed (reply_entry reply) (xids_in r.so_far.calls) (λ xs. refl) r.opened;
        here = (
          h.0,
          accepts_next (judge_replies r.so_far.calls) r.so_far.replies taken streams.server h.1
              count body reply whole ok,
          omega (arith, h.2, length-append r.so_far.replies (reply ∷ [])),
          ap (λ (l : List Entry). l ++ reply_entry reply ∷ []) h.3
              ∙ sym (reply_added r.so_far.entries r.so_far.calls r.so_far.replies reply),
        );
        placed =
            counted_on u.connections records u.connections (records + 1) handed
            (reply_entry reply) r.placed (omega arith) refl;
      }

  -- what is said of both streams
  both_said : (x : StreamEnd ReplyItems)
      → stream_end (judge_replies r.so_far.calls) streams.server ≡ x
      → file_next r.state r.byte
      ≡ said u r.so_far (after_server u.connections u.at u.total r.so_far.calls x)
  both_said x e =
      r.ends
      ∙ ap (λ y. said u r.so_far (after_client u.connections u.at u.total streams.server y))
      r.here.0
      ∙ ap (λ y. said u r.so_far (after_server u.connections u.at u.total r.so_far.calls y)) e

  pub server_shows : (fault : RecordFault)
      → stream_end (judge_replies r.so_far.calls) streams.server ≡ Faulty r.so_far.replies fault
      → ShowsFirst bytes handed
      (server_refusal u.connections r.so_far.calls r.so_far.replies fault).fault
  server_shows fault faulty =
      shows_at_last r.front r.byte r.state
      (server_refusal u.connections r.so_far.calls r.so_far.replies fault) r.split r.runs
      (both_said (Faulty r.so_far.replies fault) faulty)
      (r.here.3
      ∙ sym (append_assoc r.so_far.entries (entries.Begin ∷ [])
      (map entries.Call r.so_far.calls ++ server_entries r.so_far.replies))
      ∙ rw (← r.emits))

  -- the connection ends: the machine runs on, at a connection word
  pub close_recalled : after join_next (Runs Between) (drop taken streams.server) ≡ Runs Between
      → (parsed bytes
      ≡ Runs (parsing_in Two u.at u.total u.connections (connection_closed r.so_far).entries
      (parsing.Mark [])))
      × (handed ++ entries.Close ∷ [] ≡ (connection_closed r.so_far).entries)
  close_recalled runs = (
    ap parsed r.split ∙ after-append file_next (Runs file_start) r.front (r.byte ∷ [])
        ∙ ap (λ run. after file_next run (r.byte ∷ [])) r.runs
        ∙ ap landed (both_said (Held r.so_far.replies)
        (leaves_next (judge_replies r.so_far.calls) r.so_far.replies taken streams.server r.here.1
        Between runs)),
    ap (λ (l : List Entry). l ++ entries.Close ∷ []) r.here.3
        ∙ append_assoc r.so_far.entries
        (client_entries r.so_far.calls ++ server_entries r.so_far.replies) (entries.Close ∷ []),
  )

-- ---- a fault

-- whatever comes after the bytes, the fault is the first, and what was handed out is what they
-- reach
pub first_of : (bytes rest : List ℕ) (handed : List Entry) (fault : Fault) → AreBytes bytes
    → ShowsFirst bytes handed fault
    → FirstFault (bytes ++ rest) fault × Reached (bytes ++ rest) handed
first_of bytes rest handed fault are s = (
  inl (
    s.front ++ s.byte ∷ [],
    s.back ++ rest,
    split,
    subst (Shows (s.front ++ s.byte ∷ [])) (sym s.is) shows,
  ),
  inr (
    (λ w. let typed = verdict_from_typed all w.0 w.1 in let refused = is_refused in cc),
    s.front,
    emitted s.state,
    s.shown.more,
    record {
      rest = s.byte ∷ (s.back ++ rest);
      split = cut;
      clean = clean_from_runs s.front s.state s.runs;
      longest =
          inr (
            s.byte,
            s.back ++ rest,
            s.shown.fault,
            refl,
            shows,
            stop_reaches (s.front ++ s.byte ∷ []) s.shown there stops,
          );
    },
    stands_whole s.front s.state (run_shows s.front (Runs s.state)
        (split_bytes bytes s.front (s.byte ∷ s.back) s.split are).0 s.runs),
    s.emits,
  ),
)
  where
    all : List ℕ
    all = bytes ++ rest

    cut : bytes ++ rest ≡ s.front ++ s.byte ∷ (s.back ++ rest)
    cut = ap (λ (b : List ℕ). b ++ rest) s.split ∙ append_assoc s.front (s.byte ∷ s.back) rest

    split : bytes ++ rest ≡ (s.front ++ s.byte ∷ []) ++ (s.back ++ rest)
    split = cut ∙ sym (append_assoc s.front (s.byte ∷ []) (s.back ++ rest))

    stops : parsed (s.front ++ s.byte ∷ []) ≡ Stops s.shown
    stops =
        after-append file_next (Runs file_start) s.front (s.byte ∷ [])
        ∙ ap (λ r. after file_next r (s.byte ∷ [])) s.runs ∙ ap landed s.ends

    there : AreBytes (s.front ++ s.byte ∷ [])
    there =
        (split_bytes bytes (s.front ++ s.byte ∷ []) s.back
        (s.split ∙ sym (append_assoc s.front (s.byte ∷ []) s.back)) are).0

    shows : Shows (s.front ++ s.byte ∷ []) s.shown.fault
    shows = shows_from_stops (s.front ++ s.byte ∷ []) s.shown there stops

    is_refused : verdict (bytes ++ rest) ≡ Err s.shown.fault
    is_refused =
        ap (verdict_of (length (bytes ++ rest))) (ap parsed split
        ∙ after-append file_next (Runs file_start) (s.front ++ s.byte ∷ []) (s.back ++ rest)
        ∙ ap (λ r. after file_next r (s.back ++ rest)) stops)
        ∙ stays (length (bytes ++ rest)) s.shown (s.back ++ rest)

-- ---- what was handed out is a front of what is reached

abbrev pub messages_in : {M : Type 0} → StreamEnd M → List M
messages_in (Held messages) = messages
messages_in (Faulty messages fault) = messages

-- along bytes the messages stay, and more come after them
abbrev Extends : {M : Type 0} → List M → Reading M → Type 0
Extends {M} messages s = (more : List M) × (s.messages ≡ messages ++ more)

extends_more : {M : Type 0} (before messages more : List M) (s : Reading M)
    → messages ≡ before ++ more → Extends messages s → Extends before s
extends_more {M} before messages more s first (rest, is) =
    (more ++ rest, is ∙ ap (λ (l : List M). l ++ rest) first ∙ append_assoc before more rest)

stream_extends : {M : Type 0} (judge : Judge M) (bytes : List ℕ) (s : Reading M)
    → Extends s.messages (last_running (stream_next judge) s bytes)
stream_extends judge [] s = ([], sym (append-nil s.messages))
stream_extends {M} judge (byte ∷ bytes) s =
    by_join (join_next s.joining byte) (stream_extends judge bytes)
  where
    by_judge : (x : Result M Stop)
        → ((t : Reading M) → Extends t.messages (last_running (stream_next judge) t bytes))
        → Extends s.messages (elim (judged s.messages x)
        [ Goes t ↦ last_running (stream_next judge) t bytes | Ends f ↦ s ])
    by_judge (Ok m) on =
        extends_more s.messages (s.messages ++ m ∷ []) (m ∷ [])
        (last_running (stream_next judge) (between_records (s.messages ++ m ∷ [])) bytes) refl
        (on (between_records (s.messages ++ m ∷ [])))
    by_judge (Err stop) on = ([], sym (append-nil s.messages))

    by_join : (n : Next Joining Joined)
        → ((t : Reading M) → Extends t.messages (last_running (stream_next judge) t bytes))
        → Extends s.messages (elim
        (within (reading_with s.messages)
        (recorded judge s.messages) n)
        [ Goes t ↦ last_running (stream_next judge) t bytes | Ends f ↦ s ])
    by_join (Goes j) on = on (reading_with s.messages j)
    by_join (Ends (Whole body)) on = by_judge (judge s.messages body) on
    by_join (Ends (TooLong at)) on = ([], sym (append-nil s.messages))

pub rest_extends : {M : Type 0} (judge : Judge M) (s : Reading M) (rest : List ℕ)
    → (more : List M) × (messages_in (rest_end judge s rest) ≡ s.messages ++ more)
rest_extends {M} judge s rest = by_run (after (stream_next judge) (Runs s) rest) refl
  where
    last : Reading M
    last = last_running (stream_next judge) s rest

    left_messages : (messages : List M) (j : Joining) → messages_in (left_in messages j) ≡ messages
    left_messages messages Between = refl
    left_messages messages (Header body part) = refl
    left_messages messages (Bytes body l left) = refl

    by_run : (run : Run (Reading M) RecordFault) → after (stream_next judge) (Runs s) rest ≡ run
        → (more : List M) × (messages_in (end_of last.messages run) ≡ s.messages ++ more)
    by_run (Runs t) e =
        let same : last ≡ t =
        ap (last_running (stream_next judge) s) (sym (append-nil rest))
        ∙ last_running-append (stream_next judge) s t rest [] e in
        let more = stream_extends judge rest s in (
          more.0,
          left_messages t.messages t.joining ∙ ap (λ (u : Reading M). u.messages) (sym same)
              ∙ more.1,
        )
    by_run (Stops fault) e = stream_extends judge rest s
    by_run (Stopped fault) e = stream_extends judge rest s

-- ---- the machine runs on after a state

-- whatever bytes come, what was handed out are the first entries that all reach
module _ (u : Unpacking) (streams : Streams) (side : Side) (taken records : ℕ)
    (table : Known) (bytes rest : List ℕ) (handed : List Entry)
    (are : AreBytes (bytes ++ rest))
    (r : Recalls u streams side taken records table bytes handed) where
  -- a refusal reaches them
  by_refusal : (shown : ShownFault) (more : List Entry) → file_next r.state r.byte ≡ Ends shown
      → emitted r.state ++ shown.more ≡ handed ++ more → AreFirstReached (bytes ++ rest) handed
  by_refusal shown more ends is = (
    more,
    subst (Reached (bytes ++ rest)) is (first_of bytes rest (emitted r.state ++ shown.more)
        shown.fault (split_bytes (bytes ++ rest) bytes rest refl are).0
        (shows_at_last r.front r.byte r.state shown r.split r.runs ends refl)).1,
  )

  -- and so does the end of the connection
  by_close : (calls : List (List Item)) (replies : List ReplyItems) (more : List Entry)
      → file_next r.state r.byte
      ≡ said u r.so_far (after_server u.connections u.at u.total calls (Held replies))
      → r.so_far.entries ++ connection_entries calls replies ≡ handed ++ more
      → AreFirstReached (bytes ++ rest) handed
  by_close calls replies more ends is =
      let v : Unpacking = unpacking_with u.at u.total u.connections 0 (Mark Two []) Between in
      let k : Judged =
      whole_connections (r.so_far.entries ++ connection_entries calls replies) in
      let runs : parsed bytes ≡ Runs (parsing_at v k) =
      ap parsed r.split ∙ after-append file_next (Runs file_start) r.front (r.byte ∷ [])
      ∙ ap (λ run. after file_next run (r.byte ∷ [])) r.runs ∙ ap landed ends in
      let first = first_reached_at bytes rest v k are refl runs in (
        more ++ first.0,
        rw (← (ap (λ (l : List Entry). l ++ first.0) is ∙ append_assoc handed more first.0))
            first.1,
      )

  by_server : (calls : List (List Item)) (before : List Entry) (more : List Entry)
      (x : StreamEnd ReplyItems)
      → file_next r.state r.byte ≡ said u r.so_far (after_server u.connections u.at u.total calls x)
      → r.so_far.entries ++ (client_entries calls ++ server_entries (messages_in x))
      ≡ handed ++ more → AreFirstReached (bytes ++ rest) handed
  by_server calls before more (Held replies) ends is =
      by_close calls replies (more ++ entries.Close ∷ []) ends
      (sym (append_assoc r.so_far.entries (client_entries calls ++ server_entries replies)
      (entries.Close ∷ [])) ∙ ap (λ (l : List Entry). l ++ entries.Close ∷ []) is
      ∙ append_assoc handed more (entries.Close ∷ []))
  by_server calls before more (Faulty replies fault) ends is =
      by_refusal (server_refusal u.connections calls replies fault) more ends
      (ap (λ (l : List Entry). l ++ (map entries.Call calls ++ server_entries replies)) r.emits
      ∙ append_assoc r.so_far.entries (entries.Begin ∷ [])
      (map entries.Call calls ++ server_entries replies) ∙ is)

  by_client : (x : StreamEnd (List Item)) → stream_end judge_call streams.client ≡ x
      → (more : List Entry) → r.so_far.entries ++ client_entries (messages_in x) ≡ handed ++ more
      → AreFirstReached (bytes ++ rest) handed
  by_client (Held calls) e more is =
      let x = stream_end (judge_replies calls) streams.server in
      by_server calls [] (more ++ server_entries (messages_in x)) x (r.ends
      ∙ rw e)
      (sym (append_assoc r.so_far.entries (client_entries calls) (server_entries (messages_in x)))
      ∙ ap (λ (l : List Entry). l ++ server_entries (messages_in x)) is
      ∙ append_assoc handed more (server_entries (messages_in x)))
  by_client (Faulty calls fault) e more is =
      by_refusal (client_refusal u.connections calls fault) more (r.ends
      ∙ rw e)
      (ap (λ (l : List Entry). l ++ map entries.Call calls) r.emits
      ∙ append_assoc r.so_far.entries (entries.Begin ∷ []) (map entries.Call calls) ∙ is)

-- with more calls, more entries
more_calls : (before : List Entry) (calls all more : List (List Item)) → all ≡ calls ++ more
    → before ++ client_entries all ≡ (before ++ client_entries calls) ++ map entries.Call more
more_calls before calls all more is =
    ap (λ (l : List (List Item)). before ++ client_entries l) is
    ∙ ap (λ (l : List Entry). before ++ (entries.Begin ∷ l))
    (map-append entries.Call calls more)
    ∙ sym (append_assoc before (client_entries calls) (map entries.Call more))

more_replies : (before : List Entry) (calls : List (List Item)) (replies all more : List ReplyItems)
    → all ≡ replies ++ more
    → before ++ (client_entries calls ++ server_entries all)
    ≡ (before ++ (client_entries calls ++ server_entries replies)) ++ map reply_entry more
more_replies before calls replies all more is =
    ap (λ (l : List ReplyItems). before ++ (client_entries calls ++ server_entries l)) is
    ∙ ap (λ (l : List Entry). before ++ (client_entries calls ++ (entries.Turn ∷ l)))
    (map-append reply_entry replies more)
    ∙ ap (λ (l : List Entry). before ++ l)
    (sym (append_assoc (client_entries calls) (server_entries replies) (map reply_entry more)))
    ∙ sym (append_assoc before (client_entries calls ++ server_entries replies)
    (map reply_entry more))

pub recalled_first : (u : Unpacking) (streams : Streams) (side : Side) (taken records : ℕ)
    (table : Known) (bytes rest : List ℕ) (handed : List Entry)
    → AreBytes (bytes ++ rest) → Recalls u streams side taken records table bytes handed
    → AreFirstReached (bytes ++ rest) handed
recalled_first u streams Client taken records table bytes rest handed are r =
    let j = r.so_far in
    let more = rest_extends judge_call (between_records j.calls) (drop taken streams.client) in
    by_client u streams Client taken records table bytes rest handed are r
    (rest_end judge_call (between_records j.calls) (drop taken streams.client)) r.here.0
    (map entries.Call more.0)
    (more_calls j.entries j.calls
    (messages_in
    (rest_end judge_call (between_records j.calls) (drop taken streams.client))) more.0
    more.1 ∙ ap (λ (l : List Entry). l ++ map entries.Call more.0) (sym r.here.2))
recalled_first u streams Server taken records table bytes rest handed are r =
    let j = r.so_far in
    let x =
    rest_end (judge_replies j.calls) (between_records j.replies) (drop taken streams.server) in
    let more =
    rest_extends (judge_replies j.calls) (between_records j.replies) (drop taken streams.server) in
    by_server u streams Server taken records table bytes rest handed are r j.calls []
    (map reply_entry more.0) x
    (both_said u streams taken records table bytes handed r x r.here.1)
    (more_replies j.entries j.calls j.replies (messages_in x) more.0 more.1
    ∙ ap (λ (l : List Entry). l ++ map reply_entry more.0) (sym r.here.3))
