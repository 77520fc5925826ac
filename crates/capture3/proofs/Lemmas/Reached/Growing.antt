-- What is whole stays whole, whatever bytes come: the machine adds entries after those that it has
-- emitted.
use Rattle.capture3.proofs.Common.{parsing_in, ◌≡◌, ℕ, List, [], ◌∷◌, ◌++◌, map, Result, Ok, Err, refl, sym, ap, subst, ◌∙◌, append_assoc, append-nil, Stop, Item, Joining, Between, Next, Goes, Ends, Runs, Stops, after, landed, last_running, within, only_stops, Client, Server, ReplyItems, ShownFault, Entry, judge_call, judge_reply, Two, judge_replies, after_server, after_client, Parsing, file_next, emitted, StreamEnd, Held, Faulty, stream_end, reply_entry, connection_entries, unpacking_with, Begin, Record, Turn, Close, Judged, resumed_at, parsing_at, resumed, conversed, call_judged, reply_judged, connection_begun, with_call, with_reply, turned, connection_closed, Agrees, AgreesOn, emitted_at, EmitsOn}
use Rattle.capture3.specs.declared.container.position.spot.Event.TheVariants as events
use Rattle.capture3.specs.Entry as entries
use Rattle.capture3.specs.FileMachine as parsing
use Rattle.capture3.specs.machinery.ContainerMachine.{Opened, Mark, Length, Chunk, Mixed, Unpacking, Unpacked, Has, HasStreams, Refuses, unpack_next}
use Rattle.capture3.proofs.Lemmas.Reader.WholeEntries.{emits}
use Rattle.capture3.proofs.Lemmas.Reader.FileStandingLemmas.{whole_connections, follows, agrees_on}

pub emitted_is : (at total connections : ℕ) (joining : Joining) (o : Opened) (j : Judged)
    → emitted (resumed_at at total connections joining o j) ≡ emitted_at o j
emitted_is at total connections joining (Length Client part) j = refl
emitted_is at total connections joining (Length Server part) j = refl
emitted_is at total connections joining (Chunk Client left) j = refl
emitted_is at total connections joining (Chunk Server left) j = refl
emitted_is at total connections joining (Mixed streams point) j = refl
emitted_is at total connections joining o j = append-nil j.entries

pub emitted_here : (u : Unpacking) (j : Judged) → emitted (parsing_at u j) ≡ emitted_at u.opened j
emitted_here u j = emitted_is u.at u.total u.connections u.joining u.opened j

-- ---- along any bytes

-- after these entries, those of a state
abbrev pub Adds : List Entry → Parsing → Type 0
Adds base s = (more : List Entry) × (emitted s ≡ base ++ more)

-- the last state along the bytes, after one byte more
abbrev pub last_after : Parsing → List ℕ → Next Parsing ShownFault → Parsing
last_after old bytes n = elim n [ Goes t ↦ last_running file_next t bytes | Ends x ↦ old ]

adds_nothing : (u : Unpacking) (j : Judged) → Adds (emitted_at u.opened j) (parsing_at u j)
adds_nothing u j = ([], emitted_here u j ∙ sym (append-nil (emitted_at u.opened j)))

-- one entry more came first
adds_after : (base next : List Entry) (entry : Entry) (s : Parsing) → next ≡ base ++ entry ∷ []
    → Adds next s → Adds base s
adds_after base next entry s is (more, e) =
    (entry ∷ more, e ∙ ap (λ (l : List Entry). l ++ more) is ∙ append_assoc base (entry ∷ []) more)

pub grows : (bytes : List ℕ) (u : Unpacking) (j : Judged) → Agrees u j
    → Adds (emitted_at u.opened j) (last_running file_next (parsing_at u j) bytes)
grows [] u j agrees = adds_nothing u j
grows (byte ∷ bytes) u j agrees =
    subst (λ n. Adds (emitted_at u.opened j) (last_after (parsing_at u j) bytes n))
    (sym (follows u j byte agrees))
    (on (unpack_next u byte) (agrees_on u j byte agrees) (emits u j byte) (grows bytes))
  where
    on : (n : Next Unpacking Unpacked) → AgreesOn j n → EmitsOn j (emitted_at u.opened j) n
        → ((w : Unpacking) (k : Judged) → Agrees w k
        → Adds (emitted_at w.opened k) (last_running file_next (parsing_at w k) bytes))
        → Adds (emitted_at u.opened j) (last_after (parsing_at u j) bytes (resumed j n))
    on (Goes w) next is more =
        let g = more w j next in (g.0, g.1 ∙ ap (λ (l : List Entry). l ++ g.0) is)
    on (Ends (Has Begin body w)) next is more =
        adds_after (emitted_at u.opened j) (emitted_at w.opened (connection_begun w j))
        entries.Begin (last_running file_next (parsing_at w (connection_begun w j)) bytes) is
        (more w (connection_begun w j) next)
    on (Ends (Has (Record Client) body w)) next is more = by_call (judge_call j.calls body)
      where
        by_call : (r : Result (List Item) Stop)
            → Adds (emitted_at u.opened j) (last_after (parsing_at u j) bytes (call_judged w j r))
        by_call (Ok call) =
            adds_after (emitted_at u.opened j) (emitted_at w.opened (with_call j call))
            (entries.Call call) (last_running file_next (parsing_at w (with_call j call)) bytes)
            (is call) (more w (with_call j call) (next.0 call))
        by_call (Err stop) = adds_nothing u j
    on (Ends (Has (Record Server) body w)) next is more = by_reply (judge_reply j.calls body)
      where
        by_reply : (r : Result ReplyItems Stop)
            → Adds (emitted_at u.opened j) (last_after (parsing_at u j) bytes (reply_judged w j r))
        by_reply (Ok reply) =
            adds_after (emitted_at u.opened j) (emitted_at w.opened (with_reply j reply))
            (reply_entry reply)
            (last_running file_next (parsing_at w (with_reply j reply)) bytes) (is reply)
            (more w (with_reply j reply) (next.0 reply))
        by_reply (Err stop) = adds_nothing u j
    on (Ends (Has Turn body w)) next is more =
        adds_after (emitted_at u.opened j) (emitted_at w.opened (turned j)) entries.Turn
        (last_running file_next (parsing_at w (turned j)) bytes) is (more w (turned j) next)
    on (Ends (Has Close body w)) next is more =
        adds_after (emitted_at u.opened j) (emitted_at w.opened (connection_closed j)) entries.Close
        (last_running file_next (parsing_at w (connection_closed j)) bytes) is
        (more w (connection_closed j) next)
    on (Ends (Has events.Streams body w)) next is more =
        let g = more w j next in (g.0, g.1 ∙ ap (λ (l : List Entry). l ++ g.0) is)
    on (Ends (HasStreams streams w)) next is more =
        subst
        (λ (base : List Entry).
        Adds base (last_after (parsing_at u j) bytes (conversed w j streams))) (sym is)
        (by_client (stream_end judge_call streams.client))
      where
        emitted_before : emitted (parsing_at u j) ≡ j.entries ++ entries.Begin ∷ []
        emitted_before = emitted_here u j ∙ is

        by_server : (calls : List (List Item)) (x : StreamEnd ReplyItems)
            → Adds (j.entries ++ entries.Begin ∷ []) (last_after (parsing_at u j) bytes
            (within
            (λ p. parsing_in Two j.start j.before w.connections j.entries
            (parsing.Inside p)) (parsing.closed Two w.connections j.entries)
            (after_server w.connections w.at w.total calls x)))
        by_server calls (Held replies) =
            let all : List Entry = j.entries ++ connection_entries calls replies in
            let v : Unpacking = unpacking_with w.at w.total w.connections 0 (Mark Two []) Between in
            let k : Judged = whole_connections all in
            let g = more v k refl in
            let later : List Entry = (map entries.Call calls
            ++ (entries.Turn ∷ map reply_entry replies)) ++ entries.Close ∷ [] in (
              later ++ g.0,
              g.1
                  ∙ ap (λ (l : List Entry). l ++ g.0)
                  (sym (append_assoc j.entries (entries.Begin ∷ []) later))
                  ∙ append_assoc (j.entries ++ entries.Begin ∷ []) later g.0,
            )
        by_server calls (Faulty replies fault) =
            ([], emitted_before ∙ sym (append-nil (j.entries ++ entries.Begin ∷ [])))

        by_client : (x : StreamEnd (List Item))
            → Adds (j.entries ++ entries.Begin ∷ []) (last_after (parsing_at u j) bytes
            (within
            (λ p. parsing_in Two j.start j.before w.connections j.entries
            (parsing.Inside p)) (parsing.closed Two w.connections j.entries)
            (after_client w.connections w.at w.total streams.server x)))
        by_client (Held calls) = by_server calls (stream_end (judge_replies calls) streams.server)
        by_client (Faulty calls fault) =
            ([], emitted_before ∙ sym (append-nil (j.entries ++ entries.Begin ∷ [])))
    on (Ends (Refuses fault)) next is more = adds_nothing u j

-- ---- up to what is whole, or a fault

-- the run goes on up to the last of the bytes, and nothing becomes whole before it
pub record StopsAtLast (u : Unpacking) (j : Judged) (bytes : List ℕ) (x : Unpacked) : Type 0 where
  pub front : List ℕ
  pub byte : ℕ
  pub state : Parsing
  pub split : bytes ≡ front ++ byte ∷ []
  pub runs : after file_next (Runs (parsing_at u j)) front ≡ Runs state
  pub emits : emitted state ≡ emitted_at u.opened j
  pub ends : file_next state byte ≡ resumed j (Ends x)

pub stops_at_last : (bytes : List ℕ) (u : Unpacking) (x : Unpacked) (j : Judged) → Agrees u j
    → after unpack_next (Runs u) bytes ≡ Stops x → StopsAtLast u j bytes x
stops_at_last [] u x j agrees e = absurd (cc)
stops_at_last (byte ∷ bytes) u x j agrees e =
    on (unpack_next u byte) (follows u j byte agrees) (agrees_on u j byte agrees) (emits u j byte) e
    (λ w. stops_at_last bytes w x j)
  where
    on : (n : Next Unpacking Unpacked) → file_next (parsing_at u j) byte ≡ resumed j n
        → AgreesOn j n → EmitsOn j (emitted_at u.opened j) n
        → after unpack_next (landed n) bytes ≡ Stops x
        → ((w : Unpacking) → Agrees w j → after unpack_next (Runs w) bytes ≡ Stops x
        → StopsAtLast w j bytes x) → StopsAtLast u j (byte ∷ bytes) x
    on (Goes w) same next is e more =
        let m = more w next e in
        record {
          front = byte ∷ m.front;
          byte = m.byte;
          state = m.state;
          split = ap (λ (b : List ℕ). byte ∷ b) m.split;
          runs = ap (λ n. after file_next (landed n) m.front) same ∙ m.runs;
          emits = m.emits ∙ is;
          ends = m.ends;
        }
    on (Ends y) same next is e more =
        let (none, equal) = only_stops unpack_next y x bytes e in
        record {
          front = [];
          byte = byte;
          state = parsing_at u j;
          split = ap (λ (b : List ℕ). byte ∷ b) none;
          runs = refl;
          emits = emitted_here u j;
          ends = same ∙ ap (λ z. resumed j (Ends z)) equal;
        }
