-- Taking a capture apart, and judging its records as they come: where the machine for a capture
-- file stands.
use Rattle.std.specs.Prelude.{◌≡◌, map, ℕ, suc, List, [], ◌∷◌, ◌++◌, length, Result, Ok, Err}
use Rattle.xdr3.specs.declared.reason.Stop.{Stop}
use Rattle.xdr3.specs.Item.{Item}
use Rattle.record_mark.specs.Joining.{Joining, Between}
use Rattle.record_mark.specs.Machine.{Next, Goes, Ends, within}
use Rattle.capture3.specs.declared.fault.Side.TheVariants.{Client, Server}
use Rattle.capture3.specs.declared.container.position.spot.Event.TheVariants.{Begin, Record, Turn, Close}
use Rattle.capture3.specs.declared.container.position.spot.Event.TheVariants as events
use Rattle.capture3.specs.Bodies.{ReplyItems}
use Rattle.capture3.specs.Capture.{One, Two}
use Rattle.capture3.specs.Entry.{Entry}
use Rattle.capture3.specs.Entry as entries
use Rattle.capture3.specs.BodyProgram.{judge_call, judge_reply}
use Rattle.capture3.specs.ConnectionMachine.{InClient, InServer, InMixed, ShownFault, after_client, refusal}
use Rattle.capture3.specs.FileMachine as parsing
use Rattle.capture3.specs.FileMachine.{Parsing, parsing_in}
use Rattle.capture3.specs.StreamMachine.{fault_at, stream_end, reading_with}
use Rattle.capture3.specs.SideMachine as siding
use Rattle.capture3.specs.SideMachine.{Siding, fault_of_record, siding_in}
use Rattle.capture3.specs.Typed.{connection_entries, reply_entry}
use Rattle.capture3.specs.machinery.ContainerMachine.{Opened, Magic, Digit, Mark, Length, Chunk, Mixed, Ended, Unpacking, Unpacked, Has, HasStreams, Refuses}
use Rattle.capture3.specs.SidedChunks.{Streams}
use Rattle.capture3.specs.SidedChunksMachine.{mixing_in}

-- What has been judged: where the open connection begins and the stream bytes before it, the
-- entries of whole connections, and the open connection's calls and replies.
pub record Judged : Type 0 where
  pub start : ℕ
  pub before : ℕ
  pub entries : List Entry
  pub calls : List (List Item)
  pub replies : List ReplyItems

-- at a point of a stream of version 1
abbrev pub siding_at : {M : Type 0} → (at total : ℕ) → List M → Joining → siding.Point → Siding M
siding_at at total messages joining point = siding_in at total (reading_with messages joining) point

-- the machine for the file, by the part that is open
abbrev pub resumed_at : (at total connections : ℕ) → Joining → Opened → Judged → Parsing
resumed_at at total connections joining (Magic due more) j =
    parsing_in One at total connections j.entries (parsing.Magic due more)
resumed_at at total connections joining Digit j =
    parsing_in One at total connections j.entries parsing.Digit
resumed_at at total connections joining (Mark version part) j =
    parsing_in version at total connections j.entries (parsing.Mark part)
resumed_at at total connections joining (Length Client part) j =
    parsing_in One j.start j.before connections j.entries
    (parsing.Inside (InClient (siding_at at total j.calls joining (siding.Length part))))
resumed_at at total connections joining (Length Server part) j =
    parsing_in One j.start j.before connections j.entries
    (parsing.Inside
    (InServer j.calls (siding_at at total j.replies joining (siding.Length part))))
resumed_at at total connections joining (Chunk Client left) j =
    parsing_in One j.start j.before connections j.entries
    (parsing.Inside (InClient (siding_at at total j.calls joining (siding.Chunk left))))
resumed_at at total connections joining (Chunk Server left) j =
    parsing_in One j.start j.before connections j.entries
    (parsing.Inside
    (InServer j.calls (siding_at at total j.replies joining (siding.Chunk left))))
resumed_at at total connections joining (Mixed streams point) j =
    parsing_in Two j.start j.before connections j.entries
    (parsing.Inside (InMixed (mixing_in at total streams point)))
resumed_at at total connections joining (Ended version) j =
    parsing_in version at total connections j.entries parsing.Ended

-- where the machine for a capture file stands
abbrev pub parsing_at : Unpacking → Judged → Parsing
parsing_at u j = resumed_at u.at u.total u.connections u.joining u.opened j

-- ---- what becomes whole

-- a connection begins
abbrev pub connection_begun : Unpacking → Judged → Judged
connection_begun u j =
    record { start = u.at; before = u.total; entries = j.entries; calls = []; replies = [] }

-- one call more
abbrev pub with_call : Judged → List Item → Judged
with_call j call = record j { calls = j.calls ++ call ∷ [] }

-- one reply more
abbrev pub with_reply : Judged → ReplyItems → Judged
with_reply j reply = record j { replies = j.replies ++ reply ∷ [] }

-- the client stream has ended
abbrev pub turned : Judged → Judged
turned j = record j { replies = [] }

-- the connection has ended
abbrev pub connection_closed : Judged → Judged
connection_closed j = record j { entries = j.entries ++ connection_entries j.calls j.replies }

-- a call is judged: it is kept, or refused
abbrev pub call_judged : Unpacking → Judged → Result (List Item) Stop → Next Parsing ShownFault
call_judged u j (Ok call) = Goes (parsing_at u (with_call j call))
call_judged u j (Err stop) =
    Ends (refusal (fault_of_record u.connections Client (fault_at j.calls stop.at stop.reason)))

-- the same of a reply
abbrev pub reply_judged : Unpacking → Judged → Result ReplyItems Stop → Next Parsing ShownFault
reply_judged u j (Ok reply) = Goes (parsing_at u (with_reply j reply))
reply_judged u j (Err stop) =
    Ends (refusal (fault_of_record u.connections Server (fault_at j.replies stop.at stop.reason)))

-- both streams of a connection of version 2 have come, and all their records are judged
abbrev pub conversed : Unpacking → Judged → Streams → Next Parsing ShownFault
conversed u j streams =
    within (λ p. parsing_in Two j.start j.before u.connections j.entries (parsing.Inside p))
    (parsing.closed Two u.connections j.entries)
    (after_client u.connections u.at u.total streams.server (stream_end judge_call streams.client))

-- what the machine for the file comes to. Streams come by HasStreams and as no event, so what is
-- said of the event of that name, here and below, is of no use.
abbrev pub resumed : Judged → Next Unpacking Unpacked → Next Parsing ShownFault
resumed j (Goes u) = Goes (parsing_at u j)
resumed j (Ends (Has Begin body u)) = Goes (parsing_at u (connection_begun u j))
resumed j (Ends (Has (Record Client) body u)) = call_judged u j (judge_call j.calls body)
resumed j (Ends (Has (Record Server) body u)) = reply_judged u j (judge_reply j.calls body)
resumed j (Ends (Has Turn body u)) = Goes (parsing_at u (turned j))
resumed j (Ends (Has Close body u)) = Goes (parsing_at u (connection_closed j))
resumed j (Ends (Has events.Streams body u)) = Goes (parsing_at u j)
resumed j (Ends (HasStreams streams u)) = conversed u j streams
resumed j (Ends (Refuses fault)) = Ends (refusal fault)

-- ---- what was judged belongs to what was taken

-- by the part that is open: as many records are whole as messages were judged, and no record is
-- open outside the streams of version 1
abbrev pub AgreesAt : ℕ → Joining → Opened → Judged → Type 0
AgreesAt records joining (Length Client part) j = records ≡ length j.calls
AgreesAt records joining (Length Server part) j = records ≡ length j.replies
AgreesAt records joining (Chunk Client left) j = records ≡ length j.calls
AgreesAt records joining (Chunk Server left) j = records ≡ length j.replies
AgreesAt records joining (Mixed streams point) j = (joining ≡ Between) × (j.calls ≡ [])
AgreesAt records joining (Ended version) j = Unit {0}
AgreesAt records joining _ j = joining ≡ Between

-- the open stream's records have been judged
abbrev pub Agrees : Unpacking → Judged → Type 0
Agrees u j = AgreesAt u.records u.joining u.opened j

-- the same of what comes next, once it is judged
abbrev pub AgreesOn : Judged → Next Unpacking Unpacked → Type 0
AgreesOn j (Goes u) = Agrees u j
AgreesOn j (Ends (Has Begin body u)) = Agrees u (connection_begun u j)
AgreesOn j (Ends (Has (Record Client) body u)) = ((call : List Item) → Agrees u (with_call j call))
    × (u.records ≡ suc (length j.calls))
AgreesOn j (Ends (Has (Record Server) body u)) =
    ((reply : ReplyItems) → Agrees u (with_reply j reply)) × (u.records ≡ suc (length j.replies))
AgreesOn j (Ends (Has Turn body u)) = Agrees u (turned j)
AgreesOn j (Ends (Has Close body u)) = Agrees u (connection_closed j)
AgreesOn j (Ends (Has events.Streams body u)) = Agrees u j
AgreesOn j (Ends (HasStreams streams u)) = (u.joining ≡ Between) × (u.records ≡ 0) × (j.calls ≡ [])
AgreesOn j (Ends (Refuses fault)) = Unit {0}

-- ---- the entries so far

-- of a connection whose client stream is open
abbrev pub client_entries : List (List Item) → List Entry
client_entries calls = entries.Begin ∷ map entries.Call calls

-- the same from the client stream's end on
abbrev pub server_entries : List ReplyItems → List Entry
server_entries replies = entries.Turn ∷ map reply_entry replies

-- the entries that are whole, by the part that is open
abbrev pub emitted_at : Opened → Judged → List Entry
emitted_at (Length Client part) j = j.entries ++ client_entries j.calls
emitted_at (Length Server part) j =
    j.entries ++ (client_entries j.calls ++ server_entries j.replies)
emitted_at (Chunk Client left) j = j.entries ++ client_entries j.calls
emitted_at (Chunk Server left) j = j.entries ++ (client_entries j.calls ++ server_entries j.replies)
emitted_at (Mixed streams point) j = j.entries ++ entries.Begin ∷ []
emitted_at _ j = j.entries

-- after entries, what comes next adds
abbrev pub EmitsOn : Judged → List Entry → Next Unpacking Unpacked → Type 0
EmitsOn j base (Goes u) = emitted_at u.opened j ≡ base
EmitsOn j base (Ends (Has Begin body u)) =
    emitted_at u.opened (connection_begun u j) ≡ base ++ entries.Begin ∷ []
EmitsOn j base (Ends (Has (Record Client) body u)) = (call : List Item)
    → emitted_at u.opened (with_call j call) ≡ base ++ entries.Call call ∷ []
EmitsOn j base (Ends (Has (Record Server) body u)) = (reply : ReplyItems)
    → emitted_at u.opened (with_reply j reply) ≡ base ++ reply_entry reply ∷ []
EmitsOn j base (Ends (Has Turn body u)) = emitted_at u.opened (turned j) ≡ base ++ entries.Turn ∷ []
EmitsOn j base (Ends (Has Close body u)) =
    emitted_at u.opened (connection_closed j) ≡ base ++ entries.Close ∷ []
EmitsOn j base (Ends (Has events.Streams body u)) = emitted_at u.opened j ≡ base
EmitsOn j base (Ends (HasStreams streams u)) = base ≡ j.entries ++ entries.Begin ∷ []
EmitsOn j base (Ends (Refuses fault)) = Unit {0}
