-- The machine for one connection, after its word 1.
use Rattle.std.specs.Prelude.{ℕ, List, [], ◌∷◌, ◌++◌, map}
use Rattle.xdr3.specs.Item.{Item}
use Rattle.record_mark.specs.Machine.{Next, Goes, Ends, within}
use Rattle.capture3.specs.declared.fault.Fault.{Fault}
use Rattle.capture3.specs.declared.fault.Side.TheVariants.{Client, Server}
use Rattle.capture3.specs.Bodies.{ReplyItems}
use Rattle.capture3.specs.Capture.{Version, One, Two}
use Rattle.capture3.specs.Entry.{Entry, Begin, Call, Turn}
use Rattle.capture3.specs.BodyProgram.{judge_call, judge_reply}
use Rattle.capture3.specs.SidedChunksMachine.{Mixing, MixedEnd, MixedCloses, MixedRefuses, mixed_next, mixing_from}
use Rattle.capture3.specs.StreamMachine.{Judge, RecordFault, StreamEnd, Held, Faulty, stream_end}
use Rattle.capture3.specs.SideMachine.{Siding, SideEnd, SideCloses, SideRefuses, fault_of_record, side_next, siding_from}
use Rattle.capture3.specs.Typed.{reply_entry, connection_entries}

-- replies are judged by the calls, and not by the replies before
abbrev pub judge_replies : List (List Item) → Judge ReplyItems
judge_replies calls = λ _. judge_reply calls

-- a fault, and the entries that the byte which shows it still reaches
pub record ShownFault : Type 0 where
  pub fault : Fault
  pub more : List Entry

abbrev pub shown_with : List Entry → Fault → ShownFault
shown_with entries fault = record { fault = fault; more = entries }

abbrev pub refusal : Fault → ShownFault
refusal fault = shown_with [] fault

pub data Opening : Type 0 where
  InClient : Siding (List Item) → Opening
  InServer : (calls : List (List Item)) → Siding ReplyItems → Opening
  InMixed : Mixing → Opening

pub data Closing : Type 0 where
  Closes : (at total : ℕ) → (entries : List Entry) → Closing
  Refuses : ShownFault → Closing

-- the client side is whole
abbrev pub turning : SideEnd (List Item) → Next Opening Closing
turning (SideCloses at total calls) = Goes (InServer calls (siding_from at total))
turning (SideRefuses fault) = Ends (Refuses (refusal fault))

-- the server side is whole
abbrev pub ending : List (List Item) → SideEnd ReplyItems → Next Opening Closing
ending calls (SideCloses at total replies) =
    Ends (Closes at total (connection_entries calls replies))
ending calls (SideRefuses fault) = Ends (Refuses (refusal fault))

-- a fault in the client stream
abbrev pub client_refusal : ℕ → List (List Item) → RecordFault → ShownFault
client_refusal number calls fault =
    shown_with (map Call calls) (fault_of_record number Client fault)

-- a fault in the server stream
abbrev pub server_refusal : ℕ → List (List Item) → List ReplyItems → RecordFault → ShownFault
server_refusal number calls replies fault =
    shown_with (map Call calls ++ (Turn ∷ map reply_entry replies))
    (fault_of_record number Server fault)

-- in version 2: the server stream has been judged, after these calls
abbrev pub after_server : ℕ → ℕ → ℕ → List (List Item) → StreamEnd ReplyItems → Next Opening Closing
after_server number at total calls (Held replies) =
    Ends (Closes at total (connection_entries calls replies))
after_server number at total calls (Faulty replies fault) =
    Ends (Refuses (server_refusal number calls replies fault))

-- the client stream has been judged
abbrev pub after_client : ℕ → ℕ → ℕ → List ℕ → StreamEnd (List Item) → Next Opening Closing
after_client number at total server (Held calls) =
    after_server number at total calls (stream_end (judge_replies calls) server)
after_client number at total server (Faulty calls fault) =
    Ends (Refuses (client_refusal number calls fault))

-- the side word 0 has come, or a fault of the chunks
abbrev pub conversing : ℕ → MixedEnd → Next Opening Closing
conversing number (MixedCloses at total streams) =
    after_client number at total streams.server (stream_end judge_call streams.client)
conversing number (MixedRefuses fault) = Ends (Refuses (refusal fault))

abbrev pub opening_next : ℕ → Opening → ℕ → Next Opening Closing
opening_next number (InClient s) byte =
    within InClient turning (side_next judge_call (fault_of_record number Client) s byte)
opening_next number (InServer calls s) byte =
    within (InServer calls) (ending calls)
    (side_next (judge_replies calls) (fault_of_record number Server) s byte)
opening_next number (InMixed s) byte = within InMixed (conversing number) (mixed_next s byte)

abbrev pub opened : Version → ℕ → ℕ → Opening
opened One start before = InClient (siding_from start before)
opened Two start before = InMixed (mixing_from start before)

-- the entries of a connection that are whole
abbrev pub opening_entries : Opening → List Entry
opening_entries (InClient s) = Begin ∷ map Call s.reading.messages
opening_entries (InServer calls s) =
    (Begin ∷ map Call calls) ++ (Turn ∷ map reply_entry s.reading.messages)
opening_entries (InMixed s) = Begin ∷ []
