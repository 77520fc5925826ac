-- The faults of one connection.
use Rattle.std.specs.Prelude.{◌≡◌, ◌⊎◌, ℕ, ◌+◌, ◌<◌, List, ◌∷◌, ◌++◌, length, map}
use Rattle.record_mark.specs.Word.{IsWord, Joins}
use Rattle.xdr3.specs.declared.reason.Reason.TheVariants.{BadMark, TooManyBytes}
use Rattle.xdr3.specs.declared.reason.Stop.{Stop}
use Rattle.xdr3.specs.Item.{Item}
use Rattle.capture3.specs.declared.fault.Fault.{Fault}
use Rattle.capture3.specs.declared.fault.Side.TheVariants.{Client, Server}
use Rattle.capture3.specs.Bodies.{ReplyItems, AcceptsCall, RefusesCall, AcceptsReply, RefusesReply}
use Rattle.capture3.specs.Capture.{Version, One, Two}
use Rattle.capture3.specs.Chunks.{max_bytes, IsStream}
use Rattle.capture3.specs.Entry.{Entry, Call, Turn}
use Rattle.capture3.specs.Records.{Judgement, Holds, FirstRecordFault}
use Rattle.capture3.specs.SidedChunks.{Streams, size, SidedChunk, IsSidedChunk, AfterSideWord, gathered, AreMixed}
use Rattle.capture3.specs.Sides.{Position, SideShows, file_fault, place_at}
use Rattle.capture3.specs.Typed.{reply_entry}

-- calls are judged by the calls before
abbrev pub calls_in_turn : Judgement (List Item)
calls_in_turn = record { accepts = AcceptsCall; refuses = RefusesCall }

-- replies are judged by all calls of the connection
abbrev pub replies_to : List (List Item) → Judgement ReplyItems
replies_to calls = record { accepts = λ _. AcceptsReply calls; refuses = λ _. RefusesReply calls }

-- version 1: the last byte of a connection's bytes shows this fault of its two streams
pub data InTurnShows (at : Position) (bytes : List ℕ) (fault : Fault) : Type 0 where
  InCalls : SideShows calls_in_turn Client at bytes fault → InTurnShows at bytes fault
  -- in the server stream, after the client stream with these calls
  InReplies : (front last client : List ℕ) (calls : List (List Item)) → bytes ≡ front ++ last
      → IsStream front client → Holds calls_in_turn client calls
      → SideShows (replies_to calls) Server
      (record at { start = at.start + length front; before = at.before + length client }) last fault
      → InTurnShows at bytes fault

-- version 2: the last byte of a connection's bytes shows this fault of its chunks
pub data MixedShows (at : Position) (bytes : List ℕ) (fault : Fault) : Type 0 where
  -- a side word other than 0, 1 and 2
  BadSide : (chunks : List SidedChunk) (front word : List ℕ) (count : ℕ) → bytes ≡ front ++ word
      → Joins IsSidedChunk front chunks → IsWord word count → 2 < count
      → fault ≡ file_fault (at.start + length front) BadMark → MixedShows at bytes fault
  -- a length word 0
  NoLength : (b : AfterSideWord bytes) → IsWord b.rest 0
      → fault ≡ file_fault (at.start + length b.front + 4) BadMark → MixedShows at bytes fault
  -- a length word with which the capture's stream bytes would pass the limit
  TooMuch : (b : AfterSideWord bytes) (count : ℕ) → IsWord b.rest count → 0 < count
      → max_bytes < at.before + size (gathered b.chunks) + count
      → fault ≡ file_fault (at.start + length b.front + 4) TooManyBytes → MixedShows at bytes fault

-- The side word 0 shows this fault of the streams, which are whole with it, after these entries:
-- the first fault of the client stream, or, if that has none, of the server stream.
pub data StreamsShow (number : ℕ) (bytes : List ℕ) (entries : List Entry)
    (fault : Fault) : Type 0 where
  InClientStream : (streams : Streams) (calls : List (List Item)) (stop : Stop)
      → AreMixed bytes streams → FirstRecordFault calls_in_turn streams.client calls stop
      → entries ≡ map Call calls → fault ≡ place_at number Client calls stop
      → StreamsShow number bytes entries fault
  InServerStream : (streams : Streams) (calls : List (List Item)) (replies : List ReplyItems)
      (stop : Stop) → AreMixed bytes streams → Holds calls_in_turn streams.client calls
      → FirstRecordFault (replies_to calls) streams.server replies stop
      → entries ≡ map Call calls ++ (Turn ∷ map reply_entry replies)
      → fault ≡ place_at number Server replies stop → StreamsShow number bytes entries fault

-- The last byte of a connection's bytes, after its word 1, shows this fault. In version 2 a fault
-- of a record is shown by the side word 0 alone.
abbrev pub ConnectionShows : Version → Position → List ℕ → Fault → Type 0
ConnectionShows One at bytes fault = InTurnShows at bytes fault
ConnectionShows Two at bytes fault =
    MixedShows at bytes fault
    ⊎ ((entries : List Entry) × StreamsShow at.connection bytes entries fault)
