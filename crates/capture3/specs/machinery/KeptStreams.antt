-- Where a reader stands in the streams of a connection of version 2: all of them have come, and
-- their records are judged one by one, while no byte of the file is taken.
use Rattle.std.specs.Prelude.{◌≡◌, ℕ, List, [], ◌∷◌, ◌++◌, length, drop}
use Rattle.record_mark.specs.Machine.{Ends, Runs}
use Rattle.capture3.specs.machinery.Calls.{Known}
use Rattle.capture3.specs.declared.fault.Fault.{Fault}
use Rattle.capture3.specs.declared.fault.Side.{Side}
use Rattle.capture3.specs.declared.fault.Side.TheVariants.{Client, Server}
use Rattle.capture3.specs.Entry.{Entry}
use Rattle.capture3.specs.Entry as entries
use Rattle.capture3.specs.BodyProgram.{judge_call}
use Rattle.capture3.specs.machinery.Messages.{IsTableOf, xids_in}
use Rattle.capture3.specs.OpenXids.{open_xids}
use Rattle.capture3.specs.Progress.{AreCounted}
use Rattle.capture3.specs.ConnectionMachine.{ShownFault, judge_replies}
use Rattle.capture3.specs.FileMachine.{Parsing, file_next, parsed, emitted}
use Rattle.capture3.specs.StreamMachine.{Reading, Held, rest_end, stream_end, reading_with}
use Rattle.record_mark.specs.Joining.{Between}
use Rattle.capture3.specs.machinery.FileStanding.{Judged, conversed, client_entries, server_entries}
use Rattle.capture3.specs.SidedChunks.{Streams}
use Rattle.capture3.specs.machinery.ContainerMachine.{Unpacking}

-- after these messages, before the next record
abbrev pub between_records : {M : Type 0} → List M → Reading M
between_records messages = reading_with messages Between

-- After so many bytes of the side's stream: what is to be said of its rest is what is to be said of
-- all of it.
abbrev pub RecallsAt : Side → ℕ → ℕ → Streams → Judged → List Entry → Type 0
RecallsAt Client taken records streams j handed =
    (stream_end judge_call streams.client
    ≡ rest_end judge_call (between_records j.calls) (drop taken streams.client))
    × (records ≡ length j.calls) × (handed ≡ j.entries ++ client_entries j.calls)
RecallsAt Server taken records streams j handed =
    (stream_end judge_call streams.client ≡ Held j.calls)
    × (stream_end (judge_replies j.calls) streams.server
    ≡ rest_end (judge_replies j.calls) (between_records j.replies) (drop taken streams.server))
    × (records ≡ length j.replies)
    × (handed ≡ j.entries ++ (client_entries j.calls ++ server_entries j.replies))

-- The last byte of these is that of the side word 0, after which `u` stands. Of the side's stream
-- so many bytes and records were taken, and these entries were handed out.
pub record Recalls (u : Unpacking) (streams : Streams) (side : Side) (taken records : ℕ)
    (table : Known) (bytes : List ℕ) (handed : List Entry) : Type 0 where
  pub front : List ℕ
  pub byte : ℕ
  pub state : Parsing
  pub so_far : Judged
  pub split : bytes ≡ front ++ byte ∷ []
  pub runs : parsed front ≡ Runs state
  pub ends : file_next state byte ≡ conversed u so_far streams
  pub emits : emitted state ≡ so_far.entries ++ entries.Begin ∷ []
  pub calls : IsTableOf table so_far.calls
  pub opened : open_xids [] handed ≡ xids_in so_far.calls
  pub here : RecallsAt side taken records streams so_far handed
  pub placed : AreCounted u.connections records handed

-- One of the bytes shows the fault. The machine runs up to it, and what was handed out are the
-- entries that it emitted, with those that the byte still reaches.
pub record ShowsFirst (bytes : List ℕ) (handed : List Entry) (fault : Fault) : Type 0 where
  pub front : List ℕ
  pub byte : ℕ
  pub back : List ℕ
  pub state : Parsing
  pub shown : ShownFault
  pub split : bytes ≡ front ++ byte ∷ back
  pub runs : parsed front ≡ Runs state
  pub ends : file_next state byte ≡ Ends shown
  pub is : fault ≡ shown.fault
  pub emits : handed ≡ emitted state ++ shown.more
