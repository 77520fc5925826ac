-- Streams and connections of which all is recorded.
use Rattle.std.specs.Prelude.{◌≡◌, ℕ, List, [], Option, None, Some}
use Rattle.std.specs.List.{All}
use Rattle.capture3.specs.declared.fault.Side.{Side}
use Rattle.capture3.specs.declared.fault.Side.TheVariants.{Client, Server}
use Rattle.connections3.specs.Connections.{flow_of}
use Rattle.connections3.specs.Ends.{other_end}
use Rattle.connections3.specs.declared.connection.Connection.{Connection}
use Rattle.connections3.specs.declared.connection.Flow.{Flow}
use Rattle.connections3.specs.declared.ends.OneEnd.{OneEnd}
use Rattle.payload3.specs.Readings.{bytes_at}
use Rattle.streams3.specs.declared.runs.Run.{Run}
use Rattle.streams3.specs.Order.{IsWholeStream, Ordered}
use Rattle.streams3.specs.Repeats.{Has}
use Rattle.streams3.specs.Runs.{spot_in, spot_of}
use Rattle.streams3.specs.Streams.{Shown}

-- a stream as it was recorded; what is missing of it is the same in any order
abbrev pub recorded_of : Shown → Ordered
recorded_of stream = record { marks = stream.marks; runs = stream.log; pairs = [] }

-- the byte of the file that lies there; none if the file ends before it
abbrev pub byte_at : (file : List ℕ) → Option (ℕ × ℕ) → List ℕ
byte_at file None = []
byte_at file (Some spot) = bytes_at file spot.0 1

-- each byte of a payload is the same as where the first payload that has its position has it
abbrev pub IsAsFirst : (file : List ℕ) → (log : List Run) → Run → Type 0
IsAsFirst file log run =
    (p : ℕ) → Has run p → byte_at file (spot_in run p) ≡ byte_at file (spot_of log p)

-- All that the end is known to have sent was recorded, all of it fits, and what came again is the
-- same.
pub record IsWholeStreamIn (file : List ℕ) (stream : Shown) : Type 0 where
  pub whole : IsWholeStream (recorded_of stream)
  pub same : All (IsAsFirst file stream.log) stream.log

abbrev pub IsWholeFlow : (file : List ℕ) → Option Flow → Type 0
IsWholeFlow file None = ⊥
IsWholeFlow file (Some flow) = IsWholeStreamIn file flow.stream

-- what the client sent, or the other end; none if it is not known which end is the client
abbrev pub flow_by : Option OneEnd → Connection → Side → Option Flow
flow_by None c side = None
flow_by (Some client) c Client = flow_of c client
flow_by (Some client) c Server = flow_of c (other_end client)

abbrev pub side_flow : Connection → Side → Option Flow
side_flow c side = flow_by c.client c side

-- the streams of both ends are whole
pub record IsWholeConnection (file : List ℕ) (c : Connection) : Type 0 where
  pub client : IsWholeFlow file (side_flow c Client)
  pub server : IsWholeFlow file (side_flow c Server)
