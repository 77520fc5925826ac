-- The bytes that an end sent.
use Rattle.std.specs.Prelude.{◌≢◌, ◌≤◌, ◌<◌, ◌↔◌, ℕ, List, Option, None, Some}
use Rattle.capture3.specs.SidedChunks.{Streams}
use Rattle.capture3.specs.declared.fault.Side.TheVariants.{Client, Server}
use Rattle.connections3.specs.declared.connection.Connection.{Connection}
use Rattle.connections3.specs.declared.connection.Flow.{Flow}
use Rattle.streams3.specs.Content.{AreStreamBytes}
use Rattle.streams3.specs.Order.{begin_of}
use Rattle.streams3.specs.Runs.{spot_of}
use Rattle.streams3.specs.Streams.{Shown}
use Rattle.conversion3.specs.Whole.{side_flow}

-- from where the stream begins it has the byte at each position up to another, and none later
pub record EndsAt (stream : Shown) (end : ℕ) : Type 0 where
  pub order : begin_of stream.marks.begin ≤ end
  pub all : (p : ℕ) → begin_of stream.marks.begin ≤ p
      → (spot_of stream.log p ≢ None) ↔ (p < end)

-- all bytes of a stream, in order
pub record AreSentBytes (file : List ℕ) (stream : Shown) (bytes : List ℕ) : Type 0 where
  pub end : ℕ
  pub ends : EndsAt stream end
  pub are : AreStreamBytes file stream.log (begin_of stream.marks.begin) end bytes

abbrev pub IsSentBy : (file : List ℕ) → Option Flow → (bytes : List ℕ) → Type 0
IsSentBy file None bytes = ⊥
IsSentBy file (Some flow) bytes = AreSentBytes file flow.stream bytes

-- the streams are exactly what both ends sent
pub record HasSent (file : List ℕ) (c : Connection) (streams : Streams) : Type 0 where
  pub client : IsSentBy file (side_flow c Client) streams.client
  pub server : IsSentBy file (side_flow c Server) streams.server
