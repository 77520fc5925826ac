-- How connections are kept and found.
use Rattle.std.specs.Prelude.{◌≡◌, ℕ, zero, suc, List, [], ◌∷◌, ◌++◌, Option, None, Some}
use Rattle.streams3.specs.Events.{Event}
use Rattle.streams3.specs.Streams.{Shown, ShowsEvents}
use Rattle.connections3.specs.Connections.{ShowsGroup, flow_of}
use Rattle.connections3.specs.declared.connection.Connection.{Connection}
use Rattle.connections3.specs.declared.connection.Flow.{Flow}
use Rattle.connections3.specs.declared.ends.OneEnd.{OneEnd}
use Rattle.connections3.specs.declared.numbers.UsedNumbers.{UsedNumbers}
use Rattle.connections3.specs.declared.packets.Packet.{Packet}

abbrev pub numbers_in : Option Flow → Option UsedNumbers
numbers_in None = None
numbers_in (Some flow) = Some flow.numbers

-- as numbers_at, of connections
abbrev pub flow_numbers_at : List Connection → (end : OneEnd) → (index : ℕ) → Option UsedNumbers
flow_numbers_at [] end index = None
flow_numbers_at (c ∷ connections) end zero = numbers_in (flow_of c end)
flow_numbers_at (c ∷ connections) end (suc index) = flow_numbers_at connections end index

-- a stream with more events, which counts from the same number
abbrev pub AddsEvents : (old new : Shown) → List Event → Type 0
AddsEvents old new more = (new.first ≡ old.first)
    × ((events : List Event) → ShowsEvents old events → ShowsEvents new (events ++ more))

-- a packet opened a connection behind the others
pub record OpensConnection (old new : List Connection) (p : Packet) : Type 0 where
  pub connection : Connection
  pub shows : ShowsGroup connection (record { ends = p.ends; packets = p ∷ [] })
  pub behind : new ≡ old ++ connection ∷ []
