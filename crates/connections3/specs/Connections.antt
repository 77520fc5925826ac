-- What the connections of a recording show of its packets.
use Rattle.std.specs.Prelude.{◌≡◌, Bool, true, false, cond, List, [], ◌∷◌, ◌++◌, ◌⊎◌, map, Option, None, Some, is_some}
use Rattle.std.specs.BTreeMap.{get, BTreeMap}
use Rattle.streams3.specs.Events.{Event, Sent, Acknowledged}
use Rattle.streams3.specs.Streams.{IsLong, Shown, ShowsEvents}
use Rattle.streams3.specs.declared.segments.Acknowledgment.{Acknowledgment}
use Rattle.connections3.specs.Ends.{other_end, pair_order, same_one}
use Rattle.connections3.specs.Groups.{Group, grouped, recent_from}
use Rattle.connections3.specs.Numbers.{numbers_of}
use Rattle.connections3.specs.declared.connection.Connection.{Connection}
use Rattle.connections3.specs.declared.connection.Flow.{Flow}
use Rattle.connections3.specs.declared.connections.Connections.TheInside.{Inside}
use Rattle.connections3.specs.declared.connections.Recent.{Recent}
use Rattle.connections3.specs.declared.ends.EndPair.{EndPair}
use Rattle.connections3.specs.declared.ends.OneEnd.{OneEnd}
use Rattle.connections3.specs.declared.ends.OneEnd.TheVariants.{Lower, Higher}
use Rattle.connections3.specs.declared.packets.Packet.{Packet}

-- the end that is the client by a packet: the sender of a SYN, or the other end if that has ACK
abbrev pub client_by : Packet → Option OneEnd
client_by p = cond p.segment.syn
    (Some (cond (is_some p.acknowledgment) (other_end p.from) p.from)) None

-- by the first of packets that says it, after what was found before
abbrev pub client_from : Option OneEnd → List Packet → Option OneEnd
client_from found [] = found
client_from None (p ∷ packets) = client_from (client_by p) packets
client_from (Some end) (p ∷ packets) = client_from (Some end) packets

-- something shows that the bytes before a number were sent
abbrev pub shown_by : Option Acknowledgment → List Event
shown_by None = []
shown_by (Some mark) = Acknowledged mark ∷ []

-- What packets say of an end's stream: its segments, up to where they were sent if they were cut,
-- and what the other end acknowledged once the stream has begun.
abbrev pub events_from : (begun : Bool) → (end : OneEnd) → List Packet → List Event
events_from begun end [] = []
events_from begun end (p ∷ packets) = cond (same_one p.from end)
    (Sent p.segment ∷ shown_by p.cut ++ events_from true end packets)
    (cond begun (shown_by p.acknowledgment) [] ++ events_from begun end packets)

abbrev pub events_of : (end : OneEnd) → List Packet → List Event
events_of end packets = events_from false end packets

-- The stream of an end counts from its first number, and shows exactly what packets say of it. An
-- end that sent none has no stream.
abbrev pub ShowsFlow : Option Flow → (end : OneEnd) → List Packet → Type 0
ShowsFlow None end packets = numbers_of end packets ≡ None
ShowsFlow (Some flow) end packets =
    (numbers_of end packets ≡ Some flow.numbers) × (flow.stream.first ≡ flow.numbers.first)
    × ShowsEvents flow.stream (events_of end packets)

-- what an end sent
abbrev pub flow_of : Connection → OneEnd → Option Flow
flow_of c Lower = c.lower
flow_of c Higher = c.higher

-- a connection shows exactly these packets
pub record ShowsGroup (connection : Connection) (group : Group) : Type 0 where
  pub ends : connection.ends ≡ group.ends
  pub client : connection.client ≡ client_from None group.packets
  pub lower : ShowsFlow connection.lower Lower group.packets
  pub higher : ShowsFlow connection.higher Higher group.packets

-- each connection shows its packets
abbrev pub ShowGroups : List Connection → List Group → Type 0
ShowGroups [] [] = Unit {0}
ShowGroups [] (group ∷ groups) = ⊥
ShowGroups (connection ∷ connections) [] = ⊥
ShowGroups (connection ∷ connections) (group ∷ groups) =
    ShowsGroup connection group × ShowGroups connections groups

-- connections show exactly these packets
abbrev pub ShowsPackets : List Connection → List Packet → Type 0
ShowsPackets connections packets = ShowGroups connections (grouped packets)

-- a stream is at a limit, as it is or with a packet's segment
abbrev pub IsAtLimit : Shown → Packet → Type 0
IsAtLimit stream p = IsLong stream p.segment.at ⊎ ((after : Shown)
    × ((events : List Event) → ShowsEvents stream events
    → ShowsEvents after (events ++ Sent p.segment ∷ [])) × IsLong after 0)

-- the stream of an end, or the one that the packet begins
abbrev pub IsFlowAtLimit : Option Flow → Packet → Type 0
IsFlowAtLimit None p = (stream : Shown) × ShowsEvents stream [] × IsAtLimit stream p
IsFlowAtLimit (Some flow) p = IsAtLimit flow.stream p

-- a stream of one of the connections, or of one that the packet opens
abbrev pub IsOneAtLimit : List Connection → Packet → Type 0
IsOneAtLimit [] p = IsFlowAtLimit None p
IsOneAtLimit (connection ∷ connections) p =
    (IsFlowAtLimit connection.lower p ⊎ IsFlowAtLimit connection.higher p)
    ⊎ IsOneAtLimit connections p

-- what contracts see of connections
abbrev pub connections_of : Inside → List Connection
connections_of c = c.connections.items

abbrev pub all_ends : List Connection → List EndPair
all_ends connections = map (λ c. c.ends) connections

-- a table has the two newest connections between any two ends
abbrev pub FindsRecent : BTreeMap EndPair Recent → List EndPair → Type 0
FindsRecent table all = (ends : EndPair) → get pair_order table ends ≡ recent_from None 0 all ends

-- what holds of all connections
pub record IsIndexed (c : Inside) : Type 0 where
  pub table : FindsRecent c.recent (all_ends c.connections.items)
