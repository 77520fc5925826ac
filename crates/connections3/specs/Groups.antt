-- Which packets of a recording are of one connection: those between two sockets, up to a SYN that
-- begins another (RFC 9293, section 3.5).
use Rattle.std.specs.Prelude.{ℕ, zero, suc, ◌+◌, cond, ◌&&◌, not, List, [], ◌∷◌, ◌++◌, length, map, fold, Option, None, Some}
use Rattle.streams3.specs.Events.{first_number}
use Rattle.connections3.specs.Ends.{same_ends}
use Rattle.connections3.specs.Numbers.{begins_another, is_nearer, numbers_of}
use Rattle.connections3.specs.declared.connections.Recent.{Recent}
use Rattle.connections3.specs.declared.ends.EndPair.{EndPair}
use Rattle.connections3.specs.declared.ends.OneEnd.{OneEnd}
use Rattle.connections3.specs.declared.numbers.UsedNumbers.{UsedNumbers}
use Rattle.connections3.specs.declared.packets.Packet.{Packet}

-- a connection, by its ends and its packets
pub record Group : Type 0 where
  pub ends : EndPair
  pub packets : List Packet

-- the numbers of an end in the connection at an index
abbrev pub numbers_at : List Group → (end : OneEnd) → (index : ℕ) → Option UsedNumbers
numbers_at [] end index = None
numbers_at (g ∷ groups) end zero = numbers_of end g.packets
numbers_at (g ∷ groups) end (suc index) = numbers_at groups end index

-- a connection is the newest then, and the newest before it the older one; the first is both
abbrev pub with_newer : Option Recent → (index : ℕ) → Recent
with_newer None index = record { newest = index; older = index }
with_newer (Some r) index = record { newest = index; older = r.newest }

-- the two newest connections between two ends, by the ends of all from an index on
abbrev pub recent_from : Option Recent → (index : ℕ) → List EndPair → EndPair → Option Recent
recent_from found index [] ends = found
recent_from found index (one ∷ others) ends =
    recent_from (cond (same_ends one ends) (Some (with_newer found index)) found) (index + 1) others
    ends

-- The index of a packet's connection. It is a new one, behind all, if the packet begins another
-- than the newest. Without SYN it is the older one if the packet's number is nearer to that.
abbrev pub chosen : Option Recent → (OneEnd → ℕ → Option UsedNumbers) → (count : ℕ) → Packet → ℕ
chosen None numbers count p = count
chosen (Some r) numbers count p = cond (begins_another (numbers p.from r.newest) p) count
    (cond (not p.segment.syn && is_nearer (numbers p.from r.older) (numbers p.from r.newest)
    (first_number p.segment)) r.older r.newest)

abbrev pub index_of : List Group → Packet → ℕ
index_of groups p = chosen (recent_from None 0 (map (λ g. g.ends) groups) p.ends)
    (numbers_at groups) (length groups) p

-- connections with one more packet, in that at an index or in a new one behind them
abbrev pub with_packet_at : ℕ → List Group → Packet → List Group
with_packet_at index [] p = record { ends = p.ends; packets = p ∷ [] } ∷ []
with_packet_at zero (g ∷ groups) p =
    record { ends = g.ends; packets = g.packets ++ p ∷ [] } ∷ groups
with_packet_at (suc index) (g ∷ groups) p = g ∷ with_packet_at index groups p

abbrev pub with_packet : List Group → Packet → List Group
with_packet groups p = with_packet_at (index_of groups p) groups p

-- the connections of packets, in the order of their first ones
abbrev pub grouped : List Packet → List Group
grouped packets = fold with_packet [] packets
