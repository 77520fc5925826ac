-- The two ends of a connection, its sockets (RFC 9293, section 4).
use Rattle.std.specs.Prelude.{Bool, true, false, cond}
use Rattle.std.specs.Cmp.Lexicographic.{slice_cmp}
use Rattle.std.specs.Ordering.{is_eq, is_gt, nat_cmp, ordering_then}
use Rattle.std.specs.declared.cmp.Ordering.{Ordering}
use Rattle.std.specs.declared.cmp.Ordering.TheVariants.{Less, Greater}
use Rattle.connections3.specs.declared.ends.EndPair.{EndPair}
use Rattle.connections3.specs.declared.ends.OneEnd.{OneEnd}
use Rattle.connections3.specs.declared.ends.OneEnd.TheVariants.{Lower, Higher}
use Rattle.recording3.specs.declared.parts.Address.{Address}
use Rattle.recording3.specs.declared.parts.Address.TheVariants.{V4, V6}
use Rattle.recording3.specs.declared.parts.End.{End}

-- by version, then by octets
abbrev pub address_order : Address → Address → Ordering
address_order (V4 a) (V4 b) = slice_cmp nat_cmp a b
address_order (V4 a) (V6 b) = Less
address_order (V6 a) (V4 b) = Greater
address_order (V6 a) (V6 b) = slice_cmp nat_cmp a b

-- by address, then by port
abbrev pub end_order : End → End → Ordering
end_order one other =
    ordering_then (address_order one.address other.address) (nat_cmp one.port other.port)

-- both ends, the lower first
abbrev pub ends_between : (source target : End) → EndPair
ends_between source target = cond (is_gt (end_order source target))
    (record { lower = target; higher = source })
    (record { lower = source; higher = target })

-- which of them is the source; if both are the same, the lower
abbrev pub sender_between : (source target : End) → OneEnd
sender_between source target = cond (is_gt (end_order source target)) Higher Lower

-- by the lower end, then by the other
abbrev pub pair_order : EndPair → EndPair → Ordering
pair_order one other =
    ordering_then (end_order one.lower other.lower) (end_order one.higher other.higher)

abbrev pub same_ends : EndPair → EndPair → Bool
same_ends one other = is_eq (pair_order one other)

abbrev pub other_end : OneEnd → OneEnd
other_end Lower = Higher
other_end Higher = Lower

abbrev pub same_one : OneEnd → OneEnd → Bool
same_one Lower Lower = true
same_one Lower Higher = false
same_one Higher Lower = false
same_one Higher Higher = true
