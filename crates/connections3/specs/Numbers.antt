-- The numbers that an end of a connection has used (RFC 9293, section 3.4).
use Rattle.std.specs.Prelude.{ℕ, ◌+◌, ◌-◌, ◌%◌, ◌^◌, Bool, false, cond, ◌&&◌, not, nat_eq, nat_le, nat_lt, min, List, [], ◌∷◌, Option, None, Some}
use Rattle.streams3.specs.Events.{first_number}
use Rattle.streams3.specs.declared.segments.Acknowledgment.{Acknowledgment}
use Rattle.connections3.specs.Ends.{same_one}
use Rattle.connections3.specs.declared.ends.OneEnd.{OneEnd}
use Rattle.connections3.specs.declared.numbers.UsedNumbers.{UsedNumbers}
use Rattle.connections3.specs.declared.packets.Packet.{Packet}

abbrev pub mark_or : Option Acknowledgment → ℕ → ℕ
mark_or None number = number
mark_or (Some mark) number = mark.number

-- the number behind a packet's payload, with what was cut of it
abbrev pub number_behind : Packet → ℕ
number_behind p = mark_or p.cut ((first_number p.segment + p.segment.size) % 2 ^ 32)

-- how far a number is ahead of another; numbers wrap
abbrev pub ahead : (from to : ℕ) → ℕ
ahead from to = (to + (2 ^ 32 - from)) % 2 ^ 32

-- how far two numbers are from each other
abbrev pub distance : (one other : ℕ) → ℕ
distance one other = min (ahead one other) (ahead other one)

-- A number is further than another if it is at most 2^30 ahead, the largest window (RFC 7323,
-- section 2.3).
abbrev pub furthest : (number other : ℕ) → ℕ
furthest number other = cond (nat_le (ahead number other) (2 ^ 30)) other number

-- the numbers of an end with one more packet of it
abbrev pub with_numbers : Option UsedNumbers → Packet → UsedNumbers
with_numbers None p = record { first = first_number p.segment; next = number_behind p }
with_numbers (Some n) p = record { first = n.first; next = furthest n.next (number_behind p) }

-- the numbers of an end by packets, after what was found before
abbrev pub numbers_from : Option UsedNumbers → (end : OneEnd) → List Packet → Option UsedNumbers
numbers_from found end [] = found
numbers_from found end (p ∷ packets) =
    numbers_from (cond (same_one p.from end) (Some (with_numbers found p)) found) end packets

abbrev pub numbers_of : (end : OneEnd) → List Packet → Option UsedNumbers
numbers_of end packets = numbers_from None end packets

-- A packet begins another connection than that in which its end used these numbers: it is a SYN,
-- and its first byte has another number than the first one there.
abbrev pub begins_another : Option UsedNumbers → Packet → Bool
begins_another None p = false
begins_another (Some n) p = p.segment.syn && not (nat_eq (first_number p.segment) n.first)

-- A number is nearer to those of an older connection than to those of a newer one. An end that sent
-- nothing in the newer one is 2^30 away from any number.
abbrev pub is_nearer : (older newer : Option UsedNumbers) → (number : ℕ) → Bool
is_nearer None newer number = false
is_nearer (Some o) None number = nat_lt (distance o.next number) (2 ^ 30)
is_nearer (Some o) (Some n) number = nat_lt (distance o.next number) (distance n.next number)
