-- The numbers of an end, with one more packet.
use Rattle.std.proofs.Common.{◌≡◌, cond, List, [], ◌∷◌, ◌++◌, Option, Some, refl}
use Rattle.connections3.specs.Ends.{same_one}
use Rattle.connections3.specs.Numbers.{numbers_from, with_numbers}
use Rattle.connections3.specs.declared.ends.OneEnd.{OneEnd}
use Rattle.connections3.specs.declared.numbers.UsedNumbers.{UsedNumbers}
use Rattle.connections3.specs.declared.packets.Packet.{Packet}

pub numbers_last : (packets : List Packet) (found : Option UsedNumbers) (end : OneEnd) (p : Packet)
    → numbers_from found end (packets ++ p ∷ [])
    ≡ cond (same_one p.from end) (Some (with_numbers (numbers_from found end packets) p))
    (numbers_from found end packets)
numbers_last [] found end p = refl
numbers_last (q ∷ packets) found end p =
    numbers_last packets (cond (same_one q.from end) (Some (with_numbers found q)) found) end p
