use Rattle.capture3.proofs.Common.{◌≤◌, ◌+◌, ◌-◌, length, take, vec_len, released, CanGoOn, known_in_list, room_in}
use Rattle.capture3.specs.machinery.Position.{most_things}
use Rattle.capture3.proofs.Lemmas.Reader.WholeFiles.{Keeps}
use Rattle.capture3.proofs.reader.whole.parse.Given as goal

abbrev pub invariant-loop-taken : goal.invariant-loop-taken
invariant-loop-taken l = record {
  within : l.taken ≤ length l.bytes;
  ready : CanGoOn l.pairing.container.cursor (released l.pairing.container.joiner.taking)
      l.pairing.container;
  room : vec_len l.entries + room_in l.pairing.container ≤ most_things;
  machine : Keeps l.pairing.container (known_in_list l.pairing.calls.calls.items)
      (take l.taken l.bytes) l.entries.items;
}

abbrev pub decreases-loop-taken : goal.decreases-loop-taken
decreases-loop-taken l = (room_in l.pairing.container) + (length l.bytes - l.taken)
