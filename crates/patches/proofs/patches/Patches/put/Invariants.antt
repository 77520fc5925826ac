use Rattle.std.proofs.Common.{◌≡◌, ◌≤◌, ◌+◌, ◌*◌, ◌-◌, ◌++◌, length, min, take, drop}
use Rattle.patches.specs.Patches.{patched_by}
use Rattle.patches.specs.machinery.Room.{kept_by}
use Rattle.patches.proofs.patches.Patches.put.Given as goal

abbrev pub invariant-loop-part : goal.invariant-loop-part
invariant-loop-part l = record {
  written : take l.end l.room ++ patched_by (drop l.part-index l.self.parts) l.self.last l.rest
      ≡ take l.at l.fn.room ++ patched_by l.self.parts l.self.last l.body;
  short : l.end + (min (kept_by (drop l.part-index l.self.parts)) (length l.rest)
      + 8 * (length l.self.parts - l.part-index)) ≤ length l.room;
  most : l.end + (length l.rest + 8 * (length l.self.parts - l.part-index))
      ≤ l.at + (length l.body + 8 * length l.self.parts);
  from : l.at ≤ l.end;
  kept : take l.at l.room ≡ take l.at l.fn.room;
}
