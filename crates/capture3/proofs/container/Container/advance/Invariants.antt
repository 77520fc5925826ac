use Rattle.capture3.proofs.Common.{◌≡◌, ◌≤◌, ◌-◌, length, take, None, IsRunning, Arrives, unpacking_in, StoredAt, room_of}
use Rattle.capture3.proofs.container.Container.advance.Given as goal

abbrev pub invariant-loop-taken : goal.invariant-loop-taken
invariant-loop-taken l = record {
  within : l.taken ≤ length l.piece;
  running : IsRunning l.self.joiner.taking;
  machine : Arrives (unpacking_in l.initial.self) (take l.taken l.piece) None l.self.position
      l.self.joiner.taking l.self.streams.kept;
  room : room_of l.self.position l.self.streams.kept
      ≤ room_of l.initial.self.position l.initial.self.streams.kept;
  cursor : l.self.cursor ≡ l.initial.self.cursor;
  stored : StoredAt l.self.position.spot l.self.position.total l.self.streams.kept;
}

abbrev pub decreases-loop-taken : goal.decreases-loop-taken
decreases-loop-taken l = length l.piece - l.taken
