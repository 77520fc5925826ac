use Rattle.std.proofs.Common.{◌≡◌, ◌++◌, ℕ, List, Option, None, length, take}
use Rattle.capture3.specs.SidedChunks.{Streams}
use Rattle.packing3.specs.Packing.{HasAdded, ending_of, sink_of}
use Rattle.payload3.specs.Readings.{Allow}
use Rattle.conversion3.proofs.PackingLemmas.{AreSentInOrder}
use Rattle.conversion3.proofs.packing.pack_whole.Given as goal

abbrev pub invariant-loop-connection : goal.invariant-loop-connection
invariant-loop-connection g l = record {
  more : (file : List ℕ) → Allow l.recorded.readings file → Allow l.fn.recorded.readings file;
  packed : (before : Option (List ℕ)) (earlier : List Streams)
      → HasAdded g.W.Sink.written l.fn.packing before earlier → (pairs : List Streams)
      × HasAdded g.W.Sink.written l.packing before (earlier ++ pairs)
      × AreSentInOrder l.recorded.readings (take (length l.yielded) l.connections)
      (take (length l.yielded) l.decisions) pairs;
  ended : ending_of l.fn.packing ≡ None → ending_of l.packing ≡ None;
  read : ending_of l.fn.packing ≡ None → l.recorded.failures ≡ l.fn.recorded.failures;
  write : ending_of l.fn.packing ≡ None
      → g.W.Sink.failures (sink_of l.packing) ≡ g.W.Sink.failures (sink_of l.fn.packing);
}
