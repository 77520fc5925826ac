use Rattle.nfs3canon.proofs.Common.{◌*◌, List, map, take, string_bytes, Streams, reading_in, AreReadStreams}
use Rattle.packing3.specs.Packing.{HasAdded}
use Rattle.nfs3canon.proofs.packing.pack_streams.Given as goal

-- the streams of the first pairs were read and added
abbrev pub invariant-loop-index : goal.invariant-loop-index
invariant-loop-index g l = record {
  packed : (pairs : List Streams)
      × AreReadStreams (g.F.Files.holds l.fn.files)
      (take (2 * l.index) (map string_bytes l.fn.streams))
      (map reading_in l.closed.items) pairs
      × HasAdded (λ sink. g.F.Output.Write.contents sink.device) l.packing
      (g.F.Output.Write.contents l.fn.file) pairs;
}
