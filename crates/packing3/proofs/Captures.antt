-- What is packed is a capture.
use Rattle.packing3.proofs.Common.{arith, refl, ap, ◌<◌, ◌≤◌, ℕ, List, [], ◌∷◌, ◌++◌, length, flat_map, word_bytes, Streams, chunk_bytes, AreCut, ArePacked, IsPackedConnection, IsPackedStream, full_size, IsCapture, IsConnection, One, max_connections, total_size, IsChunk, IsStream, max_bytes}
use Rattle.record_mark.proofs.Steps.{IsWord-big_bytes}
use Rattle.record_mark.specs.Word.{Joins}

is_chunk : (chunk : List ℕ) → 0 < length chunk → length chunk ≤ full_size
    → IsChunk (chunk_bytes chunk) chunk
is_chunk chunk some within =
    record {
      header = word_bytes (length chunk);
      split = refl;
      word = IsWord-big_bytes (length chunk) (omega arith);
      some = some;
    }

are_chunks : (chunks : List (List ℕ)) → AreCut chunks
    → Joins IsChunk (flat_map chunk_bytes chunks) chunks
are_chunks [] cut = refl
are_chunks (c ∷ []) cut = (chunk_bytes c, [], refl, is_chunk c cut.0 cut.1, refl)
are_chunks (c ∷ d ∷ more) cut = (
  chunk_bytes c,
  flat_map chunk_bytes (d ∷ more),
  refl,
  is_chunk c (omega (arith, cut.0)) (omega (arith, cut.0)),
  are_chunks (d ∷ more) cut.1,
)

is_stream : (bytes stream : List ℕ) → IsPackedStream bytes stream → IsStream bytes stream
is_stream bytes stream packed = record {
  front = flat_map chunk_bytes packed.chunks;
  last = word_bytes 0;
  split = packed.are;
  chunks =
      record {
        chunks = packed.chunks;
        joined = are_chunks packed.chunks packed.cut;
        carried = packed.carried;
      };
  closes = IsWord-big_bytes 0 (omega arith);
}

is_connection : (bytes : List ℕ) (streams : Streams) → IsPackedConnection bytes streams
    → IsConnection One bytes streams
is_connection bytes streams packed = record {
  mark = word_bytes 1;
  rest = packed.client ++ packed.server;
  split = packed.split;
  one = IsWord-big_bytes 1 (omega arith);
  both = (
    packed.client,
    packed.server,
    refl,
    is_stream packed.client streams.client packed.client_is,
    is_stream packed.server streams.server packed.server_is,
  );
}

are_connections : (pairs : List Streams) (bytes : List ℕ) → Joins IsPackedConnection bytes pairs
    → Joins (IsConnection One) bytes pairs
are_connections [] bytes joined = joined
are_connections (streams ∷ pairs) bytes joined = (
  joined.0,
  joined.1,
  joined.2,
  is_connection joined.0 streams joined.3,
  are_connections pairs joined.1 joined.4,
)

pub is_capture : (front : List ℕ) (pairs : List Streams) → ArePacked front pairs
    → length pairs ≤ max_connections → total_size pairs ≤ max_bytes
    → IsCapture One (front ++ word_bytes 0) pairs
is_capture front pairs packed few small = record {
  bytes = packed.connections;
  last = word_bytes 0;
  split = ap (λ (l : List ℕ). l ++ word_bytes 0) packed.split;
  joined = are_connections pairs packed.connections packed.joined;
  closes = IsWord-big_bytes 0 (omega arith);
  few = few;
  small = small;
}
