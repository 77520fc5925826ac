-- The streams of a connection, after its word 1.
use Rattle.packing3.proofs.Common.{arith, refl, subst, ◌≡◌, ◌+◌, ℕ, List, [], ◌++◌, length, Option, Observed, gave_none, Appends, Appends-trans, word_bytes, Error, AppendsFront, front_of_first, Extent, Grows, HasConnection, HasStream, IsStopped, StopsInConnection, StopsInStream, so_far, both_of, inr, Result, Ok, Err, CaptureSoFar, Sources, WritesConnection, WritesStream}
use Rattle.packing3.specs.declared.packing.Packing.{Packing}
use Rattle.packing3.specs.machinery.StoppedAdds.{WritesPair}
use Rattle.capture3.specs.declared.fault.Error.TheVariants as errors
use Rattle.packing3.proofs.Chunks.{grows_more, packed_none}
use Rattle.packing3.proofs.Stops.{stopped_after, stopped_before, stopped_writing}

whole_connection : (c0 c1 s0 s1 : Observed) (w0 w1 w2 w3 : Option (List ℕ))
    (e0 e1 e2 e3 : Extent)
    → Appends w0 w1 (word_bytes 1) → Grows e0 e1 (word_bytes 1) 0
    → HasStream c0 c1 (so_far w1 e1) (so_far w2 e2)
    → HasStream s0 s1 (so_far w2 e2) (so_far w3 e3)
    → HasConnection (both_of c0 c1 s0 s1) (so_far w0 e0) (so_far w3 e3)
whole_connection c0 c1 s0 s1 w0 w1 w2 w3 e0 e1 e2 e3 word begun client server =
    let both = client.bytes ++ server.bytes in
    let many = length client.stream + length server.stream in
    let total : 0 + many ≡ many = omega arith in
    record {
      streams = record { client = client.stream; server = server.stream };
      bytes = word_bytes 1 ++ both;
      from_client = client.consumed;
      from_server = server.consumed;
      client_ended = client.ended;
      server_ended = server.ended;
      packed =
          record {
            client = client.bytes;
            server = server.bytes;
            split = refl;
            client_is = client.packed;
            server_is = server.packed;
          };
      appended =
          Appends-trans w0 w1 w3 (word_bytes 1) both word
          (Appends-trans w1 w2 w3 client.bytes server.bytes client.appended server.appended);
      grows = subst (Grows e0 e3 (word_bytes 1 ++ both)) total
          (grows_more e0 e1 e3 (word_bytes 1) both 0 many begun (grows_more e1 e2 e3 client.bytes
          server.bytes (length client.stream) (length server.stream) client.grows
          server.grows));
    }

pub stops_at_mark : (c0 s0 : Observed) (w0 w1 : Option (List ℕ)) (e0 : Extent) (error : Error)
    → error ≡ errors.Write → AppendsFront w0 w1 (word_bytes 1)
    → StopsInConnection (both_of c0 c0 s0 s0) (so_far w0 e0) w1 error
stops_at_mark c0 s0 w0 w1 e0 error is front =
    let more = word_bytes 0 ++ word_bytes 0 in
    record {
      streams = record { client = []; server = [] };
      bytes = word_bytes 1 ++ more;
      from_client = gave_none c0;
      from_server = gave_none s0;
      packed =
          record {
            client = word_bytes 0;
            server = word_bytes 0;
            split = refl;
            client_is = packed_none;
            server_is = packed_none;
          };
      stopped =
          stopped_writing w0 w1 (word_bytes 1 ++ more) e0.at _ error is
          (front_of_first w0 w1 (word_bytes 1) more (word_bytes 1 ++ more) refl front);
    }

pub stops_in_client : (c0 c1 s0 : Observed) (w0 w1 w2 : Option (List ℕ)) (e0 e1 : Extent)
    (error : Error) → Appends w0 w1 (word_bytes 1) → Grows e0 e1 (word_bytes 1) 0
    → StopsInStream c0 c1 (so_far w1 e1) w2 error
    → StopsInConnection (both_of c0 c1 s0 s0) (so_far w0 e0) w2 error
stops_in_client c0 c1 s0 w0 w1 w2 e0 e1 error word begun it =
    let more = word_bytes 0 in
    let all = e1.streamed + length it.stream in
    let total : all ≡ e0.streamed + (length it.stream + length {A = ℕ} []) =
    omega (arith, begun.streamed_is) in
    record {
      streams = record { client = it.stream; server = [] };
      bytes = word_bytes 1 ++ (it.bytes ++ more);
      from_client = it.consumed;
      from_server = gave_none s0;
      packed =
          record {
            client = it.bytes;
            server = more;
            split = refl;
            client_is = it.packed;
            server_is = packed_none;
          };
      stopped =
          subst (λ n. IsStopped w0 w2 (word_bytes 1 ++ (it.bytes ++ more)) e0.at n error) total
          (stopped_after w0 w1 w2 (word_bytes 1) (it.bytes ++ more) e0.at e1.at all error word
          begun.at (stopped_before w1 w2 it.bytes e1.at all error it.stopped));
    }

stops_in_server : (c0 c1 s0 s1 : Observed) (w0 w1 w2 w3 : Option (List ℕ)) (e0 e1 e2 : Extent)
    (error : Error) → Appends w0 w1 (word_bytes 1) → Grows e0 e1 (word_bytes 1) 0
    → HasStream c0 c1 (so_far w1 e1) (so_far w2 e2) → StopsInStream s0 s1 (so_far w2 e2) w3 error
    → StopsInConnection (both_of c0 c1 s0 s1) (so_far w0 e0) w3 error
stops_in_server c0 c1 s0 s1 w0 w1 w2 w3 e0 e1 e2 error word begun client it =
    let both = client.bytes ++ it.bytes in
    let all = e2.streamed + length it.stream in
    let total : all ≡ e0.streamed + (length client.stream + length it.stream) =
    omega (arith, begun.streamed_is, client.grows.streamed_is) in
    record {
      streams = record { client = client.stream; server = it.stream };
      bytes = word_bytes 1 ++ both;
      from_client = client.consumed;
      from_server = it.consumed;
      packed =
          record {
            client = client.bytes;
            server = it.bytes;
            split = refl;
            client_is = client.packed;
            server_is = it.packed;
          };
      stopped = subst (λ n. IsStopped w0 w3 (word_bytes 1 ++ both) e0.at n error) total
          (stopped_after w0 w1 w3 (word_bytes 1) both e0.at e1.at all error word begun.at
          (stopped_after w1 w2 w3 client.bytes it.bytes e1.at e2.at all error client.appended
          client.grows.at it.stopped));
    }

pub writes_connection : (c0 c1 s0 s1 : Observed) (w0 w1 w2 w3 : Option (List ℕ))
    (e0 e1 e2 e3 : Extent) (result : Result (Unit {0}) Error) → Appends w0 w1 (word_bytes 1)
    → Grows e0 e1 (word_bytes 1) 0 → HasStream c0 c1 (so_far w1 e1) (so_far w2 e2)
    → WritesStream s0 s1 (so_far w2 e2) (so_far w3 e3) result
    → WritesConnection (both_of c0 c1 s0 s1) (so_far w0 e0) (so_far w3 e3) result
writes_connection c0 c1 s0 s1 w0 w1 w2 w3 e0 e1 e2 e3 (Ok done) word begun client it =
    whole_connection c0 c1 s0 s1 w0 w1 w2 w3 e0 e1 e2 e3 word begun client it
writes_connection c0 c1 s0 s1 w0 w1 w2 w3 e0 e1 e2 e3 (Err error) word begun client it =
    stops_in_server c0 c1 s0 s1 w0 w1 w2 w3 e0 e1 e2 error word begun client it

-- ---- a pair, which is a connection if there is room for it

module _ {W : Type 0} where
  pub writes_pair : (packing : Packing W) (sources : Sources) (old new : CaptureSoFar)
      (result : Result (Unit {0}) Error) → WritesConnection sources old new result
      → WritesPair packing sources old new result
  writes_pair packing sources old new (Ok done) it = it
  writes_pair packing sources old new (Err error) it = inr it
