-- What each call makes of the pairs for which a packing stood.
use Rattle.packing3.proofs.Common.{arith, refl, sym, ap, subst, inl, inr, ◌≡◌, ◌∙◌, ◌≤◌, ◌+◌, ℕ, List, [], ◌∷◌, ◌++◌, length, length-append, append_assoc, Option, None, Result, Ok, Err, OnOk, OnErr, IfErr, Gave, IsPrefixOf, gave_none, prefix_of_observed, Appends, Appends-trans, word_bytes, Error, max_bytes, AppendsFront, front_of_second, ArePacked, IsPackedConnection, HasConnection, IsStopped, StopsInConnection, One, magic, max_connections, total_size, Streams, size, HasNoRoom, BreaksOff, Explains, so_far}
use Rattle.std.specs.Prelude.{Some}
use Rattle.record_mark.proofs.Words.{Joins-snoc}
use Rattle.xdr3.specs.declared.reason.Reason.TheVariants as reasons
use Rattle.capture3.specs.declared.fault.Error.TheVariants as errors
use Rattle.capture3.specs.declared.fault.Place.TheVariants as places
use Rattle.packing3.specs.declared.packing.Packing.{Packing}
use Rattle.packing3.specs.Devices.{Sources}
use Rattle.packing3.specs.Packing.{AddsTo, Finishes, HasAdded, ending_of}
use Rattle.packing3.specs.machinery.StoppedAdds.{IsFull, WritesPair}
use Rattle.packing3.proofs.Captures.{is_capture}
use Rattle.packing3.proofs.Stops.{stopped_after, stopped_before}

-- one connection more
packed_more : (front bytes : List ℕ) (pairs : List Streams) (streams : Streams)
    → ArePacked front pairs → IsPackedConnection bytes streams
    → ArePacked (front ++ bytes) (pairs ++ streams ∷ [])
packed_more front bytes pairs streams packed more = record {
  connections = packed.connections ++ bytes;
  split =
      ap (λ (l : List ℕ). l ++ bytes) packed.split
      ∙ append_assoc (magic One) packed.connections bytes;
  joined = Joins-snoc IsPackedConnection pairs packed.connections bytes streams packed.joined more;
}

total_more : (pairs : List Streams) (streams : Streams)
    → total_size (pairs ++ streams ∷ []) ≡ total_size pairs + size streams
total_more [] streams = omega arith
total_more (p ∷ pairs) streams = omega (arith, total_more pairs streams)

module _ {W : Type 0} (written : W → Option (List ℕ)) where
  pub added : (old new : Packing W) (sources : Sources) (first : Option (List ℕ))
      (pairs : List Streams)
      → HasConnection sources (so_far (written old.sink) old.extent)
      (so_far (written new.sink) new.extent)
      → new.connections ≡ old.connections + 1 → ending_of new ≡ None
      → HasAdded written old first pairs
      → AddsTo written new sources first pairs (Ok (tt {0}))
  added old new sources first pairs it count going h = record {
    streams = it.streams;
    from_client = it.from_client;
    from_server = it.from_server;
    adds = (
      it.client_ended,
      it.server_ended,
      record {
        going = going;
        front = h.front ++ it.bytes;
        packed = packed_more h.front it.bytes pairs it.streams h.packed it.packed;
        appended =
            Appends-trans first (written old.sink) (written new.sink) h.front it.bytes h.appended
            it.appended;
        count = omega (arith, count, h.count, length-append pairs (it.streams ∷ []));
        streamed = omega (arith, it.grows.streamed_is, h.streamed, total_more pairs it.streams);
        at = omega (arith, it.grows.at, h.at, length-append h.front it.bytes);
      },
    );
  }

  -- of all bytes of both streams, of which the sources gave prefixes
  pub added_all : (new : Packing W) (sources : Sources) (first : Option (List ℕ))
      (pairs : List Streams) (streams : Streams)
      → ((given : List ℕ) → Gave sources.client_before sources.client_after given
      → IsPrefixOf sources.client_after given streams.client)
      → ((given : List ℕ) → Gave sources.server_before sources.server_after given
      → IsPrefixOf sources.server_after given streams.server)
      → AddsTo written new sources first pairs (Ok (tt {0}))
      → HasAdded written new first (pairs ++ streams ∷ [])
  added_all new sources first pairs streams from_client from_server it =
      let (client_ended, server_ended, has) = it.adds in
      let client : it.streams.client ≡ streams.client =
      (from_client it.streams.client it.from_client).all client_ended in
      let server : it.streams.server ≡ streams.server =
      (from_server it.streams.server it.from_server).all server_ended in
      subst
      (λ (l : List ℕ).
      HasAdded written new first
      (pairs ++ record { client = streams.client; server = l } ∷ [])) server
      (subst
      (λ (l : List ℕ).
      HasAdded written new first
      (pairs ++ record { client = l; server = it.streams.server } ∷ [])) client has)

  -- of all bytes that the sources had left
  pub added_left : (new : Packing W) (sources : Sources) (first : Option (List ℕ))
      (pairs : List Streams) (streams : Streams) (result : Result (Unit {0}) Error)
      → sources.client_before.left ≡ Some streams.client
      → sources.server_before.left ≡ Some streams.server
      → AddsTo written new sources first pairs result
      → OnOk result (HasAdded written new first (pairs ++ streams ∷ []))
  added_left new sources first pairs streams (Ok done) client server it =
      added_all new sources first pairs streams
      (λ given.
      prefix_of_observed sources.client_before sources.client_after given streams.client client)
      (λ given.
      prefix_of_observed sources.server_before sources.server_after given streams.server server) it
  added_left new sources first pairs streams (Err error) client server it = tt

  broken_off : (old : Packing W) (sources : Sources) (first w1 : Option (List ℕ))
      (pairs : List Streams) (error : Error)
      (it : StopsInConnection sources (so_far (written old.sink) old.extent) w1 error)
      → HasAdded written old first pairs → BreaksOff first w1 (pairs ++ it.streams ∷ []) error
  broken_off old sources first w1 pairs error it h =
      let before = old.extent.streamed + size it.streams in
      let all : IsStopped first w1 ((h.front ++ it.bytes) ++ word_bytes 0) 0 before error =
      stopped_before first w1 (h.front ++ it.bytes) 0 before error
      (stopped_after first (written old.sink) w1 h.front it.bytes 0 old.extent.at before error
      h.appended (omega (arith, h.at)) it.stopped) in
      let total : before ≡ total_size (pairs ++ it.streams ∷ []) =
      omega (arith, h.streamed, total_more pairs it.streams) in
      let at : 0 + length all.front ≡ length all.front = omega arith in
      record {
        file = (h.front ++ it.bytes) ++ word_bytes 0;
        front = all.front;
        next = all.next;
        packed =
            record {
              front = h.front ++ it.bytes;
              split = refl;
              packed = packed_more h.front it.bytes pairs it.streams h.packed it.packed;
            };
        split = all.split;
        appended = all.appended;
        observed =
            subst (λ n. Explains error (length all.front) all.next n) total
            (subst (λ n. Explains error n all.next before) at all.observed);
      }

  no_room : (old : Packing W) (sources : Sources) (first w1 : Option (List ℕ))
      (pairs : List Streams) (error : Error)
      → IsFull old sources (written old.sink) w1 error
      → HasAdded written old first pairs → HasNoRoom first w1 pairs error
  no_room old sources first w1 pairs error full h = record {
    front = h.front;
    packed = h.packed;
    appended = subst (λ w. Appends first w h.front) (sym full.same_sink) h.appended;
    full = sym h.count ∙ full.full;
    is =
        full.is
        ∙ ap
        (λ (n : ℕ).
        errors.Refused
        (record { place = places.File n; reason = reasons.TooManyConnections }))
        h.at;
  }

  pub not_added : (old new : Packing W) (sources : Sources) (first : Option (List ℕ))
      (pairs : List Streams) (error : Error)
      → WritesPair old sources (so_far (written old.sink) old.extent)
      (so_far (written new.sink) new.extent) (Err error)
      → HasAdded written old first pairs → AddsTo written new sources first pairs (Err error)
  not_added old new sources first pairs error (inl full) h = record {
    streams = record { client = []; server = [] };
    from_client =
        subst (λ l. Gave sources.client_before l []) (sym full.same_client)
        (gave_none sources.client_before);
    from_server =
        subst (λ l. Gave sources.server_before l []) (sym full.same_server)
        (gave_none sources.server_before);
    adds = inl (refl, no_room old sources first (written new.sink) pairs error full h);
  }
  not_added old new sources first pairs error (inr it) h = record {
    streams = it.streams;
    from_client = it.from_client;
    from_server = it.from_server;
    adds = inr (broken_off old sources first (written new.sink) pairs error it h);
  }

  pub finishes : (old : Packing W) (first w1 : Option (List ℕ)) (pairs : List Streams)
      (result : Result (Unit {0}) Error) → old.connections ≤ max_connections
      → old.extent.streamed ≤ max_bytes
      → OnOk result (Appends (written old.sink) w1 (word_bytes 0))
      → OnErr result (AppendsFront (written old.sink) w1 (word_bytes 0))
      → IfErr result (λ error. error ≡ errors.Write)
      → HasAdded written old first pairs → Finishes first w1 pairs result
  finishes old first w1 pairs (Ok done) few room whole front is h = record {
    file = h.front ++ word_bytes 0;
    packed = record { front = h.front; split = refl; packed = h.packed };
    capture =
        is_capture h.front pairs h.packed (omega (arith, few, h.count))
        (omega (arith, room, h.streamed));
    appended = Appends-trans first (written old.sink) w1 h.front (word_bytes 0) h.appended whole;
  }
  finishes old first w1 pairs (Err error) few room whole front is h = record {
    file = h.front ++ word_bytes 0;
    packed = record { front = h.front; split = refl; packed = h.packed };
    appended =
        front_of_second first (written old.sink) w1 h.front (word_bytes 0) (h.front ++ word_bytes 0)
        refl h.appended front;
    is = is;
  }
