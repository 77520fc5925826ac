use Rattle.nfs3canon.proofs.Common.{◌≡◌, ◌≤◌, ◌∙◌, ◌*◌, ◌+◌, ◌++◌, [], ◌∷◌, Err, ℕ, List, Option, Some, ap, ap₂, append_assoc, arith, length, map, string_bytes, subst, sym, take, length-map, take_all, CountsReadings, IsUnread, FileReading, reading_in, reading_under, AreReadStreams, OneHasFailed, AreOfFirst}
use Rattle.program3.specs.declared.reading.Closed.{Closed}
use Rattle.capture3.specs.Capture.{max_connections}
use Rattle.capture3.specs.Chunks.{max_bytes}
use Rattle.capture3.specs.declared.fault.Error.TheVariants as errors
use Rattle.capture3.proofs.Lemmas.Reader.PassedOn.{error_is}
use Rattle.packing3.specs.Packing.{HasWrittenCapture}
use Rattle.nfs3canon.proofs.PackingLemmas.{StopsAdding, both_closed, both_noted, of_first, one_noted, pair_failed, pairs_first, pushed, names_are_read, given_since, stops_at, stops_error, streams_more, two_more, whole}
use Rattle.nfs3canon.proofs.packing.pack_streams.Goals as goal
use Rattle.nfs3canon.proofs.packing.pack_streams.Goals.{then-is_err-via-then-is_err, then-is_err-via-else-is_err+then-is_err-2}

pub returns-in_err-client-clause-failed : goal.returns-in_err-client-clause-failed
returns-in_err-client-clause-failed g c fresh =
    rw (error_is _ _ c.from_residual.ensures)
    (stops_at (g.F.Files.holds c.args.files.now) c.args.streams.now
    (map reading_in c.loop-index.closed.items) (2 * c.loop-index.index) 0 (2 * c.loop-index.index)
    c.index-streams-index.result c.as_str.result.now c.in_err-client.field-0.0 (omega (arith))
    (omega (arith, c.loop-index-test.true)) c.index-streams-index.is c.as_str.ensures.value
    (names_are_read _ _ _ _ c.loop-index.invariant.packed.1) c.in_err-client.ensures.failed)

pub returns-in_err-server-clause-failed : goal.returns-in_err-server-clause-failed
returns-in_err-server-clause-failed g c fresh =
    rw (error_is _ _ c.from_residual-in_err-server.ensures)
    (stops_at (g.F.Files.holds c.args.files.now) c.args.streams.now
    (map reading_in c.loop-index.closed.items) (2 * c.loop-index.index) 1
    (2 * c.loop-index.index + 1) c.index-streams-index-in-loop-index.result
    c.as_str-in-loop-index.result.now c.in_err-server.field-0.0 (omega (arith))
    (omega (arith, c.loop-index-test.true)) c.index-streams-index-in-loop-index.is
    c.as_str-in-loop-index.ensures.value
    (names_are_read _ _ _ _ c.loop-index.invariant.packed.1) c.in_err-server.ensures.failed)

-- Nothing was read yet.
pub returns-in-Err-clause-first : goal.returns-in-Err-clause-first
returns-in-Err-clause-first g c =
    of_first (map string_bytes c.args.streams.now) 0 (map reading_in c.args.closed.now.items)
    (ap (λ (l : List Closed). map (λ reading. reading.name) (map reading_in l)) c.requires)

-- The streams of the first pairs were read.
pub returns-in_err-client-clause-first : goal.returns-in_err-client-clause-first
returns-in_err-client-clause-first g c = pairs_first _ _ _ _ _ c.loop-index.invariant.packed.1

pub returns-in_err-server-clause-first : goal.returns-in_err-server-clause-first
returns-in_err-server-clause-first g c = pairs_first _ _ _ _ _ c.loop-index.invariant.packed.1

pub returns-in-Ok-finish-clause-first : goal.returns-in-Ok-finish-clause-first
returns-in-Ok-finish-clause-first g c = pairs_first _ _ _ _ _ c.loop-index.invariant.packed.1

pub returns-in-Err-finish-clause-first : goal.returns-in-Err-finish-clause-first
returns-in-Err-finish-clause-first g c = pairs_first _ _ _ _ _ c.loop-index.invariant.packed.1

-- There was no memory to note the first of a pair, or the other.
pub returns-then-is_err-clause-first : goal.returns-then-is_err-clause-first
returns-then-is_err-clause-first g c =
    let names = map string_bytes c.args.streams.now in
    let k = c.loop-index.index in
    let old = c.loop-index.closed.items in
    let between = c.push.new.self.items in
    let are = names_are_read _ _ _ _ c.loop-index.invariant.packed.1 in
    let client_named =
    ap (λ r. r.name) c.close.ensures
    ∙ (c.in_ok-client.ensures.opened.0 ∙ c.as_str.ensures.value) in
    elim c.then-is_err.branch [
      | then-is_err-via-then-is_err w ↦
          subst (λ closed. AreOfFirst names (map reading_in closed.items)) (sym w.closed-is)
          (one_noted c.args.streams.now (2 * k) old between c.close.result
          c.index-streams-index.result (omega (arith, c.loop-index-test.true))
          c.index-streams-index.is client_named are c.push.result c.push.ensures.items)
      | then-is_err-via-else-is_err+then-is_err-2 w ↦
          subst (λ closed. AreOfFirst names (map reading_in closed.items)) (sym w.closed-is)
          (both_noted c.args.streams.now k old between w.push-else-is_err.new.self.items
          c.close.result w.close-else-is_err.result c.index-streams-index.result
          c.index-streams-index-in-loop-index.result c.loop-index-test.true
          c.index-streams-index.is c.index-streams-index-in-loop-index.is client_named
          (ap (λ r. r.name) w.close-else-is_err.ensures
          ∙ (c.in_ok-server.ensures.opened.0 ∙ c.as_str-in-loop-index.ensures.value)) are
          (pushed c.push.result old between c.close.result
          (sym c.is_err.ensures.value ∙ w.if-is_err.false) c.push.ensures.items)
          w.push-else-is_err.result w.push-else-is_err.ensures.items)
    ]

pub returns-in-Err-added-clause-first : goal.returns-in-Err-added-clause-first
returns-in-Err-added-clause-first g c =
    let k = c.loop-index.index in
    let old = c.loop-index.closed.items in
    let between = c.push.new.self.items in
    both_noted c.args.streams.now k old between c.push-else-is_err.new.self.items c.close.result
    c.close-else-is_err.result c.index-streams-index.result
    c.index-streams-index-in-loop-index.result c.loop-index-test.true c.index-streams-index.is
    c.index-streams-index-in-loop-index.is
    (ap (λ r. r.name) c.close.ensures
    ∙ (c.in_ok-client.ensures.opened.0 ∙ c.as_str.ensures.value))
    (ap (λ r. r.name) c.close-else-is_err.ensures
    ∙ (c.in_ok-server.ensures.opened.0 ∙ c.as_str-in-loop-index.ensures.value))
    (names_are_read _ _ _ _ c.loop-index.invariant.packed.1)
    (pushed c.push.result old between c.close.result
    (sym c.is_err.ensures.value ∙ c.if-is_err.false) c.push.ensures.items)
    c.push-else-is_err.result c.push-else-is_err.ensures.items

-- A read failed only if one of the pair did.
pub returns-in-Err-added-clause-failed : goal.returns-in-Err-added-clause-failed
returns-in-Err-added-clause-failed g c fresh =
    let (pairs, streams, has_added) = c.loop-index.invariant.packed in
    let contents = g.F.Output.Write.contents in
    let remaining = g.F.Input.Read.remaining in
    let holds = g.F.Files.holds c.args.files.now in
    let old = c.loop-index.closed.items in
    let between = c.push.new.self.items in
    let new = c.push-else-is_err.new.self.items in
    let client = c.in_ok-client.client in
    let server = c.in_ok-server.server in
    let added = c.add-added in
    let first =
    pushed c.push.result old between c.close.result
    (sym c.is_err.ensures.value ∙ c.if-is_err.false) c.push.ensures.items in
    let second =
    pushed c.push-else-is_err.result between new c.close-else-is_err.result
    (sym c.is_err-else-is_err.ensures.value ∙ c.if-is_err-2.false)
    c.push-else-is_err.ensures.items in
    let both =
    both_closed old between new c.close.result c.close-else-is_err.result _ _ first second
    c.close.ensures c.close-else-is_err.ensures in
    let it = c.in-Err-added.ensures.adds (contents c.args.file) pairs has_added in
    let written = contents added.new.self.sink.device in
    let from_client =
    given_since remaining client.source added.new.client c.in_ok-client.ensures.opened.1.given
    it.streams.client it.from_client in
    let from_server =
    given_since remaining server.source added.new.server c.in_ok-server.ensures.opened.1.given
    it.streams.server it.from_server in
    stops_error holds (map string_bytes c.args.streams.now) (map reading_in new)
    c.in-Err-added.error
    (λ is.
    subst OneHasFailed (sym both) (pair_failed (Unit {0}) (map reading_in old) client.name.bytes
    server.name.bytes client.source added.new.client server.source added.new.server
    c.in_ok-client.ensures.opened.1.failures c.in_ok-server.ensures.opened.1.failures
    (subst
    (λ e.
    CountsReadings {X = Unit {0}} client.source.failures added.new.client.failures
    server.source.failures
    added.new.server.failures (Err e)) is
    (c.in-Err-added.ensures.read has_added.going))))
    (λ fault is. record {
      names = take (2 * c.loop-index.index) (map string_bytes c.args.streams.now);
      before = map reading_in old;
      pairs = pairs;
      whole = streams;
      few = subst (λ n. n ≤ max_connections) has_added.count c.loop-index.packing.few;
      small = subst (λ n. n ≤ max_bytes) has_added.streamed c.loop-index.packing.extent.within;
      client = reading_under client.name.bytes added.new.client;
      server = reading_under server.name.bytes added.new.server;
      split =
          both
          ∙ append_assoc (map reading_in old)
          (reading_under client.name.bytes added.new.client ∷ [])
          (reading_under server.name.bytes added.new.server ∷ []);
      lacks = (
        written,
        subst
            (λ given. StopsAdding (Some []) written pairs given (errors.Refused fault))
            (ap₂ (λ one other. record { client = one; server = other }) (sym from_client)
            (sym from_server))
            (subst (λ before. StopsAdding before written pairs it.streams (errors.Refused fault))
            fresh
            (subst (StopsAdding (contents c.args.file) written pairs it.streams) is it.adds)),
      );
    })

-- Both sources are read to their ends.
pub loop-index-preserved : goal.loop-index-preserved
loop-index-preserved g c =
    let (pairs, streams, has_added) = c.loop-index.invariant.packed in
    let remaining = g.F.Input.Read.remaining in
    let holds = g.F.Files.holds c.args.files.now in
    let k = c.loop-index.index in
    let names = map string_bytes c.args.streams.now in
    let old = c.loop-index.closed.items in
    let between = c.push.new.self.items in
    let new = c.push-else-is_err.new.self.items in
    let added = c.add-added in
    let it = c.in_default.ensures.adds (g.F.Output.Write.contents c.args.file) pairs has_added in
    let client = c.in_ok-client.client in
    let server = c.in_ok-server.server in
    let (client_named, client_unread) = c.in_ok-client.ensures.opened in
    let (server_named, server_unread) = c.in_ok-server.ensures.opened in
    let client_name = string_bytes c.index-streams-index.result in
    let server_name = string_bytes c.index-streams-index-in-loop-index.result in
    let client_is = c.as_str.ensures.value in
    let server_is = c.as_str-in-loop-index.ensures.value in
    let one = reading_under client_name added.new.client in
    let other = reading_under server_name added.new.server in
    let first =
    pushed c.push.result old between c.close.result
    (sym c.is_err.ensures.value ∙ c.if-is_err.false) c.push.ensures.items in
    let second =
    pushed c.push-else-is_err.result between new c.close-else-is_err.result
    (sym c.is_err-else-is_err.ensures.value ∙ c.if-is_err-2.false)
    c.push-else-is_err.ensures.items in
    let both =
    both_closed old between new c.close.result c.close-else-is_err.result one other first second
    (c.close.ensures ∙ ap (λ n. reading_under n added.new.client) (client_named ∙ client_is))
    (c.close-else-is_err.ensures
    ∙ ap (λ n. reading_under n added.new.server) (server_named ∙ server_is))
    ∙ append_assoc (map reading_in old) (one ∷ []) (other ∷ []) in
    let whole_client =
    whole remaining holds client_name client.source added.new.client
    (subst (λ n. IsUnread remaining (holds n) client.source) client_is client_unread)
    it.streams.client it.from_client it.adds.0 in
    let whole_server =
    whole remaining holds server_name server.source added.new.server
    (subst (λ n. IsUnread remaining (holds n) server.source) server_is server_unread)
    it.streams.server it.from_server it.adds.1 in
    let more =
    streams_more holds (take (2 * k) names) (client_name ∷ server_name ∷ []) (map reading_in old)
    (one ∷ other ∷ []) pairs (it.streams ∷ []) streams (whole_client, whole_server, tt) in
    let all = pairs ++ it.streams ∷ [] in
    record {
      packed = (
        all,
        subst (λ (l : List FileReading). AreReadStreams holds (take (2 * (k + 1)) names) l all)
            (sym both)
            (subst
            (λ (l : List (List ℕ)).
            AreReadStreams holds l (map reading_in old ++ one ∷ other ∷ []) all)
            (sym (two_more c.args.streams.now k c.index-streams-index.result
            c.index-streams-index-in-loop-index.result c.loop-index-test.true
            c.index-streams-index.is c.index-streams-index-in-loop-index.is)) more),
        it.adds.2,
      );
    }

-- All pairs were added.
pub returns-in-Ok-finish-clause-written : goal.returns-in-Ok-finish-clause-written
returns-in-Ok-finish-clause-written g c paired fresh =
    let (pairs, streams, has_added) = c.loop-index.invariant.packed in
    let contents = g.F.Output.Write.contents in
    let holds = g.F.Files.holds c.args.files.now in
    let names = map string_bytes c.args.streams.now in
    let readings = map reading_in c.loop-index.closed.items in
    let many : length names ≤ 2 * c.loop-index.index =
    omega (arith, paired, c.loop-index-test.false, length-map c.args.streams.now string_bytes) in
    let finished = c.in-Ok-finish.ensures.finishes (contents c.args.file) pairs has_added in (
      pairs,
      subst (λ (l : List (List ℕ)). AreReadStreams holds l readings pairs)
          (take_all (2 * c.loop-index.index) names many) streams,
      subst (λ (written : Option (List ℕ)). HasWrittenCapture (Some []) written pairs)
          (ap contents (sym (c.into_inner.ensures ∙ ap (λ s. s.device) c.into_sink.ensures)))
          (subst (λ old. HasWrittenCapture old (contents c.finish.new.self.sink.device) pairs)
          fresh finished),
    )

-- The end reads nothing.
pub returns-in-Err-finish-clause-failed : goal.returns-in-Err-finish-clause-failed
returns-in-Err-finish-clause-failed g c fresh =
    let (pairs, streams, has_added) = c.loop-index.invariant.packed in
    let error = c.in-Err-finish.error in
    let front =
    c.in-Err-finish.ensures.finishes (g.F.Output.Write.contents c.args.file) pairs has_added in
    let written : error ≡ errors.Write = front.is in
    stops_error (g.F.Files.holds c.args.files.now) (map string_bytes c.args.streams.now)
    (map reading_in c.loop-index.closed.items) error (λ is. absurd (cc))
    (λ fault is. absurd (cc))
