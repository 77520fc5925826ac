use Rattle.std.proofs.Common.{◌≡◌, None, Some, Err, Result, subst}
use Rattle.std.specs.Result.{MatchResult}
use Rattle.capture3.specs.declared.fault.Error.{Error}
use Rattle.packing3.specs.Packing.{ending_of}
use Rattle.conversion3.proofs.PackingLemmas.{added_is, allow_three, contents, if_err, on_ok, stops_after}
use Rattle.conversion3.proofs.packing.pack_runs.Goals as goal

pub returns-clause-packed : goal.returns-clause-packed
returns-clause-packed g c = on_ok c.add-result.result _
    (λ done is before earlier has.
    let client = c.add-result.new.client in
    let server = c.add-result.new.server in
    let added =
    added_is g.W.Sink.written c.add-result.new.self _ before earlier c.add-result.result done is
    (c.add-result.ensures.adds before earlier has) in (
      added.streams,
      added.added,
      λ file allows.
          let all = allow_three file c.args.recorded.now.readings c.note_payload.new.self.readings
          c.note_payload-2.new.self.readings client.readings server.readings
          c.note_payload.ensures.noted c.note_payload-2.ensures.noted allows in (
            contents file c.args.client.now c.payload-client.result client added.streams.client
                c.payload-client.ensures added.client.1 added.client_spent.0
                (c.gives.ensures file all.1),
            contents file c.args.server.now c.payload-server.result server added.streams.server
                c.payload-server.ensures added.server.1 added.server_spent.0
                (c.gives-2.ensures file all.2),
          ),
    ))

pub returns-clause-stopped : goal.returns-clause-stopped
returns-clause-stopped g c = if_err c.add-result.result _
    (λ error is before earlier has.
    stops_after g.W.Sink.written c.add-result.new.self _ before earlier c.add-result.result error is
    (subst
    (λ (r : Result (Unit {0}) Error). MatchResult r (λ _. ending_of c.add-result.new.self ≡ None)
    (λ e. ending_of c.add-result.new.self ≡ Some (Err e))) is
    (c.add-result.ensures.ended has.going))
    (c.add-result.ensures.adds before earlier has))
