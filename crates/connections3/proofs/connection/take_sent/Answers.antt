use Rattle.std.proofs.Common.{◌∙◌, [], subst}
use Rattle.connections3.specs.Connections.{ShowsFlow}
use Rattle.connections3.proofs.ConnectionsLemmas.{flow_begun, flow_sent}
use Rattle.connections3.proofs.connection.take_sent.Goals as goal

pub returns-in_ok-take_segment-in-Some-clause-ok :
    goal.returns-in_ok-take_segment-in-Some-clause-ok
returns-in_ok-take_segment-in-Some-clause-ok c = λ packets h.
    let p = c.args.packet.now in
    flow_sent c.in-Some.flow
    (record { stream = c.take_segment.new.stream; numbers = c.with_packet-flow.result }) packets p
    c.with_packet-flow.ensures c.in_ok-take_segment-in-Some.ensures.ok
    (subst (λ f. ShowsFlow f p.from packets) c.in-Some.is h)

pub returns-in_ok-take_segment-in-None-clause-ok :
    goal.returns-in_ok-take_segment-in-None-clause-ok
returns-in_ok-take_segment-in-None-clause-ok c = λ packets h.
    let p = c.args.packet.now in
    flow_begun
    (record {
      stream = c.take_segment-in-None.new.stream;
      numbers = c.with_packet-numbers.result;
    }) packets p c.with_packet-numbers.ensures
    (c.in_ok-take_segment-in-None.ensures.ok.0 ∙ c.new-stream.ensures.first)
    (c.in_ok-take_segment-in-None.ensures.ok.1 [] c.new-stream.ensures.shows)
    (subst (λ f. ShowsFlow f p.from packets) c.in-None.is h)
