use Rattle.std.proofs.Common.{◌∙◌}
use Rattle.packing3.proofs.Common.{both_of, prefix_of_kept}
use Rattle.packing3.proofs.Histories.{added, added_all, not_added}
use Rattle.packing3.proofs.packing.Packing.add.Goals as goal

pub returns-in-Ok-clause-adds : goal.returns-in-Ok-clause-adds
returns-in-Ok-clause-adds g c old pairs h =
    added g.W.Sink.written c.args.self.now c.write_pair.new.self
    (both_of (g.C.Source.observed c.args.client.now) (g.C.Source.observed c.write_pair.new.client)
    (g.S.Source.observed c.args.server.now) (g.S.Source.observed c.write_pair.new.server)) old pairs
    c.in-Ok.ensures.writes c.in-Ok.ensures.one_more (c.write_pair.ensures.same_ending ∙ h.going) h

pub returns-in-Err-clause-adds : goal.returns-in-Err-clause-adds
returns-in-Err-clause-adds g c old pairs h =
    not_added g.W.Sink.written c.args.self.now _
    (both_of (g.C.Source.observed c.args.client.now) (g.C.Source.observed c.write_pair.new.client)
    (g.S.Source.observed c.args.server.now) (g.S.Source.observed c.write_pair.new.server)) old pairs
    c.in-Err.error c.in-Err.ensures.writes h

pub returns-in-Ok-clause-whole : goal.returns-in-Ok-clause-whole
returns-in-Ok-clause-whole g c old pairs streams h from_client from_server =
    let sources =
    both_of (g.C.Source.observed c.args.client.now) (g.C.Source.observed c.write_pair.new.client)
    (g.S.Source.observed c.args.server.now) (g.S.Source.observed c.write_pair.new.server) in
    added_all g.W.Sink.written c.write_pair.new.self sources old pairs streams
    (λ given.
    prefix_of_kept sources.client_before sources.client_after given streams.client from_client)
    (λ given.
    prefix_of_kept sources.server_before sources.server_after given streams.server from_server)
    (added g.W.Sink.written c.args.self.now c.write_pair.new.self sources old pairs
    c.in-Ok.ensures.writes c.in-Ok.ensures.one_more (c.write_pair.ensures.same_ending ∙ h.going) h)
