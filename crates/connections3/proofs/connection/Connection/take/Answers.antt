use Rattle.std.proofs.Common.{◌∙◌, [], ◌∷◌, None, ap, sym}
use Rattle.connections3.specs.Connections.{client_from}
use Rattle.connections3.proofs.ConnectionsLemmas.{client_last}
use Rattle.connections3.proofs.connection.Connection.take.Goals as goal

pub returns-clause-ok : goal.returns-clause-ok
returns-clause-ok c = λ ends packets h.
    let p = c.args.packet.now in
    record {
      ends = h.ends;
      client =
          c.client_by-self.ensures
          ∙ (ap (λ o. client_from o (p ∷ [])) h.client ∙ sym (client_last packets None p));
      lower = c.in_ok-take_flows.ensures.lower packets h.lower;
      higher = c.in_ok-take_flows.ensures.higher packets h.higher;
    }
