use Rattle.std.proofs.Common.{List, refl, subst, sym}
use Rattle.conversion3.specs.OrderedConnections.{AreOrdered}
use Rattle.conversion3.specs.declared.decisions.Decision.{Decision}
use Rattle.conversion3.specs.declared.ordered_connections.OrderedConnection.{OrderedConnection}
use Rattle.nfs3streams.specs.Printed.{PrintsFindings}
use Rattle.nfs3streams.proofs.decided.decide.Goals as goal

pub returns-clause-decides : goal.returns-clause-decides
returns-clause-decides g c =
    let read = c.args.read in
    let connections = read.connections.items in
    let ordered = c.in_ok-connections.ensures in
    record {
      end = refl;
      frames = refl;
      ordered = ordered;
      prints = λ frames.
          subst
          (λ (ds : List Decision).
          PrintsFindings (record {
            frames = frames;
            end = read.end;
            tally = read.tally;
            connections = connections;
            decisions = ds;
          }) c.in_ok-report.report) c.deref-3.ensures.value
          (c.in_ok-report.ensures frames connections
          (subst (λ (l : List OrderedConnection). AreOrdered connections l)
          (sym c.deref-2.ensures.value) ordered));
      are = λ file allows.
          c.in_ok-decisions.ensures.decided file allows connections
          (subst (λ (l : List OrderedConnection). AreOrdered connections l)
          (sym c.deref.ensures.value) ordered);
    }
