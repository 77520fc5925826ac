use Rattle.std.proofs.Common.{List, subst}
use Rattle.capture3.specs.declared.fault.Side.TheVariants.{Client, Server}
use Rattle.streams3.specs.declared.runs.Run.{Run}
use Rattle.conversion3.specs.Sent.{IsSentBy}
use Rattle.conversion3.specs.Whole.{side_flow}
use Rattle.conversion3.specs.machinery.Contents.{HoldsContent}
use Rattle.conversion3.proofs.PackingLemmas.{on_ok_map}
use Rattle.conversion3.proofs.packing.pack.Goals as goal

pub returns-clause-packed : goal.returns-clause-packed
returns-clause-packed g c = on_ok_map c.pack_runs.result _ _
    (λ packed before earlier has.
    let one = packed before earlier has in (
      one.0,
      one.1,
      λ file connection allows order whole.
          let all = one.2 file allows in
          let client : HoldsContent file c.in_ok-client.client.items one.0.client =
          subst (λ (runs : List Run). HoldsContent file runs one.0.client) c.deref.ensures.value
          all.0 in
          let server : HoldsContent file c.in_ok-server.server.items one.0.server =
          subst (λ (runs : List Run). HoldsContent file runs one.0.server) c.deref-2.ensures.value
          all.1 in
          record {
            client =
                subst (IsSentBy file (side_flow connection Client)) client.1
                (c.in_ok-client.ensures file (side_flow connection Client)
                (c.side.ensures connection order) whole.client client.0);
            server =
                subst (IsSentBy file (side_flow connection Server)) server.1
                (c.in_ok-server.ensures file (side_flow connection Server)
                (c.side-2.ensures connection order) whole.server server.0);
          },
    )) c.pack_runs.ensures.packed
