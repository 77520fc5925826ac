use Rattle.std.proofs.Common.{◌≡◌, ◌⊎◌, ◌<◌, ◌∙◌, None, ap, length, subst, sym}
use Rattle.std.proofs.lemmas.Result.{on_ok_weaker}
use Rattle.connections3.specs.Connections.{IsFlowAtLimit, IsOneAtLimit, ShowsGroup, ShowsPackets, all_ends}
use Rattle.connections3.specs.Groups.{chosen, recent_from}
use Rattle.connections3.specs.machinery.Table.{flow_numbers_at}
use Rattle.connections3.proofs.ConnectionsLemmas.{new_at_limit, one_at_limit}
use Rattle.connections3.proofs.GroupsLemmas.{ends_taken, shows_opened, shows_taken}
use Rattle.connections3.proofs.connections.Connections.take.Goals as goal

pub invariant_of-self : goal.invariant_of-self
invariant_of-self c =
    let items = c.self.inside.connections.items in
    let within = subst (λ xs. c.in-Some.index < length xs) c.deref.ensures.value
    c.in-Some.ensures.within in
    let same = ends_taken items c.in-Some.index c.index_mut.result.now c.take.new.self within
    (c.take.ensures.ends ∙ ap (λ one. one.ends) c.index_mut.ensures.value) in
    record {
      table = λ ends.
          c.self.invariant.table ends ∙ ap (λ all. recent_from None 0 all ends) (sym same);
    }

pub returns-in-Some-clause-ok : goal.returns-in-Some-clause-ok
returns-in-Some-clause-ok c =
    on_ok_weaker c.take.result
    (λ takes packets h.
    let items = c.self.inside.connections.items in
    let p = c.args.packet.now in
    let within = subst (λ xs. c.in-Some.index < length xs) c.deref.ensures.value
    c.in-Some.ensures.within in
    let is = subst (λ xs. c.in-Some.index ≡ chosen (recent_from None 0 (all_ends xs) p.ends)
    (flow_numbers_at xs) (length xs) p) c.deref.ensures.value c.in-Some.ensures.chosen in
    shows_taken items packets p c.in-Some.index c.index_mut.result.now
    c.take.new.self (subst (λ all. ShowsPackets all packets) (sym c.self.view_is) h) is within
    (λ ends ps g. takes ends ps
    (subst (λ one. ShowsGroup one (record { ends = ends; packets = ps }))
    (sym c.index_mut.ensures.value) g)))
    c.take.ensures.ok

pub returns-in-None-clause-ok : goal.returns-in-None-clause-ok
returns-in-None-clause-ok c =
    on_ok_weaker c.open.result
    (λ opens packets h.
    let items = c.self.inside.connections.items in
    let p = c.args.packet.now in
    let is = subst (λ xs. length xs ≡ chosen (recent_from None 0 (all_ends xs) p.ends)
    (flow_numbers_at xs) (length xs) p) c.deref.ensures.value c.in-None.ensures.chosen in
    shows_opened items c.open.new.connections.items packets p
    (subst (λ all. ShowsPackets all packets) (sym c.self.view_is) h) is opens)
    c.open.ensures.opened

pub returns-in-Some-clause-long : goal.returns-in-Some-clause-long
returns-in-Some-clause-long c = λ e.
    let p = c.args.packet.now in
    let within = subst (λ xs. c.in-Some.index < length xs) c.deref.ensures.value
    c.in-Some.ensures.within in
    subst (λ all. IsOneAtLimit all p) c.self.view_is
    (one_at_limit c.self.inside.connections.items c.in-Some.index c.index_mut.result.now p within
    (subst (λ one. IsFlowAtLimit one.lower p ⊎ IsFlowAtLimit one.higher p)
    c.index_mut.ensures.value (c.take.ensures.long e)))

pub returns-in-None-clause-long : goal.returns-in-None-clause-long
returns-in-None-clause-long c = λ e.
    new_at_limit c.args.self.now c.args.packet.now (c.open.ensures.long e)
