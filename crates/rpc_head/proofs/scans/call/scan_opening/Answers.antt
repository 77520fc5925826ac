use Rattle.rpc_head.proofs.Common.{◌<◌, ◌≤◌, ◌∙◌, subst, sym, called, Opening}
use Rattle.rpc_head.proofs.HeadRunLemmas.{flavor_refused, opening_scans, run_size_is, version_refused}
use Rattle.rpc_head.proofs.scans.call.scan_opening.Goals as goal

pub opening_in-opening-requires : goal.opening_in-opening-requires
opening_in-opening-requires g c =
    run_size_is 20 c.args.input.now.body c.in-Some.run'.now c.args.input.now.at c.run.new.self.at
    c.in-Some.ensures.read

pub returns-then-word_in-ne2-clause-err : goal.returns-then-word_in-ne2-clause-err
returns-then-word_in-ne2-clause-err g c =
    rw (c.stop.ensures, c.at-at.ensures.place) (version_refused c.args.input.now c.run.new.self
    c.in-Some.run'.now c.in-Some.ensures.read
    (λ is. c.if-word_in-ne2.true (c.word_in.ensures ∙ is)))

pub returns-then-opening-gt1-clause-err : goal.returns-then-opening-gt1-clause-err
returns-then-opening-gt1-clause-err g c =
    rw (c.stop-then-opening-gt1.ensures, c.at-at.ensures.place) (flavor_refused c.args.input.now
    c.run.new.self c.in-Some.run'.now c.in-Some.ensures.read
    (sym c.word_in.ensures ∙ c.if-word_in-ne2.false) (subst (λ (o : Opening). 1 < o.flavor)
    c.opening_in-opening.ensures c.if-opening-gt1.true))

pub returns-clause-ok : goal.returns-clause-ok
unfolding called
returns-clause-ok g c =
    rw c.opening_in-opening.ensures
    (opening_scans g.V.Visit.stands c.in-Some.run'.now c.args.input.now c.run.new.self
    c.args.visitor.now c.plain.new.self c.in-Some.ensures.read c.in-Some.ensures.moves
    (sym c.word_in.ensures ∙ c.if-word_in-ne2.false)
    (subst (λ (o : Opening). o.flavor ≤ 1) c.opening_in-opening.ensures c.if-opening-gt1.false)
    c.in_ok-plain.ensures.ok)

pub plain-requires : goal.plain-requires
plain-requires g c =
    run_size_is 20 c.args.input.now.body c.in-Some.run'.now c.args.input.now.at c.run.new.self.at
    c.in-Some.ensures.read
