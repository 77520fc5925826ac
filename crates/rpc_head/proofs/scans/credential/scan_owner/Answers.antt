use Rattle.rpc_head.proofs.Common.{IfErr, OnOk, ◌≤◌, ◌<◌, ℕ, subst, GetError, Scans, Stops, called}
use Rattle.xdr3.specs.Named.{word}
use Rattle.xdr3.specs.Shape.{repeated}
use Rattle.rpc_head.proofs.OwnerLemmas.{count_refused, owner_scanned, owner_short, owner_stopped}
use Rattle.rpc_head.proofs.scans.credential.scan_owner.Goals as goal

pub returns-in_default-clause-err : goal.returns-in_default-clause-err
returns-in_default-clause-err g c =
    rw (c.first_short.ensures, c.in_default.ensures.none)
    (owner_short c.args.input.now c.in_default.ensures.read c.at-at.ensures.within)

pub returns-then-count-gt16-clause-err : goal.returns-then-count-gt16-clause-err
returns-then-count-gt16-clause-err g c =
    rw (c.stop.ensures, c.at-at.ensures.place) (count_refused c.args.input.now c.run.new.self
    c.in-Some.run'.now c.in-Some.ensures.read
    (subst (λ (n : ℕ). 16 < n) c.word_in-count.ensures c.if-count-gt16.true))

pub returns-clause-ok : goal.returns-clause-ok
unfolding called
returns-clause-ok g c =
    owner_scanned g.V.Visit.stands c.in-Some.run'.now c.args.input.now c.run.new.self
    c.scan_groups.new.input c.args.visitor.now c.plain.new.self c.scan_groups.new.visitor
    c.scan_groups.result c.in-Some.ensures.read c.in-Some.ensures.moves
    (subst (λ (n : ℕ). n ≤ 16) c.word_in-count.ensures c.if-count-gt16.false)
    c.in_ok-plain.ensures.ok
    (subst
    (λ (n : ℕ).
    OnOk c.scan_groups.result (Scans g.V.Visit.stands (repeated n (word "group"))
    (c.run.new.self, c.plain.new.self)
    (c.scan_groups.new.input, c.scan_groups.new.visitor)))
    c.word_in-count.ensures c.scan_groups.ensures.ok)

pub returns-clause-err : goal.returns-clause-err
returns-clause-err g c =
    owner_stopped c.in-Some.run'.now c.args.input.now c.run.new.self c.scan_groups.result
    c.in-Some.ensures.read c.in-Some.ensures.moves
    (subst (λ (n : ℕ). n ≤ 16) c.word_in-count.ensures c.if-count-gt16.false)
    (subst
    (λ (n : ℕ).
    IfErr c.scan_groups.result
    (λ (error : GetError). Stops (repeated n (word "group")) c.run.new.self error))
    c.word_in-count.ensures c.scan_groups.ensures.err)
