use Rattle.rpc_head.proofs.Common.{IfErr, OnOk, subst, sym, refl, GetError, Scans, Stops, Shape, called}
use Rattle.rpc_head.proofs.OwnerLemmas.{groups_shape, groups_size}
use Rattle.rpc_head.proofs.scans.credential.scan_groups.Goals as goal

pub scan_plain-requires : goal.scan_plain-requires
scan_plain-requires g c = sym (groups_size c.args.count _ c.requires refl)

pub returns-clause-ok : goal.returns-clause-ok
unfolding called
returns-clause-ok g c =
    subst
    (λ (s : Shape).
    OnOk c.scan_plain.result (Scans g.V.Visit.stands s (c.args.input.now, c.args.visitor.now)
    (c.scan_plain.new.input, c.scan_plain.new.visitor)))
    (groups_shape c.args.count _ c.requires refl) c.scan_plain.ensures.ok

pub returns-clause-err : goal.returns-clause-err
unfolding called
returns-clause-err g c =
    subst
    (λ (s : Shape).
    IfErr c.scan_plain.result (λ (error : GetError). Stops s c.args.input.now error))
    (groups_shape c.args.count _ c.requires refl) c.scan_plain.ensures.err
