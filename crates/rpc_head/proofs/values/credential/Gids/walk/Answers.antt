use Rattle.std.proofs.Common.{[], ◌∷◌, get_or, length, subst}
use Rattle.rpc_head.proofs.Common.{flat_map, Word, count_items, group_items, called}
use Rattle.std.proofs.lemmas.List.{append-nil, get_or_default}
use Rattle.xdr3.specs.Visit.{AddsSome}
use Rattle.xdr3.proofs.Lemmas.Shapes.Walks.{adds_part, on_err, some_none, some_part}
use Rattle.rpc_head.proofs.values.credential.Gids.walk.Goals as goal

pub loop-group-preserved : goal.loop-group-preserved
unfolding called
loop-group-preserved g c =
    adds_part g.V.Visit.stands c.args.visitor.now c.loop-group.visitor c.word-in-loop-group.new.self
    group_items c.as_slice-groups.result.now
    (Word (called "gids") (length c.as_slice-groups.result.now) ∷ []) c.loop-group.group-index
    (get_or c.as_slice-groups.result.now c.loop-group.group-index 0) c.loop-group-test.true
    (get_or_default c.as_slice-groups.result.now c.loop-group.group-index 0
    (get_or c.as_slice-groups.result.now c.loop-group.group-index 0) c.loop-group-test.true)
    c.loop-group.invariant c.in_ok-word-2.ensures.ok

pub returns-in_err-word-2-clause-err : goal.returns-in_err-word-2-clause-err
unfolding called
returns-in_err-word-2-clause-err g c =
    on_err c.from_residual-in_err-word-2.result
    (subst
    (λ groups.
    AddsSome g.V.Visit.stands c.args.visitor.now c.word-in-loop-group.new.self
    (count_items groups)) c.as_slice-groups.ensures.words
    (subst
    (λ rest.
    AddsSome g.V.Visit.stands c.args.visitor.now c.word-in-loop-group.new.self
    (Word (called "gids") (length c.as_slice-groups.result.now) ∷ rest))
    (append-nil (flat_map group_items c.as_slice-groups.result.now))
    (some_part g.V.Visit.stands c.args.visitor.now c.loop-group.visitor
    c.word-in-loop-group.new.self group_items c.as_slice-groups.result.now
    (Word (called "gids") (length c.as_slice-groups.result.now) ∷ []) []
    c.loop-group.group-index (get_or c.as_slice-groups.result.now c.loop-group.group-index 0)
    c.loop-group-test.true
    (get_or_default c.as_slice-groups.result.now c.loop-group.group-index 0
    (get_or c.as_slice-groups.result.now c.loop-group.group-index 0) c.loop-group-test.true)
    c.loop-group.invariant
    (some_none g.V.Visit.stands c.loop-group.visitor c.word-in-loop-group.new.self
    _ c.in_err-word-2.ensures.err))))
