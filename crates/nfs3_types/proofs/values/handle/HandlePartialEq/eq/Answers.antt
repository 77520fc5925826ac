use Rattle.std.proofs.Common.{◌∙◌}
use Rattle.nfs3_types.proofs.HandleLemmas.{padded-equal}
use Rattle.nfs3_types.proofs.values.handle.HandlePartialEq.eq.Goals as goal

pub returns-then-self-other : goal.returns-then-self-other
returns-then-self-other c =
    c.eq.ensures ∙ padded-equal c.args.self.now c.args.other.now c.if-self-other.true
