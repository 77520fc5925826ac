use Rattle.rpc_head.proofs.Common.{length, ap, arith, AreWithinLimit}
use Rattle.rpc_head.proofs.Lengths.{body_length}
use Rattle.rpc_head.proofs.values.credential.AuthSys.body_len.Goals as goal

pub overflow_cast-name_len : goal.overflow_cast-name_len
unfolding AreWithinLimit
overflow_cast-name_len c = omega (arith, body_length c.args.self.now, c.requires)

pub overflow_add-padded : goal.overflow_add-padded
unfolding AreWithinLimit
overflow_add-padded c = omega (arith, body_length c.args.self.now, c.requires)

pub overflow_add-result : goal.overflow_add-result
unfolding AreWithinLimit
overflow_add-result c = omega (arith, body_length c.args.self.now, c.requires)

pub overflow_add-result-2 : goal.overflow_add-result-2
unfolding AreWithinLimit
overflow_add-result-2 c =
    omega (arith, body_length c.args.self.now, c.requires, c.as_slice.ensures.few)

pub returns : goal.returns
returns c = omega (arith, body_length c.args.self.now, ap length c.as_slice.ensures.words)
