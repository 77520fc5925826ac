use Rattle.rpc_head.proofs.Common.{Ok, rules, reading, message_start}
use Rattle.std.specs.Prelude.{◌==◌}
use Rattle.rpc_head.proofs.MessageStartLemmas.{is_start}
use Rattle.rpc_head.proofs.values.message_start.start.Goals as goal

pub returns-clause-is_start : goal.returns-clause-is_start
unfolding reading message_start
returns-clause-is_start c =
    is_start c.args.input.now c.listed.new.self
    (Ok (record { xid = c.in_ok-xid.xid; is_reply = c.in_ok-mtype.mtype == 1 }))
    c.at.ensures.bytes c.at.ensures.within (search rules)
