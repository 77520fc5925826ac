use Rattle.capture3.proofs.Common.{arith}
use Rattle.capture3.proofs.Lemmas.Connections.LineLemmas.{counted_anew}
use Rattle.capture3.proofs.message.counted_calls.CountedCalls.start_with.Goals as goal

pub returns-in-1-clause-same : goal.returns-in-1-clause-same
returns-in-1-clause-same g c =
    counted_anew c.args.self.now.counting c.from-self-in-1.result c.args.self.now.line.items
    c.first_xid-first.result (omega (arith, c.in-1.is, c.len.ensures)) (omega arith)
    c.first_xid-first.ensures c.from-self-in-1.ensures
