use Rattle.std.proofs.Common.{arith}
use Rattle.std.proofs.lemmas.Bool.{false≢true}
use Rattle.streams3.specs.Order.{AreFirstMissing}
use Rattle.streams3.proofs.order.OrderedStream.is_whole.Goals as goal

pub returns-in_default-2 : goal.returns-in_default-2
returns-in_default-2 c =
    let gap = c.in_default.field-0-1 in
    let m : AreFirstMissing c.args.self.now gap = c.in_default.ensures in (
      λ t. absurd (false≢true t),
      λ w. absurd (w.full gap.begin (m.missing gap.begin (omega arith) m.some)),
    )
