use Rattle.std.proofs.Common.{arith}
use Rattle.streams3.proofs.search.part_of.Goals as goal

pub overflow_add-result : goal.overflow_add-result
overflow_add-result c =
    let q = c.requires in
    omega (arith, q.sound.1, q.start, q.some, q.stop)
