use Rattle.std.proofs.Common.{◌^◌, arith}
use Rattle.streams3.specs.machinery.Log.{no_run}
use Rattle.streams3.proofs.RunsLemmas.{lie_ends}
use Rattle.streams3.proofs.search.end_of.Goals as goal

pub overflow_add-result : goal.overflow_add-result
overflow_add-result c =
    omega (
      arith,
      lie_ends c.args.index c.args.runs.now no_run 0 (2 ^ 63) c.requires.order
          c.requires.index,
    )
