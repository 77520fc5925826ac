use Rattle.std.proofs.Common.{suc, sym, arith}
use Rattle.recording3.proofs.pcapng.clock_of.Goals as goal

pub options-preserved : goal.options-preserved
options-preserved c = (
  λ new rest. c.options.invariant.0 new (
    suc rest.0,
    (
      c.options-test.true,
      rw (sym c.file_half.ensures) c.if-file_half-ne0.true,
      rw (sym c.clock_with-clock.ensures, sym c.file_half-in-options.ensures) rest.1,
    ),
  ),
  omega arith,
)
