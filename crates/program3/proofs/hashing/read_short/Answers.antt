use Rattle.program3.proofs.Common.{length, eq-eqb, le-ltb, lt-ltb, ne_eqb, read_short}
use Rattle.program3.proofs.hashing.read_short.Goals as goal

pub returns-then-len-gt4 : goal.returns-then-len-gt4
unfolding read_short
returns-then-len-gt4 c =
    rw (
      c.read_u32.ensures,
      c.read_u32-then-len-gt4.ensures,
      lt-ltb 4 (length c.args.bytes.now) c.if-len-gt4.true,
    )

pub returns-then-len-eq4 : goal.returns-then-len-eq4
unfolding read_short
returns-then-len-eq4 c =
    rw (
      c.read_u32-then-len-eq4.ensures,
      le-ltb 4 (length c.args.bytes.now) c.if-len-gt4.false,
      eq-eqb (length c.args.bytes.now) 4 c.if-len-eq4.true,
    )

pub returns-then-len-gt0 : goal.returns-then-len-gt0
unfolding read_short
returns-then-len-gt0 c =
    rw (
      le-ltb 4 (length c.args.bytes.now) c.if-len-gt4.false,
      ne_eqb (length c.args.bytes.now) 4 c.if-len-eq4.false,
      lt-ltb 0 (length c.args.bytes.now) c.if-len-gt0.true,
    )

pub returns-else-len-gt0 : goal.returns-else-len-gt0
unfolding read_short
returns-else-len-gt0 c =
    rw (
      le-ltb 4 (length c.args.bytes.now) c.if-len-gt4.false,
      ne_eqb (length c.args.bytes.now) 4 c.if-len-eq4.false,
      le-ltb 0 (length c.args.bytes.now) c.if-len-gt0.false,
    )
