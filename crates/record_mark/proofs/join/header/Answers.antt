use Rattle.record_mark.proofs.Common.{true, subst, sym, IsHeader}
use Rattle.record_mark.proofs.Steps.{heads, one_fragment}
use Rattle.record_mark.proofs.join.header.Goals as goal

is_header : (c : goal.After-bytes-2-1) → IsHeader c.write_u32.new.buf true c.args.len
is_header c =
    subst (λ h. IsHeader h true c.args.len) (sym c.write_u32.ensures) (heads c.args.len c.requires)

pub returns-clause-heads : goal.returns-clause-heads
returns-clause-heads c = is_header c

pub returns-clause-record : goal.returns-clause-record
returns-clause-record c body size =
    one_fragment c.write_u32.new.buf body c.args.len (is_header c) size c.requires
