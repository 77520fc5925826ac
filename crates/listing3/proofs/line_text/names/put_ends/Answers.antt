use Rattle.std.proofs.Common.{arith, length, ◌-◌, ◌∙◌}
use Rattle.listing3.proofs.PutsBytesLemmas.{both_ends}
use Rattle.listing3.proofs.line_text.names.put_ends.Goals as goal

pub returns-clause-puts : goal.returns-clause-puts
returns-clause-puts g c = (
  both_ends c.args.room.now c.put_bytes.new.room c.put_bytes-2.new.room c.args.bytes.now
      c.block.result c.block-2.result c.args.at g.row.N (length c.args.bytes.now - g.row.N)
      c.put_bytes.result c.put_bytes-2.result
      (omega arith) (omega arith) (omega arith) c.block.ensures c.block-2.ensures
      c.put_bytes.ensures.end c.put_bytes.ensures.written c.put_bytes-2.ensures.written,
  c.put_bytes-2.ensures.len ∙ c.put_bytes.ensures.len,
)
