use Rattle.recording3.proofs.Exactly.{exactly_ok, exactly_err}
use Rattle.recording3.proofs.Files.PcapngLemmas.{same_part, some_part, one_lack}
use Rattle.recording3.specs.Pcapng.{IsBlock, LacksBlock}
use Rattle.recording3.proofs.pcapng.read_block.Goals as goal

pub returns-clause-exactly : goal.returns-clause-exactly
returns-clause-exactly c =
    let o = c.args.order in let n = c.args.interfaces.now in let b = c.args.bytes.now in
    exactly_ok (IsBlock o n b) (LacksBlock o n b) (same_part o n b) (one_lack o n b)
    (some_part o n b)
    c.block_of.result c.block_of.ensures.ok c.block_of.ensures.err

pub returns-clause-why : goal.returns-clause-why
returns-clause-why c =
    let o = c.args.order in let n = c.args.interfaces.now in let b = c.args.bytes.now in
    exactly_err (IsBlock o n b) (LacksBlock o n b) (same_part o n b) (one_lack o n b)
    (some_part o n b)
    c.block_of.result c.block_of.ensures.ok c.block_of.ensures.err
