use Rattle.recording3.proofs.Exactly.{exactly_ok, exactly_err}
use Rattle.recording3.proofs.Files.PcapLemmas.{same_header, one_header, some_header}
use Rattle.recording3.specs.Pcap.{IsFileHeader, LacksFileHeader}
use Rattle.recording3.proofs.pcap.read_header.Goals as goal

pub returns-clause-exactly : goal.returns-clause-exactly
returns-clause-exactly c =
    let file = c.args.file.now in
    exactly_ok (IsFileHeader file) (LacksFileHeader file) (same_header file) (one_header file)
    (some_header file)
    c.header_of.result c.header_of.ensures.ok c.header_of.ensures.err

pub returns-clause-why : goal.returns-clause-why
returns-clause-why c =
    let file = c.args.file.now in
    exactly_err (IsFileHeader file) (LacksFileHeader file) (same_header file) (one_header file)
    (some_header file)
    c.header_of.result c.header_of.ensures.ok c.header_of.ensures.err
