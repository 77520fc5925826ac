use Rattle.recording3.proofs.Exactly.{exactly_ok, exactly_err}
use Rattle.recording3.proofs.Files.PcapLemmas.{same_frame, one_frame, some_frame}
use Rattle.recording3.specs.Pcap.{IsFrame, LacksFrame}
use Rattle.recording3.proofs.pcap.read_frame.Goals as goal

pub returns-clause-exactly : goal.returns-clause-exactly
returns-clause-exactly c =
    let h = c.args.header.now in let file = c.args.file.now in
    exactly_ok (IsFrame h file c.args.at) (LacksFrame h file c.args.at)
    (same_frame h file c.args.at) (one_frame h file c.args.at)
    (some_frame h file c.args.at) c.frame_at.result c.frame_at.ensures.ok c.frame_at.ensures.err

pub returns-clause-why : goal.returns-clause-why
returns-clause-why c =
    let h = c.args.header.now in let file = c.args.file.now in
    exactly_err (IsFrame h file c.args.at) (LacksFrame h file c.args.at)
    (same_frame h file c.args.at) (one_frame h file c.args.at)
    (some_frame h file c.args.at) c.frame_at.result c.frame_at.ensures.ok c.frame_at.ensures.err
