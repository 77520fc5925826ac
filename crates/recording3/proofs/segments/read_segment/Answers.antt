use Rattle.recording3.proofs.Exactly.{exactly_ok, exactly_err}
use Rattle.recording3.proofs.SegmentsLemmas.{same_segment, one_reason, not_both}
use Rattle.recording3.specs.Segments.{IsSegment, LacksSegment}
use Rattle.recording3.proofs.segments.read_segment.Goals as goal

pub returns-clause-exactly : goal.returns-clause-exactly
returns-clause-exactly c =
    let frame = c.args.frame.now in
    exactly_ok (IsSegment c.args.link frame c.args.wire)
    (LacksSegment c.args.link frame c.args.wire)
    (same_segment c.args.link frame c.args.wire) (one_reason c.args.link frame c.args.wire)
    (not_both c.args.link frame c.args.wire) c.layers.result c.layers.ensures.ok
    c.layers.ensures.err

pub returns-clause-why : goal.returns-clause-why
returns-clause-why c =
    let frame = c.args.frame.now in
    exactly_err (IsSegment c.args.link frame c.args.wire)
    (LacksSegment c.args.link frame c.args.wire)
    (same_segment c.args.link frame c.args.wire) (one_reason c.args.link frame c.args.wire)
    (not_both c.args.link frame c.args.wire) c.layers.result c.layers.ensures.ok
    c.layers.ensures.err
