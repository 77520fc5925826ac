use Rattle.capture3.proofs.Lemmas.Messages.SpelledLemmas.{start_is_whole, xid_read}
use Rattle.capture3.proofs.reader.entry.xid_of.Goals as goal

pub unreachable-requires : goal.unreachable-requires
unreachable-requires c =
    start_is_whole c.args.body.now c.in_default.field-0 c.requires.started
    (rw (c.new.ensures.body, c.new.ensures.start) at c.in_default.ensures.read)

pub returns : goal.returns
returns c xid mtype starts =
    xid_read c.args.body.now xid mtype c.in-Ok.start c.start.new.input.at starts
    (rw (c.new.ensures.body, c.new.ensures.start) at c.in-Ok.ensures.read)
