use Rattle.canon3.proofs.Common.{error_is}
use Rattle.canon3.proofs.Lemmas.Canonical.CanonicalFormLemmas.{cut_in_magic, written_or_cut}
use Rattle.canon3.proofs.canonical_form.MessageWriterEntryWriter.write.Goals as goal

pub returns-clause-writes : goal.returns-clause-writes
returns-clause-writes g c old entries one next observed written =
    written_or_cut c.write_after_magic.new.message_writer old (g.W.Sink.written c.args.sink.now)
    (g.W.Sink.written c.write_magic.new.sink) (g.W.Sink.written c.write_after_magic.new.sink)
    entries one _ next.first next.passed.place.connections_are written c.write_after_magic.result
    c.in_ok-write_magic.ensures.ok
    (c.write_after_magic.ensures.follows entries one next.is_lent next.first observed)

pub returns-in_err-write_magic-clause-writes : goal.returns-in_err-write_magic-clause-writes
returns-in_err-write_magic-clause-writes g c old entries one next observed written =
    let new = g.W.Sink.written c.write_magic.new.sink in
    rw (error_is _ _ c.from_residual.ensures) (cut_in_magic c.args.self.now old
    (g.W.Sink.written c.args.sink.now) new new entries one _ next.first
    next.passed.place.connections_are written c.in_err-write_magic.ensures.err)
