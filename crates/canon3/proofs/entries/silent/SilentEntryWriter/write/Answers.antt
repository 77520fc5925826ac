use Rattle.canon3.proofs.entries.silent.SilentEntryWriter.write.Goals as goal

pub returns-clause-writes : goal.returns-clause-writes
returns-clause-writes g c old entries one next observed written = (tt, tt, written)
