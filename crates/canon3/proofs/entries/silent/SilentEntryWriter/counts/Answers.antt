use Rattle.canon3.proofs.entries.silent.SilentEntryWriter.counts.Goals as goal

pub returns : goal.returns
returns c bytes entries typed passed going rests = c.of.ensures bytes entries typed passed
