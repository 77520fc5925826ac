use Rattle.masking3.proofs.Lemmas.Writing.WriterLemmas.{ended}
use Rattle.masking3.proofs.masking_writer.MaskingWriter.end_message.Goals as goal

pub returns-clause-rests : goal.returns-clause-rests
returns-clause-rests g c front items side held =
    ended g.P.Plan.ways c.args.self.now front items side c.clear.new.self c.clear.ensures held
