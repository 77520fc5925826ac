use Rattle.std.proofs.Common.{[], refl}
use Rattle.listing3.proofs.line_writer.LineWriter.new.Goals as goal

pub returns : goal.returns
returns g c = ([], refl, c.requires)
