use Rattle.xdr3.proofs.Lemmas.Shapes.Layouts.{layout_is_decided}
use Rattle.procs3.specs.Table.{arguments_of}
use Rattle.procs3.proofs.laws.arguments_decided.Goals as goal

pub returns : goal.returns
returns c = λ id bytes h. layout_is_decided (arguments_of id) bytes h
