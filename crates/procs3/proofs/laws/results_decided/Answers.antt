use Rattle.xdr3.proofs.Lemmas.Shapes.Layouts.{layout_is_decided}
use Rattle.procs3.specs.Table.{results_of}
use Rattle.procs3.proofs.laws.results_decided.Goals as goal

pub returns : goal.returns
returns c = λ id bytes h. layout_is_decided (results_of id) bytes h
