use Rattle.xdr3.proofs.Lemmas.Shapes.Layouts.{read_to_the_end, reads_whole}
use Rattle.xdr3.proofs.laws.layout_read_whole.Goals as goal

pub returns-clause-relations : goal.returns-clause-relations
returns-clause-relations c = reads_whole

pub returns-clause-exact : goal.returns-clause-exact
returns-clause-exact c = read_to_the_end
