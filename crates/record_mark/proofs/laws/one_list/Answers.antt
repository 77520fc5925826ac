use Rattle.record_mark.proofs.Endings.{one_list}
use Rattle.record_mark.proofs.laws.one_list.Goals as goal

pub returns : goal.returns
returns c = one_list
