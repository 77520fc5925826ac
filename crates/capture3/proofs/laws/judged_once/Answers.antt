use Rattle.capture3.proofs.Lemmas.Messages.BodiesLemmas.{the_calls, the_replies}
use Rattle.capture3.proofs.Lemmas.Messages.BodyProgramLemmas.{is_judged_once}
use Rattle.capture3.proofs.laws.judged_once.Goals as goal

pub returns-clause-calls : goal.returns-clause-calls
returns-clause-calls c before body are = is_judged_once the_calls before body are

pub returns-clause-replies : goal.returns-clause-replies
returns-clause-replies c calls before body are = is_judged_once (the_replies calls) before body are
