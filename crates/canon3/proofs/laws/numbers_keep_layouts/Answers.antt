use Rattle.canon3.proofs.Lemmas.Changes.Numbers.{call_numbered, procedure_numbered, reply_numbered}
use Rattle.canon3.proofs.laws.numbers_keep_layouts.Goals as goal

pub returns-clause-call : goal.returns-clause-call
returns-clause-call c hs vs xs items p =
    (call_numbered hs vs xs items p, procedure_numbered hs vs xs items p)

pub returns-clause-reply : goal.returns-clause-reply
returns-clause-reply c hs vs xs id items p = reply_numbered hs vs xs id items p
