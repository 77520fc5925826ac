use Rattle.canon3.proofs.Common.{bytes_eq, bytes_eq-Decides}
use Rattle.capture3.proofs.Lemmas.Connections.RankLemmas.{rank-push, distinct-push}
use Rattle.canon3.proofs.Lemmas.Numbers.RankLemmas.{equivalence, rank-append}
use Rattle.canon3.proofs.laws.tables_number_by_rank.Goals as goal

pub returns-clause-number : goal.returns-clause-number
returns-clause-number c x l = rank-push bytes_eq (equivalence bytes_eq bytes_eq-Decides) x l

pub returns-clause-added : goal.returns-clause-added
returns-clause-added c x l = distinct-push bytes_eq (equivalence bytes_eq bytes_eq-Decides) x l

pub returns-clause-later : goal.returns-clause-later
returns-clause-later c x l m h = rank-append bytes_eq bytes_eq-Decides m h
