use Rattle.canon3.proofs.Common.{bytes_eq, bytes_eq-Decides}
use Rattle.canon3.specs.OneToOne.{AreBeside}
use Rattle.canon3.proofs.Lemmas.Numbers.RankLemmas.{rank_paired, rank-map}
use Rattle.canon3.proofs.Lemmas.Renaming.OneToOneLemmas.{agree-from}
use Rattle.canon3.proofs.laws.ranks_are_blind.Goals as goal

pub returns-clause-injective : goal.returns-clause-injective
returns-clause-injective c f x l one =
    rank-map bytes_eq bytes_eq-Decides bytes_eq bytes_eq-Decides f x l one

pub returns-clause-paired : goal.returns-clause-paired
returns-clause-paired c pairs x y l m one b p =
    rank_paired bytes_eq bytes_eq (AreBeside pairs)
    (λ x y u v r s. (agree-from bytes_eq bytes_eq-Decides one).alike (x, u) (y, v) r s) b p
