-- Canonical forms decide equality up to renaming.
use Rattle.canon3.proofs.Common.{◌≡◌, List, sym, subst, Entry, Same, canonical}
use Rattle.canon3.proofs.Lemmas.Order.Order.{IsWellFormed}
use Rattle.canon3.proofs.Lemmas.Renaming.RenamingLemmas.{Matches, same-from_matches, matches-from_same, matches_turned, matches_linked}
use Rattle.canon3.proofs.Lemmas.Canonical.OneFormLemmas.{canonical-same}
use Rattle.canon3.proofs.Lemmas.Canonical.CanonicalLemmas.{matches_canonical, same-canonical}

pub same_reflexive : (a : List Entry) → IsWellFormed a → Same a a
same_reflexive a w =
    let m = matches_canonical a w in same-from_matches (matches_linked m (matches_turned m))

pub same_symmetric : (a b : List Entry) → Same a b → Same b a
same_symmetric a b s = same-from_matches (matches_turned (matches-from_same s))

pub same_transitive : (a b c : List Entry) → Same a b → Same b c → Same a c
same_transitive a b c s t =
    same-from_matches (matches_linked (matches-from_same s) (matches-from_same t))

pub same_from_canonical : (a b : List Entry) → IsWellFormed a → IsWellFormed b
    → canonical a ≡ canonical b → Same a b
same_from_canonical a b v w e =
    same-from_matches (matches_linked (subst (λ c. Matches a c) e (matches_canonical a v))
    (matches_turned (matches_canonical b w)))

pub canonical-canonical : (a : List Entry) → IsWellFormed a → canonical (canonical a) ≡ canonical a
canonical-canonical a w = sym (canonical-same (same-canonical a w))
