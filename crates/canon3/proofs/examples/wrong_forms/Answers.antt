use Rattle.std.proofs.Common.{ℕ, List, refl, arith, [], ◌∷◌, ◌++◌}
use Rattle.std.specs.Prelude.{codes}
use Rattle.xdr3.specs.Item.{Word, Hyper, Opaque, WriteVerf, Handle}
use Rattle.capture3.specs.Entry.{Entry}
use Rattle.canon3.specs.Examples.{call_of, connection, getattr, joins, one, parts, success_reply}
use Rattle.canon3.proofs.Checks.{same_by, not_same_by}
use Rattle.canon3.proofs.examples.wrong_forms.Goals as goal

abbrev aa : List ℕ
aa = 0xaa ∷ []

abbrev bb : List ℕ
bb = 0xbb ∷ []

abbrev long : List ℕ
long = 1 ∷ 2 ∷ 3 ∷ 4 ∷ 5 ∷ 6 ∷ 7 ∷ 8 ∷ []

abbrev zero_verifier : List ℕ
zero_verifier = 0 ∷ 0 ∷ 0 ∷ 0 ∷ 0 ∷ 0 ∷ 0 ∷ 0 ∷ []

-- two connections with a call each
abbrev two : Entry → Entry → List Entry
two a b = connection (a ∷ []) [] ++ one (b ∷ []) []

-- COMMIT and what it gives (RFC 1813, section 3.3.21)
abbrev commit : ℕ → Entry
commit xid = call_of 100003 21 xid (Opaque Handle (codes "fh") [] ∷ Hyper (codes "offset") 0
    ∷ Word (codes "count") 0 ∷ [])

abbrev committed : ℕ → List ℕ → Entry
committed xid verifier =
    success_reply 100003 21 xid (Word (codes "status") 0 ∷ Word (codes "before") 0
    ∷ Word (codes "attr") 0 ∷ WriteVerf (codes "verf") verifier ∷ [])

-- a COMMIT call in each of two connections
abbrev two_commits : List ℕ → List ℕ → List Entry
two_commits v w =
    connection (commit 1 ∷ []) (committed 1 v ∷ []) ++ one (commit 1 ∷ []) (committed 1 w ∷ [])

pub returns-clause-handles_anew : goal.returns-clause-handles_anew
returns-clause-handles_anew c =
    joins (two (getattr 5 aa) (getattr 5 aa)) (two (getattr 5 aa) (getattr 5 bb)) refl
    (not_same_by _ _ (λ e. grind arith))

pub returns-clause-verifiers_anew : goal.returns-clause-verifiers_anew
returns-clause-verifiers_anew c =
    joins (two_commits long long) (two_commits long zero_verifier) refl
    (not_same_by _ _ (λ e. grind arith))

pub returns-clause-xids_across : goal.returns-clause-xids_across
returns-clause-xids_across c =
    parts (two (getattr 5 aa) (getattr 5 aa)) (two (getattr 5 aa) (getattr 6 aa))
    (same_by _ _ refl refl refl) (λ e. grind arith)

pub returns-clause-empty_numbered : goal.returns-clause-empty_numbered
returns-clause-empty_numbered c =
    joins (one (getattr 5 [] ∷ []) []) (one (getattr 5 aa ∷ []) []) refl
    (not_same_by _ _ (λ e. grind arith))

pub returns-clause-by_bytes : goal.returns-clause-by_bytes
returns-clause-by_bytes c =
    parts (one (getattr 5 aa ∷ getattr 6 bb ∷ []) []) (one (getattr 5 bb ∷ getattr 6 aa ∷ []) [])
    (same_by _ _ refl refl refl) (λ e. grind arith)
