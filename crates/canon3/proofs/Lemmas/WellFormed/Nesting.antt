-- The order of entries pairs each reply with an earlier call of its connection.
use Rattle.canon3.proofs.Common.{◌≡◌, ℕ, zero, suc, List, [], ◌∷◌, ◌++◌, take, refl, ap, subst, ⊤, Entry, Begin, Call, Reply, xid_of, call_xids}
use Rattle.canon3.proofs.Lemmas.Order.Order.{BeginsWithXid, IsAnswering, Stage, Between, InCalls, InReplies, begin, call, turn, reply, close, end, Runs, stays, steps}

-- xs: the xids of the open connection's calls so far
abbrev pub Paired : (xs : List ℕ) → List Entry → Type 0
Paired xs [] = ⊤
Paired xs (Begin ∷ es) = Paired [] es
Paired xs (Call items ∷ es) = BeginsWithXid items × Paired (xs ++ xid_of items) es
Paired xs (Reply id items ∷ es) = IsAnswering xs items × Paired xs es
Paired xs (_ ∷ es) = Paired xs es

-- the open connection's xids are these
abbrev pub HasXids : Stage → List ℕ → Type 0
HasXids (InCalls ys) xs = ys ≡ xs
HasXids (InReplies ys) xs = ys ≡ xs
HasXids _ xs = ⊤

pub paired : {s t : Stage} {es : List Entry} → Runs s es t → (xs : List ℕ) → HasXids s xs
    → Paired xs es
paired stays xs e = tt
paired (steps begin r) xs e = paired r [] refl
paired (steps (call items b) r) xs e =
    (b, paired r (xs ++ xid_of items) (ap (λ l. l ++ xid_of items) e))
paired (steps turn r) xs e = paired r xs e
paired (steps (reply items a) r) xs e = (subst (λ l. IsAnswering l items) e a, paired r xs e)
paired (steps close r) xs e = paired r xs tt
paired (steps end r) xs e = paired r xs tt

-- no call comes before the next Begin
pub no_call : {t : Stage} {es : List Entry} → Runs Between es t → [] ≡ call_xids es
no_call stays = refl
no_call (steps begin r) = refl
no_call (steps end stays) = refl
no_call (steps end (steps x r)) = elim x [ ]

pub runs-take : {s t : Stage} {es : List Entry} → Runs s es t → (i : ℕ)
    → (u : Stage) × Runs s (take i es) u
runs-take {s = s} r zero = (s, stays)
runs-take {s = s} stays (suc i) = (s, stays)
runs-take (steps p r) (suc i) = let q = runs-take r i in (q.0, steps p q.1)
