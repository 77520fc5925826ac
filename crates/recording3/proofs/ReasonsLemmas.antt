-- The first of several reasons.
use Rattle.std.proofs.Common.{◌≡◌, ◌∙◌, sym, inl, inr}
use Rattle.recording3.specs.Reasons.{Either, When, Never}

-- a relation holds of one reason at most
abbrev pub IsOne : {R : Type 0} → (R → Type 0) → Type 0
IsOne {R} Why = (why other : R) → Why why → Why other → why ≡ other

-- it holds of none
abbrev pub IsNone : {R : Type 0} → (R → Type 0) → Type 0
IsNone {R} Why = (why : R) → Why why → ⊥

pub one : {R : Type 0} (Holds : Type 0) (reason : R) (Others : R → Type 0) → IsOne Others
    → IsOne (When Holds reason Others)
one Holds reason Others f why other (inl a) (inl b) = a.1 ∙ sym b.1
one Holds reason Others f why other (inl a) (inr b) = absurd (b.0 a.0)
one Holds reason Others f why other (inr a) (inl b) = absurd (a.0 b.0)
one Holds reason Others f why other (inr a) (inr b) = f why other a.1 b.1

pub one_never : {R : Type 0} → IsOne (Never {R = R})
one_never why other a b = absurd a

pub none : {R : Type 0} (Holds : Type 0) (reason : R) (Others : R → Type 0) → (Holds → ⊥)
    → IsNone Others
    → IsNone (When Holds reason Others)
none Holds reason Others n f why (inl a) = n a.0
none Holds reason Others n f why (inr a) = f why a.1

pub none_never : {R : Type 0} → IsNone (Never {R = R})
none_never why a = a

-- a relation that goes by whether another holds
pub one_either : {V : Type 0} (Holds : Type 0) (One Other : V → Type 0) → IsOne One → IsOne Other
    → IsOne (Either Holds One Other)
one_either Holds One Other f g v w (inl a) (inl b) = f v w a.1 b.1
one_either Holds One Other f g v w (inl a) (inr b) = absurd (b.0 a.0)
one_either Holds One Other f g v w (inr a) (inl b) = absurd (a.0 b.0)
one_either Holds One Other f g v w (inr a) (inr b) = g v w a.1 b.1

-- of two relations one at most holds
abbrev pub AreApart : {V R : Type 0} → (V → Type 0) → (R → Type 0) → Type 0
AreApart {V} {R} One Why = (v : V) (why : R) → One v → Why why → ⊥

pub apart_either : {V R : Type 0} (Holds : Type 0) (One Other : V → Type 0) (Why Else : R → Type 0)
    → AreApart One Why → AreApart Other Else
    → AreApart (Either Holds One Other) (Either Holds Why Else)
apart_either Holds One Other Why Else f g v why (inl a) (inl b) = f v why a.1 b.1
apart_either Holds One Other Why Else f g v why (inl a) (inr b) = b.0 a.0
apart_either Holds One Other Why Else f g v why (inr a) (inl b) = a.0 b.0
apart_either Holds One Other Why Else f g v why (inr a) (inr b) = g v why a.1 b.1
