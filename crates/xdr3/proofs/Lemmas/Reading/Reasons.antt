-- For which reasons bytes are refused that a shape or a row does not read.
use Rattle.xdr3.proofs.Common.{◌≡◌, ◌<◌, inl, inr, ℕ, Bool, List, length, subst, sym, Reason, Item, in_window, ⊤, Layout, exactly, remaining, after, RefusesLayout, Shape, choose, hyper, fixed, write_verf, opaque, nothing, both, linked, sized, Refusal, IsShort, Then, RefusesWord, RefusesLink, RefusesWindow, Refuses}
use Rattle.xdr3.specs.declared.reason.Reason.TheVariants.{BadMagic, CaptureCut, BadMark, AfterEnd, TooManyConnections, TooManyBytes, RecordCut, RecordTooLong, Short, Trailing, BadBool, BadEnum, TooLong, RpcVersion, Flavor, AuthLength, WrongSide, NoCall, XidConflict}
use Rattle.xdr3.proofs.Lemmas.Shapes.ShapeParts.{HasParts, Part, RowHasParts, word_part}

-- an item may be refused for this reason, wherever it stands in a message
abbrev pub IsOfItem : Reason → Type 0
IsOfItem Short = ⊤
IsOfItem BadBool = ⊤
IsOfItem BadEnum = ⊤
IsOfItem TooLong = ⊤
IsOfItem Flavor = ⊤
IsOfItem AuthLength = ⊤
IsOfItem _ = ⊥

abbrev pub HasItemReason : Part → Type 0
HasItemReason (word_part name reason) = IsOfItem reason
HasItemReason _ = ⊤

-- ---- bytes are refused for such a reason

abbrev IsForItems : Refusal → Type 0
IsForItems Refused =
    (bytes : List ℕ) (at : ℕ) (reason : Reason) → Refused bytes at reason → IsOfItem reason

short_for : (len : ℕ) → IsForItems (IsShort len)
short_for len bytes at reason p = subst IsOfItem (sym p.2) tt

word_for : (accepted : ℕ → Bool) (other : Reason) → IsOfItem other
    → IsForItems (RefusesWord accepted other)
word_for accepted other h bytes at reason (inl p) = short_for 4 bytes at reason p
word_for accepted other h bytes at reason (inr p) = subst IsOfItem (sym p.6) h

then_for : (Front : List Item → Type 0) (Refused : Refusal) → IsForItems Refused
    → IsForItems (Then Front Refused)
then_for Front Refused f bytes at reason p = f p.2 p.3 reason p.7

link_for : (name : List ℕ) (Refused : Refusal) → IsForItems Refused
    → IsForItems (RefusesLink name Refused)
link_for name Refused f bytes at reason (inl p) = word_for _ BadBool tt bytes at reason p
link_for name Refused f bytes at reason (inr p) = then_for _ _ f bytes at reason p

window_reason : (reason : Reason) → IsOfItem reason → IsOfItem (in_window reason)
window_reason Short h = tt
window_reason BadBool h = tt
window_reason BadEnum h = tt
window_reason TooLong h = tt
window_reason Flavor h = tt
window_reason AuthLength h = tt
window_reason BadMagic h = absurd h
window_reason CaptureCut h = absurd h
window_reason BadMark h = absurd h
window_reason AfterEnd h = absurd h
window_reason TooManyConnections h = absurd h
window_reason TooManyBytes h = absurd h
window_reason RecordCut h = absurd h
window_reason RecordTooLong h = absurd h
window_reason Trailing h = absurd h
window_reason RpcVersion h = absurd h
window_reason WrongSide h = absurd h
window_reason NoCall h = absurd h
window_reason XidConflict h = absurd h

left_over_for : IsForItems (λ extra at why. (0 < length extra) × (at ≡ 0) × (why ≡ AuthLength))
left_over_for bytes at reason p = subst IsOfItem (sym p.2) tt

window_for : (len : ℕ) (Fitting : List Item → Type 0) (Refused : Refusal) → IsForItems Refused
    → IsForItems (RefusesWindow len Fitting Refused)
window_for len Fitting Refused f bytes at reason (inl p) = short_for len bytes at reason p
window_for len Fitting Refused f bytes at reason (inr (window, left, split, size, inl p)) =
    subst IsOfItem (sym p.2) (window_reason p.0 (f window at p.0 p.1))
window_for len Fitting Refused f bytes at reason (inr (window, left, split, size, inr p)) =
    then_for Fitting _ left_over_for window at reason p

pub refused_for : (shape : Shape) → HasParts HasItemReason shape → IsForItems (Refuses shape)
refused_for (choose name accepted other next) h bytes at reason (inl p) =
    word_for accepted other h.0 bytes at reason p
refused_for (choose name accepted other next) h bytes at reason (inr (n, is, p)) =
    then_for _ _ (refused_for (next n) (h.1 n)) bytes at reason p
refused_for (hyper name) h bytes at reason p = short_for 8 bytes at reason p
refused_for (fixed name) h bytes at reason p = short_for 8 bytes at reason p
refused_for (write_verf name) h bytes at reason p = short_for 8 bytes at reason p
refused_for (opaque kind name max) h bytes at reason (inl p) =
    word_for _ TooLong tt bytes at reason p
refused_for (opaque kind name max) h bytes at reason (inr (n, is, p)) =
    then_for _ _ (short_for _) bytes at reason p
refused_for nothing h bytes at reason p = absurd p
refused_for (both a b) h bytes at reason (inl p) = refused_for a h.0 bytes at reason p
refused_for (both a b) h bytes at reason (inr p) =
    then_for _ _ (refused_for b h.1) bytes at reason p
refused_for (linked name s) h bytes at reason p =
    then_for _ _ (link_for name (Refuses s) (refused_for s h.1)) bytes at reason p
refused_for (sized name s) h bytes at reason (inl p) = word_for _ TooLong tt bytes at reason p
refused_for (sized name s) h bytes at reason (inr (n, is, p)) =
    then_for _ _ (window_for n _ _ (refused_for s h.1)) bytes at reason p

pub row_refused_for : (layout : Layout) → RowHasParts HasItemReason layout
    → IsForItems (RefusesLayout layout)
row_refused_for (exactly shape) h bytes at reason p = refused_for shape h bytes at reason p
row_refused_for (remaining name) h bytes at reason p = absurd p
row_refused_for (after shape next) h bytes at reason p = absurd h
