-- Where a datagram begins behind a header of the link layer: one place, or one reason.
use Rattle.std.proofs.Common.{◌≡◌, ◌≤◌, ℕ, zero, suc, ◌+◌, ◌∙◌, inl, inr, sym, Bool, true, false, cond, List, Option, Some, None, arith}
use Rattle.recording3.specs.Link.{CutAfter, HasStart, IsLinkStart, IsTyped, IsUntyped, Labels, LacksStart, LeadsToIp, NoLinkStart, NoTyped, NoUntyped, LeadsNowhere, ether_type_of, innermost, is_tag, link_of, past_tag}
use Rattle.recording3.specs.declared.link.EtherType.{EtherType}
use Rattle.recording3.specs.declared.link.EtherType.TheVariants.{Ip, Labelled, Session, Unknown}
use Rattle.recording3.specs.Octets.{octets}
use Rattle.recording3.specs.declared.link.Link.{Link}
use Rattle.recording3.specs.declared.link.Placed.{Placed}
use Rattle.recording3.specs.declared.link.Link.TheVariants.{Loopback, Ethernet, Raw, Cooked, Cooked2}
use Rattle.recording3.specs.declared.parts.Start.{Start}
use Rattle.recording3.proofs.ReasonsLemmas.{IsOne, IsNone, one, one_never, none, none_never}

pub same_some : {A : Type 0} (o : Option A) (a b : A) → o ≡ Some a → o ≡ Some b → a ≡ b
same_some o a b h g = cc

pub some_none : {A : Type 0} (o : Option A) (a : A) → o ≡ Some a → o ≡ None → ⊥
some_none o a h g = cc

pub same_parts : (s t : Start) → s.version ≡ t.version → s.at ≡ t.at → s ≡ t
same_parts s t h g =
    let e : ◌≡◌ {A = Start} (record { version = s.version; at = s.at })
    (record { version = t.version; at = t.at }) = cc in
    e

same_labels : (frame : List ℕ) (m n at a b : ℕ) → Labels frame m at a → Labels frame n at b → a ≡ b
same_labels frame zero zero at a b h g = h.2 ∙ sym g.2
same_labels frame zero (suc n) at a b h g = absurd (let x = h.1 in let y = g.1 in omega arith)
same_labels frame (suc m) zero at a b h g = absurd (let x = h.1 in let y = g.1 in omega arith)
same_labels frame (suc m) (suc n) at a b h g = same_labels frame m n (at + 4) a b h.2 g.2

labels_whole : (frame : List ℕ) (m n at a : ℕ) → Labels frame m at a → CutAfter frame n at → ⊥
labels_whole frame zero zero at a h g = let x = h.0 in omega arith
labels_whole frame zero (suc n) at a h g = let x = h.1 in let y = g.1 in omega arith
labels_whole frame (suc m) zero at a h g = let x = h.0 in omega arith
labels_whole frame (suc m) (suc n) at a h g = labels_whole frame m n (at + 4) a h.2 g.2

pub same_leads : (c : EtherType) (frame : List ℕ) (at : ℕ) (s t : Start) → LeadsToIp c frame at s
    → LeadsToIp c frame at t → s ≡ t
same_leads (Ip v) frame at s t h g = h ∙ sym g
same_leads Labelled frame at s t (v, h) (w, g) =
    same_parts s t (v ∙ sym w) (same_labels frame h.0 g.0 at s.at t.at h.1 g.1)
same_leads Session frame at s t h g =
    same_parts s t (same_some _ s.version t.version h.version g.version) (h.begin ∙ sym g.begin)
same_leads Unknown frame at s t h g = absurd h

pub some_leads : (c : EtherType) (frame : List ℕ) (at : ℕ) (s : Start) → LeadsToIp c frame at s
    → IsNone (LeadsNowhere c frame at)
some_leads (Ip v) frame at s h why f = f
some_leads Labelled frame at s (v, h) why f =
    none _ _ _ (λ g. labels_whole frame h.0 g.0 at s.at h.1 g.1) none_never why f
some_leads Session frame at s h why f =
    none _ _ _ (λ g. let w = h.whole in omega arith)
    (none _ _ _ (some_none _ _ h.version) none_never) why f
some_leads Unknown frame at s h why f = h

pub one_leads : (c : EtherType) (frame : List ℕ) (at : ℕ) → IsOne (LeadsNowhere c frame at)
one_leads (Ip v) frame at why other h g = one_never why other h g
one_leads Labelled frame at why other h g = one _ _ _ one_never why other h g
one_leads Session frame at why other h g = one _ _ _ (one _ _ _ one_never) why other h g
one_leads Unknown frame at why other h g = h ∙ sym g

pub same_typed : (place size : ℕ) (frame : List ℕ) (s t : Start) → IsTyped place size frame s
    → IsTyped place size frame t → s ≡ t
same_typed place size frame s t h g =
    same_leads (ether_type_of (innermost place size frame).kind) frame
    (innermost place size frame).at s t h.leads g.leads

same_untyped : (size : ℕ) (frame : List ℕ) (s t : Start) → IsUntyped size frame s
    → IsUntyped size frame t → s ≡ t
same_untyped size frame s t h g = same_parts s t (h.version ∙ sym g.version) (h.begin ∙ sym g.begin)

pub some_typed : (place size : ℕ) (frame : List ℕ) (s : Start) → IsTyped place size frame s
    → IsNone (NoTyped place size frame)
some_typed place size frame s h =
    none _ _ _ (λ f. let w = h.whole in omega arith)
    (some_leads (ether_type_of (innermost place size frame).kind) frame
    (innermost place size frame).at s h.leads)

some_untyped : (size : ℕ) (frame : List ℕ) (s : Start) → IsUntyped size frame s
    → IsNone (NoUntyped size frame)
some_untyped size frame s h = none _ _ _ (λ f. let w = h.whole in omega arith) none_never

pub one_typed : (place size : ℕ) (frame : List ℕ) → IsOne (NoTyped place size frame)
one_typed place size frame =
    one
    _ _ _ (one_leads (ether_type_of (innermost place size frame).kind) frame
    (innermost place size frame).at)

one_untyped : (size : ℕ) (frame : List ℕ) → IsOne (NoUntyped size frame)
one_untyped size frame = one _ _ _ one_never

same_layer : (l : Link) (frame : List ℕ) (s t : Start) → HasStart l frame s → HasStart l frame t
    → s ≡ t
same_layer Loopback = same_untyped 4
same_layer Ethernet = same_typed 12 14
same_layer Raw = same_untyped 0
same_layer Cooked = same_typed 14 16
same_layer Cooked2 = same_typed 0 20

some_layer : (l : Link) (frame : List ℕ) (s : Start) → HasStart l frame s
    → IsNone (LacksStart l frame)
some_layer Loopback = some_untyped 4
some_layer Ethernet = some_typed 12 14
some_layer Raw = some_untyped 0
some_layer Cooked = some_typed 14 16
some_layer Cooked2 = some_typed 0 20

one_layer : (l : Link) (frame : List ℕ) → IsOne (LacksStart l frame)
one_layer Loopback = one_untyped 4
one_layer Ethernet = one_typed 12 14
one_layer Raw = one_untyped 0
one_layer Cooked = one_typed 14 16
one_layer Cooked2 = one_typed 0 20

pub same_start : (link : ℕ) (frame : List ℕ) (s t : Start) → IsLinkStart link frame s
    → IsLinkStart link frame t → s ≡ t
same_start link frame s t h g =
    same_layer h.0 frame s t h.2 (rw (same_some (link_of link) g.0 h.0 g.1 h.1) at g.2)

pub some_start : (link : ℕ) (frame : List ℕ) (s : Start) → IsLinkStart link frame s
    → IsNone (NoLinkStart link frame)
some_start link frame s h why (inl g) = some_none (link_of link) h.0 h.1 g.0
some_start link frame s h why (inr g) =
    some_layer h.0 frame s h.2 why (rw (same_some (link_of link) g.0 h.0 g.1 h.1) at g.2)

pub one_start : (link : ℕ) (frame : List ℕ) → IsOne (NoLinkStart link frame)
one_start link frame why other (inl h) (inl g) = h.1 ∙ sym g.1
one_start link frame why other (inl h) (inr g) = absurd (some_none (link_of link) g.0 g.1 h.0)
one_start link frame why other (inr h) (inl g) = absurd (some_none (link_of link) h.0 h.1 g.0)
one_start link frame why other (inr h) (inr g) =
    one_layer h.0 frame why other h.2 (rw (same_some (link_of link) g.0 h.0 g.1 h.1) at g.2)

-- Tags of VLANs

later : (b : Bool) (frame : List ℕ) (p q : Placed) → p.at ≤ q.at → p.at ≤ (cond b q p).at
later true frame p q h = h
later false frame p q h = omega arith

-- what stands behind a tag begins no earlier
pub past_tag-later : (frame : List ℕ) (p : Placed) → p.at ≤ (past_tag frame p).at
unfolding past_tag
past_tag-later frame p =
    later (is_tag p.kind) frame p (record { kind = octets frame (p.at + 2) 2; at = p.at + 4 })
    (omega arith)
