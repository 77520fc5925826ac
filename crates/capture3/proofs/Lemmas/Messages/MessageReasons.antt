-- For which reasons calls and replies are refused.
use Rattle.capture3.proofs.Common.{◌≡◌, ◌⊎◌, inl, inr, arith, ℕ, List, [], ◌∷◌, length, sym, subst, Reason, Item, Spells, ProcId, call_head, message_start, reply_head, arguments_of, results_of, RpcVersion, Layout, exactly, RefusesLayout, length_of_spelling, HasItemReason, IsOfItem, refused_for, row_refused_for}
use Rattle.std.specs.Prelude.{if◌then◌else◌}
use Rattle.xdr3.specs.Shape.{Shape, Fits, Refuses, ◌then◌, nothing}
use Rattle.xdr3.proofs.Lemmas.Shapes.ShapeParts.{parts_weaker, row_weaker}
use Rattle.rpc_head.specs.Messages.{call_layout, start_of_type, has_results, procedure_in, reply_layout}
use Rattle.procs3.proofs.HeadParts.{after_version, after_version_parts, message_start_parts, reply_head_parts, start_parts}
use Rattle.procs3.proofs.ProcedureParts.{IsProtocolRow, arguments_have_parts, reply_has_parts}
use Rattle.procs3.proofs.ProtocolParts.{AreProtocolParts, IsProtocolPart}
use Rattle.capture3.proofs.Lemmas.Messages.BodiesLemmas.{start_of, two_words}

shape_refused_for : (s : Shape) → AreProtocolParts s → (bytes : List ℕ) (at : ℕ) (reason : Reason)
    → Refuses s bytes at reason → IsOfItem reason
shape_refused_for s h bytes at reason p =
    refused_for s (parts_weaker IsProtocolPart HasItemReason (λ part is. is.reason) s h) bytes at
    reason p

layout_refused_for : (layout : Layout) → IsProtocolRow layout
    → (bytes : List ℕ) (at : ℕ) (reason : Reason) → RefusesLayout layout bytes at reason
    → IsOfItem reason
layout_refused_for layout h bytes at reason p =
    row_refused_for layout (row_weaker IsProtocolPart HasItemReason (λ part is. is.reason) layout h)
    bytes at reason p

pub start_refused_for : (bytes : List ℕ) (at : ℕ) (reason : Reason)
    → Refuses message_start bytes at reason → IsOfItem reason
start_refused_for bytes at reason p =
    shape_refused_for message_start message_start_parts bytes at reason p

-- ---- replies

pub reply_refused_for : (id : ProcId) (bytes : List ℕ) (at : ℕ) (reason : Reason)
    → RefusesLayout (reply_layout (results_of id)) bytes at reason → IsOfItem reason
unfolding reply_layout
reply_refused_for id bytes at reason (inl p) =
    shape_refused_for (start_of_type 1 then reply_head) (start_parts 1, reply_head_parts) bytes at
    reason p
reply_refused_for id bytes at reason (inr (front, fits, p)) =
    layout_refused_for (if has_results front then results_of id else exactly nothing)
    (reply_has_parts id front) p.2 p.3 reason p.7

-- ---- calls

-- a call begins with two words
start_size : (items : List Item) (front : List ℕ) → Fits (start_of_type 0) items
    → Spells items front → length front ≡ 8
unfolding start_of_type
start_size items front fits spells =
    let two = two_words (0 ∷ []) items fits in
    omega (
      arith,
      length_of_spelling (start_of two.0 two.1) front
          (subst (λ (xs : List Item). Spells xs front) two.3 spells),
    )

-- an item is refused, or the version after the two words
pub call_refused_for : (bytes : List ℕ) (at : ℕ) (reason : Reason)
    → RefusesLayout (call_layout arguments_of) bytes at reason
    → IsOfItem reason ⊎ ((reason ≡ RpcVersion) × (at ≡ 8))
unfolding call_layout call_head
call_refused_for bytes at reason (inl (inl p)) =
    inl (shape_refused_for (start_of_type 0) (start_parts 0) bytes at reason p)
call_refused_for bytes at reason (inl (inr p)) = version p.7
  where
    version : Refuses call_head p.2 p.3 reason
        → IsOfItem reason ⊎ ((reason ≡ RpcVersion) × (at ≡ 8))
    version (inl (inl q)) = inl (subst IsOfItem (sym q.2) tt)
    version (inl (inr q)) = inr (q.6, omega (arith, start_size p.0 p.1 p.4 p.5, q.5, p.8))
    version (inr (n, is, q)) =
        inl (shape_refused_for after_version after_version_parts q.2 q.3 reason q.7)
call_refused_for bytes at reason (inr (front, fits, p)) =
    inl (layout_refused_for (arguments_of (procedure_in front))
    (arguments_have_parts (procedure_in front)) p.2 p.3 reason p.7)
