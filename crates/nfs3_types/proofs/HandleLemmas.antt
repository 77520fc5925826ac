-- The bytes of a handle, copied in two parts that overlap, and the zeros behind them.
use Rattle.std.proofs.Common.{◌≡◌, ◌≤◌, ◌-◌, ◌*◌, ◌++◌, ◌∙◌, ℕ, Bool, Decides, List, ap, ap₂, arith, bytes_eq, false, nat_eq, refl, replicate, sym, true, drop, length, length-append, length-drop, length-take, take, take_all, take-append-drop}
use Rattle.std.proofs.Math.Seq.{take-take}
use Rattle.std.proofs.lemmas.List.{take-append-le}
use Rattle.std.specs.Cmp.Lexicographic.{pointwise}
use Rattle.std.proofs.lemmas.Bool.Decides.{Decides-eqb}
use Rattle.std.proofs.lemmas.Slice.Eq.{bytes_eq-Decides, slice_eq-Decides}
use Rattle.nfs3_types.specs.Handle.{handle_bytes}
use Rattle.nfs3_types.specs.declared.values.handle.Handle.{Handle}

pub reaches : (bytes front rest : List ℕ) (size : ℕ) → length bytes ≤ 2 * size
    → length front ≡ size → length bytes - size ≤ length (front ++ rest)
reaches bytes front rest size covered is = omega (arith, length-append front rest)

pub overlapping : (bytes front back rest : List ℕ) (size : ℕ) → size ≤ length bytes
    → length bytes ≤ 2 * size → front ≡ take size bytes
    → back ≡ take (length bytes - (length bytes - size)) (drop (length bytes - size) bytes)
    → take (length bytes - size) (front ++ rest) ++ back ≡ bytes
overlapping bytes front back rest size long covered front_is back_is =
    let at = length bytes - size in
    ap (λ (b : List ℕ). b ++ back) (take-append-le at front rest
    (omega (arith, ap length front_is, length-take size bytes)) ∙ ap (take at) front_is
    ∙ take-take at size bytes (omega arith))
    ∙ ap (λ (b : List ℕ). take at bytes ++ b) (back_is
    ∙ take_all (length bytes - at) (drop at bytes) (omega (arith, length-drop at bytes)))
    ∙ take-append-drop at bytes

-- two tests that decide the same
same-decision : (r s : Bool) {P : Type 0} → Decides r P → Decides s P → r ≡ s
same-decision true true one other = refl
same-decision true false one other = sym (other.1 (one.0 refl))
same-decision false true one other = one.1 (other.0 refl)
same-decision false false one other = refl

-- all 64 bytes of a handle
all_bytes : (handle : Handle) → handle.bytes ≡ handle_bytes handle ++ replicate (64 - handle.len) 0
all_bytes handle =
    sym (take-append-drop handle.len handle.bytes)
    ∙ ap (λ (b : List ℕ). handle_bytes handle ++ b) handle.padded

-- of two handles of one length, all 64 bytes are equal just if their own are
pub padded-equal : (a b : Handle) → a.len ≡ b.len
    → pointwise nat_eq a.bytes b.bytes ≡ bytes_eq (handle_bytes a) (handle_bytes b)
padded-equal a b l =
    let all = slice_eq-Decides Decides-eqb a.bytes b.bytes _ refl in
    let own = bytes_eq-Decides (handle_bytes a) (handle_bytes b) in
    same-decision (pointwise nat_eq a.bytes b.bytes) (bytes_eq (handle_bytes a) (handle_bytes b)) (
      λ t. ap₂ (λ (n : ℕ) (bytes : List ℕ). take n bytes) l (all.0 t),
      λ e. all.1
          (all_bytes a
          ∙ (ap₂ (λ (own : List ℕ) (n : ℕ). own ++ replicate (64 - n) 0) e l ∙ sym (all_bytes b))),
    )
    own
