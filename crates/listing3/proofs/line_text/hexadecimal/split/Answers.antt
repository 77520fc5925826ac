use Rattle.listing3.proofs.Common.{◌/◌, ◌%◌, ℕ, arith, slice_index, sym, ◌∙◌, rules, AreBytes, halves_in_order}
use Rattle.std.proofs.lemmas.Nat.{and_mask}
use Rattle.hex.proofs.Pairs.{encode_step, encode_done}
use Rattle.listing3.proofs.HalvesLemmas.{half_at}
use Rattle.listing3.proofs.line_text.hexadecimal.split.Goals as goal

pub bytes-preserved : goal.bytes-preserved
bytes-preserved c =
    let bytes : AreBytes c.args.bytes.now = search rules in
    let byte : ℕ = slice_index c.args.bytes.now c.bytes.i in
    encode_step halves_in_order c.args.bytes.now c.bytes.halves c.bytes.i _ _ (omega arith)
    (omega arith) (sym (half_at (byte / 16) (omega (arith, bytes c.bytes.i))))
    (and_mask byte 4 ∙ sym (half_at (byte % 16) (omega arith))) c.bytes.invariant

pub returns : goal.returns
returns c = encode_done _ _ _ c.bytes.i (omega arith) (omega arith) c.bytes.invariant
