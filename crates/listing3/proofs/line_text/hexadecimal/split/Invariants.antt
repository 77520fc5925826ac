use Rattle.listing3.proofs.Common.{◌≡◌, ◌*◌, ◌++◌, take, drop, encode_with, halves_in_order}
use Rattle.listing3.proofs.line_text.hexadecimal.split.Given as goal

abbrev pub invariant-bytes : goal.invariant-bytes
invariant-bytes l =
    take (2 * l.i) l.halves ++ encode_with halves_in_order (drop l.i l.bytes)
    ≡ encode_with halves_in_order l.bytes
