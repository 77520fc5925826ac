-- Octets of a frame, counted from 0.
use Rattle.std.specs.Prelude.{ℕ, List, drop, slice_index}
use Rattle.byteorder.specs.Endian.{big_number}

-- the octet at a place, 0 behind the last: each relation says first which octets are there
abbrev pub octet : List ℕ → ℕ → ℕ
octet frame at = slice_index frame at

-- the number in the n octets from a place on, the highest first (RFC 791, appendix B)
unfoldable pub octets : List ℕ → ℕ → ℕ → ℕ
octets frame at n = big_number n (drop at frame)
