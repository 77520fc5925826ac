-- What a `SecretHasher` computes.
use Rattle.std.specs.Prelude.{ℕ, zero, suc, ◌==◌, ◌+◌, ◌-◌, ◌*◌, ◌/◌, ◌%◌, ◌^◌, List, length, if◌then◌else◌, nat_le, nat_lt, slice_index, bit_and, bit_or, bit_xor}
use Rattle.program3.specs.declared.hashing.SecretHasher.{SecretHasher}

-- the two halves of the 128 bits of a * b, joined by xor
unfoldable pub folded_multiply : ℕ → ℕ → ℕ
folded_multiply a b = bit_xor (bit_and (a * b) (2 ^ 64 - 1)) (a * b / 2 ^ 64)

-- the four bytes from i on, the lowest first
unfoldable pub read_u32 : List ℕ → ℕ → ℕ
read_u32 bs i =
    slice_index bs i + slice_index bs (i + 1) * 256 + slice_index bs (i + 2) * 65536 + slice_index
    bs (i + 3) * 16777216

-- `x << by` at `u64`
abbrev pub shl : ℕ → ℕ → ℕ
shl x by = (x * 2 ^ by) % 2 ^ 64

unfoldable pub read_u64 : List ℕ → ℕ → ℕ
read_u64 bs i = bit_or (read_u32 bs i) (shl (read_u32 bs (i + 4)) 32)

-- up to eight bytes as one number
unfoldable pub read_short : List ℕ → ℕ
read_short bs =
    let n = length bs in
    if nat_lt 4 n then bit_or (read_u32 bs 0) (shl (read_u32 bs (n - 4)) 32)
    else (if n == 4 then read_u32 bs 0
    else (if nat_lt 0 n then bit_or (bit_or (slice_index bs 0) (shl (slice_index bs (n / 2)) 8))
    (shl (slice_index bs (n - 1)) 16) else 0))

-- the state after the words at i and at j
abbrev pub mix : List ℕ → ℕ → ℕ → ℕ → ℕ → ℕ
mix bs secret state i j =
    folded_multiply (bit_xor (read_u64 bs i) state) (bit_xor (read_u64 bs j) secret)

-- the state after the first n blocks of 16 bytes
unfoldable pub mix_blocks : List ℕ → ℕ → ℕ → ℕ → ℕ
mix_blocks bs secret state zero = state
mix_blocks bs secret state (suc n) =
    mix bs secret (mix_blocks bs secret state n) (16 * n) (16 * n + 8)

-- the hasher after `write(bs)`
unfoldable pub write : SecretHasher → List ℕ → SecretHasher
write h bs =
    let n = length bs in
    let short = folded_multiply (bit_xor h.state (read_short bs)) (bit_xor h.secret (2 * n)) in
    let long = mix bs h.secret (mix_blocks bs h.secret ((h.state + n) % 2 ^ 64) ((n - 1) / 16))
    (n - 16) (n - 8) in
    record { state = if nat_le n 8 then short else long; secret = h.secret }

-- the hash of what was written: the state, multiplied once more by a known word
unfoldable pub finish : SecretHasher → ℕ
finish h = folded_multiply h.state 0x9E3779B97F4A7C15
