-- Times of an interface of pcapng, and the options that say what they count (sections 3.5 and 4.2
-- of
-- the draft).
use Rattle.std.specs.Prelude.{◌≡◌, ◌≢◌, ◌⊎◌, ℕ, zero, suc, ◌+◌, ◌*◌, ◌-◌, ◌/◌, ◌%◌, ◌^◌, ◌<◌, ◌≤◌, ◌==◌, ◌&&◌, nat_lt, nat_le, min, max, if◌then◌else◌, List, length}
use Rattle.recording3.specs.Octets.{octet}
use Rattle.recording3.specs.Pcap.{file_half, file_long}
use Rattle.recording3.specs.declared.pcap.Order.{Order}
use Rattle.recording3.specs.declared.pcapng.Clock.{Clock}
use Rattle.recording3.specs.declared.pcapng.ClockOffset.{ClockOffset}
use Rattle.recording3.specs.declared.pcapng.ClockOffset.TheVariants.{Later, Earlier}

-- if_tsresol: how many units are a second. The lower seven bits are a power of 10, or of 2 if the
-- highest bit is set. A limit of this project: 2 ^ 127, which makes every time 0, as finer units
-- do.
unfoldable pub per_second : ℕ → ℕ
per_second resolution =
    min ((if nat_lt resolution 128 then 10 else 2) ^ (resolution % 128)) (2 ^ 127)

-- if_tsoffset: seconds, in two's complement of 64 bits
abbrev pub offset_of : ℕ → ClockOffset
offset_of seconds =
    if nat_lt seconds (2 ^ 63) then Later seconds else Earlier (2 ^ 64 - seconds)

-- Option Code and Option Length of an option
abbrev pub option_code : Order → List ℕ → ℕ → ℕ
option_code order body at = file_half order body at

abbrev pub option_size : Order → List ℕ → ℕ → ℕ
option_size order body at = file_half order body (at + 2)

-- What an option says of the clock: 9 is if_tsresol, of one octet, and 14 if_tsoffset, of eight.
-- Another one says nothing, nor one that is cut short.
unfoldable pub clock_with : Order → List ℕ → ℕ → Clock → Clock
clock_with order body at clock =
    if (option_code order body at == 9)
    && ((option_size order body at == 1) && nat_le (at + 5) (length body))
    then record { per_second = per_second (octet body (at + 4)); offset = clock.offset }
    else (if (option_code order body at == 14)
    && ((option_size order body at == 8) && nat_le (at + 12) (length body))
    then record {
      per_second = clock.per_second;
      offset = offset_of (file_long order body (at + 4));
    }
    else clock)

-- where the next option begins: a value is padded to a multiple of four octets
abbrev pub past_option : Order → List ℕ → ℕ → ℕ
past_option order body at = at + (4 + (option_size order body at + 3) / 4 * 4)

-- So many options stand one after another from a place on, which change the clock. They end with
-- opt_endofopt, whose code is 0, or with the body.
abbrev pub Options : Order → List ℕ → ℕ → ℕ → Clock → Clock → Type 0
Options order body zero at old new = (new ≡ old)
    × ((length body < at + 4) ⊎ ((at + 4 ≤ length body) × (option_code order body at ≡ 0)))
Options order body (suc n) at old new = (at + 4 ≤ length body) × (option_code order body at ≢ 0)
    × Options order body n (past_option order body at) (clock_with order body at old) new

-- microseconds since 1970
abbrev pub default_clock : Clock
default_clock = record { per_second = 1000000; offset = Later 0 }

-- the clock that the options of an Interface Description Block tell, without its last word
abbrev pub HasOptions : Order → List ℕ → Clock → Type 0
HasOptions order body clock = (n : ℕ) × Options order body n 16 default_clock clock

-- nanoseconds of so many units
abbrev pub elapsed : ℕ → ℕ → ℕ
elapsed per_second units = units * 1000000000 / max per_second 1

-- a time in nanoseconds that is moved; one before 1970 becomes 0
abbrev pub moved : ClockOffset → ℕ → ℕ
moved (Later seconds) time = time + seconds * 1000000000
moved (Earlier seconds) time = time - seconds * 1000000000

-- Nanoseconds since 1970. A time of 2 ^ 63 of them and more, which is in the year 2262, becomes 0.
abbrev pub time_of : Clock → ℕ → ℕ
time_of clock units =
    let time = moved clock.offset (elapsed clock.per_second units) in
    if nat_lt time (2 ^ 63) then time else 0
