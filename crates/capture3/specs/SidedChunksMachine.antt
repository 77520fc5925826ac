-- The machine that gathers the chunks of both sides of a connection, up to the side word 0.
use Rattle.std.specs.Prelude.{ℕ, zero, suc, ◌+◌, List, [], ◌∷◌, nat_lt, cond}
use Rattle.record_mark.specs.Machine.{Next, Goes, Ends, within}
use Rattle.record_mark.specs.Word.{word_next}
use Rattle.xdr3.specs.declared.reason.Reason.TheVariants.{BadMark, TooManyBytes}
use Rattle.capture3.specs.declared.fault.Fault.{Fault}
use Rattle.capture3.specs.declared.fault.Side.{Side}
use Rattle.capture3.specs.declared.fault.Side.TheVariants.{Client, Server}
use Rattle.capture3.specs.Chunks.{max_bytes}
use Rattle.capture3.specs.SidedChunks.{Streams, gathered, with_more}
use Rattle.capture3.specs.Sides.{file_fault}

-- in a side word, in a length word, or in a chunk's bytes, with how many are left after the next
pub data MixedPoint : Type 0 where
  SideWord : (part : List ℕ) → MixedPoint
  SideLength : (side : Side) → (part : List ℕ) → MixedPoint
  SideChunk : (side : Side) → (left : ℕ) → MixedPoint

-- where the open word begins or the next chunk would begin, the capture's stream bytes with the
-- open chunk, the streams so far, and the point in the chunks
pub record Mixing : Type 0 where
  pub at : ℕ
  pub total : ℕ
  pub streams : Streams
  pub point : MixedPoint

-- the machine at this point
abbrev pub mixing_in : (at total : ℕ) → Streams → MixedPoint → Mixing
mixing_in at total streams point =
    record { at = at; total = total; streams = streams; point = point }

-- the side word 0 has come: where the next part of the file begins, the capture's stream bytes, and
-- the streams; or a fault is shown
pub data MixedEnd : Type 0 where
  MixedCloses : (at total : ℕ) → Streams → MixedEnd
  MixedRefuses : Fault → MixedEnd

-- so many bytes of the chunk are to come
abbrev pub awaiting_side : Side → ℕ → MixedPoint
awaiting_side side zero = SideWord []
awaiting_side side (suc left) = SideChunk side left

-- a side word has come
abbrev pub sided : ℕ → ℕ → Streams → ℕ → Next Mixing MixedEnd
sided at total streams zero = Ends (MixedCloses (at + 4) total streams)
sided at total streams (suc zero) = Goes (mixing_in (at + 4) total streams (SideLength Client []))
sided at total streams (suc (suc zero)) =
    Goes (mixing_in (at + 4) total streams (SideLength Server []))
sided at total streams (suc (suc (suc other))) = Ends (MixedRefuses (file_fault at BadMark))

-- a length word has come
abbrev pub measured : ℕ → ℕ → Streams → Side → ℕ → Next Mixing MixedEnd
measured at total streams side zero = Ends (MixedRefuses (file_fault at BadMark))
measured at total streams side (suc left) =
    cond (nat_lt max_bytes (total + suc left)) (Ends (MixedRefuses (file_fault at TooManyBytes)))
    (Goes (mixing_in (at + 4 + suc left) (total + suc left) streams (SideChunk side left)))

-- one byte more
abbrev pub mixed_step : ℕ → ℕ → Streams → MixedPoint → ℕ → Next Mixing MixedEnd
mixed_step at total streams (SideWord part) byte =
    within (λ p. mixing_in at total streams (SideWord p)) (sided at total streams)
    (word_next part byte)
mixed_step at total streams (SideLength side part) byte =
    within (λ p. mixing_in at total streams (SideLength side p)) (measured at total streams side)
    (word_next part byte)
mixed_step at total streams (SideChunk side left) byte =
    Goes (mixing_in at total (with_more streams side (byte ∷ [])) (awaiting_side side left))

-- the same by where the machine stands
abbrev pub mixed_next : Mixing → ℕ → Next Mixing MixedEnd
mixed_next s byte = mixed_step s.at s.total s.streams s.point byte

-- at a connection's first side word
abbrev pub mixing_from : ℕ → ℕ → Mixing
mixing_from start before = mixing_in start before (gathered []) (SideWord [])
