-- What is wrong with a stream in order.
use Rattle.std.specs.Prelude.{◌≡◌, ◌≢◌, ℕ, List, None}
use Rattle.std.specs.List.{Contains}
use Rattle.payload3.specs.Readings.{bytes_at}
use Rattle.streams3.specs.declared.runs.Pair.{Pair}
use Rattle.streams3.specs.declared.runs.Run.{Run}
use Rattle.streams3.specs.Order.{AreFirstMissing, IsFirstBeyond, Ordered}
use Rattle.conversion3.specs.Flaws.{EndsAtFin, HasBegun, IsFilled, ShowsSent}
use Rattle.conversion3.specs.declared.flaws.StreamFlaw.{StreamFlaw}
use Rattle.conversion3.specs.declared.flaws.StreamFlaw.TheVariants.{NoSyn, Missing, Beyond, Stray, Changed}

-- as HasFlaw, beside the content of bytes
abbrev pub HasOrderFlaw : Ordered → StreamFlaw → Type 0
HasOrderFlaw s NoSyn = s.marks.begin ≡ None
HasOrderFlaw s (Missing bytes frame) =
    HasBegun s × AreFirstMissing s bytes × ShowsSent s bytes.end frame
HasOrderFlaw s (Beyond mark) = IsFilled s × IsFirstBeyond s mark
HasOrderFlaw s (Stray frame) = EndsAtFin s × (s.marks.strays ≢ 0) × (frame ≡ s.marks.stray)
HasOrderFlaw s (Changed run) = ⊥

-- what a file has where the first bytes lie is what it has where the others lie
abbrev pub HasSameBytes : (file : List ℕ) → Pair → Type 0
HasSameBytes file pair = bytes_at file pair.first.at pair.again.size
    ≡ bytes_at file pair.again.at pair.again.size

-- the other bytes of a pair whose content is not the same
abbrev pub IsAgainOf : (file : List ℕ) → List Pair → Run → Type 0
IsAgainOf file pairs run = (pair : Pair) × Contains pairs pair × (HasSameBytes file pair → ⊥)
    × (run ≡ pair.again)
