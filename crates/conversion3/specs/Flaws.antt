-- Why a stream is not whole.
use Rattle.std.specs.Prelude.{◌≡◌, ◌≢◌, ◌⊎◌, ℕ, List, Option, None, Some}
use Rattle.std.specs.Option.{option_or}
use Rattle.connections3.specs.declared.connection.Flow.{Flow}
use Rattle.streams3.specs.declared.segments.Mark.{Mark}
use Rattle.streams3.specs.declared.segments.Marks.{Marks}
use Rattle.streams3.specs.Order.{AreFirstMissing, IsBeyond, IsFirstBeyond, IsMissing, IsWholeStream, Ordered}
use Rattle.streams3.specs.Repeats.{IsPartOf}
use Rattle.streams3.specs.Runs.{spot_of}
use Rattle.streams3.specs.Streams.{Shown}
use Rattle.conversion3.specs.Whole.{IsAsFirst, recorded_of}
use Rattle.conversion3.specs.declared.flaws.StreamFlaw.{StreamFlaw}
use Rattle.conversion3.specs.declared.flaws.StreamFlaw.TheVariants.{NoSyn, Missing, Beyond, Stray, Changed}

-- FIN, or without it the highest acknowledgment
abbrev pub last_mark : Marks → Option Mark
last_mark marks = option_or marks.end marks.acknowledged

-- The frame has the byte behind missing bytes; or none has it, and the mark is right behind them.
abbrev pub ShowsSent : Ordered → (end frame : ℕ) → Type 0
ShowsSent stream end frame =
    ((at : ℕ) × (spot_of stream.runs end ≡ Some (at, frame)))
    ⊎ ((spot_of stream.runs end ≡ None)
    × (last_mark stream.marks ≡ Some (record { position = end; frame = frame })))

-- it has a SYN
abbrev pub HasBegun : Ordered → Type 0
HasBegun stream = stream.marks.begin ≢ None

-- and nothing is missing of it
abbrev pub IsFilled : Ordered → Type 0
IsFilled stream = HasBegun stream × ((p : ℕ) → IsMissing stream p → ⊥)

-- and nothing is behind FIN
abbrev pub EndsAtFin : Ordered → Type 0
EndsAtFin stream = IsFilled stream × ((p : ℕ) → IsBeyond stream p → ⊥)

-- What is wrong first with a stream, in this order. The stray's frame is that of its marks.
abbrev pub HasFlaw : (file : List ℕ) → Shown → StreamFlaw → Type 0
HasFlaw file s NoSyn = s.marks.begin ≡ None
HasFlaw file s (Missing bytes frame) = HasBegun (recorded_of s)
    × AreFirstMissing (recorded_of s) bytes × ShowsSent (recorded_of s) bytes.end frame
HasFlaw file s (Beyond mark) = IsFilled (recorded_of s) × IsFirstBeyond (recorded_of s) mark
HasFlaw file s (Stray frame) =
    EndsAtFin (recorded_of s) × (s.marks.strays ≢ 0) × (frame ≡ s.marks.stray)
HasFlaw file s (Changed run) =
    IsWholeStream (recorded_of s) × IsPartOf s.log run × (IsAsFirst file s.log run → ⊥)

-- of an end that sent nothing SYN is missing
abbrev pub HasFlowFlaw : (file : List ℕ) → Option Flow → StreamFlaw → Type 0
HasFlowFlaw file None flaw = flaw ≡ NoSyn
HasFlowFlaw file (Some flow) flaw = HasFlaw file flow.stream flaw
