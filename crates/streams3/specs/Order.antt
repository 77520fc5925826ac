-- A stream in order: what is missing of it, and whether it is whole.
use Rattle.std.specs.Prelude.{◌≡◌, ◌≢◌, ◌≤◌, ◌<◌, ℕ, ◌^◌, cond, ◌&&◌, nat_le, nat_lt, ◌⊎◌, List, Option, None, Some}
use Rattle.streams3.specs.declared.order.OrderedStream.TheInside.{Inside}
use Rattle.streams3.specs.declared.runs.MissingBytes.{MissingBytes}
use Rattle.streams3.specs.declared.runs.Pair.{Pair}
use Rattle.streams3.specs.declared.runs.Run.{Run}
use Rattle.streams3.specs.declared.segments.Mark.{Mark}
use Rattle.streams3.specs.declared.segments.Marks.{Marks}
use Rattle.streams3.specs.Repeats.{AreRepeats}
use Rattle.streams3.specs.Runs.{AreInOrder, Lie, spot_of}
use Rattle.streams3.specs.Streams.{Shown}

-- what contracts see of a stream in order
pub record Ordered : Type 0 where
  pub marks : Marks
  pub runs : List Run
  pub pairs : List Pair

abbrev pub ordered_of : Inside → Ordered
ordered_of stream = record {
  marks = stream.marks;
  runs = stream.runs.items;
  pairs = stream.pairs.items;
}

abbrev pub IsInOrder : Inside → Type 0
IsInOrder stream = Lie 0 (2 ^ 63) stream.runs.items

pub record IsOrderOf (shown : Shown) (ordered : Ordered) : Type 0 where
  pub marks : ordered.marks ≡ shown.marks
  pub runs : AreInOrder shown.log ordered.runs
  pub pairs : AreRepeats shown.log ordered.pairs

-- the position at which the stream begins; where no SYN was recorded, that from which it counts
abbrev pub begin_of : Option Mark → ℕ
begin_of None = 2 ^ 30
begin_of (Some mark) = mark.position

abbrev pub IsBefore : (p : ℕ) → Option Mark → Type 0
IsBefore p None = ⊥
IsBefore p (Some mark) = p < mark.position

abbrev pub IsNotAfter : (p : ℕ) → (end : Option Mark) → Type 0
IsNotAfter p None = Unit {0}
IsNotAfter p (Some mark) = p < mark.position

-- A later byte, an acknowledgment or FIN shows that the byte was sent. It is none behind FIN.
abbrev pub WasSent : Ordered → (p : ℕ) → Type 0
WasSent stream p =
    (((q : ℕ) × (p < q) × (spot_of stream.runs q ≢ None))
    ⊎ (IsBefore p stream.marks.acknowledged ⊎ IsBefore p stream.marks.end))
    × IsNotAfter p stream.marks.end

-- the byte was sent, and no segment has it
pub record IsMissing (stream : Ordered) (p : ℕ) : Type 0 where
  pub from : begin_of stream.marks.begin ≤ p
  pub none : spot_of stream.runs p ≡ None
  pub sent : WasSent stream p

-- the byte lies behind FIN
pub record IsBeyond (stream : Ordered) (p : ℕ) : Type 0 where
  pub after : IsNotAfter p stream.marks.end → ⊥
  pub there : spot_of stream.runs p ≢ None

-- all that this end is known to have sent was recorded, and all of it fits
pub record IsWholeStream (stream : Ordered) : Type 0 where
  pub begun : stream.marks.begin ≢ None
  pub full : (p : ℕ) → IsMissing stream p → ⊥
  pub within : (p : ℕ) → IsBeyond stream p → ⊥
  pub fits : stream.marks.strays ≡ 0

-- the bytes that are missing first
pub record AreFirstMissing (stream : Ordered) (gap : MissingBytes) : Type 0 where
  pub some : gap.begin < gap.end
  pub missing : (p : ℕ) → gap.begin ≤ p → p < gap.end → IsMissing stream p
  pub first : (p : ℕ) → p < gap.begin → IsMissing stream p → ⊥
  pub last : IsMissing stream gap.end → ⊥

-- the first byte behind FIN, and its frame
pub record IsFirstBeyond (stream : Ordered) (mark : Mark) : Type 0 where
  pub beyond : IsBeyond stream mark.position
  pub first : (p : ℕ) → p < mark.position → IsBeyond stream p → ⊥
  pub frame : (at : ℕ) × (spot_of stream.runs mark.position ≡ Some (at, mark.frame))

-- no byte is there from a position on up to another, but all before and after them, of those
-- between two positions
pub record IsGap (runs : List Run) (from to begin end : ℕ) : Type 0 where
  pub low : from ≤ begin
  pub some : begin < end
  pub high : end ≤ to
  pub before : (p : ℕ) → from ≤ p → p < begin → spot_of runs p ≢ None
  pub none : (p : ℕ) → begin ≤ p → p < end → spot_of runs p ≡ None
  pub after : end < to → spot_of runs end ≢ None

-- none is missing
abbrev pub HasNoGap : List Run → (from to : ℕ) → Type 0
HasNoGap runs from to = (p : ℕ) → from ≤ p → p < to → spot_of runs p ≢ None

-- the bytes between two positions
pub record AreBetween (runs : List Run) (from to : ℕ) (parts : List Run) : Type 0 where
  pub order : Lie 0 (2 ^ 63) parts
  pub same : (p : ℕ)
      → spot_of parts p ≡ cond (nat_le from p && nat_lt p to) (spot_of runs p) None
