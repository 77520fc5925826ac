-- What a stream shows of what was recorded.
use Rattle.std.specs.Prelude.{◌≡◌, ◌≤◌, ◌<◌, ◌⊎◌, ◌^◌, ℕ, ◌+◌, Bool, cond, nat_lt, List, [], ◌∷◌, Option, None, Some, length}
use Rattle.std.specs.List.{flat_map}
use Rattle.streams3.specs.declared.runs.Run.{Run}
use Rattle.streams3.specs.declared.segments.Mark.{Mark}
use Rattle.streams3.specs.declared.segments.Marks.{Marks}
use Rattle.streams3.specs.declared.streams.Stream.TheInside.{Inside}
use Rattle.streams3.specs.Runs.{AreSound, top_of}
use Rattle.streams3.specs.Events.{Event, Placed, SentAt, AcknowledgedAt, Stray, ArePlaced, payloads}

-- the flag of a segment, if it is set, at a position
abbrev pub mark_if : Bool → (position frame : ℕ) → List Mark
mark_if flag position frame = cond flag (record { position = position; frame = frame } ∷ []) []

-- SYN stands before the first byte of its segment, FIN after the last
abbrev pub syn_of : Placed → List Mark
syn_of (SentAt s top p) = mark_if s.syn p s.frame
syn_of (AcknowledgedAt p frame) = []
syn_of (Stray frame) = []

abbrev pub fin_of : Placed → List Mark
fin_of (SentAt s top p) = mark_if s.fin (p + s.size) s.frame
fin_of (AcknowledgedAt p frame) = []
fin_of (Stray frame) = []

abbrev pub rst_of : Placed → List Mark
rst_of (SentAt s top p) = mark_if s.rst p s.frame
rst_of (AcknowledgedAt p frame) = []
rst_of (Stray frame) = []

abbrev pub acknowledged_of : Placed → List Mark
acknowledged_of (SentAt s top p) = []
acknowledged_of (AcknowledgedAt p frame) = record { position = p; frame = frame } ∷ []
acknowledged_of (Stray frame) = []

abbrev pub stray_of : Placed → List ℕ
stray_of (SentAt s top p) = []
stray_of (AcknowledgedAt p frame) = []
stray_of (Stray frame) = frame ∷ []

-- the first of a list, after what was found before
abbrev pub first_from : {A : Type 0} → Option A → List A → Option A
first_from (Some x) xs = Some x
first_from None [] = None
first_from None (x ∷ xs) = Some x

-- the lowest of marks, and of those the first, after what was found before
abbrev pub lower : Option Mark → Mark → Mark
lower None mark = mark
lower (Some one) mark = cond (nat_lt mark.position one.position) mark one

abbrev pub lowest_from : Option Mark → List Mark → Option Mark
lowest_from found [] = found
lowest_from found (mark ∷ marks) = lowest_from (Some (lower found mark)) marks

-- the highest, and of those the first
abbrev pub higher : Option Mark → Mark → Mark
higher None mark = mark
higher (Some one) mark = cond (nat_lt one.position mark.position) mark one

abbrev pub highest_from : Option Mark → List Mark → Option Mark
highest_from found [] = found
highest_from found (mark ∷ marks) = highest_from (Some (higher found mark)) marks

-- The stream begins as the first SYN says, and ends at the lowest FIN; the highest acknowledgment
-- and the first RST.
abbrev pub marks_of : List Placed → Marks
marks_of placed = record {
  begin = first_from None (flat_map syn_of placed);
  end = lowest_from None (flat_map fin_of placed);
  acknowledged = highest_from None (flat_map acknowledged_of placed);
  reset = first_from None (flat_map rst_of placed);
  strays = length (flat_map stray_of placed);
  stray = first_from None (flat_map stray_of placed);
}

-- What contracts see of a stream: the number of the byte at position 2^30, the payloads in the
-- order in which they were recorded, and its marks.
pub record Shown : Type 0 where
  pub first : ℕ
  pub log : List Run
  pub marks : Marks

abbrev pub shown_of : Inside → Shown
shown_of stream = record {
  first = stream.first;
  log = stream.log.items;
  marks = stream.marks;
}

-- the stream shows exactly these events
pub record ShowsEvents (shown : Shown) (events : List Event) : Type 0 where
  pub placed : List Placed
  pub are_placed : ArePlaced shown.first [] events placed
  pub log : shown.log ≡ payloads placed
  pub marks : shown.marks ≡ marks_of placed

-- a position, an offset or the number of strays is too large
abbrev pub IsLong : Shown → (at : ℕ) → Type 0
IsLong shown at = (2 ^ 62 < top_of shown.log) ⊎ ((2 ^ 62 < at) ⊎ (2 ^ 62 < shown.marks.strays))

-- what holds of every stream: its payloads are sound, and nothing in it is much too large
pub record IsKeptStream (stream : Inside) : Type 0 where
  pub sound : AreSound stream.log.items
  pub top : stream.top ≡ top_of stream.log.items
  pub small : stream.top ≤ 2 ^ 62 + 2 ^ 33
  pub few : stream.marks.strays ≤ 2 ^ 62 + 1
