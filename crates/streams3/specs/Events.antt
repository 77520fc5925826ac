-- What a recording shows of the bytes that one end of a connection sends, in the order in which it
-- was recorded (RFC 9293, section 3.4).
use Rattle.std.specs.Prelude.{◌≡◌, ◌≤◌, ℕ, ◌+◌, ◌%◌, ◌^◌, Bool, cond, ◌&&◌, not, nat_eq, nat_lt, ◌⊎◌, List, [], ◌∷◌, ◌++◌}
use Rattle.std.specs.List.{flat_map}
use Rattle.streams3.specs.declared.runs.Run.{Run}
use Rattle.streams3.specs.declared.segments.StreamSegment.{StreamSegment}
use Rattle.streams3.specs.declared.segments.Acknowledgment.{Acknowledgment}
use Rattle.streams3.specs.Runs.{top_of}

-- the end sent a segment, or the other end acknowledged
pub data Event : Type 0 where
  Sent : StreamSegment → Event
  Acknowledged : Acknowledgment → Event

-- The position has the number, which wraps; that of position 2^30 is the first. It is at most 2^30,
-- the largest window (RFC 7323, section 2.3), before or after the position after the last byte.
pub record IsNear (first top number position : ℕ) : Type 0 where
  pub low : top ≤ position + 2 ^ 30
  pub high : position ≤ top + 2 ^ 30
  pub numbered : (first + position) % 2 ^ 32 ≡ (number + 2 ^ 30) % 2 ^ 32

-- no position has it
abbrev pub IsFar : (first top number : ℕ) → Type 0
IsFar first top number = (position : ℕ) → IsNear first top number position → ⊥

-- SYN takes a number
abbrev pub first_number : StreamSegment → ℕ
first_number s = (s.sequence + cond s.syn 1 0) % 2 ^ 32

-- A segment at the position of its first byte, with the position after the last byte before it; an
-- acknowledgment at the position of the next byte that it expects; or a stray.
pub data Placed : Type 0 where
  SentAt : StreamSegment → (top position : ℕ) → Placed
  AcknowledgedAt : (position frame : ℕ) → Placed
  Stray : (frame : ℕ) → Placed

abbrev pub IsPlaced : (first top : ℕ) → Event → Placed → Type 0
IsPlaced first top (Sent s) placed =
    ((p : ℕ) × IsNear first top (first_number s) p × (placed ≡ SentAt s top p))
    ⊎ (IsFar first top (first_number s) × (placed ≡ Stray s.frame))
IsPlaced first top (Acknowledged a) placed =
    ((p : ℕ) × IsNear first top a.number p × (placed ≡ AcknowledgedAt p a.frame))
    ⊎ (IsFar first top a.number × (placed ≡ Stray a.frame))

-- A segment that keeps a connection alive may have one byte, which is the last again or none of the
-- stream (RFC 9293, section 3.8.4).
abbrev pub keeps_alive : StreamSegment → (top position : ℕ) → Bool
keeps_alive s top position = nat_eq s.size 1 && nat_eq (position + 1) top

abbrev pub has_payload : StreamSegment → (top position : ℕ) → Bool
has_payload s top position = nat_lt 0 s.size && not (keeps_alive s top position)

abbrev pub payload_at : StreamSegment → (position : ℕ) → Run
payload_at s p = record { position = p; at = s.at; size = s.size; frame = s.frame }

-- the bytes of a segment, if it has some
abbrev pub payload_of : Placed → List Run
payload_of (SentAt s top p) = cond (has_payload s top p) (payload_at s p ∷ []) []
payload_of (AcknowledgedAt p frame) = []
payload_of (Stray frame) = []

abbrev pub payloads : List Placed → List Run
payloads placed = flat_map payload_of placed

-- each event is placed by the bytes of those before it
abbrev pub ArePlaced : (first : ℕ) → (before : List Placed) → List Event → (all : List Placed)
    → Type 0
ArePlaced first before [] all = all ≡ before
ArePlaced first before (event ∷ events) all =
    (placed : Placed) × IsPlaced first (top_of (payloads before)) event placed
    × ArePlaced first (before ++ placed ∷ []) events all
