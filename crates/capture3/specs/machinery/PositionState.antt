-- What contracts see of a position, and the limits that it keeps.
use Rattle.std.specs.Prelude.{◌≡◌, ◌≤◌, ◌<◌, ℕ, ◌+◌, ◌*◌}
use Rattle.capture3.specs.declared.fault.Side.TheVariants as sides
use Rattle.capture3.specs.declared.container.position.counts.Counts.{Counts}
use Rattle.capture3.specs.declared.container.position.spot.WordOf.{WordOf}
use Rattle.capture3.specs.declared.container.position.spot.WordOf.TheVariants as words
use Rattle.capture3.specs.declared.container.position.spot.Spot.{Spot}
use Rattle.capture3.specs.declared.container.position.spot.Spot.TheVariants.{Magic, Digit, Word, Chunk, SideChunk, Ended}

-- how far a capture was taken, and which part of it is open
pub record PositionState : Type 0 where
  pub at : ℕ
  pub total : ℕ
  pub connections : ℕ
  pub records : ℕ
  pub spot : Spot

-- the position with these counts, where this part is open
abbrev pub standing_at : Counts → Spot → PositionState
standing_at counts spot =
    record {
      at = counts.at;
      total = counts.total;
      connections = counts.connections;
      records = counts.records;
      spot = spot;
    }

-- the bytes before a word that are no chunk's and no connection's so far: the magic's, those of the
-- word 0 after the client's stream, or those of a chunk's side word
abbrev pub words_before : WordOf → ℕ
words_before (words.Mark version) = 8
words_before (words.Length sides.Client) = 0
words_before (words.Length sides.Server) = 4
words_before words.Side = 0
words_before (words.SideLength side) = 4

-- How many bytes there are at most: twelve for each connection's words, and nine for each stream
-- byte, in chunks of one byte.
abbrev pub span : ℕ → ℕ → ℕ
span connections total = 12 * connections + 9 * total

-- how far a position can stand, by the part that is open, its byte, and its counts
abbrev pub IsSoundSpot : Spot → ℕ → ℕ → ℕ → ℕ → Type 0
IsSoundSpot Magic at total connections records = at < 7
IsSoundSpot Digit at total connections records = at ≡ 7
IsSoundSpot (Word word part) at total connections records =
    at ≤ words_before word + span connections total
IsSoundSpot (Chunk side left) at total connections records = (0 < left) × (left ≤ at)
    × (at ≤ words_before (words.Length side) + span connections total) × (records + left ≤ total)
IsSoundSpot (SideChunk side left) at total connections records = (0 < left)
    × (at ≤ span connections total)
IsSoundSpot (Ended version) at total connections records = at ≤ 12 + span connections total

-- the counts are within the limits, and the position stands no further than they allow
pub record IsSoundPosition (p : PositionState) : Type 0 where
  pub small : p.total ≤ 1073741824
  pub few : p.connections ≤ 65535
  pub counted : p.records ≤ p.total
  pub here : IsSoundSpot p.spot p.at p.total p.connections p.records
