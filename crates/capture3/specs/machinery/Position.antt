-- The limits that a position keeps, and what each of its steps does.
use Rattle.std.specs.Prelude.{◌≡◌, ◌≢◌, ◌≤◌, ◌<◌, ℕ, ◌+◌, ◌-◌, ◌*◌, Option, Some, None, Result, Ok, Err, List, [], length, take, drop}
use Rattle.record_mark.specs.Machine.{Next, Ends, Run, Runs, Stops, after, landed}
use Rattle.record_mark.specs.Joining.{Joining, Between}
use Rattle.record_mark.specs.Taking.{joined_body}
use Rattle.capture3.specs.machinery.ContainerMachine.{Unpacking, Unpacked, Opened, Has, HasStreams, Refuses, left_of_magic, awaiting_chunk, chunk_counted, connection_marked, mixed_on, unpack_next, unpacking_with}
use Rattle.capture3.specs.machinery.ContainerMachine as unpacking
use Rattle.capture3.specs.declared.container.position.TheConstants.{MAGIC}
use Rattle.capture3.specs.declared.fault.Error.{Error}
use Rattle.capture3.specs.declared.fault.Error.TheVariants.{Refused}
use Rattle.capture3.specs.declared.fault.Side.{Side}
use Rattle.capture3.specs.declared.fault.Side.TheVariants as sides
use Rattle.capture3.specs.declared.container.position.spot.Event.{Event}
use Rattle.capture3.specs.declared.container.position.spot.Event.TheVariants.{Record, Streams}
use Rattle.capture3.specs.declared.container.position.spot.Version as declared
use Rattle.capture3.specs.declared.container.position.spot.Version.TheVariants as versions
use Rattle.capture3.specs.Capture.{Version, One, Two}
use Rattle.capture3.specs.SidedChunksMachine.{SideWord, awaiting_side}
use Rattle.capture3.specs.SidedChunksMachine as mixing
use Rattle.capture3.specs.SidedChunks as sided
use Rattle.capture3.specs.SidedChunks.{size}
use Rattle.capture3.specs.declared.container.position.Position.{Position}
use Rattle.capture3.specs.declared.container.position.counts.Counts.{Counts}
use Rattle.capture3.specs.machinery.PositionState.{span, standing_at, words_before}
use Rattle.record_mark.specs.declared.word_part.WordPart.{WordPart}
use Rattle.capture3.specs.declared.container.position.Transition.{Transition}
use Rattle.capture3.specs.declared.container.position.spot.Spot.{Spot}
use Rattle.record_mark.specs.WordPart.{bytes_so_far}
use Rattle.capture3.specs.declared.container.position.spot.Spot.TheVariants.{Magic, Digit, Word, Chunk, SideChunk, Ended}
use Rattle.capture3.specs.declared.container.position.spot.WordOf.{WordOf}
use Rattle.capture3.specs.declared.container.position.spot.WordOf.TheVariants as words

-- the version, as the definitions of a capture have it
abbrev pub version_of : declared.Version → Version
version_of versions.One = One
version_of versions.Two = Two

-- the word that is open, with its bytes so far, as the machine has it
abbrev pub opened_word : sided.Streams → WordOf → List ℕ → Opened
opened_word streams (words.Mark version) part = unpacking.Mark (version_of version) part
opened_word streams (words.Length side) part = unpacking.Length side part
opened_word streams words.Side part = unpacking.Mixed streams (SideWord part)
opened_word streams (words.SideLength side) part =
    unpacking.Mixed streams (mixing.SideLength side part)

-- what this word leads the machine to, once it is whole
abbrev pub word_read : WordOf → Counts → sided.Streams → Joining → ℕ → Next Unpacking Unpacked
word_read (words.Mark version) c streams joining n =
    connection_marked (version_of version) c.at c.total c.connections c.records joining n
word_read (words.Length side) c streams joining n =
    chunk_counted c.at c.total c.connections c.records side joining n
word_read words.Side c streams joining n =
    mixed_on c.connections c.records joining (mixing.sided c.at c.total streams n)
word_read (words.SideLength side) c streams joining n =
    mixed_on c.connections c.records joining (mixing.measured c.at c.total streams side n)

-- the part that is open, as the machine has it
abbrev pub opened_at : sided.Streams → Spot → ℕ → Opened
opened_at streams Magic at = left_of_magic (drop at MAGIC)
opened_at streams Digit at = unpacking.Digit
opened_at streams (Word word part) at = opened_word streams word (bytes_so_far part)
opened_at streams (Chunk side left) at = awaiting_chunk side left
opened_at streams (SideChunk side left) at = unpacking.Mixed streams (awaiting_side side left)
opened_at streams (Ended version) at = unpacking.Ended (version_of version)

-- the position, the streams and the open record, as the machine has them
abbrev pub unpacking_at : Position → sided.Streams → Joining → Unpacking
unpacking_at p streams joining =
    unpacking_with p.at p.total p.connections p.records (opened_at streams p.spot p.at) joining

-- some of the bytes lead the machine to the fault
abbrev pub ShowsFault : Unpacking → List ℕ → Error → Type 0
ShowsFault from bytes (Refused fault) = (n : ℕ) × (n ≤ length bytes)
    × (after unpack_next (Runs from) (take n bytes) ≡ Stops (Refuses fault))
ShowsFault from bytes _ = ⊥

-- the bytes so far of the body of a record that is open, or none between records
abbrev pub IsOpenBody : Option ℕ → Joining → Type 0
IsOpenBody None joining = joining ≡ Between
IsOpenBody (Some n) joining = (joining ≢ Between) × (n ≡ length (joined_body joining))

-- where the machine is with the last byte taken: it goes on, or something is whole
abbrev pub landed_at : Option Event → sided.Streams → Unpacking → Run Unpacking Unpacked
landed_at None streams u = Runs u
landed_at (Some Streams) streams u = Stops (HasStreams streams u)
landed_at (Some event) streams u = Stops (Has event [] u)

-- What a whole word leads the machine to: there, or to the fault. The open record stays.
abbrev pub Lands : Next Unpacking Unpacked → sided.Streams → Joining → Result Transition Error
    → Type 0
Lands next streams joining (Ok taken) =
    landed next ≡ landed_at taken.event streams (unpacking_at taken.position streams joining)
Lands next streams joining (Err (Refused fault)) = next ≡ Ends (Refuses fault)
Lands next streams joining (Err _) = ⊥

-- The bytes taken lead the machine there, or some of the bytes lead it to the fault. The open
-- record stays.
abbrev pub Moves : Unpacking → List ℕ → sided.Streams → Joining → Result Transition Error
    → Type 0
Moves from bytes streams joining (Ok taken) =
    after unpack_next (Runs from) (take taken.count bytes)
    ≡ landed_at taken.event streams (unpacking_at taken.position streams joining)
Moves from bytes streams joining (Err error) = ShowsFault from bytes error

-- no stream byte is kept
abbrev pub AreEmpty : sided.Streams → Type 0
AreEmpty streams = streams ≡ sided.gathered []

-- a connection word of this version, at its first byte
abbrev pub IsBeforeMark : Version → Spot → Type 0
IsBeforeMark version (Word (words.Mark observed) part) =
    (version_of observed ≡ version) × (bytes_so_far part ≡ [])
IsBeforeMark version spot = ⊥

-- the last word 0 has come
abbrev pub IsEndSpot : Spot → Type 0
IsEndSpot (Ended version) = Unit {0}
IsEndSpot spot = ⊥

-- How many things can become whole within the limits, from this word on. Kept streams are not
-- counted as judged.
abbrev pub room_before : WordOf → sided.Streams → ℕ
room_before (words.Mark version) streams = 0
room_before (words.Length sides.Client) streams = 2
room_before (words.Length sides.Server) streams = 1
room_before words.Side streams = 2 + size streams
room_before (words.SideLength side) streams = 2 + size streams

-- the same from any part on
abbrev pub room_here : Spot → sided.Streams → ℕ
room_here (Word word part) streams = room_before word streams
room_here (Chunk sides.Client left) streams = 2 + left
room_here (Chunk sides.Server left) streams = 1 + left
room_here (SideChunk side left) streams = 2 + (size streams + left)
room_here _ streams = 0

-- the same with what the counts allow
abbrev pub room_of : Position → sided.Streams → ℕ
room_of p streams = 4 * (65535 - p.connections) + (1073741824 - p.total) + room_here p.spot streams

-- The most that can become whole: 65,535 connections with a begin, a turn and a close each, and a
-- record for each stream byte.
abbrev pub most_things : ℕ
most_things = 1074003964

-- What becomes whole with streams that are gathered: their records, a turn and a close.
abbrev pub cost_of : Option Event → sided.Streams → ℕ
cost_of None streams = 0
cost_of (Some Streams) streams = 2 + size streams
cost_of (Some event) streams = 1

-- some bytes of these were taken
pub record TakesSome (bytes : List ℕ) (taken : Transition) : Type 0 where
  pub some : 0 < taken.count
  pub within : taken.count ≤ length bytes

-- it is no record
abbrev pub IsOfContainer : Option Event → Type 0
IsOfContainer (Some (Record side)) = ⊥
IsOfContainer _ = Unit {0}

-- what the streams hold before a word, where no record of them is judged
abbrev pub StoredBefore : WordOf → ℕ → sided.Streams → Type 0
StoredBefore words.Side total streams = size streams ≤ total
StoredBefore (words.SideLength side) total streams = size streams ≤ total
StoredBefore _ total streams = AreEmpty streams

-- the same at any part
abbrev pub StoredAt : Spot → ℕ → sided.Streams → Type 0
StoredAt (Word word part) total streams = StoredBefore word total streams
StoredAt (SideChunk side left) total streams = size streams + left ≤ total
StoredAt _ total streams = AreEmpty streams

-- the same after what was taken; with the side word 0 the streams are whole, and no record of them
-- is judged
abbrev pub StoredWith : Option Event → Position → sided.Streams → Type 0
StoredWith (Some Streams) position streams = (size streams ≤ position.total)
    × (position.records ≡ 0) × IsBeforeMark Two position.spot
StoredWith _ position streams = StoredAt position.spot position.total streams

-- ---- what bytes that are taken come to, whatever streams are kept here

-- what became whole took its room
abbrev pub TakesRoom : Position → Transition → Type 0
TakesRoom before taken = (streams : sided.Streams) → StoredAt before.spot before.total streams
    → room_of taken.position streams + cost_of taken.event streams ≤ room_of before streams

-- the streams belong to where the bytes end
abbrev pub KeepsStreams : Position → Transition → Type 0
KeepsStreams before taken = (streams : sided.Streams) → StoredAt before.spot before.total streams
    → StoredWith taken.event taken.position streams

-- a record became whole with so many bytes of an open chunk
pub record PassesRecord (before after : Position) (side : Side) (left count : ℕ) : Type 0 where
  pub machine : (streams : sided.Streams) (joining : Joining)
      → unpacking_at after streams joining ≡ unpacking.in_chunk before.at before.total
      before.connections (before.records + 1) side (left - count) joining
  pub room : TakesRoom before
      (record { count = count; position = after; event = Some (Record side) })
  pub stored : KeepsStreams before
      (record { count = count; position = after; event = Some (Record side) })

-- a step of the container, with which no record becomes whole
pub record StepsFrom (before : Position) (taken : Transition) : Type 0 where
  pub event : IsOfContainer taken.event
  pub room : TakesRoom before taken
  pub stored : KeepsStreams before taken

-- the machine goes there, or to the fault
abbrev pub MovesFrom : Position → Joining → List ℕ → Result Transition Error → Type 0
MovesFrom before joining bytes result = (streams : sided.Streams)
    → StoredAt before.spot before.total streams
    → Moves (unpacking_at before streams joining) bytes streams joining result

-- ---- the same for counts at which a word is open, whatever of its bytes have come

-- the position there is sound
pub record IsSoundBefore (counts : Counts) (word : WordOf) : Type 0 where
  pub small : counts.total ≤ 1073741824
  pub few : counts.connections ≤ 65535
  pub counted : counts.records ≤ counts.total
  pub here : counts.at ≤ words_before word + span counts.connections counts.total

-- a step of the container from there
abbrev pub StepsOver : Counts → WordOf → Transition → Type 0
StepsOver counts word taken =
    (part : WordPart) → StepsFrom (standing_at counts (Word word part)) taken

-- the word's first byte comes next
abbrev pub IsBeforeWord : WordOf → Spot → Type 0
IsBeforeWord word spot = (part : WordPart) × (bytes_so_far part ≡ []) × (spot ≡ Word word part)

-- after the length word of a chunk
abbrev pub with_chunk : Counts → ℕ → Counts
with_chunk counts len = record counts { at = counts.at + 4 + len; total = counts.total + len }
