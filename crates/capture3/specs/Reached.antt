-- The entries that a prefix of a file reaches.
use Rattle.std.specs.Prelude.{◌≡◌, ◌⊎◌, ℕ, suc, ◌+◌, ◌<◌, ◌≤◌, List, [], ◌∷◌, ◌++◌, length, map}
use Rattle.record_mark.specs.Word.{IsWord, Joins}
use Rattle.xdr3.specs.Item.{Item}
use Rattle.capture3.specs.declared.fault.Fault.{Fault}
use Rattle.capture3.specs.Bodies.{ReplyItems}
use Rattle.capture3.specs.Capture.{Version, One, Two, magic, max_connections, total_size, IsConnection}
use Rattle.capture3.specs.SidedChunks.{Streams, BeginsMixed}
use Rattle.capture3.specs.Chunks.{max_bytes, IsStream, BeginsStream}
use Rattle.capture3.specs.Connections.{StreamsShow, calls_in_turn, replies_to}
use Rattle.capture3.specs.Entry.{Entry, Begin, Call, Turn}
use Rattle.capture3.specs.FirstFault.{AfterConnections, Shows, IsClean}
use Rattle.capture3.specs.Records.{Holds, HoldsSoFar}
use Rattle.capture3.specs.Typed.{reply_entry, HaveEntries, Typed, IsWellFormed}

-- the magic and whole connections, with these entries
pub record Opens (version : Version) (bytes : List ℕ) (connections : List Streams)
    (entries : List Entry) : Type 0 where
  pub rest : List ℕ
  pub split : bytes ≡ magic version ++ rest
  pub joined : Joins (IsConnection version) rest connections
  pub messages : HaveEntries connections entries
  pub few : length connections ≤ max_connections
  pub small : total_size connections ≤ max_bytes

-- in the client stream, after so many stream bytes before: the calls whose records are whole
pub record ReachesCalls (before : ℕ) (bytes : List ℕ) (entries : List Entry) : Type 0 where
  pub stream : List ℕ
  pub calls : List (List Item)
  pub begins : BeginsStream before bytes stream
  pub holds : HoldsSoFar calls_in_turn stream calls
  pub entries_are : entries ≡ Begin ∷ map Call calls

-- after the client stream: all calls, and the replies whose records are whole
pub record ReachesReplies (before : ℕ) (bytes : List ℕ) (entries : List Entry) : Type 0 where
  pub front : List ℕ
  pub last : List ℕ
  pub client : List ℕ
  pub server : List ℕ
  pub calls : List (List Item)
  pub replies : List ReplyItems
  pub split : bytes ≡ front ++ last
  pub first : IsStream front client
  pub holds : Holds calls_in_turn client calls
  pub fits : before + length client ≤ max_bytes
  pub begins : BeginsStream (before + length client) last server
  pub answers : HoldsSoFar (replies_to calls) server replies
  pub entries_are : entries ≡ (Begin ∷ map Call calls) ++ (Turn ∷ map reply_entry replies)

-- What is whole of a connection that is not, after its word 1: in version 2 its begin alone, since
-- its messages are whole with the side word 0.
abbrev pub ReachesInside : Version → ℕ → List ℕ → List Entry → Type 0
ReachesInside One before bytes entries = ReachesCalls before bytes entries
    ⊎ ReachesReplies before bytes entries
ReachesInside Two before bytes entries = BeginsMixed before bytes × (entries ≡ Begin ∷ [])

-- what is whole in bytes that show no fault
pub data AreWhole (bytes : List ℕ) (entries : List Entry) : Type 0 where
  -- a part of a magic
  InMagic : (version : Version) (more : List ℕ) → magic version ≡ bytes ++ more → entries ≡ []
      → AreWhole bytes entries
  -- whole connections, and a part of a connection word, or the last word 0
  BetweenConnections : (version : Version) (front part : List ℕ) (connections : List Streams)
      → bytes ≡ front ++ part → Opens version front connections entries
      → (length part < 4) ⊎ IsWord part 0 → AreWhole bytes entries
  -- whole connections, the word 1, and a connection that is not whole
  InConnection : (version : Version) (front mark rest : List ℕ) (connections : List Streams)
      (before more : List Entry) → bytes ≡ front ++ mark ++ rest
      → Opens version front connections before → IsWord mark 1
      → length connections < max_connections
      → ReachesInside version (total_size connections) rest more → entries ≡ before ++ more
      → AreWhole bytes entries

-- In version 2: the bytes end with the side word 0 of a connection, whose streams have a fault
-- after these entries.
pub record EndsStreams (bytes : List ℕ) (entries : List Entry) : Type 0 where
  pub here : AfterConnections bytes
  pub fault : Fault
  pub opens : here.mark ≡ 1
  pub two : here.version ≡ Two
  pub shows : StreamsShow (suc (length here.connections)) here.rest entries fault

-- The entries that the last byte of these bytes, which shows a fault, still reaches: those before
-- the fault of streams that end with it, and no others.
abbrev pub StillReaches : List ℕ → List Entry → Type 0
StillReaches bytes more =
    EndsStreams bytes more
    ⊎ ((more ≡ []) × ((entries : List Entry) → EndsStreams bytes entries → entries ≡ []))

-- The longest clean prefix of the bytes. Where a byte comes after it, that byte shows a fault, and
-- still reaches these entries.
pub record IsLongestClean (bytes front : List ℕ) (more : List Entry) : Type 0 where
  pub rest : List ℕ
  pub split : bytes ≡ front ++ rest
  pub clean : IsClean front
  pub longest : ((rest ≡ []) × (more ≡ []))
      ⊎ ((byte : ℕ) × (back : List ℕ) × (fault : Fault) × (rest ≡ byte ∷ back)
      × Shows (front ++ byte ∷ []) fault × StillReaches (front ++ byte ∷ []) more)

-- The entries that are whole in the longest clean prefix, and those that the byte after it still
-- reaches: in version 2, where the side word 0 shows a record's fault, the connection's entries
-- before that record. The capture's end is one of them only where the bytes are well formed.
abbrev pub Reached : List ℕ → List Entry → Type 0
Reached bytes entries =
    Typed bytes entries
    ⊎ ((IsWellFormed bytes → ⊥) × (front : List ℕ) × (whole : List Entry) × (more : List Entry)
    × IsLongestClean bytes front more × AreWhole front whole × (entries ≡ whole ++ more))

-- some of the entries that the bytes reach, from the first on, or all
abbrev pub AreFirstReached : List ℕ → List Entry → Type 0
AreFirstReached bytes entries = (more : List Entry) × Reached bytes (entries ++ more)
