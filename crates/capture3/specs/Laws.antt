-- Laws of captures.
use Rattle.std.specs.Prelude.{◌≡◌, ◌⊎◌, ◌↔◌, ℕ, ◌+◌, ◌<◌, ◌≤◌, List, [], ◌∷◌, ◌++◌, length}
use Rattle.xdr3.specs.declared.reason.Reason.{Reason}
use Rattle.xdr3.specs.declared.reason.Reason.TheVariants.{BadMagic, CaptureCut, BadMark, AfterEnd, TooManyConnections, TooManyBytes, RecordCut, RecordTooLong, Short, Trailing, BadBool, BadEnum, TooLong, RpcVersion, Flavor, AuthLength, WrongSide, NoCall, XidConflict}
use Rattle.xdr3.specs.declared.reason.Stop.{Stop}
use Rattle.xdr3.specs.Item.{Item, zero_spelling}
use Rattle.capture3.specs.declared.fault.Fault.{Fault}
use Rattle.capture3.specs.declared.fault.Place.{Place}
use Rattle.capture3.specs.declared.fault.Place.TheVariants.{File, Record}
use Rattle.capture3.specs.declared.fault.Side.TheVariants.{Client, Server}
use Rattle.capture3.specs.Bodies.{ReplyItems}
use Rattle.capture3.specs.Capture.{Version, One, Two, magic, max_connections}
use Rattle.capture3.specs.SidedChunks.{Streams}
use Rattle.capture3.specs.Chunks.{max_bytes}
use Rattle.capture3.specs.Connections.{calls_in_turn, replies_to}
use Rattle.capture3.specs.Entry.{Entry, Begin, Call, Reply}
use Rattle.capture3.specs.FirstFault.{FirstFault}
use Rattle.capture3.specs.Records.{Judgement, Holds}
use Rattle.capture3.specs.Sides.{file_fault}
use Rattle.capture3.specs.Typed.{Converses, Typed}

-- one list of entries is Typed, and there is no first fault
pub record HasEntries (file : List ℕ) : Type 0 where
  pub entries : List Entry
  pub typed : Typed file entries
  pub only : (others : List Entry) → Typed file others → others ≡ entries
  pub sound : (fault : Fault) → FirstFault file fault → ⊥

-- one fault is the first, and no list of entries is Typed
pub record HasFault (file : List ℕ) : Type 0 where
  pub fault : Fault
  pub first : FirstFault file fault
  pub only : (other : Fault) → FirstFault file other → other ≡ fault
  pub refused : (entries : List Entry) → Typed file entries → ⊥

-- exactly one of them holds
abbrev pub HasOneVerdict : List ℕ → Type 0
HasOneVerdict file = HasEntries file ⊎ HasFault file

-- each shorter prefix of a well-formed file is cut at its own length
abbrev pub IsCutShort : List ℕ → Type 0
IsCutShort file = (entries : List Entry) (front more : List ℕ) (byte : ℕ) → Typed file entries
    → file ≡ front ++ byte ∷ more → FirstFault front (file_fault (length front) CaptureCut)

-- the two files have the same entries, or neither is well formed
abbrev pub HaveSameEntries : List ℕ → List ℕ → Type 0
HaveSameEntries file other = (entries : List Entry) → Typed file entries ↔ Typed other entries

-- a body is accepted as one message, or refused with one fault, and not both
pub record IsJudgedOnce {M : Type 0} (judge : Judgement M) (before : List M)
    (body : List ℕ) : Type 0 where
  pub one : ((m : M) × judge.accepts before body m)
      ⊎ ((stop : Stop) × judge.refuses before body stop)
  pub not_both : (m : M) (stop : Stop) → judge.accepts before body m
      → judge.refuses before body stop → ⊥
  pub same_message : (m n : M) → judge.accepts before body m → judge.accepts before body n → m ≡ n
  pub same_fault : (stop other : Stop) → judge.refuses before body stop
      → judge.refuses before body other → stop ≡ other

-- judging body by body says the same of a connection as what its messages are together
abbrev pub IsJudgedInTurn : Streams → List (List Item) → List ReplyItems → Type 0
IsJudgedInTurn streams calls replies = Converses streams calls replies
    ↔ (Holds calls_in_turn streams.client calls × Holds (replies_to calls) streams.server replies)

-- how many connections entries begin
abbrev pub begins : List Entry → ℕ
begins [] = 0
begins (Begin ∷ entries) = 1 + begins entries
begins (_ ∷ entries) = begins entries

-- how many bytes the zero spellings of their messages have together
abbrev pub spelled : List Entry → ℕ
spelled [] = 0
spelled (Call items ∷ entries) = length (zero_spelling items) + spelled entries
spelled (Reply id items ∷ entries) = length (zero_spelling items) + spelled entries
spelled (_ ∷ entries) = spelled entries

-- entries of a capture within the limits
pub record AreWithinLimits (entries : List Entry) : Type 0 where
  pub few : begins entries ≤ max_connections
  pub small : spelled entries ≤ max_bytes

-- The most bytes of a capture, by its version: with 65,535 connections, and with 1,073,741,824
-- stream bytes in chunks of one byte each. Beside its chunks a connection has three words in
-- version 1 and two in version 2, and beside its bytes a chunk has one word in version 1 and two in
-- version 2.
abbrev pub most_bytes : Version → ℕ
most_bytes One = 5369495552
most_bytes Two = 9664200708

-- the bytes are a front of the version's magic, or begin with it
abbrev pub IsOfVersion : Version → List ℕ → Type 0
IsOfVersion version bytes = ((more : List ℕ) × (magic version ≡ bytes ++ more))
    ⊎ ((more : List ℕ) × (bytes ≡ magic version ++ more))

-- bytes of a version that are no longer than a capture of it may be
abbrev pub IsWithinVersion : List ℕ → Type 0
IsWithinVersion bytes = (version : Version) × IsOfVersion version bytes
    × (length bytes ≤ most_bytes version)

-- Where a fault stands, by its reason: at a byte that the file has, at its length, or in a record.
-- A record's body has its xid at byte 0, its mtype at byte 4, and in a call its rpcvers at byte 8
-- (RFC 5531, section 9).
abbrev pub HasItsPlace : List ℕ → Reason → Place → Type 0
HasItsPlace file BadMagic (File at) = (at < 8) × (at < length file)
HasItsPlace file CaptureCut (File at) = at ≡ length file
HasItsPlace file BadMark (File at) = at < length file
HasItsPlace file AfterEnd (File at) = at < length file
HasItsPlace file TooManyConnections (File at) = at < length file
HasItsPlace file TooManyBytes (File at) = at < length file
HasItsPlace file RecordCut (Record connection side number byte) = Unit {0}
HasItsPlace file RecordTooLong (Record connection side number byte) = Unit {0}
HasItsPlace file Short (Record connection side number byte) = Unit {0}
HasItsPlace file Trailing (Record connection side number byte) = Unit {0}
HasItsPlace file BadBool (Record connection side number byte) = Unit {0}
HasItsPlace file BadEnum (Record connection side number byte) = Unit {0}
HasItsPlace file TooLong (Record connection side number byte) = Unit {0}
HasItsPlace file RpcVersion (Record connection side number byte) = (side ≡ Client) × (byte ≡ 8)
HasItsPlace file Flavor (Record connection side number byte) = Unit {0}
HasItsPlace file AuthLength (Record connection side number byte) = Unit {0}
HasItsPlace file WrongSide (Record connection side number byte) = byte ≡ 4
HasItsPlace file NoCall (Record connection side number byte) = (side ≡ Server) × (byte ≡ 0)
HasItsPlace file XidConflict (Record connection side number byte) = (side ≡ Client) × (byte ≡ 0)
HasItsPlace _ _ _ = ⊥

-- the most entries that a capture can have, with its end
abbrev pub most_entries : ℕ
most_entries = 1074003965
