-- The kinds of entries, what a step of the reader returns of the next entry, its kind, and what it
-- takes of a message.
use Rattle.std.specs.Prelude.{◌≡◌, ◌≢◌, ◌≤◌, ◌+◌, ℕ, List, take, Option, Some, None}
use Rattle.xdr3.specs.Item.{Item}
use Rattle.rpc_head.specs.Messages.{procedure_in}
use Rattle.capture3.specs.declared.reader.entry.Kind.{Kind}
use Rattle.capture3.specs.declared.reader.entry.Kind.TheVariants as kinds
use Rattle.capture3.specs.declared.container.position.spot.Event.TheVariants.{Record}
use Rattle.capture3.specs.declared.fault.Side.{Side}
use Rattle.capture3.specs.declared.reader.entry.LentEntry.{LentEntry}
use Rattle.capture3.specs.declared.reader.pairing.Pairing.{Pairing}
use Rattle.capture3.specs.declared.reader.entry_ref.EntryRef.{EntryRef}
use Rattle.capture3.specs.Entry.{Entry, Begin, Call, Turn, Reply, Close, End}
use Rattle.capture3.specs.Kept.{kind_of}
use Rattle.capture3.specs.ReadAs.{kind_of_read}
use Rattle.capture3.specs.machinery.Calls.{Known}
use Rattle.capture3.specs.machinery.Container.{CanGoOn, TakesPiece, room_in}
use Rattle.capture3.specs.machinery.InPlace.{LiesIn}
use Rattle.capture3.specs.machinery.Pairing.{CountsMessages, FailsAt, GoesTo, IsOfBytes, MeetsEvent, entry_cost}
use Rattle.record_mark.specs.Taking.{released}

-- An entry is of this kind, and for this procedure where it is a message.
abbrev pub IsOfKind : Kind → Entry → Type 0
IsOfKind kinds.Begin entry = entry ≡ Begin
IsOfKind (kinds.Call id) entry = (items : List Item) × (id ≡ procedure_in items)
    × (entry ≡ Call items)
IsOfKind kinds.Turn entry = entry ≡ Turn
IsOfKind (kinds.Reply id) entry = (items : List Item) × (entry ≡ Reply id items)
IsOfKind kinds.Close entry = entry ≡ Close
IsOfKind kinds.End entry = entry ≡ End

abbrev pub kind_lent : Option LentEntry → Option Kind
kind_lent None = None
kind_lent (Some entry) = Some (kind_of entry)

abbrev pub kind_read : Option EntryRef → Option Kind
kind_read None = None
kind_read (Some entry) = Some (kind_of_read entry)

-- the kind is that of the entry, which the visitor was passed
abbrev pub IsNextOfKind : (Passed : Entry → Type 0) → (handed : List Entry) → Kind → Entry → Type 0
IsNextOfKind Passed handed kind entry = IsOfKind kind entry × Passed entry

-- How many bytes of a piece were taken for the next entry: none if it is of kept streams. The
-- container stays ready for the next bytes. Without an entry the visitor is as it was.
pub record TakesNext {V C : Type 0} (piece : List ℕ) (was now : V) (old new : Pairing C)
    (count : ℕ) : Type 0 where
  pub taken : TakesPiece piece (count, new.last)
  pub recalling : old.container.cursor ≢ None → (count ≡ 0) × (new.last ≢ None)
  pub lies : LiesIn new.container.joiner (take count piece)
  pub not_end : new.last ≢ Some kinds.End
  pub unmoved : new.last ≡ None → now ≡ was
  pub counted : CountsMessages new.last old.calls_taken old.replies_taken new.calls_taken
      new.replies_taken
  pub ready : CanGoOn new.container.cursor (released new.container.joiner.taking) new.container
  pub room : room_in new.container + entry_cost new.last ≤ room_in old.container

-- ---- what taking the record that is whole leaves

module _ {C : Type 0} (known : C → Known) where
  -- it is the next entry, which the visitor was passed, and a call joins those of its connection
  pub record TakesMessage (Passed : Entry → Type 0) (side : Side) (old new : Pairing C) : Type 0
    where
      pub some : new.last ≢ None
      pub not_end : new.last ≢ Some kinds.End
      pub counted : CountsMessages new.last old.calls_taken old.replies_taken new.calls_taken
          new.replies_taken
      pub machine : (bytes : List ℕ) (entries : List Entry)
          → MeetsEvent old.container (known old.calls) (Record side) bytes entries
          → GoesTo Passed new.last new.number new.container (known new.calls) bytes entries

  -- the fault of the record, or memory ran out: no device failed
  pub record RefusesMessage (side : Side) (old new : Pairing C) : Type 0 where
    pub device : IsOfBytes new.error
    pub fault : (bytes : List ℕ) (entries : List Entry)
        → MeetsEvent old.container (known old.calls) (Record side) bytes entries
        → FailsAt bytes entries new.error
