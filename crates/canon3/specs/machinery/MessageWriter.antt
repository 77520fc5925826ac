-- A writer of messages with numbers in place of file handles and write verifiers, which are noted
-- as replacements in a message's body after its xid.
use Rattle.std.specs.Prelude.{◌≡◌, ℕ, false, ◌<◌, ◌^◌, List, [], ◌∷◌, ◌++◌, length, drop, bytes_eq}
use Rattle.xdr3.specs.Item.{Item, Word, Rest, Spells, word_bytes, zero_spelling}
use Rattle.patches.specs.Patches.{Makes, Noted, patched}
use Rattle.capture3.specs.Entry.{Entry}
use Rattle.canon3.specs.declared.canonical_form.message_writer.MessageWriter.{MessageWriter}
use Rattle.canon3.specs.CanonicalStream.{items_after}
use Rattle.canon3.specs.HandleTable.{HoldsHandles}
use Rattle.capture3.specs.Rank.{HoldsDistinct}
use Rattle.canon3.specs.Values.{handles, handles_in, verifiers, verifiers_in}

-- no more of each than a table has numbers for
abbrev pub AreFew : (hs vs : List (List ℕ)) → Type 0
AreFew hs vs = (length hs < 2 ^ 32) × (length vs < 2 ^ 32)

-- what was there before a message: the handles and the write verifiers
pub record Before : Type 0 where
  pub handles : List (List ℕ)
  pub verifiers : List (List ℕ)

-- the values of these entries
abbrev pub values_of : List Entry → Before
values_of entries = record { handles = handles entries; verifiers = verifiers entries }

-- the tables hold these
pub record HoldsBefore {S H : Type 0} (n : MessageWriter S H) (before : Before) : Type 0 where
  pub handles : HoldsHandles n.handles before.handles
  pub verifiers : HoldsDistinct bytes_eq n.verfs before.verifiers

-- ---- within a message

-- Whatever body spells the items, its replacements make the zero spelling of the others of it.
abbrev pub IsNotedAs : Noted → (items others : List Item) → Type 0
IsNotedAs noted items others =
    (body : List ℕ) → Spells items body → length body < 2 ^ 64
    → Makes noted body (zero_spelling others)

-- the items after the xid are noted as those with numbers
abbrev pub IsNotedMessage : Noted → Before → List Item → Type 0
IsNotedMessage noted before items =
    AreFew (before.handles ++ handles_in items) (before.verifiers ++ verifiers_in items)
    → IsNotedAs noted items (items_after before.handles before.verifiers items)

-- a message that is open: its xid, and the items after it
pub record IsWithinMessage {S H : Type 0} (n : MessageWriter S H) (before : Before)
    (items : List Item) : Type 0 where
  pub name : List ℕ
  pub xid : ℕ
  pub rest : List Item
  pub begins : items ≡ Word name xid ∷ rest
  pub handles : HoldsHandles n.handles (before.handles ++ handles_in rest)
  pub verifiers : HoldsDistinct bytes_eq n.verfs (before.verifiers ++ verifiers_in rest)
  pub noted : IsNotedMessage n.patches before rest

-- A visitor stands for lists of items alone. So items in front of the message's own tell what was
-- there before it.
abbrev pub in_front_of : List (List ℕ) → List Item → List Item
in_front_of [] items = Word [] 0 ∷ items
in_front_of (x ∷ xs) items = Rest [] x ∷ in_front_of xs items

abbrev pub items_of_writer : Before → List Item → List Item
items_of_writer before items = in_front_of before.handles (in_front_of before.verifiers items)

-- the values of the entries so far, in front of the next message
abbrev pub values_before : List Entry → List Item
values_before entries = items_of_writer (values_of entries) []

-- a message under way, and what was there before it
pub record HasMessageUnderWay {S H : Type 0} (n : MessageWriter S H)
    (all : List Item) : Type 0 where
  pub before : Before
  pub items : List Item
  pub are : all ≡ items_of_writer before items
  pub under_way : IsWithinMessage n before items

-- no message is open
pub record HasNoMessage {S H : Type 0} (n : MessageWriter S H) (all : List Item) : Type 0 where
  pub before : Before
  pub are : all ≡ items_of_writer before []
  pub holds : HoldsBefore n before
  pub fresh : Makes n.patches [] []

-- the message with this body: the number of its xid, and what is made of the other bytes
abbrev pub message_of : {S H : Type 0} → MessageWriter S H → (body : List ℕ) → List ℕ
message_of n body = word_bytes n.xid ++ patched n.patches (drop 4 body)

-- it has not failed
abbrev pub IsGoing : {S H : Type 0} → MessageWriter S H → Type 0
IsGoing n = n.failed ≡ false

-- nothing is said of one that has failed
abbrev pub WriterStands : {S H : Type 0} → MessageWriter S H → List Item → Type 0
WriterStands n all = IsGoing n → HasMessageUnderWay n all

abbrev pub WriterRests : {S H : Type 0} → MessageWriter S H → List Item → Type 0
WriterRests n all = IsGoing n → HasNoMessage n all
