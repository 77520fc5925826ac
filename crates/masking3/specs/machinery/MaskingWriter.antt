-- A writer of messages with masked values.
use Rattle.std.specs.Prelude.{◌≡◌, ℕ, ◌==◌, ◌&&◌, false, not, if◌then◌else◌, List, [], ◌∷◌, ◌++◌, length, map, Option, None, Some}
use Rattle.std.specs.List.{flat_map}
use Rattle.xdr3.specs.Item.{Item, Word, Hyper, word_bytes, zero_spelling}
use Rattle.capture3.specs.declared.fault.Side.{Side}
use Rattle.capture3.specs.declared.fault.Side.TheVariants.{Client}
use Rattle.capture3.specs.Entry.{Entry, Call, Reply}
use Rattle.capture3.specs.declared.reader.entry.Kind.{Kind}
use Rattle.capture3.specs.declared.reader.entry.Kind.TheVariants as kinds
use Rattle.canon3.specs.Bytes.{chunk_bytes, record_bytes}
use Rattle.canon3.specs.HandleTable.{Gathers}
use Rattle.masking3.specs.declared.values.class.Class.{Class}
use Rattle.masking3.specs.declared.masking_writer.MaskingWriter.{MaskingWriter}
use Rattle.masking3.specs.declared.values.spot.ItemSpot.{ItemSpot}
use Rattle.masking3.specs.declared.values.spot.ItemSpot.TheVariants.{InCall, InReply}
use Rattle.masking3.specs.declared.values.ways.Way.{Way}
use Rattle.masking3.specs.declared.values.ways.Ways.{Ways}
use Rattle.masking3.specs.Classes.{class_of, class_value, position}
use Rattle.masking3.specs.Masked.{is_zero_that_stays, masked_items, values_in}
use Rattle.masking3.specs.Spots.{next_spot}
use Rattle.masking3.specs.Texts.{with_text}
use Rattle.masking3.specs.machinery.ClassTables.{HoldsValues}
use Rattle.masking3.specs.machinery.MessageSpot.{BeginsOn, first_spot, spot_after}
use Rattle.masking3.specs.machinery.UnnamedBody.{body_by}

-- ---- the messages before

-- What stands for an item of this class, or of none: its value, under the place of the class, or
-- the item.
abbrev pub visited_item : Option Class → Item → Item
visited_item (Some class) item = Hyper (position class ∷ []) (class_value item)
visited_item None (Hyper name n) = Hyper [] n
visited_item None item = item

-- what stands for the items of a message from this spot on
abbrev pub visited_items : ItemSpot → List Item → List Item
visited_items spot [] = []
visited_items spot (item ∷ items) =
    visited_item (class_of spot item) item ∷ visited_items (next_spot spot item) items

abbrev pub visited_entry : Entry → List Item
visited_entry (Call items) = visited_items InCall items
visited_entry (Reply id items) = visited_items InReply items
visited_entry _ = []

-- the value of a class in what stands for an item
abbrev pub visited_value : Class → Item → List ℕ
visited_value class (Hyper (place ∷ name) n) =
    if (position class == place) && not (is_zero_that_stays class n) then n ∷ [] else []
visited_value class _ = []

-- What stands for the items of the messages before is in front of the message's own, and how many
-- these are in front of all.
abbrev pub after_messages : (front items : List Item) → List Item
after_messages front items = Word [] (length front) ∷ (front ++ items)

-- the values of each class so far
abbrev pub values_so_far : (front : List Item) → Side → (items : List Item) → Class → List ℕ
values_so_far front side items class =
    flat_map (visited_value class) front ++ values_in class (first_spot side) items

-- ---- what a writer holds

-- these items of a message, after those before
pub record HoldsMasked {P S H : Type 0} (ways : Ways) (w : MaskingWriter P S H)
    (front : List Item) (side : Side) (items : List Item) : Type 0 where
  pub ways_are : w.classes.ways ≡ ways
  pub tables : HoldsValues ways w.classes.numbers.items (values_so_far front side items)
  pub handles : Gathers w.handles (front ++ items)
  pub written : w.writer
      ≡ zero_spelling (map (with_text ways)
      (masked_items ways (values_so_far front side items) (first_spot side) items))

-- a message that is open
pub record HasMaskedUnderWay {P S H : Type 0} (ways : Ways) (w : MaskingWriter P S H)
    (all : List Item) : Type 0 where
  pub front : List Item
  pub side : Side
  pub items : List Item
  pub are : all ≡ after_messages front items
  pub begins : BeginsOn side items
  pub spot_is : w.spot ≡ spot_after (first_spot side) items
  pub holds : HoldsMasked ways w front side items

-- no message is open
pub record HasNoneUnderWay {P S H : Type 0} (ways : Ways) (w : MaskingWriter P S H)
    (all : List Item) : Type 0 where
  pub front : List Item
  pub are : all ≡ after_messages front []
  pub holds : HoldsMasked ways w front Client []

-- memory did not run out
abbrev pub HasMemory : {P S H : Type 0} → MaskingWriter P S H → Type 0
HasMemory w = w.failed ≡ false

-- nothing is said of one that has failed
abbrev pub MaskStands : {P S H : Type 0} → Ways → MaskingWriter P S H → List Item → Type 0
MaskStands ways w all = HasMemory w → HasMaskedUnderWay ways w all

abbrev pub MaskRests : {P S H : Type 0} → Ways → MaskingWriter P S H → List Item → Type 0
MaskRests ways w all = HasMemory w → HasNoneUnderWay ways w all

-- what stands for entries that were written
abbrev pub visited_before : List Entry → List Item
visited_before entries = after_messages (flat_map visited_entry entries) []

-- the word 0, the word 1, or a message with this body, where names of machines are masked so
abbrev pub written_as : Way → Kind → List ℕ → List ℕ
written_as way kinds.Begin body = word_bytes 1
written_as way (kinds.Call id) body = chunk_bytes (record_bytes (body_by way body))
written_as way kinds.Turn body = word_bytes 0
written_as way (kinds.Reply id) body = chunk_bytes (record_bytes body)
written_as way kinds.Close body = word_bytes 0
written_as way kinds.End body = word_bytes 0
