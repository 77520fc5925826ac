-- The masked form.
use Rattle.std.specs.Prelude.{ℕ, ◌==◌, ◌&&◌, Bool, not, nat_eq, if◌then◌else◌, List, [], ◌∷◌, ◌++◌, Option, None, Some, map}
use Rattle.std.specs.List.{flat_map}
use Rattle.byteorder.specs.Endian.{big_bytes}
use Rattle.xdr3.specs.Item.{Item, Word, Hyper, Fixed}
use Rattle.capture3.specs.Entry.{Entry, Call, Reply}
use Rattle.canon3.specs.Bytes.{bytes_of}
use Rattle.capture3.specs.Rank.{rank}
use Rattle.masking3.specs.declared.values.class.Class.{Class}
use Rattle.masking3.specs.declared.values.spot.ItemSpot.{ItemSpot}
use Rattle.masking3.specs.declared.values.spot.ItemSpot.TheVariants.{InCall, InReply}
use Rattle.masking3.specs.declared.values.ways.Way.{Way}
use Rattle.masking3.specs.declared.values.ways.Way.TheVariants.{Keep, Zero, Number}
use Rattle.masking3.specs.declared.values.ways.Ways.{Ways}
use Rattle.masking3.specs.Classes.{class_of, position, class_value, zero_stays}
use Rattle.masking3.specs.Spots.{next_spot}
use Rattle.masking3.specs.Unnamed.{names_by}
use Rattle.masking3.specs.Ways.{way_of}

-- ---- the values of a class

-- it is a 0 that has a meaning of its own
abbrev pub is_zero_that_stays : Class → ℕ → Bool
is_zero_that_stays class n = zero_stays class && (n == 0)

-- the value, where it is of the class and no 0 that stays
abbrev pub value_where : Class → Option Class → ℕ → List ℕ
value_where class None n = []
value_where class (Some other) n =
    if (position class == position other) && not (is_zero_that_stays class n) then n ∷ [] else []

abbrev pub value_in : Class → ItemSpot → Item → List ℕ
value_in class spot item = value_where class (class_of spot item) (class_value item)

-- the values of a class in the items of a message from this spot on, in order
abbrev pub values_in : Class → ItemSpot → List Item → List ℕ
values_in class spot [] = []
values_in class spot (item ∷ items) =
    value_in class spot item ++ values_in class (next_spot spot item) items

abbrev pub values_in_entry : Class → Entry → List ℕ
values_in_entry class (Call items) = values_in class InCall items
values_in_entry class (Reply id items) = values_in class InReply items
values_in_entry class _ = []

-- the values of a class in these entries, in order
abbrev pub values : List Entry → Class → List ℕ
values entries class = flat_map (values_in_entry class) entries

-- ---- what becomes of an item

-- its number among these values, from 1
abbrev pub number_among : List ℕ → Class → ℕ → ℕ
number_among seen class n = if is_zero_that_stays class n then 0 else rank nat_eq n seen

-- what stands for a value of the class, where something does
abbrev pub by_way : Way → List ℕ → Class → ℕ → Option ℕ
by_way Keep seen class n = None
by_way Zero seen class n = Some 0
by_way Number seen class n = Some (number_among seen class n)

abbrev pub substitute : Ways → (Class → List ℕ) → Option Class → ℕ → Option ℕ
substitute ways seen None n = None
substitute ways seen (Some class) n = by_way (way_of ways class) (seen class) class n

-- the item with another value, in its own width
abbrev pub with_value : Item → Option ℕ → Item
with_value item None = item
with_value (Word name n) (Some m) = Word name m
with_value (Hyper name n) (Some m) = Hyper name m
with_value (Fixed name bytes) (Some m) = Fixed name (big_bytes 8 m)
with_value item (Some m) = item

-- an item at this spot whose value is masked, where these are the values of each class
abbrev pub masked_item : Ways → (Class → List ℕ) → ItemSpot → Item → Item
masked_item ways seen spot item =
    with_value item (substitute ways seen (class_of spot item) (class_value item))

-- the items of a message from this spot on
abbrev pub masked_items : Ways → (Class → List ℕ) → ItemSpot → List Item → List Item
masked_items ways seen spot [] = []
masked_items ways seen spot (item ∷ items) =
    masked_item ways seen spot item ∷ masked_items ways seen (next_spot spot item) items

-- ---- entries

abbrev pub masked_entry : Ways → (Class → List ℕ) → Entry → Entry
masked_entry ways seen (Call items) = Call (masked_items ways seen InCall items)
masked_entry ways seen (Reply id items) = Reply id (masked_items ways seen InReply items)
masked_entry ways seen entry = entry

-- each value of a class is masked in the way of its class, and numbers are by rank among all of
-- the capture
abbrev pub masked_values : Ways → List Entry → List Entry
masked_values ways entries = map (masked_entry ways (values entries)) entries

-- values are masked, and names
abbrev pub masked : Ways → List Entry → List Entry
masked ways entries = names_by ways (masked_values ways entries)

-- the bytes of the masked form: one chunk and one fragment for each record, and residual bytes
-- of zero
abbrev pub masked_bytes : Ways → List Entry → List ℕ
masked_bytes ways entries = bytes_of (masked ways entries)
