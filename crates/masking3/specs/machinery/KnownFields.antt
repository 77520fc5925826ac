-- Fields whose classes are known by their names: those of attributes, and words that stay.
use Rattle.std.specs.Prelude.{◌≡◌, ℕ, ◌==◌, ◌+◌, true, false, Bool, not, if◌then◌else◌, List, [], ◌∷◌, ◌++◌, Option, drop, get_or, length}
use Rattle.byteorder.specs.Endian.{big_number}
use Rattle.xdr3.specs.declared.plain.PlainField.{PlainField}
use Rattle.xdr3.specs.declared.plain.PlainField.TheVariants as fields
use Rattle.xdr3.specs.Item.{Item, Word, Hyper, called}
use Rattle.masking3.specs.declared.values.class.Class.{Class}
use Rattle.masking3.specs.declared.masking_writer.MaskingWriter.{MaskingWriter}
use Rattle.masking3.specs.declared.values.spot.ItemSpot.{ItemSpot}
use Rattle.masking3.specs.Classes.{class_of_word, is_one_of}
use Rattle.masking3.specs.declared.values.ways.Way.{Way}
use Rattle.masking3.specs.declared.values.ways.Way.TheVariants.{Keep}
use Rattle.masking3.specs.Spots.{next_spot}
use Rattle.masking3.specs.machinery.UnnamedBody.{body_word}

-- ---- words that stay

-- of users and groups
abbrev pub owner_names : List (List ℕ)
owner_names = (called "uid") ∷ (called "gid") ∷ (called "group") ∷ []

-- By its length and its first letter this is neither the name of a word that has a class, nor
-- `mtype`, `type` or `before`.
abbrev pub is_free_name : List ℕ → Bool
is_free_name name =
    (if length name == 3 then get_or name 0 0 == 120 else
    (if length name == 4 then not (get_or name 0 0 == 116) else
    (if length name == 6 then not (get_or name 0 0 == 98) else
    (if length name == 7 then true else
    (if length name == 10 then get_or name 0 0 == 114 else
    (length name == 11))))))

abbrev pub is_keep : Way → Bool
is_keep Keep = true
is_keep _ = false

-- a word of this name stays, where this becomes of users and groups
abbrev pub is_kept_name : Way → List ℕ → Bool
is_kept_name owners name = if is_one_of owner_names name then is_keep owners else is_free_name name

abbrev pub is_kept_field : Way → PlainField → Bool
is_kept_field owners (fields.Word name) = is_kept_name owners name.now
is_kept_field owners (fields.Hyper name) = false

abbrev pub IsKeptItem : Way → Item → Type 0
IsKeptItem owners (Word name n) = is_kept_name owners name ≡ true
IsKeptItem owners _ = ⊥

-- ---- attributes (fattr3, RFC 1813)

-- the item of a field whose bytes are zeros
abbrev pub field_item : PlainField → Item
field_item (fields.Word name) = Word name.now 0
field_item (fields.Hyper name) = Hyper name.now 0

-- such items, with the numbers that these bytes spell from a place on
abbrev pub numbered_from : ℕ → List ℕ → List Item → List Item
numbered_from at bytes [] = []
numbered_from at bytes (Word name n ∷ more) =
    Word name (body_word at bytes) ∷ numbered_from (at + 4) bytes more
numbered_from at bytes (Hyper name n ∷ more) =
    Hyper name (big_number 8 (drop at bytes)) ∷ numbered_from (at + 8) bytes more
numbered_from at bytes (_ ∷ more) = numbered_from at bytes more

abbrev pub first_fields : List Item
first_fields =
    Word (called "mode") 0 ∷ Word (called "nlink") 0 ∷ Word (called "uid") 0 ∷ Word (called "gid") 0
    ∷ []

abbrev pub next_fields : List Item
next_fields =
    Hyper (called "size") 0 ∷ Hyper (called "used") 0 ∷ Word (called "rdev1") 0
    ∷ Word (called "rdev2") 0
    ∷ Hyper (called "fsid") 0 ∷ Hyper (called "fileid") 0 ∷ []

abbrev pub last_fields : List Item
last_fields =
    Word (called "atime_sec") 0 ∷ Word (called "atime_nsec") 0 ∷ Word (called "mtime_sec") 0
    ∷ Word (called "mtime_nsec") 0 ∷ Word (called "ctime_sec") 0 ∷ Word (called "ctime_nsec") 0 ∷ []

-- a fattr3 after its type
abbrev pub attribute_fields : List Item
attribute_fields = first_fields ++ (next_fields ++ last_fields)

abbrev pub attributes_in : List ℕ → List Item
attributes_in bytes = numbered_from 0 bytes attribute_fields

-- at this spot a word of this name has this class, and moves nowhere
abbrev pub IsKnown : ItemSpot → Option Class → List ℕ → Type 0
IsKnown spot class name =
    (class_of_word spot name ≡ class) × ((n : ℕ) → next_spot spot (Word name n) ≡ spot)

-- a writer that wrote these bytes too
abbrev pub with_run : {P S H : Type 0} → MaskingWriter P S H → List ℕ → MaskingWriter P S H
with_run w run = record {
  handles = w.handles;
  classes = w.classes;
  writer = w.writer ++ run;
  spot = w.spot;
  failed = w.failed;
  plan = w.plan;
}
