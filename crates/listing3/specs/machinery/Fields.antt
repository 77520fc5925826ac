-- Names of fields, and runs of them.
use Rattle.std.specs.Prelude.{◌≡◌, ℕ, ◌+◌, ◌*◌, ◌≤◌, List, length}
use Rattle.std.specs.List.{All}
use Rattle.xdr3.specs.Plain.{run_items, run_size}
use Rattle.xdr3.specs.declared.plain.PlainField.{PlainField}
use Rattle.xdr3.specs.declared.plain.PlainField.TheVariants as fields
use Rattle.listing3.specs.Listing.{shown_items}
use Rattle.listing3.specs.machinery.PutsBytes.{PutsBytes}

abbrev pub field_name : PlainField → List ℕ
field_name (fields.Word name) = name.now
field_name (fields.Hyper name) = name.now

-- the name has at most 42 bytes, so the text of the field has at most 64
abbrev pub HasShortName : PlainField → Type 0
HasShortName field = length (field_name field) ≤ 42

-- so many fields with short names, which these bytes begin with
pub record HasFields (count : ℕ) (run : List PlainField) (bytes : List ℕ) : Type 0 where
  pub count_is : length run ≡ count
  pub short : All HasShortName run
  pub size : run_size run ≤ length bytes

-- From the old room to the new one the texts of so many fields were put at a position. `ends` is
-- the position after them, and how many of the bytes they have.
pub record PutsFields (count : ℕ) (run : List PlainField) (bytes : List ℕ)
    (room : List ℕ × List ℕ) (at : ℕ) (ends : ℕ × ℕ) : Type 0 where
  pub within : ends.0 ≤ at + 64 * count
  pub size : ends.1 ≡ run_size run
  pub puts : PutsBytes room.0 room.1 at ends.0 (shown_items (run_items run bytes))
