-- Which handles a table holds.
use Rattle.std.specs.Prelude.{◌≡◌, ℕ, Bool, List, [], map, bytes_eq}
use Rattle.std.specs.List.{flat_map}
use Rattle.xdr3.specs.Item.{Item}
use Rattle.nfs3_types.specs.declared.values.handle.Handle.{Handle}
use Rattle.nfs3_types.specs.Handle.{handle_bytes}
use Rattle.capture3.specs.Entry.{Entry, items_of}
use Rattle.capture3.specs.Rank.{HoldsDistinct}
use Rattle.canon3.specs.Values.{handles_in}

-- the two have the same bytes (nfs_fh3, RFC 1813)
abbrev pub same_handle : Handle → Handle → Bool
same_handle a b = bytes_eq (handle_bytes a) (handle_bytes b)

-- the table holds the distinct ones of the handles with these bytes
abbrev pub HoldsHandles : List Handle → List (List ℕ) → Type 0
HoldsHandles table hs = (given : List Handle) × HoldsDistinct same_handle table given
    × (map handle_bytes given ≡ hs)

-- the same of the handles of items that are not empty
abbrev pub Gathers : List Handle → List Item → Type 0
Gathers table items = HoldsHandles table (handles_in items)

-- the items of all messages, in order
abbrev pub all_items : List Entry → List Item
all_items entries = flat_map items_of entries

-- the form of a writer of nothing, which cannot fail
abbrev pub nothing : List Entry → List ℕ
nothing entries = []

abbrev pub always_going : List Handle → Type 0
always_going table = Unit {0}
