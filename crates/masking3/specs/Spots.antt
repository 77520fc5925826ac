-- Where an item stands in its message, as far as its class depends on that.
use Rattle.std.specs.Prelude.{ℕ, ◌==◌, bytes_eq, if◌then◌else◌, List}
use Rattle.xdr3.specs.Item.{Item, Word, called}
use Rattle.masking3.specs.declared.values.spot.ItemSpot.{ItemSpot}
use Rattle.masking3.specs.declared.values.spot.ItemSpot.TheVariants.{InCall, InReply, InDirectory, InWcc}

-- A word `before` begins wcc_data (RFC 1813). A word `type` begins a fattr3, which is
-- a directory's if it is NF3DIR (2).
abbrev pub after_word : ItemSpot → List ℕ → ℕ → ItemSpot
after_word spot name n =
    (if bytes_eq name (called "before") then InWcc else
    (if bytes_eq name (called "type") then (if n == 2 then InDirectory else InReply) else
    spot))

-- The spot of what follows an item. No results go on after wcc_data with attributes of other kinds
-- (RFC 1813, section 3.3).
abbrev pub next_spot : ItemSpot → Item → ItemSpot
next_spot InCall item = InCall
next_spot InReply (Word name n) = after_word InReply name n
next_spot InReply item = InReply
next_spot InDirectory (Word name n) = after_word InDirectory name n
next_spot InDirectory item = InDirectory
next_spot InWcc item = InWcc
