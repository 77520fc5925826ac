-- The xids that are open after some entries.
use Rattle.std.specs.Prelude.{ℕ, List, [], ◌∷◌, ◌++◌}
use Rattle.xdr3.specs.Item.{Item, Word}
use Rattle.capture3.specs.Entry.{Entry, Begin, Call}

-- the xid of a message, which is its first item (RFC 5531, section 9)
abbrev pub xid_of : List Item → List ℕ
xid_of (Word name x ∷ items) = x ∷ []
xid_of _ = []

-- the xids of the open connection's calls after these entries, where they were xs before
abbrev pub open_xids : (xs : List ℕ) → List Entry → List ℕ
open_xids xs [] = xs
open_xids xs (Begin ∷ es) = open_xids [] es
open_xids xs (Call items ∷ es) = open_xids (xs ++ xid_of items) es
open_xids xs (_ ∷ es) = open_xids xs es
