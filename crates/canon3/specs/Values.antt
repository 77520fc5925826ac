-- The values in the entries of a capture that a renaming changes.
use Rattle.std.specs.Prelude.{ℕ, List, [], ◌∷◌, ◌++◌}
use Rattle.capture3.specs.OpenXids.{xid_of}
use Rattle.std.specs.List.{flat_map}
use Rattle.xdr3.specs.Item.{Item, Opaque, Handle, WriteVerf}
use Rattle.capture3.specs.Entry.{Entry, Begin, Call, Turn, Reply, Close, End, items_of}

-- the handle of an item, where it has one that is not empty (nfs_fh3, RFC 1813)
abbrev pub handle_in : Item → List (List ℕ)
handle_in (Opaque Handle name (b ∷ bs)) = (b ∷ bs) ∷ []
handle_in _ = []

-- the write verifier of an item (RFC 1813, sections 3.3.7 and 3.3.21)
abbrev pub verifier_in : Item → List (List ℕ)
verifier_in (WriteVerf name bytes) = bytes ∷ []
verifier_in _ = []

-- the handles of a message, in order
abbrev pub handles_in : List Item → List (List ℕ)
handles_in items = flat_map handle_in items

-- the write verifiers of a message, in order
abbrev pub verifiers_in : List Item → List (List ℕ)
verifiers_in items = flat_map verifier_in items

-- all handles that are not empty, in order
abbrev pub handles : List Entry → List (List ℕ)
handles es = flat_map (λ e. handles_in (items_of e)) es

-- all write verifiers, in order
abbrev pub verifiers : List Entry → List (List ℕ)
verifiers es = flat_map (λ e. verifiers_in (items_of e)) es

-- the xids of the calls up to the next Begin, in order
abbrev pub call_xids : List Entry → List ℕ
call_xids [] = []
call_xids (Begin ∷ es) = []
call_xids (Call items ∷ es) = xid_of items ++ call_xids es
call_xids (Turn ∷ es) = call_xids es
call_xids (Reply id items ∷ es) = call_xids es
call_xids (Close ∷ es) = call_xids es
call_xids (End ∷ es) = call_xids es
