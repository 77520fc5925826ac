-- The canonical form made entry by entry, as a reader of a stream makes it: a number is the rank
-- among the values so far.
use Rattle.std.specs.Prelude.{ℕ, List, [], ◌∷◌, ◌++◌, nat_eq}
use Rattle.xdr3.specs.Item.{Item, Word}
use Rattle.capture3.specs.Entry.{Entry, Begin, Call, Turn, Reply, Close, End}
use Rattle.capture3.specs.OpenXids.{xid_of}
use Rattle.canon3.specs.Values.{handle_in, verifier_in, handles_in, verifiers_in}
use Rattle.capture3.specs.Rank.{rank}
use Rattle.canon3.specs.Canonical.{numbered_item}

-- items, where hs and vs are the handles and write verifiers before them
abbrev pub items_after : (hs vs : List (List ℕ)) → List Item → List Item
items_after hs vs [] = []
items_after hs vs (i ∷ items) =
    numbered_item (hs ++ handle_in i) (vs ++ verifier_in i) i
    ∷ items_after (hs ++ handle_in i) (vs ++ verifier_in i) items

-- a message, where xs are the xids of the open connection's calls so far, this one's too
abbrev pub message_after : (hs vs : List (List ℕ)) (xs : List ℕ) → List Item → List Item
message_after hs vs xs (Word name x ∷ items) =
    Word name (rank nat_eq x xs) ∷ items_after hs vs items
message_after hs vs xs items = items_after hs vs items

-- entries, where hs, vs and xs are the values before them
abbrev pub entries_after : (hs vs : List (List ℕ)) (xs : List ℕ) → List Entry → List Entry
entries_after hs vs xs [] = []
entries_after hs vs xs (Begin ∷ es) = Begin ∷ entries_after hs vs [] es
entries_after hs vs xs (Call items ∷ es) =
    Call (message_after hs vs (xs ++ xid_of items) items)
    ∷ entries_after (hs ++ handles_in items) (vs ++ verifiers_in items) (xs ++ xid_of items) es
entries_after hs vs xs (Turn ∷ es) = Turn ∷ entries_after hs vs xs es
entries_after hs vs xs (Reply id items ∷ es) =
    Reply id (message_after hs vs xs items)
    ∷ entries_after (hs ++ handles_in items) (vs ++ verifiers_in items) xs es
entries_after hs vs xs (Close ∷ es) = Close ∷ entries_after hs vs xs es
entries_after hs vs xs (End ∷ es) = End ∷ entries_after hs vs xs es
