-- The canonical form.
use Rattle.std.specs.Prelude.{ℕ, List, [], ◌∷◌, map, nat_eq, bytes_eq}
use Rattle.byteorder.specs.Endian.{big_bytes}
use Rattle.xdr3.specs.Item.{Item, Word, Opaque, Handle, WriteVerf, word_bytes}
use Rattle.capture3.specs.Entry.{Entry, Begin, Call, Turn, Reply, Close, End}
use Rattle.canon3.specs.Bytes.{bytes_of}
use Rattle.canon3.specs.Values.{handles, verifiers, call_xids}
use Rattle.capture3.specs.Rank.{rank}

-- an item with numbers by rank among these handles and verifiers
abbrev pub numbered_item : (hs vs : List (List ℕ)) → Item → Item
numbered_item hs vs (Opaque Handle name (b ∷ bs)) =
    Opaque Handle name (word_bytes (rank bytes_eq (b ∷ bs) hs))
numbered_item hs vs (WriteVerf name v) = WriteVerf name (big_bytes 8 (rank bytes_eq v vs))
numbered_item hs vs item = item

-- a message with the number of its xid among these, and its items numbered
abbrev pub numbered_message : (hs vs : List (List ℕ)) (xs : List ℕ) → List Item → List Item
numbered_message hs vs xs (Word name x ∷ items) =
    Word name (rank nat_eq x xs) ∷ map (numbered_item hs vs) items
numbered_message hs vs xs items = map (numbered_item hs vs) items

-- entries with numbers among these values, where xs are the xids of the open connection's calls
abbrev pub numbered : (hs vs : List (List ℕ)) (xs : List ℕ) → List Entry → List Entry
numbered hs vs xs [] = []
numbered hs vs xs (Begin ∷ es) = Begin ∷ numbered hs vs (call_xids es) es
numbered hs vs xs (Call items ∷ es) = Call (numbered_message hs vs xs items) ∷ numbered hs vs xs es
numbered hs vs xs (Turn ∷ es) = Turn ∷ numbered hs vs xs es
numbered hs vs xs (Reply id items ∷ es) =
    Reply id (numbered_message hs vs xs items) ∷ numbered hs vs xs es
numbered hs vs xs (Close ∷ es) = Close ∷ numbered hs vs xs es
numbered hs vs xs (End ∷ es) = End ∷ numbered hs vs xs es

-- handles and write verifiers by rank among all of the capture, xids by rank among those of their
-- connection's calls
abbrev pub canonical : List Entry → List Entry
canonical es = numbered (handles es) (verifiers es) [] es

-- the bytes of the canonical form
abbrev pub canonical_bytes : List Entry → List ℕ
canonical_bytes es = bytes_of (canonical es)
