-- The bytes of a list of entries: one chunk for each record, one fragment for each record, and
-- residual bytes of zero.
use Rattle.std.specs.Prelude.{ℕ, ◌+◌, ◌==◌, ◌^◌, List, [], ◌∷◌, ◌++◌, if◌then◌else◌, length}
use Rattle.std.specs.List.{flat_map}
use Rattle.xdr3.specs.Item.{Item, zero_spelling, word_bytes}
use Rattle.capture3.specs.Capture.{One, magic}
use Rattle.capture3.specs.Entry.{Entry, Begin, Call, Turn, Reply, Close, End}

-- the header of one last fragment, and the body (RFC 5531, section 11)
abbrev pub record_bytes : List ℕ → List ℕ
record_bytes body = word_bytes (2 ^ 31 + length body) ++ body

-- a length word, and so many bytes
abbrev pub chunk_bytes : List ℕ → List ℕ
chunk_bytes bytes = word_bytes (length bytes) ++ bytes

-- one chunk, which is one record of one fragment
abbrev pub message_bytes : List Item → List ℕ
message_bytes items = chunk_bytes (record_bytes (zero_spelling items))

-- the word 1 before a connection, the word 0 after a stream and after the connections
abbrev pub entry_bytes : Entry → List ℕ
entry_bytes Begin = word_bytes 1
entry_bytes (Call items) = message_bytes items
entry_bytes Turn = word_bytes 0
entry_bytes (Reply id items) = message_bytes items
entry_bytes Close = word_bytes 0
entry_bytes End = word_bytes 0

-- the magic stands before the first connection, and before the end where there is none
abbrev pub magic_before : (connections : ℕ) → List ℕ
magic_before connections = if connections == 0 then magic One else []

-- the magic, and each entry's bytes; no entries have no bytes
abbrev pub bytes_of : List Entry → List ℕ
bytes_of [] = []
bytes_of (entry ∷ entries) = magic One ++ flat_map entry_bytes (entry ∷ entries)
