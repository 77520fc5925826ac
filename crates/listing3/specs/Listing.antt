-- The listing of a capture: one line for each message.
use Rattle.std.specs.Prelude.{ℕ, ◌+◌, ◌==◌, ◌&&◌, not, nat_le, Bool, if◌then◌else◌, List, [], ◌∷◌, ◌++◌, Option, Some, None, codes, decimal}
use Rattle.std.specs.List.{flat_map}
use Rattle.hex.specs.Hex.{encode_lower}
use Rattle.xdr3.specs.Item.{Item, Word, Hyper, Fixed, WriteVerf, Opaque, Rest, Kind, Var, Text, Handle}
use Rattle.rpc_head.specs.declared.values.call.ProcId.{ProcId}
use Rattle.rpc_head.specs.Messages.{procedure_in}
use Rattle.procs3.specs.Table.{name_of_procedure}
use Rattle.capture3.specs.Entry.{Entry, Call, Reply}
use Rattle.canon3.specs.Parting.{connections, records_after}

-- ---- values

-- a byte from 20 to 7e, but not a quotation mark (22) or a backslash (5c)
abbrev pub is_plain : ℕ → Bool
is_plain b = nat_le 32 b && nat_le b 126 && not (b == 34) && not (b == 92)

-- a plain byte stands for itself; any other is a backslash, an x and two lower-case hexadecimal
-- digits
abbrev pub quoted_byte : ℕ → List ℕ
quoted_byte b = if is_plain b then b ∷ [] else 92 ∷ 120 ∷ encode_lower (b ∷ [])

-- text between quotation marks
abbrev pub quoted : List ℕ → List ℕ
quoted bytes = 34 ∷ (flat_map quoted_byte bytes ++ 34 ∷ [])

-- opaque data (RFC 4506, section 4.10), a string (section 4.11), a file handle (RFC 1813, section
-- 2.5)
abbrev pub opaque_value : Kind → List ℕ → List ℕ
opaque_value Var bytes = encode_lower bytes
opaque_value Text bytes = quoted bytes
opaque_value Handle bytes = encode_lower bytes

-- a number is decimal, without sign or leading zeros; bytes are lower-case hexadecimal; a string is
-- quoted
abbrev pub value_of : Item → List ℕ
value_of (Word name n) = decimal n
value_of (Hyper name n) = decimal n
value_of (Fixed name bytes) = encode_lower bytes
value_of (WriteVerf name bytes) = encode_lower bytes
value_of (Opaque kind name bytes) = opaque_value kind bytes
value_of (Rest name bytes) = encode_lower bytes

abbrev pub item_name : Item → List ℕ
item_name (Word name n) = name
item_name (Hyper name n) = name
item_name (Fixed name bytes) = name
item_name (WriteVerf name bytes) = name
item_name (Opaque kind name bytes) = name
item_name (Rest name bytes) = name

-- ---- lines

-- a space, a name and =
abbrev pub opening : List ℕ → List ℕ
opening name = 32 ∷ (name ++ 61 ∷ [])

abbrev pub shown_item : Item → List ℕ
shown_item item = opening (item_name item) ++ value_of item

abbrev pub shown_items : List Item → List ℕ
shown_items items = flat_map shown_item items

-- a procedure of NFS or MOUNT has its name, any other none
abbrev pub named : Option (List ℕ) → List ℕ
named None = codes "RAW"
named (Some name) = name

abbrev pub procedure_name : ProcId → List ℕ
procedure_name id = named (name_of_procedure id)

-- the connection's number, the side, and the record's number in its stream
abbrev pub prefix : (connection : ℕ) (side : List ℕ) (record_number : ℕ) → List ℕ
prefix connection side record_number =
    decimal connection ++ (32 ∷ (side ++ (32 ∷ decimal record_number)))

-- the message's first item, which is its xid, then the procedure's name, then the other items
abbrev pub message_text : ProcId → List Item → List ℕ
message_text id [] = []
message_text id (xid ∷ items) =
    shown_item xid ++ (32 ∷ (procedure_name id ++ (shown_items items ++ 10 ∷ [])))

abbrev pub line : (connection : ℕ) (side : List ℕ) (record_number : ℕ) → ProcId → List Item → List ℕ
line connection side record_number id items =
    prefix connection side record_number ++ message_text id items

abbrev pub client : List ℕ
client = codes "client"

abbrev pub server : List ℕ
server = codes "server"

-- An entry's line, where so many connections have begun and so many records of the open stream came
-- before it. A call has the name of its own procedure, and a reply that of its call's.
abbrev pub entry_line : (begun records : ℕ) → Entry → List ℕ
entry_line begun records (Call items) = line begun client (records + 1) (procedure_in items) items
entry_line begun records (Reply id items) = line begun server (records + 1) id items
entry_line begun records _ = []

abbrev pub lines_after : (begun records : ℕ) → List Entry → List ℕ
lines_after begun records [] = []
lines_after begun records (entry ∷ entries) =
    entry_line begun records entry
    ++ lines_after (begun + connections (entry ∷ [])) (records_after records (entry ∷ [])) entries

-- one line for each message, in order
abbrev pub shown : List Entry → List ℕ
shown entries = lines_after 0 0 entries
