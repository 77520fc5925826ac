-- Messages without the names of machines, and with masked texts.
use Rattle.std.specs.Prelude.{ℕ, zero, suc, ◌+◌, ◌-◌, bytes_eq, if◌then◌else◌, List, [], ◌∷◌, length, map}
use Rattle.xdr3.specs.Item.{Item, Word, Opaque, Text, residue, called}
use Rattle.capture3.specs.Entry.{Entry, Call, Reply}
use Rattle.masking3.specs.declared.values.ways.Way.{Way}
use Rattle.masking3.specs.declared.values.ways.Ways.{Ways}
use Rattle.masking3.specs.declared.values.class.Class.TheVariants.{Machines}
use Rattle.masking3.specs.Texts.{with_text}
use Rattle.masking3.specs.Ways.{unless_kept, way_of}

-- how many bytes follow the length of a text, with its residual bytes (RFC 4506, section 4.11)
abbrev pub text_size : Item → ℕ
text_size (Opaque Text name bytes) = length bytes + residue (length bytes)
text_size _ = 0

-- the length of an AUTH_SYS credential, less so many bytes
abbrev pub less_by : ℕ → Item → Item
less_by size (Word name n) =
    Word name (if bytes_eq name (called "cred_length") then n - size else n)
less_by size item = item

-- a text becomes empty
abbrev pub emptied : Item → Item
emptied (Opaque Text name bytes) = Opaque Text name []
emptied item = item

-- The body of an AUTH_SYS credential begins with its length, a stamp and the name of the machine
-- (RFC 5531, appendix A). The name becomes empty, and the length is less by the bytes of the name.
-- What begins otherwise stays.
abbrev pub unnamed_credential : List Item → List Item
unnamed_credential (size ∷ stamp ∷ name ∷ items) =
    less_by (text_size name) size ∷ stamp ∷ emptied name ∷ items
unnamed_credential items = items

-- the first n items stay, and those after them change
abbrev pub after_first : ℕ → (List Item → List Item) → List Item → List Item
after_first zero change items = change items
after_first (suc n) change [] = []
after_first (suc n) change (item ∷ items) = item ∷ after_first n change items

-- A call's items begin with xid, mtype, rpcvers, prog, vers, proc and the flavor of its credential
-- (RFC 5531, section 9). The body of the credential follows.
abbrev pub unnamed_items : List Item → List Item
unnamed_items items = after_first 7 unnamed_credential items

-- names in credentials stay, or become empty
abbrev pub named_by : Way → List Item → List Item
named_by way items = unless_kept way unnamed_items items

-- each text, and then the name in the credential
abbrev pub named_call : Ways → List Item → List Item
named_call ways items = named_by (way_of ways Machines) (map (with_text ways) items)

abbrev pub named_entry : Ways → Entry → Entry
named_entry ways (Call items) = Call (named_call ways items)
named_entry ways (Reply id items) = Reply id (map (with_text ways) items)
named_entry ways entry = entry

-- what becomes of the names in these entries
abbrev pub names_by : Ways → List Entry → List Entry
names_by ways entries = map (named_entry ways) entries
