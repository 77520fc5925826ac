-- Texts that are masked: names that the Linux client makes up, and names of hosts. Bodies that are
-- not looked into.
use Rattle.std.specs.Prelude.{ℕ, replicate, ◌==◌, ◌&&◌, ◌||◌, nat_le, bytes_eq, codes, Bool, if◌then◌else◌, List, [], length, take, drop}
use Rattle.std.specs.List.{list_all}
use Rattle.xdr3.specs.Item.{Item, Opaque, Rest, Text, called}
use Rattle.masking3.specs.declared.values.ways.Way.{Way}
use Rattle.masking3.specs.declared.values.ways.Ways.{Ways}
use Rattle.masking3.specs.declared.values.class.Class.TheVariants.{Machines, Raw, SillyNames}
use Rattle.masking3.specs.Ways.{unless_kept, way_of}

-- ---- names of files that were removed while they were open

-- the code of a digit 0 to 9 or a to f
abbrev pub is_silly_digit : ℕ → Bool
is_silly_digit code = (nat_le 48 code && nat_le code 57) || (nat_le 97 code && nat_le code 102)

-- The Linux client renames a file that is removed while it is open: to `.nfs`, sixteen hexadecimal
-- digits of the file id and eight of a counter.
abbrev pub is_silly_name : List ℕ → Bool
is_silly_name bytes =
    (length bytes == 28)
    && (bytes_eq (take 4 bytes) (codes ".nfs") && list_all is_silly_digit (drop 4 bytes))

abbrev pub silly_zero : List ℕ
silly_zero = codes ".nfs000000000000000000000000"

-- all digits become 0; other names stay
abbrev pub zero_name : List ℕ → List ℕ
zero_name bytes = if is_silly_name bytes then silly_zero else bytes

abbrev pub silly_by : Way → List ℕ → List ℕ
silly_by way bytes = unless_kept way zero_name bytes

-- ---- names of hosts

-- what becomes of the name of a machine that is a text of its own
abbrev pub host_by : Way → List ℕ → List ℕ
host_by way bytes = unless_kept way (λ b. []) bytes

-- ---- any text

-- Names of files in arguments and in directories have the item name `name` (RFC 1813, section 3.3);
-- so have the groups of exports (section 5.2.5). The name `hostname` is that of a host in DUMP's
-- results alone (section 5.2.2).
abbrev pub text_by : Ways → (name bytes : List ℕ) → List ℕ
text_by ways name bytes =
    (if bytes_eq name (called "name") then silly_by (way_of ways SillyNames) bytes else
    (if bytes_eq name (called "hostname") then host_by (way_of ways Machines) bytes else
    bytes))

-- ---- bodies of other programs and versions

-- the arguments or the results stay, or each of their bytes is 0
abbrev pub raw_by : Way → List ℕ → List ℕ
raw_by way bytes = unless_kept way (λ b. replicate (length b) 0) bytes

-- ---- any item

-- A text, or the rest of a message that is not looked into, with what becomes of its bytes; any
-- other item stays.
abbrev pub with_text : Ways → Item → Item
with_text ways (Opaque Text name bytes) = Opaque Text name (text_by ways name bytes)
with_text ways (Rest name bytes) = Rest name (raw_by (way_of ways Raw) bytes)
with_text ways item = item
