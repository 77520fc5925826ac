-- The body of a call without the name of its machine, by the places of its words.
use Rattle.std.specs.Prelude.{ℕ, ◌+◌, ◌-◌, ◌==◌, ◌&&◌, nat_le, Bool, if◌then◌else◌, List, ◌++◌, length, take, drop}
use Rattle.byteorder.specs.Endian.{big_number}
use Rattle.xdr3.specs.Item.{residue, word_bytes}
use Rattle.masking3.specs.declared.values.ways.Way.{Way}
use Rattle.masking3.specs.Ways.{unless_kept}

-- the word at a place
abbrev pub body_word : ℕ → List ℕ → ℕ
body_word at body = big_number 4 (drop at body)

-- how many bytes the name has, with its residual bytes
abbrev pub name_room : List ℕ → ℕ
name_room body = body_word 36 body + residue (body_word 36 body)

-- the flavor is AUTH_SYS (1), and the name is there
abbrev pub has_name : List ℕ → Bool
has_name body = nat_le 40 (length body)
    && ((body_word 24 body == 1) && nat_le (name_room body) (length body - 40))

-- up to the name, with a length that is less by so many bytes, and an empty name
abbrev pub head_less_by : ℕ → List ℕ → List ℕ
head_less_by room body =
    ((take 28 body ++ word_bytes (body_word 28 body - room)) ++ take 4 (drop 32 body))
    ++ word_bytes 0

abbrev pub unnamed_body : List ℕ → List ℕ
unnamed_body body =
    if has_name body then head_less_by (name_room body) body ++ drop (40 + name_room body) body
    else body

-- the name stays, or becomes empty
abbrev pub body_by : Way → List ℕ → List ℕ
body_by way body = unless_kept way unnamed_body body
