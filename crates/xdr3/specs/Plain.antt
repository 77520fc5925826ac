-- Words of any value and numbers of eight bytes, one after another.
use Rattle.std.specs.Prelude.{ℕ, ◌+◌, List, [], ◌∷◌, drop}
use Rattle.byteorder.specs.Endian.{big_number}
use Rattle.xdr3.specs.declared.plain.PlainField.{PlainField}
use Rattle.xdr3.specs.declared.plain.PlainField.TheVariants as fields
use Rattle.xdr3.specs.Item.{Item, Word, Hyper}
use Rattle.xdr3.specs.Shape.{Shape, ◌then◌, hyper, nothing, word_named}

-- how many bytes a field has (RFC 4506, sections 4.1 and 4.5)
abbrev pub width : PlainField → ℕ
width (fields.Word name) = 4
width (fields.Hyper name) = 8

-- the shape of a field
abbrev pub shape_of : PlainField → Shape
shape_of (fields.Word name) = word_named name.now
shape_of (fields.Hyper name) = hyper name.now

-- the item that the first of the bytes spell
abbrev pub plain_item : PlainField → List ℕ → Item
plain_item (fields.Word name) bytes = Word name.now (big_number 4 bytes)
plain_item (fields.Hyper name) bytes = Hyper name.now (big_number 8 bytes)

-- how many bytes the fields have
abbrev pub run_size : List PlainField → ℕ
run_size [] = 0
run_size (field ∷ more) = width field + run_size more

-- the shape of the fields, one after another
abbrev pub run_shape : List PlainField → Shape
run_shape [] = nothing
run_shape (field ∷ more) = shape_of field then run_shape more

-- the items that the first of the bytes spell, one after another
abbrev pub run_items : List PlainField → List ℕ → List Item
run_items [] bytes = []
run_items (field ∷ more) bytes = plain_item field bytes ∷ run_items more (drop (width field) bytes)
