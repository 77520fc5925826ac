-- Shapes of which a text is the name (RFC 4506, section 4).
use Prim.Native.String.{String}
use Rattle.std.specs.Prelude.{ℕ, List}
use Rattle.xdr3.specs.declared.reason.Reason.{Reason}
use Rattle.xdr3.specs.declared.reason.Reason.TheVariants.{BadBool, BadEnum}
use Rattle.xdr3.specs.Item.{Kind, called}
use Rattle.xdr3.specs.Shape.{Shape, array_named, is_bool, is_listed, nothing, optional_named, word_named}
use Rattle.xdr3.specs.Shape as shapes

-- one of the listed words, and then the shape that it chooses; any other word has the reason (RFC
-- 4506, section 4.15)
abbrev pub union : String → List ℕ → Reason → (ℕ → Shape) → Shape
union name words other next = shapes.choose (called name) (is_listed words) other next

-- one of the listed words (RFC 4506, section 4.3)
abbrev pub listed : String → List ℕ → Shape
listed name words = union name words BadEnum (λ n. nothing)

-- the word 0 or 1 (RFC 4506, section 4.4)
abbrev pub boolean : String → Shape
boolean name = shapes.choose (called name) is_bool BadBool (λ n. nothing)

abbrev pub word : String → Shape
word name = word_named (called name)

abbrev pub optional : String → Shape → Shape
optional name shape = optional_named (called name) shape

abbrev pub hyper : String → Shape
hyper name = shapes.hyper (called name)

abbrev pub fixed : String → Shape
fixed name = shapes.fixed (called name)

abbrev pub write_verf : String → Shape
write_verf name = shapes.write_verf (called name)

abbrev pub opaque : Kind → String → ℕ → Shape
opaque kind name max = shapes.opaque kind (called name) max

abbrev pub linked : String → Shape → Shape
linked name shape = shapes.linked (called name) shape

abbrev pub array : String → ℕ → Shape → Shape
array name max shape = array_named (called name) max shape

abbrev pub sized : String → Shape → Shape
sized name shape = shapes.sized (called name) shape
