-- What is so of each part of a shape.
use Rattle.xdr3.proofs.Common.{ℕ, zero, suc, Bool, true, false, List, Reason, BadBool, TooLong, Kind, Layout, exactly, remaining, after, Shape, choose, hyper, fixed, write_verf, opaque, nothing, both, linked, array_named, sized, repeated}
use Rattle.std.specs.Prelude.{⊤, if◌then◌else◌}

-- what stands for one item of a value, under its name
pub data Part : Type 0 where
  -- a word, and the reason for which it is refused
  word_part : List ℕ → Reason → Part
  hyper_part fixed_part write_verf_part rest_part : List ℕ → Part
  -- bytes, at most the number
  opaque_part : Kind → List ℕ → ℕ → Part
  -- a word that is the number of bytes of the shape
  size_part : List ℕ → Shape → Part

module _ (P : Part → Type 0) where
  abbrev pub HasParts : Shape → Type 0
  HasParts (choose name accepted reason next) =
      P (word_part name reason) × ((n : ℕ) → HasParts (next n))
  HasParts (hyper name) = P (hyper_part name)
  HasParts (fixed name) = P (fixed_part name)
  HasParts (write_verf name) = P (write_verf_part name)
  HasParts (opaque kind name max) = P (opaque_part kind name max)
  HasParts nothing = ⊤
  HasParts (both a b) = HasParts a × HasParts b
  HasParts (linked name s) = P (word_part name BadBool) × HasParts s
  HasParts (sized name s) = P (size_part name s) × HasParts s

  -- a layout that is one shape or a rest, as each row of the table of procedures is
  abbrev pub RowHasParts : Layout → Type 0
  RowHasParts (exactly shape) = HasParts shape
  RowHasParts (remaining name) = P (rest_part name)
  RowHasParts (after shape next) = ⊥

  pub times_have_parts : (n : ℕ) (s : Shape) → HasParts s → HasParts (repeated n s)
  times_have_parts zero s h = tt
  times_have_parts (suc n) s h = (h, times_have_parts n s h)

  pub counted_has_parts : (name : List ℕ) (max : ℕ) (s : Shape) → P (word_part name TooLong)
      → HasParts s → HasParts (array_named name max s)
  unfolding array_named
  counted_has_parts name max s h k = (h, λ n. times_have_parts n s k)

  pub parts_if : (b : Bool) (s t : Shape) → HasParts s → HasParts t → HasParts (if b then s else t)
  parts_if true s t h k = h
  parts_if false s t h k = k

  pub row_if : (b : Bool) (s t : Layout) → RowHasParts s → RowHasParts t
      → RowHasParts (if b then s else t)
  row_if true s t h k = h
  row_if false s t h k = k

module _ (P Q : Part → Type 0) (weaker : (part : Part) → P part → Q part) where
  pub parts_weaker : (s : Shape) → HasParts P s → HasParts Q s
  parts_weaker (choose name accepted reason next) h =
      (weaker (word_part name reason) h.0, λ n. parts_weaker (next n) (h.1 n))
  parts_weaker (hyper name) h = weaker (hyper_part name) h
  parts_weaker (fixed name) h = weaker (fixed_part name) h
  parts_weaker (write_verf name) h = weaker (write_verf_part name) h
  parts_weaker (opaque kind name max) h = weaker (opaque_part kind name max) h
  parts_weaker nothing h = tt
  parts_weaker (both a b) h = (parts_weaker a h.0, parts_weaker b h.1)
  parts_weaker (linked name s) h = (weaker (word_part name BadBool) h.0, parts_weaker s h.1)
  parts_weaker (sized name s) h = (weaker (size_part name s) h.0, parts_weaker s h.1)

  pub row_weaker : (layout : Layout) → RowHasParts P layout → RowHasParts Q layout
  row_weaker (exactly shape) h = parts_weaker shape h
  row_weaker (remaining name) h = weaker (rest_part name) h
  row_weaker (after shape next) h = absurd h
