-- What is so of each part of the protocol's shapes: for which reason it is refused, which room it
-- has, and that its name determines its kind.
use Rattle.std.proofs.Common.{◌≡◌, ℕ, List, [], ◌∷◌, Bool, true, ◌≤◌}
use Rattle.std.specs.Prelude.{⊤, ◌==◌, not, bytes_eq, codes, if◌then◌else◌}
use Rattle.std.specs.List.{list_all, list_any}
use Rattle.xdr3.specs.Item.{Kind, Var, Text, Handle}
use Rattle.xdr3.specs.Shape.{Shape}
use Rattle.xdr3.proofs.Lemmas.Reading.Reasons.{HasItemReason}
use Rattle.xdr3.proofs.Lemmas.Shapes.ShapeParts.{HasParts, Part, word_part, hyper_part, fixed_part, write_verf_part, rest_part, opaque_part, size_part}

-- ---- names

pub data ItemKind : Type 0 where
  AWord AHyper AFixed AWriteVerf ARest : ItemKind
  AnOpaque : Kind → ItemKind

abbrev is_among : List (List ℕ) → List ℕ → Bool
is_among names name = list_any (bytes_eq name) names

abbrev hypers : List (List ℕ)
hypers =
    codes "size" ∷ codes "used" ∷ codes "fsid" ∷ codes "fileid" ∷ codes "offset" ∷ codes "cookie"
    ∷ codes "tbytes" ∷ codes "fbytes" ∷ codes "abytes" ∷ codes "tfiles"
    ∷ codes "ffiles" ∷ codes "afiles" ∷ codes "maxfilesize" ∷ []

abbrev texts : List (List ℕ)
texts =
    codes "machinename" ∷ codes "name" ∷ codes "path" ∷ codes "hostname" ∷ codes "directory"
    ∷ codes "dirpath" ∷ []

-- the kind that has this name in every message
abbrev pub kind_of : List ℕ → ItemKind
kind_of name =
    (if is_among hypers name then AHyper else
    (if is_among (codes "cookieverf" ∷ codes "createverf" ∷ []) name then AFixed else
    (if is_among (codes "verf" ∷ []) name then AWriteVerf else
    (if is_among (codes "cred_body" ∷ codes "verf_body" ∷ codes "data" ∷ []) name then AnOpaque Var
    else
    (if is_among texts name then AnOpaque Text else
    (if is_among (codes "fh" ∷ []) name then AnOpaque Handle else
    (if is_among (codes "rest" ∷ []) name then ARest else
    AWord)))))))

-- a name without =
abbrev pub is_name : List ℕ → Bool
is_name name = list_all (λ c. not (c == 61)) name

abbrev pub IsNameOf : List ℕ → ItemKind → Type 0
IsNameOf name kind = (kind_of name ≡ kind) × (is_name name ≡ true)

abbrev pub IsNamedPart : Part → Type 0
IsNamedPart (word_part name reason) = IsNameOf name AWord
IsNamedPart (hyper_part name) = IsNameOf name AHyper
IsNamedPart (fixed_part name) = IsNameOf name AFixed
IsNamedPart (write_verf_part name) = IsNameOf name AWriteVerf
IsNamedPart (rest_part name) = IsNameOf name ARest
IsNamedPart (opaque_part kind name max) = IsNameOf name (AnOpaque kind)
IsNamedPart (size_part name shape) = IsNameOf name AWord

-- ---- rooms for numbers

-- no handle and no write verifier
abbrev pub IsUnnumbered : Part → Type 0
IsUnnumbered (write_verf_part name) = ⊥
IsUnnumbered (opaque_part Handle name max) = ⊥
IsUnnumbered _ = ⊤

-- a handle has room for a number and no more than 64 bytes, and what is counted in bytes has no
-- handle and no write verifier
abbrev pub HasRoom : Part → Type 0
HasRoom (opaque_part Handle name max) = (4 ≤ max) × (max ≤ 64)
HasRoom (size_part name shape) = HasParts IsUnnumbered shape
HasRoom _ = ⊤

-- ---- all of these

pub record IsProtocolPart (part : Part) : Type 0 where
  pub reason : HasItemReason part
  pub room : HasRoom part
  pub name : IsNamedPart part

abbrev pub AreProtocolParts : Shape → Type 0
AreProtocolParts shape = HasParts IsProtocolPart shape
