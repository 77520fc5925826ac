-- What is replaced in a body of bytes.
use Rattle.std.specs.Prelude.{◌≡◌, ◌≤◌, ℕ, ◌+◌, ◌-◌, List, [], ◌∷◌, ◌++◌, length, min, replicate, take, drop, vec_capacity}
use Rattle.patches.specs.declared.part.Part.{Part}
use Rattle.patches.specs.declared.patches.Patches.TheInside.{Inside}

-- the bytes that are written in place of others
abbrev pub replacement : Part → List ℕ
replacement part = take part.len part.bytes

-- the bytes, but for zeros in place of so many from a position on
abbrev pub with_zeros : (at count : ℕ) → (bytes : List ℕ) → List ℕ
with_zeros at count bytes =
    take at bytes ++ (replicate (min count (length bytes - at)) 0 ++ drop (at + count) bytes)

-- what stays of the front of a body, before the replacement
abbrev pub kept_of : Part → (body : List ℕ) → List ℕ
kept_of part body = with_zeros part.zeros_at part.zeros (take part.keeps body)

-- Parts of a body, one after another, what stays after them, which has no replacement yet, and how
-- many parts the memory has room for.
pub record Noted : Type 0 where
  pub parts : List Part
  pub last : Part
  pub capacity : ℕ

-- what contracts see of patches
abbrev pub noted_of : Inside → Noted
noted_of patches = record {
  parts = patches.parts.items;
  last = patches.last;
  capacity = vec_capacity patches.parts;
}

-- the body with its replacements
abbrev pub patched_by : List Part → (last : Part) → (body : List ℕ) → List ℕ
patched_by [] last body = kept_of last body
patched_by (part ∷ parts) last body =
    kept_of part body
    ++ (replacement part ++ patched_by parts last (drop part.skips (drop part.keeps body)))

abbrev pub patched : Noted → (body : List ℕ) → List ℕ
patched noted body = patched_by noted.parts noted.last body

-- how many bytes of a body the parts are of
abbrev pub covered_by : List Part → ℕ
covered_by [] = 0
covered_by (part ∷ parts) = part.keeps + (part.skips + covered_by parts)

-- What was noted is of the whole body, which is this form with its replacements.
pub record Makes (noted : Noted) (body form : List ℕ) : Type 0 where
  pub covers : length body ≡ covered_by noted.parts + noted.last.keeps
  pub within : noted.last.zeros_at + noted.last.zeros ≤ noted.last.keeps
  pub makes : patched noted body ≡ form
