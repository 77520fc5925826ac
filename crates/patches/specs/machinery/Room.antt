-- How much room a patched body needs.
use Rattle.std.specs.Prelude.{ℕ, ◌+◌, List, [], ◌∷◌}
use Rattle.patches.specs.declared.part.Part.{Part}

-- how many bytes the parts keep
abbrev pub kept_by : List Part → ℕ
kept_by [] = 0
kept_by (part ∷ parts) = part.keeps + kept_by parts
