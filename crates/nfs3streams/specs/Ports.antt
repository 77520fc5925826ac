-- Words that name ports.
use Rattle.std.specs.Prelude.{◌≡◌, ℕ, ◌<◌, ◌^◌, ◌==◌, Bool, List, [], ◌∷◌}
use Rattle.std.specs.List.{flat_map, slice_split}
use Rattle.std.specs.Str.Parse.{IsNumeral, digits_value, without_leading_plus}

-- a decimal number from 1 to 65535, before which a plus may stand
pub record IsPort (text : List ℕ) (port : ℕ) : Type 0 where
  pub numeral : IsNumeral 10 (without_leading_plus text)
  pub value : port ≡ digits_value 10 (without_leading_plus text)
  pub least : 0 < port
  pub most : port < 2 ^ 16

-- each text is that of a port
abbrev pub ArePorts : (texts : List (List ℕ)) → List ℕ → Type 0
ArePorts [] [] = Unit {0}
ArePorts (text ∷ texts) (port ∷ ports) = IsPort text port × ArePorts texts ports
ArePorts _ _ = ⊥

abbrev pub is_comma : ℕ → Bool
is_comma byte = byte == 44

-- what a word has between commas, one part at least
abbrev pub parts_of : (word : List ℕ) → List (List ℕ)
parts_of word = slice_split is_comma word

-- the ports of words, one after another
abbrev pub AreAllPorts : (words : List (List ℕ)) → List ℕ → Type 0
AreAllPorts words ports = ArePorts (flat_map parts_of words) ports
