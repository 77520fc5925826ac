-- Tables of the values of each class.
use Rattle.std.specs.Prelude.{◌≡◌, ℕ, nat_eq, Option, List, [], ◌++◌, get_or}
use Rattle.capture3.specs.Rank.{HoldsDistinct}
use Rattle.masking3.specs.declared.values.class.Class.{Class}
use Rattle.masking3.specs.declared.values.ways.Way.TheVariants.{Number}
use Rattle.masking3.specs.declared.values.ways.Ways.{Ways}
use Rattle.masking3.specs.Classes.{position}
use Rattle.masking3.specs.Masked.{value_where}
use Rattle.masking3.specs.Ways.{way_of}

-- the table at a place holds these values
abbrev pub HoldsAt : List (List ℕ) → ℕ → List ℕ → Type 0
HoldsAt tables place seen = HoldsDistinct nat_eq (get_or tables place []) seen

-- the table of each class that is numbered holds its values, where these are those of each class
abbrev pub HoldsValues : Ways → List (List ℕ) → (Class → List ℕ) → Type 0
HoldsValues ways tables seen = (class : Class) → way_of ways class ≡ Number
    → HoldsAt tables (position class) (seen class)

-- the values of each class, where none came yet
abbrev pub no_values : Class → List ℕ
no_values class = []

-- the values of each class, where a number of a class or of none came after these
abbrev pub with_one : (Class → List ℕ) → Option Class → ℕ → Class → List ℕ
with_one seen own n class = seen class ++ value_where class own n
