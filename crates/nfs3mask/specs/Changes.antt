-- Words that change a mask, and the words that tell one.
use Rattle.std.specs.Prelude.{ℕ, List, [], ◌∷◌, codes, fold, map}
use Rattle.std.specs.List.{concat, flat_map}
use Rattle.masking3.specs.declared.values.class.Class.{Class}
use Rattle.masking3.specs.declared.values.ways.Way.{Way}
use Rattle.masking3.specs.declared.values.ways.Way.TheVariants.{Keep, Zero, Number}
use Rattle.masking3.specs.declared.values.ways.Ways.{Ways}
use Rattle.masking3.specs.Classes.{classes, row}
use Rattle.masking3.specs.Ways.{usual, way_of, with_way}
use Rattle.nfs3mask.specs.declared.line.asked.Change.{Change}

abbrev pub way_name : Way → List ℕ
way_name Keep = codes "keep"
way_name Zero = codes "zero"
way_name Number = codes "number"

-- the parts of the word for a change
abbrev pub change_parts : Change → List (List ℕ)
change_parts change = (row change.class).name ∷ codes "=" ∷ way_name change.way ∷ []

-- the word, as `times=keep`
abbrev pub change_word : Change → List ℕ
change_word change = concat (change_parts change)

abbrev pub with_change : Ways → Change → Ways
with_change ways change = with_way ways change.class change.way

-- the usual ways, changed one after another
abbrev pub ways_after : List Change → Ways
ways_after changes = fold with_change usual changes

abbrev pub change_of : Class → Way → Change
change_of class way = record { class = class; way = way }

-- what becomes of every class
abbrev pub changes_of : Ways → List Change
changes_of ways = map (λ class. change_of class (way_of ways class)) classes

-- the word for a change, with a space before it
abbrev pub change_text : Change → List ℕ
change_text change = concat (codes " " ∷ change_parts change)

-- the words for what becomes of every class
abbrev pub mask_text : Ways → List ℕ
mask_text ways = flat_map change_text (changes_of ways)
