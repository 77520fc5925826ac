-- Words that change a mask one after another.
use Rattle.std.specs.Prelude.{◌≡◌, ℕ, List, map}
use Rattle.masking3.specs.declared.values.ways.Ways.{Ways}
use Rattle.nfs3mask.specs.declared.line.asked.Change.{Change}
use Rattle.nfs3mask.specs.Changes.{change_word, ways_after}

-- the words change the usual ways into these
pub record AreChanges (words : List (List ℕ)) (ways : Ways) : Type 0 where
  pub changes : List Change
  pub said : words ≡ map change_word changes
  pub after : ways ≡ ways_after changes
