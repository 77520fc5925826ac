-- The first bytes of a call.
use Rattle.std.specs.Prelude.{◌≡◌, ℕ, List, drop, length}
use Rattle.streams3.specs.declared.runs.Run.{Run}
use Rattle.streams3.specs.Content.{content_of}
use Rattle.conversion3.specs.Choice.{call_words}

-- the runs have 16 bytes, and the last of them are these words
pub record HasCallWords (file : List ℕ) (runs : List Run) : Type 0 where
  pub count : length (content_of file runs) ≡ 16
  pub words : drop 8 (content_of file runs) ≡ call_words
