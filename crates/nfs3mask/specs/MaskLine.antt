-- What the words of a command line of nfs3mask ask for.
use Rattle.std.specs.Prelude.{◌≡◌, ◌≢◌, ◌∷◌, ℕ, List, map}
use Rattle.line3.specs.Asked.{NameFiles, names_in}
use Rattle.line3.specs.declared.asked.LineFault.{LineFault}
use Rattle.line3.specs.declared.asked.LineFault.TheVariants.{Usage, SameName, Memory}
use Rattle.nfs3mask.specs.declared.line.asked.Change.{Change}
use Rattle.nfs3mask.specs.declared.line.asked.MaskJob.{MaskJob}
use Rattle.nfs3mask.specs.Changes.{change_word, ways_after}

-- the names of the input and of the output, and then words that change the mask
abbrev pub mask_words : List ℕ → List ℕ → List Change → List (List ℕ)
mask_words input output changes = input ∷ output ∷ map change_word changes

-- the program's name, and then the words that are said
pub record IsMaskLine (words said : List (List ℕ)) : Type 0 where
  pub program : List ℕ
  pub rest : List (List ℕ)
  pub all : words ≡ program ∷ rest
  pub named : said ≡ names_in rest

-- the line's words are those of the job; its mask is the usual one, changed by them, and its output
-- is not its input
pub record AsksForMask (words : List (List ℕ)) (job : MaskJob) : Type 0 where
  pub changes : List Change
  pub line : IsMaskLine words (mask_words job.input.now job.output.now changes)
  pub distinct : job.input.now ≢ job.output.now
  pub ways : job.ways ≡ ways_after changes

-- the output is the input
pub record MasksItself (words : List (List ℕ)) : Type 0 where
  pub name : List ℕ
  pub changes : List Change
  pub line : IsMaskLine words (mask_words name name changes)

-- where the fault is the usage, the line has not this form, or before a `--` it has a file's name
-- that is empty or begins with a hyphen
abbrev pub AreMaskWordsRefused : List (List ℕ) → LineFault → Type 0
AreMaskWordsRefused words (Usage _) = (input output : List ℕ) (changes : List Change)
    → (line : IsMaskLine words (mask_words input output changes)) → NameFiles line.rest → ⊥
AreMaskWordsRefused words SameName = MasksItself words
AreMaskWordsRefused words Memory = Unit
AreMaskWordsRefused words _ = ⊥
