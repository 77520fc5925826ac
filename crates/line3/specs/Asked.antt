-- What the words of a command line ask for.
use Rattle.std.specs.Prelude.{◌≡◌, ◌≢◌, ◌==◌, Bool, true, false, ◌<◌, ◌%◌, ◌⊎◌, List, [], ◌∷◌, ℕ, zero, suc, Contains, codes, if◌then◌else◌, length, map, string_bytes}
use Rattle.std.specs.Str.{bytes_eq}
use Rattle.clap.specs.Words.{App, takes}
use Rattle.line3.specs.declared.asked.Job.{Job}
use Rattle.line3.specs.declared.asked.Job.TheVariants as jobs
use Rattle.line3.specs.declared.asked.LineFault.{LineFault}
use Rattle.line3.specs.declared.asked.LineFault.TheVariants.{Usage, Odd, SameName, NotText, Memory}

-- the five forms of a line, with the names of its files
pub data Form : Type 0 where
  Check : List ℕ → Form
  Show : List ℕ → Form
  Canon : List ℕ → List ℕ → Form
  Same : List ℕ → List ℕ → Form
  -- the output, a stream, and more streams
  Pack : List ℕ → List ℕ → List (List ℕ) → Form

-- a form's words: a command, and the names
abbrev pub words_of : Form → List (List ℕ)
words_of (Check file) = codes "check" ∷ file ∷ []
words_of (Show file) = codes "show" ∷ file ∷ []
words_of (Canon input output) = codes "canon" ∷ input ∷ output ∷ []
words_of (Same first second) = codes "same" ∷ first ∷ second ∷ []
words_of (Pack output stream streams) = codes "pack" ∷ output ∷ stream ∷ streams

-- the word ends the options of a line
abbrev pub is_end : List ℕ → Bool
is_end word = bytes_eq word (codes "--")

-- the names among words: all words but the first `--`
abbrev pub names_in : List (List ℕ) → List (List ℕ)
names_in [] = []
names_in (word ∷ words) = if is_end word then words else word ∷ names_in words

-- the words, of which all but so many first ones are names
abbrev pub without_end : ℕ → List (List ℕ) → List (List ℕ)
without_end zero words = names_in words
without_end (suc count) [] = []
without_end (suc count) (word ∷ words) = word ∷ without_end count words

-- the program's name, and then the command and the names that are said
pub record IsLine (words said : List (List ℕ)) : Type 0 where
  pub program : List ℕ
  pub command : List ℕ
  pub rest : List (List ℕ)
  pub all : words ≡ program ∷ command ∷ rest
  pub named : said ≡ command ∷ names_in rest

-- streams come in pairs of a client's and a server's, and none is the output
pub record IsPacking (output : List ℕ) (streams : List (List ℕ)) : Type 0 where
  pub paired : length streams % 2 ≡ 0
  pub some : 0 < length streams
  pub distinct : Contains streams output → ⊥

-- the line's words are those of the job, in their order; an output is no input
abbrev pub Asks : List (List ℕ) → Job → Type 0
Asks words (jobs.Check file) = IsLine words (codes "check" ∷ file.now ∷ [])
Asks words (jobs.Show file) = IsLine words (codes "show" ∷ file.now ∷ [])
Asks words (jobs.Canon input output) = IsLine words (codes "canon" ∷ input.now ∷ output.now ∷ [])
    × (input.now ≢ output.now)
Asks words (jobs.Same first second) = IsLine words (codes "same" ∷ first.now ∷ second.now ∷ [])
Asks words (jobs.Pack output streams) =
    IsLine words (codes "pack" ∷ output.now ∷ map string_bytes streams.now)
    × IsPacking output.now (map string_bytes streams.now)

-- the output of a canonical form is its input
pub record RewritesItself (words : List (List ℕ)) : Type 0 where
  pub name : List ℕ
  pub line : IsLine words (words_of (Canon name name))

-- streams in pairs, of which the output is one
pub record PacksItself (words : List (List ℕ)) : Type 0 where
  pub output : List ℕ
  pub streams : List (List ℕ)
  pub line : IsLine words (codes "pack" ∷ output ∷ streams)
  pub paired : length streams % 2 ≡ 0
  pub own : Contains streams output

-- a stream without its counterpart
pub record HasOddStream (words : List (List ℕ)) : Type 0 where
  pub output : List ℕ
  pub streams : List (List ℕ)
  pub line : IsLine words (codes "pack" ∷ output ∷ streams)
  pub odd : length streams % 2 ≢ 0

-- a word that is not empty and does not begin with a hyphen (2d)
pub record IsFileWord (word : List ℕ) : Type 0 where
  pub first : ℕ
  pub rest : List ℕ
  pub split : word ≡ first ∷ rest
  pub no_hyphen : (first == 45) ≡ false

-- each word before the first `--` is one that names a file; after it any word does
abbrev pub NameFiles : List (List ℕ) → Type 0
NameFiles [] = Unit
NameFiles (word ∷ words) = (is_end word ≡ true) ⊎ (IsFileWord word × NameFiles words)

-- where the fault is the usage, the line has none of the forms, or before a `--` it has a file's
-- name that is empty or begins with a hyphen
abbrev pub AreRefused : List (List ℕ) → LineFault → Type 0
AreRefused words (Usage _) =
    (form : Form) → (line : IsLine words (words_of form)) → NameFiles line.rest → ⊥
AreRefused words Odd = HasOddStream words
AreRefused words SameName = RewritesItself words ⊎ PacksItself words
AreRefused words NotText = ⊥
AreRefused words Memory = Unit

-- a usage, or that memory ran out for its text
abbrev pub IsUsage : LineFault → Type 0
IsUsage (Usage _) = Unit
IsUsage Memory = Unit
IsUsage _ = ⊥

-- Clap refuses the line: a usage, or that memory ran out, and no usage of a line that it takes.
abbrev pub IsRefusedBy : App → List (List ℕ) → LineFault → Type 0
IsRefusedBy app words fault = IsUsage fault × (takes app words ≡ true → fault ≡ Memory)
