-- The bytes of runs.
use Rattle.std.specs.Prelude.{◌≡◌, ℕ, List}
use Rattle.capture3.specs.SidedChunks.{Streams}
use Rattle.streams3.specs.declared.runs.Run.{Run}
use Rattle.streams3.specs.Content.{AreIn, content_of}

-- the runs lie in the file, and these are their bytes
abbrev pub HoldsContent : (file : List ℕ) → List Run → (bytes : List ℕ) → Type 0
HoldsContent file runs bytes = AreIn file runs × (content_of file runs ≡ bytes)

abbrev pub HaveContents : (file : List ℕ) → (client server : List Run) → Streams → Type 0
HaveContents file client server streams =
    HoldsContent file client streams.client × HoldsContent file server streams.server
