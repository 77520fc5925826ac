-- What a call of the reader makes of each history for which it stood.
use Rattle.std.specs.Prelude.{ℕ, Option, Some, None, Result, Ok, Err, List, [], ◌∷◌, ◌++◌}
use Rattle.capture3.specs.Observed.{Observed, Gave, IsSpent}
use Rattle.std.specs.declared.hash.BuildHasher as BuildHasher
use Rattle.std.specs.declared.hash.Hasher as Hasher
use Rattle.capture3.specs.declared.reader.entries.Entries.{Entries}
use Rattle.capture3.specs.declared.fault.Error.{Error}
use Rattle.capture3.specs.Entry.{Entry}
use Rattle.capture3.specs.Reached.{AreFirstReached}
use Rattle.capture3.specs.Typed.{Typed}
use Rattle.capture3.specs.Entries.{IsMetBy}
use Rattle.capture3.specs.machinery.EntriesHistory.{StandsFor}

module _ {R S H : Type 0} {builds : BuildHasher.Ghosts S H} {hashes : Hasher.Ghosts H} where
  -- The next entry is handed out: the next of those that the bytes reach, after those that were
  -- handed out before. What is returned is that entry's. None comes where no byte is left, after
  -- all entries of a well-formed capture.
  abbrev pub HandsOut : {X : Type 0} → (R → Observed) → (Is : List Entry → X → Entry → Type 0)
      → Entries R S H builds hashes → List ℕ → List Entry → Result (Option X) Error → Type 0
  HandsOut observed Is new given handed (Ok (Some next)) =
      (entry : Entry) × Is handed next entry × AreFirstReached given (handed ++ entry ∷ [])
      × StandsFor observed new given (handed ++ entry ∷ [])
  HandsOut observed Is new given handed (Ok None) = Typed given handed
      × IsSpent (observed new.source.now) × StandsFor observed new given handed
  HandsOut observed Is new given handed (Err error) =
      IsMetBy error (observed new.source.now) given handed × StandsFor observed new given handed

  -- the same, after the bytes that the source gave in the call
  pub record HandsOutGiven {X : Type 0} (observed : R → Observed)
      (Is : List Entry → X → Entry → Type 0) (old new : Entries R S H builds hashes)
      (given : List ℕ) (handed : List Entry) (result : Result (Option X) Error) : Type 0 where
    pub more : List ℕ
    pub consumed : Gave (observed old.source.now) (observed new.source.now) more
    pub hands_out : HandsOut observed Is new (given ++ more) handed result
