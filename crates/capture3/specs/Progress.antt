-- How far the entries of a capture have come.
use Rattle.std.specs.Prelude.{◌≡◌, ℕ, ◌+◌, List, [], ◌∷◌}
use Rattle.capture3.specs.Entry.{Entry, Begin, Call, Turn, Reply}
use Rattle.capture3.specs.Laws.{begins}
use Rattle.capture3.specs.declared.reader.progress.Progress.{Progress}

-- the records of the open stream, after n of them
abbrev pub records_after : ℕ → List Entry → ℕ
records_after n [] = n
records_after n (Begin ∷ es) = records_after 0 es
records_after n (Call items ∷ es) = records_after (n + 1) es
records_after n (Turn ∷ es) = records_after 0 es
records_after n (Reply id items ∷ es) = records_after (n + 1) es
records_after n (_ ∷ es) = records_after n es

-- how many calls and replies there are
abbrev pub calls_in : List Entry → ℕ
calls_in [] = 0
calls_in (Call items ∷ es) = 1 + calls_in es
calls_in (_ ∷ es) = calls_in es

abbrev pub replies_in : List Entry → ℕ
replies_in [] = 0
replies_in (Reply id items ∷ es) = 1 + replies_in es
replies_in (_ ∷ es) = replies_in es

-- so many connections began with these entries, and the open stream has so many records
pub record AreCounted (connections records : ℕ) (entries : List Entry) : Type 0 where
  pub connections_are : connections ≡ begins entries
  pub records_are : records ≡ records_after 0 entries

-- the place and the counts after these entries
pub record HasPassed (progress : Progress) (entries : List Entry) : Type 0 where
  pub place : AreCounted progress.connections progress.records entries
  pub calls_are : progress.calls ≡ calls_in entries
  pub replies_are : progress.replies ≡ replies_in entries
