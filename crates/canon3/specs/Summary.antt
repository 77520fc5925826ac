-- A source that gave a capture, and what a capture has of each kind.
use Rattle.std.specs.Prelude.{◌≡◌, ◌⊎◌, ◌++◌, ℕ, List, IfOk, bytes_eq, length, min, Result, Ok, Err}
use Rattle.capture3.specs.Observed.{Gave, IsSpent, Observed}
use Rattle.capture3.specs.declared.fault.Error.{Error}
use Rattle.capture3.specs.declared.fault.Error.TheVariants as errors
use Rattle.capture3.specs.declared.fault.Fault.{Fault}
use Rattle.capture3.specs.Entries.{OnRefused}
use Rattle.capture3.specs.Entry.{Entry}
use Rattle.capture3.specs.FirstFault.{FirstFault}
use Rattle.capture3.specs.Laws.{begins}
use Rattle.capture3.specs.Progress.{calls_in, replies_in}
use Rattle.capture3.specs.Typed.{Typed}
use Rattle.canon3.specs.declared.summary.MessageCounts.{MessageCounts}
use Rattle.canon3.specs.declared.summary.Summary.{Summary}
use Rattle.capture3.specs.Rank.{distinct, number_limit}
use Rattle.canon3.specs.Values.{handles}

-- a source, as it was observed before and is observed now, gave a capture with these entries, and
-- no byte is left
pub record GaveAll (source : Observed × Observed) (entries : List Entry) : Type 0 where
  pub given : List ℕ
  pub gave : Gave source.0 source.1 given
  pub ended : IsSpent source.1
  pub typed : Typed given entries

-- the bytes are a well-formed capture, and have so many connections, calls and replies
pub record AreMessageCounts (bytes : List ℕ) (counts : MessageCounts) : Type 0 where
  pub entries : List Entry
  pub typed : Typed bytes entries
  pub connections : counts.connections ≡ begins entries
  pub calls : counts.calls ≡ calls_in entries
  pub replies : counts.replies ≡ replies_in entries

-- The bytes are a well-formed capture, and have so many connections, calls, replies and distinct
-- handles that are not empty.
pub record IsSummary (bytes : List ℕ) (summary : Summary) : Type 0 where
  pub entries : List Entry
  pub typed : Typed bytes entries
  pub connections : summary.connections ≡ begins entries
  pub calls : summary.calls ≡ calls_in entries
  pub replies : summary.replies ≡ replies_in entries
  pub handles : summary.handles ≡ length (distinct bytes_eq (handles entries))

-- so many distinct handles that are not empty are in the entries, of which at most 4,294,967,295
-- are counted
abbrev pub AreCountedHandles : ℕ → List Entry → Type 0
AreCountedHandles n entries = n ≡ min (length (distinct bytes_eq (handles entries))) number_limit

-- a source, as it was observed before and is observed now, gave bytes that show this fault: it is
-- the first whatever follows them, or since nothing does
pub record GaveFault (source : Observed × Observed) (fault : Fault) : Type 0 where
  pub given : List ℕ
  pub gave : Gave source.0 source.1 given
  pub first : ((rest : List ℕ) → FirstFault (given ++ rest) fault)
      ⊎ (IsSpent source.1 × FirstFault given fault)

-- What is concluded of the bytes that the source gave: all were a capture's, and this is its
-- summary; or they show the fault. No other error says anything of them.
abbrev pub ConcludesGiven : (before observed : Observed) → Result Summary Error → Type 0
ConcludesGiven before observed (Ok summary) = (given : List ℕ) × Gave before observed given
    × IsSpent observed × IsSummary given summary
ConcludesGiven before observed (Err (errors.Refused fault)) = GaveFault (before, observed) fault
ConcludesGiven before observed (Err _) = (given : List ℕ) × Gave before observed given

-- What is concluded of all bytes of a capture, of which the source gave a prefix: they are well
-- formed, and this is their summary; or this is their first fault. No other error says anything of
-- them.
abbrev pub ConcludesAll : List ℕ → Result Summary Error → Type 0
ConcludesAll bytes result = IfOk result (IsSummary bytes) × OnRefused result (FirstFault bytes)
