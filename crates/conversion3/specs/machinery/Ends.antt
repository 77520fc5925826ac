-- What is said of one end of a connection.
use Rattle.std.specs.Prelude.{ℕ, List, Option, None, Some}
use Rattle.connections3.specs.declared.connection.Flow.{Flow}
use Rattle.conversion3.specs.Flaws.{HasFlowFlaw}
use Rattle.conversion3.specs.Whole.{IsWholeFlow}
use Rattle.conversion3.specs.declared.flaws.StreamFlaw.{StreamFlaw}

abbrev pub HasEndFlaw : (file : List ℕ) → Option Flow → StreamFlaw → Type 0
HasEndFlaw file flow flaw = (IsWholeFlow file flow → ⊥) × HasFlowFlaw file flow flaw

-- what is wrong first with it, or nothing
abbrev pub IsEndJudged : (file : List ℕ) → Option Flow → Option StreamFlaw → Type 0
IsEndJudged file flow None = IsWholeFlow file flow
IsEndJudged file flow (Some flaw) = HasEndFlaw file flow flaw
