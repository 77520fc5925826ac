-- What is said of a connection.
use Rattle.std.specs.Prelude.{◌≡◌, ℕ, List, Option, None, Some}
use Rattle.capture3.specs.declared.fault.Side.TheVariants.{Client, Server}
use Rattle.connections3.specs.declared.connection.Connection.{Connection}
use Rattle.conversion3.specs.Flaws.{HasFlowFlaw}
use Rattle.conversion3.specs.Whole.{IsWholeConnection, IsWholeFlow, side_flow}
use Rattle.conversion3.specs.declared.judgment.Flaw.{Flaw}

-- The connection is not whole, and this is wrong first with it. The client's stream comes first.
pub record HasFirstFlaw (file : List ℕ) (c : Connection) (flaw : Flaw) : Type 0 where
  pub broken : IsWholeConnection file c → ⊥
  pub before : flaw.side ≡ Server → IsWholeFlow file (side_flow c Client)
  pub is : HasFlowFlaw file (side_flow c flaw.side) flaw.kind

-- what is wrong first with it, or nothing
abbrev pub IsJudged : (file : List ℕ) → Connection → Option Flaw → Type 0
IsJudged file c None = IsWholeConnection file c
IsJudged file c (Some flaw) = HasFirstFlaw file c flaw
