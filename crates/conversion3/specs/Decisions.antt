-- What is said of each connection.
use Rattle.std.specs.Prelude.{◌≡◌, ℕ, List, Option, None, Some}
use Rattle.std.specs.List.{AllZip}
use Rattle.connections3.specs.declared.connection.Connection.{Connection}
use Rattle.connections3.specs.declared.connection.Flow.{Flow}
use Rattle.streams3.specs.Order.{IsMissing, Ordered}
use Rattle.streams3.specs.Runs.{spot_of}
use Rattle.conversion3.specs.Choice.{IsChosen}
use Rattle.conversion3.specs.Judgments.{HasFirstFlaw}
use Rattle.conversion3.specs.OrderedConnections.{AreOrdered}
use Rattle.conversion3.specs.Whole.{IsWholeConnection, recorded_of}
use Rattle.conversion3.specs.declared.decisions.Decision.{Decision}
use Rattle.conversion3.specs.declared.decisions.Decision.TheVariants.{NotChosen, Empty, Whole, Flawed}
use Rattle.conversion3.specs.declared.ordered_connections.OrderedConnection.{OrderedConnection}

-- no payload was recorded or is known to have been sent, and no number is a stray
pub record IsEmptyStream (stream : Ordered) : Type 0 where
  pub none : (p : ℕ) → spot_of stream.runs p ≡ None
  pub full : (p : ℕ) → IsMissing stream p → ⊥
  pub fits : stream.marks.strays ≡ 0

abbrev pub IsEmptyFlow : Option Flow → Type 0
IsEmptyFlow None = Unit {0}
IsEmptyFlow (Some flow) = IsEmptyStream (recorded_of flow.stream)

-- neither end sent something
abbrev pub IsEmpty : Connection → Type 0
IsEmpty c = IsEmptyFlow c.lower × IsEmptyFlow c.higher

-- it is chosen, and not empty
abbrev pub IsJudgedIn : (file ports : List ℕ) → Connection → Type 0
IsJudgedIn file ports c = IsChosen file ports c × (IsEmpty c → ⊥)

abbrev pub HasDecision : (file ports : List ℕ) → Connection → Decision → Type 0
HasDecision file ports c NotChosen = IsChosen file ports c → ⊥
HasDecision file ports c Empty = IsChosen file ports c × IsEmpty c
HasDecision file ports c Whole = IsJudgedIn file ports c × IsWholeConnection file c
HasDecision file ports c (Flawed flaw) = IsJudgedIn file ports c × HasFirstFlaw file c flaw

abbrev pub AreDecided : (file ports : List ℕ) → List Connection → List Decision → Type 0
AreDecided file ports connections decisions =
    AllZip (HasDecision file ports) connections decisions

-- so of any connections that these are in order
abbrev pub AreDecidedIn : (file ports : List ℕ) → List OrderedConnection → List Decision → Type 0
AreDecidedIn file ports ordered decisions = (connections : List Connection)
    → AreOrdered connections ordered → AreDecided file ports connections decisions
