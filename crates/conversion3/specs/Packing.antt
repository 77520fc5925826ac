-- What is packed of connections.
use Rattle.std.specs.Prelude.{◌≡◌, ◌⊎◌, ℕ, List, [], ◌∷◌, ◌++◌, Option, Some, Err}
use Rattle.std.specs.List.{AllZip}
use Rattle.capture3.specs.SidedChunks.{Streams}
use Rattle.capture3.specs.declared.fault.Error.{Error}
use Rattle.capture3.specs.declared.fault.Error.TheVariants as errors
use Rattle.connections3.specs.declared.connection.Connection.{Connection}
use Rattle.packing3.specs.declared.packing.Packing.{Packing}
use Rattle.packing3.specs.Packing.{HasAdded, ending_of, sink_of}
use Rattle.packing3.specs.Stopped.{BreaksOff, HasNoRoom}
use Rattle.payload3.specs.Readings.{Allow, OffsetRead}
use Rattle.conversion3.specs.Decisions.{AreDecided}
use Rattle.conversion3.specs.OrderedConnections.{AreOrdered}
use Rattle.conversion3.specs.Sent.{HasSent}
use Rattle.conversion3.specs.declared.decisions.Decision.{Decision}
use Rattle.conversion3.specs.declared.decisions.Decision.TheVariants.{NotChosen, Empty, Whole, Flawed}
use Rattle.conversion3.specs.declared.ordered_connections.OrderedConnection.{OrderedConnection}

-- those of which it is said that they are whole
abbrev pub whole_of : {A : Type 0} → List A → List Decision → List A
whole_of [] decisions = []
whole_of (c ∷ connections) [] = []
whole_of (c ∷ connections) (NotChosen ∷ decisions) = whole_of connections decisions
whole_of (c ∷ connections) (Empty ∷ decisions) = whole_of connections decisions
whole_of (c ∷ connections) (Whole ∷ decisions) = c ∷ whole_of connections decisions
whole_of (c ∷ connections) (Flawed flaw ∷ decisions) = whole_of connections decisions

-- the streams are exactly what was sent on the connections that are whole, one by one
abbrev pub AreSent : (file : List ℕ) → List Connection → List Decision → List Streams → Type 0
AreSent file connections decisions pairs =
    AllZip (HasSent file) (whole_of connections decisions) pairs

-- So in each file that the reads allow, of any connections that these are in order, if the
-- decisions
-- are right.
abbrev pub AreSentIn : List OffsetRead → List OrderedConnection → List Decision → List Streams
    → Type 0
AreSentIn readings ordered decisions pairs =
    (file ports : List ℕ) (connections : List Connection) → Allow readings file
    → AreOrdered connections ordered → AreDecided file ports connections decisions
    → AreSent file connections decisions pairs

module _ {W : Type 0} where
  -- What an error leaves of a packing to which these pairs were added: an allocation failed, and
  -- they are all; or it ended, without room for another pair, or in the next one.
  abbrev pub StopsAfter : (W → Option (List ℕ)) → Packing W → (before : Option (List ℕ))
      → List Streams → Error → Type 0
  StopsAfter written new before pairs error =
      ((error ≡ errors.Memory) × HasAdded written new before pairs)
      ⊎ ((ending_of new ≡ Some (Err error)) × (HasNoRoom before (written (sink_of new)) pairs error
      ⊎ ((streams : Streams)
      × BreaksOff before (written (sink_of new)) (pairs ++ streams ∷ []) error)))
