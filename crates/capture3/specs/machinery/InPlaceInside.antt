-- The fields of a joiner that leaves a whole record where it lies, and what contracts see of them.
use Rattle.std.specs.Prelude.{◌≡◌, ◌≤◌, Option, Some, None, is_some, length}
use Rattle.record_mark.specs.Joining.{Whole}
use Rattle.record_mark.specs.Machine.{Stops}
use Rattle.record_mark.specs.RecordMark.{max_body}
use Rattle.record_mark.specs.Taking.{Taking, Led, unbegun}
use Rattle.capture3.specs.declared.container.in_place.InPlaceJoiner.TheInside.{Inside}
use Rattle.capture3.specs.declared.device.trail.Trail.{Trail}
use Rattle.capture3.specs.machinery.InPlace.{InPlaceState}

-- the record that lies in the piece, or else what the joiner has taken
abbrev pub taking_shown : Option Trail → Taking → Taking
taking_shown (Some body) taking = Led (Stops (Whole body.bytes))
taking_shown None taking = taking

abbrev pub state_shown : Inside → InPlaceState
state_shown j =
    record {
      taking = taking_shown j.lying j.joiner.taking;
      capacity = j.joiner.capacity;
      lies = is_some j.lying;
    }

-- while a record lies in the piece, the joiner has none
abbrev pub IsSoundLying : Option Trail → Taking → Type 0
IsSoundLying (Some body) taking = (taking ≡ unbegun) × (length body.bytes ≤ max_body)
IsSoundLying None taking = Unit {0}

abbrev pub IsSoundInPlace : Inside → Type 0
IsSoundInPlace j = IsSoundLying j.lying j.joiner.taking
