-- A position's fields, and what contracts see of them.
use Rattle.capture3.specs.declared.container.position.Position.TheInside.{Inside}
use Rattle.capture3.specs.machinery.PositionState.{IsSoundPosition, PositionState, standing_at}

abbrev pub position_shown : Inside → PositionState
position_shown p = standing_at p.counts p.spot

abbrev pub fields_shown : PositionState → Inside
fields_shown p =
    record {
      counts =
          record {
            at = p.at;
            total = p.total;
            connections = p.connections;
            records = p.records;
          };
      spot = p.spot;
    }

abbrev pub IsSoundInside : Inside → Type 0
IsSoundInside p = IsSoundPosition (position_shown p)
