-- The place that comes next.
use Rattle.std.specs.Prelude.{◌+◌, Option, None, Some}
use Rattle.capture3.specs.declared.fault.Side.{Side}
use Rattle.capture3.specs.declared.fault.Side.TheVariants.{Client, Server}
use Rattle.capture3.specs.declared.fault.Place.{Place}
use Rattle.capture3.specs.declared.fault.Place.TheVariants as places
use Rattle.capture3.specs.declared.reader.progress.Progress.{Progress}
use Rattle.capture3.specs.declared.reader.entry.Kind.{Kind}
use Rattle.capture3.specs.declared.reader.entry.Kind.TheVariants as kinds

-- whose message it is
abbrev pub side_of_kind : Kind → Option Side
side_of_kind (kinds.Call id) = Some Client
side_of_kind (kinds.Reply id) = Some Server
side_of_kind _ = None

-- the next record where one of the two is a message, and else the next connection
abbrev pub place_from : Progress → Option Side → Option Side → Place
place_from progress (Some side) other =
    places.Record progress.connections side (1 + progress.records) 0
place_from progress None (Some side) =
    places.Record progress.connections side (1 + progress.records) 0
place_from progress None None = places.Record (1 + progress.connections) Client 0 0
