-- What is done with the file that has the name of an output.
use Rattle.std.specs.Prelude.{◌==◌, ◌&&◌, Bool, true, false, if◌then◌else◌, List, Option, None, Some}
use Rattle.std.specs.List.{list_any}
use Rattle.program3.specs.declared.output.destination.Destination.{Destination}
use Rattle.program3.specs.declared.output.destination.Destination.TheVariants.{Input, Replaced, AsItIs}
use Rattle.program3.specs.declared.output.identity.FileIdentity.{FileIdentity}

-- a file has its device and its number there under each of its names
abbrev pub is_one_file : (one other : FileIdentity) → Bool
is_one_file one other = one.device == other.device && one.inode == other.inode

-- it is the file to which the program prints, if that is known
abbrev pub is_known_as : Option FileIdentity → FileIdentity → Bool
is_known_as (Some own) id = is_one_file own id
is_known_as None id = false

-- it is that file, or nothing tells which one that is
abbrev pub may_be : Option FileIdentity → FileIdentity → Bool
may_be (Some own) id = is_one_file own id
may_be None id = true

-- An input stays, and any other regular file but standard output is replaced.
abbrev pub destination_of : FileIdentity → (is_regular : Bool) → (own : Option FileIdentity)
    → (inputs : List FileIdentity) → Destination
destination_of id true own inputs =
    if list_any (is_one_file id) inputs then Input
    else (if is_known_as own id then AsItIs true else Replaced)
destination_of id false own inputs = AsItIs (may_be own id)
