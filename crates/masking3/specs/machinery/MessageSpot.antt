-- The spot in a message whose items come one after another: its mtype has its side.
use Rattle.std.specs.Prelude.{◌≡◌, ℕ, Bool, true, false, List, ◌∷◌, fold}
use Rattle.xdr3.specs.Item.{Item, Word, called}
use Rattle.capture3.specs.declared.fault.Side.{Side}
use Rattle.capture3.specs.declared.fault.Side.TheVariants.{Client, Server}
use Rattle.masking3.specs.declared.values.spot.ItemSpot.{ItemSpot}
use Rattle.masking3.specs.declared.values.spot.ItemSpot.TheVariants.{InCall, InReply}
use Rattle.masking3.specs.Spots.{next_spot}

-- an mtype is CALL (0) or REPLY (1) (RFC 5531, section 9)
abbrev pub mtype_of : Side → ℕ
mtype_of Client = 0
mtype_of Server = 1

-- who sends a reply, or a call
abbrev pub side_by : Bool → Side
side_by false = Client
side_by true = Server

-- the spot of the first item
abbrev pub first_spot : Side → ItemSpot
first_spot Client = InCall
first_spot Server = InReply

-- the spot after items
abbrev pub spot_after : ItemSpot → List Item → ItemSpot
spot_after spot items = fold next_spot spot items

-- the items are the first ones of a message of this side, with its xid and its mtype
abbrev pub BeginsOn : Side → List Item → Type 0
BeginsOn side items = (xid : ℕ) × (rest : List Item)
    × (items ≡ Word (called "xid") xid ∷ Word (called "mtype") (mtype_of side) ∷ rest)
