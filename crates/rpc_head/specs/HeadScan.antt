-- Heads that are passed to a visitor as they are read.
use Rattle.std.specs.Prelude.{◌≡◌, Bool, ◌==◌, ◌&&◌, List, Ok}
use Rattle.xdr3.specs.Layout.{word_in}
use Rattle.xdr3.specs.Item.{Item}
use Rattle.xdr3.specs.Reading.{reading}
use Rattle.xdr3.specs.View.{MovesOn, View}
use Rattle.xdr3.specs.Visit.{Adds}
use Rattle.rpc_head.specs.declared.values.call.ProcId.{ProcId}
use Rattle.rpc_head.specs.Shapes.{call_head, reply_head}

-- the items of a call's head begin with rpcvers, prog, vers and proc (RFC 5531, section 9)
abbrev pub procedure_in_head : List Item → ProcId
procedure_in_head items =
    record { prog = word_in items 1; vers = word_in items 2; proc_no = word_in items 3 }

-- The items of an accepted reply's head begin with reply_stat, verf_flavor, verf_body and
-- accept_stat. It is a success where reply_stat is MSG_ACCEPTED (0) and accept_stat is SUCCESS (0)
-- (RFC 5531, section 9).
abbrev pub success_in_head : List Item → Bool
success_in_head items = (word_in items 0 == 0) && (word_in items 3 == 0)

-- A call's head of this procedure is between two positions of one body, and a visitor was passed
-- its items.
unfoldable pub ScansCallHead : {V : Type 0} → (V → List Item → Type 0) → ProcId
    → (old new : View × V) → Type 0
ScansCallHead stands id (old, before) (new, after) =
    (items : List Item) × (reading call_head old.body old.at ≡ Ok (items, new.at))
    × (procedure_in_head items ≡ id) × MovesOn old new
    × Adds stands before after items

-- A reply's head, of a success or not, is between two positions of one body, and a visitor was
-- passed its items.
unfoldable pub ScansReplyHead : {V : Type 0} → (V → List Item → Type 0) → Bool
    → (old new : View × V) → Type 0
ScansReplyHead stands success (old, before) (new, after) =
    (items : List Item) × (reading reply_head old.body old.at ≡ Ok (items, new.at))
    × (success_in_head items ≡ success) × MovesOn old new
    × Adds stands before after items
