-- How whole messages are laid out (RFC 5531, section 9).
use Rattle.std.specs.Prelude.{ℕ, Bool, ◌==◌, ◌&&◌, if◌then◌else◌, List, [], ◌∷◌}
use Rattle.xdr3.specs.Item.{Item}
use Rattle.xdr3.specs.Layout.{Layout, after, exactly, word_in}
use Rattle.xdr3.specs.Named.{listed, word}
use Rattle.xdr3.specs.Shape.{Shape, ◌then◌, nothing}
use Rattle.rpc_head.specs.declared.values.call.ProcId.{ProcId}
use Rattle.rpc_head.specs.Shapes.{call_head, reply_head}

-- rpc_msg up to its mtype: CALL (0) in a call, REPLY (1) in a reply (RFC 5531, section 9)
unfoldable pub start_of_type : ℕ → Shape
start_of_type mtype = word "xid" then listed "mtype" (mtype ∷ [])

-- a call's words from 0: xid, mtype, rpcvers, prog (3), vers (4), proc (5) (RFC 5531, section 9)
abbrev pub procedure_in : List Item → ProcId
procedure_in items =
    record { prog = word_in items 3; vers = word_in items 4; proc_no = word_in items 5 }

-- a call, whose procedure chooses how its arguments are laid out (RFC 5531, section 9)
unfoldable pub call_layout : (ProcId → Layout) → Layout
call_layout arguments =
    after (start_of_type 0 then call_head) (λ items. arguments (procedure_in items))

-- An accepted reply begins with xid (0), mtype (1), reply_stat (2), verf_flavor (3), verf_body (4)
-- and accept_stat (5). Results follow MSG_ACCEPTED (0) with SUCCESS (0) (RFC 5531, section 9).
abbrev pub has_results : List Item → Bool
has_results items = (word_in items 2 == 0) && (word_in items 5 == 0)

-- a reply, with these results after an accepted success and nothing after any other head (RFC 5531,
-- section 9)
unfoldable pub reply_layout : Layout → Layout
reply_layout results =
    after (start_of_type 1 then reply_head)
    (λ items. if has_results items then results else exactly nothing)
