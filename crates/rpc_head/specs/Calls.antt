-- The items of a call's head (RFC 5531, section 9).
use Rattle.std.specs.Prelude.{List, [], ◌∷◌}
use Rattle.xdr3.specs.Item.{Item, followed_by, Word, called}
use Rattle.rpc_head.specs.declared.values.call.CallHead.{CallHead}
use Rattle.rpc_head.specs.Credentials.{credential_items, verifier_items}

abbrev pub call_head_items : CallHead → List Item
call_head_items h =
    followed_by (Word (called "rpcvers") 2 ∷ Word (called "prog") h.id.prog
    ∷ Word (called "vers") h.id.vers ∷ Word (called "proc") h.id.proc_no ∷ [])
    (followed_by (credential_items h.cred) (verifier_items h.verf))
