-- The entries of a capture.
use Rattle.std.specs.Prelude.{List, []}
use Rattle.rpc_head.specs.declared.values.call.ProcId.{ProcId}
use Rattle.xdr3.specs.Item.{Item}

-- For each connection its begin, its calls, a turn, its replies and its close, and then the
-- capture's end. A message is the list of its items (RFC 5531, section 9), which begins with its
-- xid; a reply has the procedure of its call.
pub data Entry : Type 0 where
  Begin : Entry
  Call : (items : List Item) → Entry
  Turn : Entry
  Reply : (id : ProcId) (items : List Item) → Entry
  Close : Entry
  End : Entry

-- the items of an entry that is a message
abbrev pub items_of : Entry → List Item
items_of (Call items) = items
items_of (Reply id items) = items
items_of _ = []
