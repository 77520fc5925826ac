-- Which bodies of records are calls and replies, and what the first fault of any other body is (RFC
-- 5531, section 9).
use Rattle.std.specs.Prelude.{◌≡◌, ◌≢◌, ℕ, ◌+◌, ◌<◌, ◌==◌, if◌then◌else◌, List, [], ◌∷◌, length, Option, Some, None}
use Rattle.xdr3.specs.declared.reason.Reason.TheVariants.{Trailing, WrongSide, NoCall, XidConflict}
use Rattle.xdr3.specs.declared.reason.Stop.{Stop}
use Rattle.xdr3.specs.Item.{Item, Word, Spells, called}
use Rattle.xdr3.specs.Layout.{Layout, FitsLayout, ReadsLayout, RefusesLayout, word_in}
use Rattle.xdr3.specs.Shape.{Reads, Refuses}
use Rattle.rpc_head.specs.declared.values.call.ProcId.{ProcId}
use Rattle.rpc_head.specs.Messages.{call_layout, reply_layout, procedure_in}
use Rattle.rpc_head.specs.Shapes.{message_start}
use Rattle.procs3.specs.Table.{arguments_of, results_of}

-- a message's items begin with its xid (RFC 5531, section 9)
abbrev pub xid_in : List Item → ℕ
xid_in items = word_in items 0

-- a reply's items, and the procedure that it answers
pub record ReplyItems : Type 0 where
  pub id : ProcId
  pub items : List Item

-- the body spells the items of a call, with the arguments of its procedure (RFC 5531, section 9)
abbrev pub IsCall : List ℕ → List Item → Type 0
IsCall body items = FitsLayout (call_layout arguments_of) items × Spells items body

-- the body spells the items of a reply, with the results of its procedure (RFC 5531, section 9)
abbrev pub IsReply : List ℕ → ReplyItems → Type 0
IsReply body reply = FitsLayout (reply_layout (results_of reply.id)) reply.items
    × Spells reply.items body

-- The procedure of the first call with this xid. Of calls that are accepted, each with the xid has
-- it.
abbrev pub procedure_of : List (List Item) → ℕ → Option ProcId
procedure_of [] xid = None
procedure_of (call ∷ calls) xid =
    if xid_in call == xid then Some (procedure_in call) else procedure_of calls xid

-- the body begins with the xid and the mtype, CALL (0) or REPLY (1) (RFC 5531, section 9)
abbrev pub Starts : List ℕ → ℕ → ℕ → Type 0
Starts body xid mtype = (left : List ℕ)
    × Reads message_start body (Word (called "xid") xid ∷ Word (called "mtype") mtype ∷ []) left

-- a front of the body is laid out so, and bytes are left over: Trailing at the first of them
pub record LeavesMore (layout : Layout) (body : List ℕ) (stop : Stop) : Type 0 where
  pub items : List Item
  pub left : List ℕ
  pub reads : ReadsLayout layout body items left
  pub some : 0 < length left
  pub at_is : length body ≡ stop.at + length left
  pub reason_is : stop.reason ≡ Trailing

-- ---- the client stream, after the items of the connection's calls before

-- a call whose xid no call before has with another procedure
abbrev pub AcceptsCall : List (List Item) → List ℕ → List Item → Type 0
AcceptsCall before body items = IsCall body items
    × ((id : ProcId) → procedure_of before (xid_in items) ≡ Some id → id ≡ procedure_in items)

-- the first fault of any other body
pub data RefusesCall (before : List (List Item)) (body : List ℕ) (stop : Stop) : Type 0 where
  -- its xid or its mtype is not whole, or the mtype is neither CALL nor REPLY
  BadStart : Refuses message_start body stop.at stop.reason → RefusesCall before body stop
  -- it is a reply
  AReply : (xid : ℕ) → Starts body xid 1 → stop ≡ record { at = 4; reason = WrongSide }
      → RefusesCall before body stop
  -- an item of the call, from left to right
  BadCall : (xid : ℕ) → Starts body xid 0
      → RefusesLayout (call_layout arguments_of) body stop.at stop.reason
      → RefusesCall before body stop
  -- bytes are left over after the call
  LongCall : (xid : ℕ) → Starts body xid 0 → LeavesMore (call_layout arguments_of) body stop
      → RefusesCall before body stop
  -- a call before it has its xid and another procedure
  OtherCall : (items : List Item) (id : ProcId) → IsCall body items
      → procedure_of before (xid_in items) ≡ Some id → id ≢ procedure_in items
      → stop ≡ record { at = 0; reason = XidConflict } → RefusesCall before body stop

-- ---- the server stream, after the items of all calls of the connection

-- a reply to a call with its xid
abbrev pub AcceptsReply : List (List Item) → List ℕ → ReplyItems → Type 0
AcceptsReply calls body reply = IsReply body reply
    × (procedure_of calls (xid_in reply.items) ≡ Some reply.id)

-- the first fault of any other body
pub data RefusesReply (calls : List (List Item)) (body : List ℕ) (stop : Stop) : Type 0 where
  -- its xid or its mtype is not whole, or the mtype is neither CALL nor REPLY
  BadStart : Refuses message_start body stop.at stop.reason → RefusesReply calls body stop
  -- it is a call
  ACall : (xid : ℕ) → Starts body xid 0 → stop ≡ record { at = 4; reason = WrongSide }
      → RefusesReply calls body stop
  -- no call has its xid
  Unasked : (xid : ℕ) → Starts body xid 1 → procedure_of calls xid ≡ None
      → stop ≡ record { at = 0; reason = NoCall } → RefusesReply calls body stop
  -- an item of the reply, from left to right
  BadReply : (xid : ℕ) (id : ProcId) → Starts body xid 1 → procedure_of calls xid ≡ Some id
      → RefusesLayout (reply_layout (results_of id)) body stop.at stop.reason
      → RefusesReply calls body stop
  -- bytes are left over after the reply
  LongReply : (xid : ℕ) (id : ProcId) → Starts body xid 1 → procedure_of calls xid ≡ Some id
      → LeavesMore (reply_layout (results_of id)) body stop → RefusesReply calls body stop
