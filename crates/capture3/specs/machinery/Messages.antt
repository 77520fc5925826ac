-- What follows the heads of messages, and the calls that a table has.
use Rattle.std.specs.Prelude.{◌≡◌, ℕ, ◌<◌, ◌^◌, Bool, if◌then◌else◌, min, nat_eq, List, length, map, Some}
use Rattle.xdr3.specs.Item.{Item}
use Rattle.xdr3.specs.Layout.{Layout, exactly}
use Rattle.xdr3.specs.Shape.{nothing}
use Rattle.rpc_head.specs.declared.values.call.ProcId.{ProcId}
use Rattle.procs3.specs.Table.{results_of}
use Rattle.capture3.specs.declared.message.calls.NumberedCall.{NumberedCall}
use Rattle.capture3.specs.Bodies.{procedure_of, xid_in}
use Rattle.capture3.specs.Rank.{distinct, number_limit, rank}
use Rattle.capture3.specs.machinery.Calls.{procedure_in_call, Known}

-- what is laid out after a reply's head: the results of an accepted success, and nothing after any
-- other head
abbrev pub results_after : Bool → ProcId → Layout
results_after success id = if success then results_of id else exactly nothing

-- the table has the procedures of these calls
abbrev pub HasProcedures : Known → List (List Item) → Type 0
HasProcedures table calls = (xid : ℕ) → xid < 2 ^ 32
    → procedure_in_call (table.call_of xid) ≡ procedure_of calls xid

abbrev pub xids_in : List (List Item) → List ℕ
xids_in calls = map xid_in calls

-- the table has these calls: their procedures, and their xids by the order of first appearance
pub record IsTableOf (table : Known) (calls : List (List Item)) : Type 0 where
  pub procedures : HasProcedures table calls
  pub numbers : (xid : ℕ) → xid < 2 ^ 32 → (call : NumberedCall) → table.call_of xid ≡ Some call
      → call.number ≡ min (rank nat_eq xid (xids_in calls)) number_limit
  pub count : table.count ≡ min (length (distinct nat_eq (xids_in calls))) number_limit
