-- What the scan of a message tells, and where it stops.
use Rattle.std.specs.Prelude.{◌≡◌, ℕ, ◌<◌, ◌^◌, List, [], ◌∷◌, Some, Result, Ok, Err, cond}
use Rattle.xdr3.specs.declared.reason.Reason.TheVariants.{XidConflict}
use Rattle.xdr3.specs.declared.reason.GetError.{GetError}
use Rattle.xdr3.specs.declared.reason.GetError.TheVariants as errors
use Rattle.xdr3.specs.declared.reason.Stop.{Stop}
use Rattle.xdr3.specs.Item.{Item}
use Rattle.xdr3.specs.Reading.{refused}
use Rattle.rpc_head.specs.Messages.{procedure_in}
use Rattle.capture3.specs.declared.message.calls.NumberedCall.{NumberedCall}
use Rattle.capture3.specs.declared.message.scan.ScannedCall.{ScannedCall}
use Rattle.capture3.specs.Bodies.{IsCall, IsReply, procedure_of, xid_in}
use Rattle.capture3.specs.machinery.Calls.{Known}
use Rattle.capture3.specs.BodyProgram.{agrees, judge_call, judge_reply}
use Rattle.capture3.specs.machinery.Messages.{HasProcedures}
use Rattle.capture3.specs.MessageVisit.{OpensMessage}
use Rattle.capture3.specs.OpenXids.{xid_of}

-- The body spells a call with this xid and this procedure, it is accepted after calls that agree
-- with it, and a visitor was passed its items.
pub record ScansCall {V : Type 0} (rests stands : V → List Item → Type 0) (body : List ℕ)
    (call : ScannedCall) (old new : V) : Type 0 where
  pub items : List Item
  pub is_call : IsCall body items
  pub xid_is : xid_in items ≡ call.xid
  pub begins : xid_of items ≡ xid_in items ∷ []
  pub procedure_is : procedure_in items ≡ call.id
  pub judged : (before : List (List Item))
      → judge_call before body
      ≡ cond (agrees (procedure_of before call.xid) call.id) (Ok items) (refused 0 XidConflict)
  pub adds : OpensMessage rests stands old new items

-- The body spells a reply to this call of the table, it is accepted after the table's calls, and a
-- visitor was passed its items.
pub record ScansReply {V : Type 0} (rests stands : V → List Item → Type 0) (table : Known)
    (body : List ℕ) (call : NumberedCall) (old new : V) : Type 0 where
  pub items : List Item
  pub is_reply : IsReply body (record { id = call.id; items = items })
  pub is_xid : xid_in items < 2 ^ 32
  pub asked : table.call_of (xid_in items) ≡ Some call
  pub accepted : (calls : List (List Item)) → HasProcedures table calls
      → judge_reply calls body ≡ Ok (record { id = call.id; items = items })
  pub adds : OpensMessage rests stands old new items

-- the failure is that of judging the body, unless memory ran out
abbrev pub StopsMessage : {X : Type 0} → GetError → Result X Stop → Type 0
StopsMessage error judged = (stop : Stop) → error ≡ errors.Stop stop → judged ≡ Err stop
