-- Messages as values: what judging their bodies says of them.
use Rattle.capture3.proofs.Lemmas.Messages.ValueNames.{IfErr, ◌≡◌, ℕ, Bool, true, cond, List, [], ◌∷◌, Some, None, Result, Ok, Err, refl, sym, ap, ◌∙◌, eq-eqb, ∥∥₁_elim, Item, call_head_items, reply_head_items, IsCall, IsReply, procedure_of, xid_in, judge_call, judge_reply, is_same_self, same_is, CallMsg, call_items, is_success}
use mathlib.Core.Bool.{Bool-set}
use Rattle.xdr3.specs.declared.reason.GetError.{GetError}
use Rattle.xdr3.specs.Item.{followed_by}
use Rattle.xdr3.specs.Reading.{reading}
use Rattle.rpc_head.specs.declared.values.call.CallHead.{CallHead}
use Rattle.rpc_head.specs.declared.values.call.ProcId.{ProcId}
use Rattle.rpc_head.specs.declared.values.message_start.MessageStart.{MessageStart}
use Rattle.rpc_head.specs.declared.values.reply.Accept.TheVariants.{Success}
use Rattle.rpc_head.specs.declared.values.reply.Deny.TheVariants.{RpcMismatch}
use Rattle.rpc_head.specs.declared.values.reply.ReplyHead.{ReplyHead}
use Rattle.rpc_head.specs.declared.values.reply.ReplyHead.TheVariants.{Accepted, Denied}
use Rattle.rpc_head.specs.HeadScan.{procedure_in_head, success_in_head}
use Rattle.rpc_head.specs.Messages.{procedure_in}
use Rattle.rpc_head.specs.Shapes.{message_start}
use Rattle.rpc_head.specs.MessageStart.{start_items}
use Rattle.capture3.specs.BodyProgram.{is_same}
use Rattle.capture3.specs.machinery.ScannedMessages.{StopsMessage}
use Rattle.capture3.specs.machinery.Spelled.{SpellsCall, SpellsNoCall, SpellsNoReply}
use Rattle.capture3.proofs.Lemmas.Messages.SpelledLemmas.{asking, call_never_stops, one_call, one_reply, reply_start, xid_read, reply_never_stops}

-- ---- calls

pub procedure_of_head : (h : CallHead) → procedure_in_head (call_head_items h) ≡ h.id
unfolding followed_by
procedure_of_head h = refl

call_procedure_is : (m : CallMsg) → procedure_in (call_items m) ≡ m.head.id
unfolding followed_by
call_procedure_is m = refl

-- the call that a body spells is of the procedure of any call that it spells
pub call_has_procedure : (id : ProcId) (body : List ℕ) (m : CallMsg) → IsCall body (call_items m)
    → ∥ SpellsCall id body ∥₁ → m.head.id ≡ id
call_has_procedure id body m is s = same_is m.head.id id (∥∥₁_elim s (Bool-set _ _) same)
  where
    same : SpellsCall id body → is_same m.head.id id ≡ true
    same x =
        ap (is_same m.head.id) (x.2
        ∙ sym (ap procedure_in (one_call body (call_items m) x.0 is x.1))
        ∙ call_procedure_is m) ∙ is_same_self m.head.id

-- where judging the body stops, it spells no call
pub no_call : {M : Type 0} (r : Result M GetError) (body : List ℕ)
    → IfErr r (λ e. StopsMessage e (judge_call [] body)) → IfErr r (λ e. SpellsNoCall e body)
no_call (Ok m) body h = h
no_call (Err e) body h =
    λ stop same items is.
    call_never_stops (procedure_in items) body stop (items, is, refl) (h stop same)

-- ---- replies

pub success_of_head : (h : ReplyHead) → success_in_head (reply_head_items h) ≡ is_success h
unfolding followed_by
success_of_head (Accepted verf Success) = refl
success_of_head (Denied (RpcMismatch low high)) = refl
success_of_head h = refl

-- a call with this xid and this procedure
abbrev pub the_call : ℕ → ProcId → List (List Item)
the_call xid id = asking xid id ∷ []

pub asked_by : (xid : ℕ) (id : ProcId) → procedure_of (the_call xid id) xid ≡ Some id
asked_by xid id = ap (λ (b : Bool). cond b (Some id) None) (eq-eqb xid xid refl)

-- a call with the xid of the reply that a body spells is asked for by the xid that is read
pub asked : (id : ProcId) (body : List ℕ) (items : List Item) (s : MessageStart) (to : ℕ)
    → IsReply body (record { id = id; items = items })
    → reading message_start body 0 ≡ Ok (start_items s, to)
    → procedure_of (the_call (xid_in items) id) s.xid ≡ Some id
asked id body items s to is read =
    ap (procedure_of (the_call (xid_in items) id))
    (xid_read body (xid_in items) 1 s to (reply_start id body items is) read)
    ∙ asked_by (xid_in items) id

-- where judging the body after such a call stops, it spells no reply
pub no_reply : {M : Type 0} (r : Result M GetError) (id : ProcId) (body : List ℕ)
    → ((items : List Item) → IsReply body (record { id = id; items = items })
    → IfErr r (λ e. StopsMessage e (judge_reply (the_call (xid_in items) id) body)))
    → IfErr r (λ e. SpellsNoReply e id body)
no_reply (Ok m) id body h = tt
no_reply (Err e) id body h = λ stop same items is.
    reply_never_stops id body (xid_in items) id stop refl
    (λ other was. ap xid_in (one_reply id body items other is was)) (items, is)
    (h items is stop same)
