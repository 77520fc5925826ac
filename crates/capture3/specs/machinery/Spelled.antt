-- Bodies that spell a message of a procedure, and bodies that spell none.
use Rattle.std.specs.Prelude.{◌≡◌, ℕ, List}
use Rattle.xdr3.specs.declared.reason.GetError.{GetError}
use Rattle.xdr3.specs.declared.reason.GetError.TheVariants as errors
use Rattle.xdr3.specs.declared.reason.Stop.{Stop}
use Rattle.xdr3.specs.Item.{Item}
use Rattle.rpc_head.specs.declared.values.call.ProcId.{ProcId}
use Rattle.rpc_head.specs.Messages.{procedure_in}
use Rattle.capture3.specs.Bodies.{IsCall, IsReply}

-- a call of this procedure (RFC 5531, section 9)
abbrev pub SpellsCall : ProcId → List ℕ → Type 0
SpellsCall id body = (items : List Item) × IsCall body items × (id ≡ procedure_in items)

-- a reply to a call of this procedure (RFC 5531, section 9)
abbrev pub SpellsReply : ProcId → List ℕ → Type 0
SpellsReply id body = (items : List Item) × IsReply body (record { id = id; items = items })

-- the body spells no call, unless memory ran out
abbrev pub SpellsNoCall : GetError → List ℕ → Type 0
SpellsNoCall error body = (stop : Stop) → error ≡ errors.Stop stop → (items : List Item)
    → IsCall body items → ⊥

-- the body spells no reply with the results of this procedure, unless memory ran out
abbrev pub SpellsNoReply : GetError → ProcId → List ℕ → Type 0
SpellsNoReply error id body = (stop : Stop) → error ≡ errors.Stop stop → (items : List Item)
    → IsReply body (record { id = id; items = items }) → ⊥
