-- The name that a LOOKUP call looks up.
use Rattle.std.specs.Prelude.{◌≡◌, ℕ, List, Option, Some, codes}
use Rattle.nfs3_types.specs.declared.values.directory.DirOp.{DirOp}
use Rattle.capture3.specs.Bodies.{IsCall}
use Rattle.procs3.specs.declared.values.args.Args.TheVariants.{Lookup}
use Rattle.procs3.specs.Table.{name_of_procedure}
use Rattle.capture3.specs.declared.message.values.CallMsg.{CallMsg}
use Rattle.capture3.specs.MessageValues.{call_items}

-- the procedure's name (RFC 1813, section 3.3.3)
abbrev pub lookup : Option (List ℕ)
lookup = Some (codes "NFSPROC3_LOOKUP")

-- the body is a LOOKUP call's, and the name that of its arguments (RFC 1813, section 3.3.3)
pub record LooksUp (body name : List ℕ) : Type 0 where
  pub message : CallMsg
  pub what : DirOp
  pub is : IsCall body (call_items message)
  pub procedure : name_of_procedure message.head.id ≡ lookup
  pub arguments : message.args ≡ Lookup what
  pub named : what.name.now ≡ name
