-- How many calls of a procedure a capture has.
use Rattle.std.specs.Prelude.{◌≡◌, ℕ, ◌==◌, ◌&&◌, Bool, false, List, count_by}
use Rattle.rpc_head.specs.declared.values.call.ProcId.{ProcId}
use Rattle.rpc_head.specs.Messages.{procedure_in}
use Rattle.capture3.specs.Entry.{Entry, Call}
use Rattle.capture3.specs.Typed.{Typed}

-- the same program, version and procedure (RFC 5531, section 9)
abbrev pub same_procedure : ProcId → ProcId → Bool
same_procedure a b = (a.prog == b.prog) && (a.vers == b.vers) && (a.proc_no == b.proc_no)

abbrev pub is_call_of : ProcId → Entry → Bool
is_call_of id (Call items) = same_procedure (procedure_in items) id
is_call_of id _ = false

-- the bytes are a well-formed capture with so many calls of the procedure
pub record CountsCalls (bytes : List ℕ) (id : ProcId) (count : ℕ) : Type 0 where
  pub entries : List Entry
  pub typed : Typed bytes entries
  pub is : count ≡ count_by (is_call_of id) entries
