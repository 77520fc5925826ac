-- Calls worked by hand: how their bytes are laid out.
use Rattle.std.specs.Prelude.{◌≡◌, ℕ, ◌==◌, if◌then◌else◌, List, [], ◌∷◌, ◌++◌, Ok, codes}
use Rattle.xdr3.specs.declared.reason.Reason.TheVariants.{BadEnum}
use Rattle.xdr3.specs.Item.{Item, Handle, Opaque, Text, Var, Word, called}
use Rattle.xdr3.specs.Examples.{words}
use Rattle.xdr3.specs.Layout.{Layout, exactly, reading_layout}
use Rattle.xdr3.specs.Reading.{refused}
use Rattle.xdr3.specs.Shape.{nothing, opaque}
use Rattle.rpc_head.specs.declared.values.call.ProcId.{ProcId}
use Rattle.rpc_head.specs.Messages.{call_layout}

-- a file handle in procedure 1, nothing in any other
abbrev pub handle_in_one : ProcId → Layout
handle_in_one id =
    if id.proc_no == 1 then exactly (opaque Handle (codes "fh") 64) else exactly nothing

-- the items of a call of procedure number in version 3 of program 100003, from xid 7 to proc
abbrev pub call_to : ℕ → List Item → List Item
call_to number more =
    Word (called "xid") 7 ∷ Word (called "mtype") 0 ∷ Word (called "rpcvers") 2
    ∷ Word (called "prog") 100003 ∷ Word (called "vers") 3 ∷ Word (called "proc") number ∷ more

abbrev pub no_verifier : List Item → List Item
no_verifier more = Word (called "verf_flavor") 0 ∷ Opaque Var (called "verf_body") [] ∷ more

abbrev pub plain_call : ℕ → List ℕ
plain_call number = words (7 ∷ 0 ∷ 2 ∷ 100003 ∷ 3 ∷ number ∷ 0 ∷ 0 ∷ 0 ∷ 0 ∷ [])

-- stamp 1, machine name ab, uid 0, gid 0 and the group 9, in 28 bytes
abbrev pub system_call : List ℕ
system_call =
    words (7 ∷ 0 ∷ 2 ∷ 100003 ∷ 3 ∷ 0 ∷ 1 ∷ 28 ∷ 1 ∷ 2 ∷ [])
    ++ (97 ∷ 98 ∷ 255 ∷ 255 ∷ words (0 ∷ 0 ∷ 1 ∷ 9 ∷ 0 ∷ 0 ∷ []))

pub record Calls : Type 0 where
  pub no_arguments : reading_layout (call_layout handle_in_one) (plain_call 0) 0
      ≡ Ok (
        call_to 0 (Word (called "cred_flavor") 0 ∷ Opaque Var (called "cred_body") []
            ∷ no_verifier []),
        40,
      )
  pub one_argument : reading_layout (call_layout handle_in_one) (plain_call 1
      ++ words (1 ∷ 4278190080 ∷ [])) 0
      ≡ Ok (
        call_to 1 (Word (called "cred_flavor") 0 ∷ Opaque Var (called "cred_body") []
            ∷ no_verifier (Opaque Handle (codes "fh") (255 ∷ []) ∷ [])),
        48,
      )
  pub by_system : reading_layout (call_layout handle_in_one) system_call 0
      ≡ Ok (
        call_to 0 (Word (called "cred_flavor") 1 ∷ Word (called "cred_length") 28
            ∷ Word (called "stamp") 1 ∷ Opaque Text (called "machinename") (97 ∷ 98 ∷ [])
            ∷ Word (called "uid") 0 ∷ Word (called "gid") 0 ∷ Word (called "gids") 1
            ∷ Word (called "group") 9 ∷ no_verifier []),
        68,
      )
  pub no_reply : reading_layout (call_layout handle_in_one) (words (7 ∷ 1 ∷ 0 ∷ 0 ∷ 0 ∷ 0 ∷ [])) 0
      ≡ refused 4 BadEnum
