-- A small capture.
use Rattle.std.specs.Prelude.{ℕ, List, [], ◌∷◌, ◌++◌}
use Rattle.xdr3.specs.Item.{Item, Word, Opaque, Var, called}
use Rattle.rpc_head.specs.declared.values.call.ProcId.{ProcId}
use Rattle.capture3.specs.Entry.{Entry, Begin, Call, Turn, Reply, Close, End}

abbrev pub magic_1 : List ℕ
magic_1 = 78 ∷ 70 ∷ 83 ∷ 51 ∷ 67 ∷ 65 ∷ 80 ∷ 49 ∷ []

abbrev pub word_0 : List ℕ
word_0 = 0 ∷ 0 ∷ 0 ∷ 0 ∷ []

abbrev pub word_1 : List ℕ
word_1 = 0 ∷ 0 ∷ 0 ∷ 1 ∷ []

abbrev pub word_2 : List ℕ
word_2 = 0 ∷ 0 ∷ 0 ∷ 2 ∷ []

-- a call of NFSPROC3_NULL (RFC 1813, section 3.3.0) with the xid deadbeef, AUTH_NONE twice
abbrev pub null_call : List ℕ
null_call = (222 ∷ 173 ∷ 190 ∷ 239 ∷ []) ++ word_0 ++ word_2 ++ (0 ∷ 1 ∷ 134 ∷ 163 ∷ [])
    ++ (0 ∷ 0 ∷ 0 ∷ 3 ∷ []) ++ word_0 ++ word_0 ++ word_0 ++ word_0 ++ word_0

-- its accepted success
abbrev pub null_reply : List ℕ
null_reply = (222 ∷ 173 ∷ 190 ∷ 239 ∷ []) ++ word_1 ++ word_0 ++ word_0 ++ word_0 ++ word_0

-- the call and the reply, in one chunk and one fragment each
abbrev pub null_capture : List ℕ
null_capture =
    magic_1 ++ word_1 ++ (0 ∷ 0 ∷ 0 ∷ 44 ∷ []) ++ (128 ∷ 0 ∷ 0 ∷ 40 ∷ []) ++ null_call ++ word_0
    ++ (0 ∷ 0 ∷ 0 ∷ 28 ∷ []) ++ (128 ∷ 0 ∷ 0 ∷ 24 ∷ []) ++ null_reply ++ word_0 ++ word_0

abbrev pub null_procedure : ProcId
null_procedure = record { prog = 100003; vers = 3; proc_no = 0 }

abbrev pub null_call_items : List Item
null_call_items =
    Word (called "xid") 3735928559 ∷ Word (called "mtype") 0 ∷ Word (called "rpcvers") 2
    ∷ Word (called "prog") 100003 ∷ Word (called "vers") 3 ∷ Word (called "proc") 0
    ∷ Word (called "cred_flavor") 0 ∷ Opaque Var (called "cred_body") []
    ∷ Word (called "verf_flavor") 0 ∷ Opaque Var (called "verf_body") [] ∷ []

abbrev pub null_reply_items : List Item
null_reply_items =
    Word (called "xid") 3735928559 ∷ Word (called "mtype") 1 ∷ Word (called "reply_stat") 0
    ∷ Word (called "verf_flavor") 0 ∷ Opaque Var (called "verf_body") []
    ∷ Word (called "accept_stat") 0 ∷ []

abbrev pub null_entries : List Entry
null_entries =
    Begin ∷ Call null_call_items ∷ Turn ∷ Reply null_procedure null_reply_items ∷ Close ∷ End ∷ []
