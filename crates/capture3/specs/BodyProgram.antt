-- Judging a body from left to right: the plain program that decides which bodies are accepted.
use Rattle.std.specs.Prelude.{ℕ, Bool, true, ◌==◌, ◌&&◌, if◌then◌else◌, List, length, Option, Some, None, Result, Ok}
use Rattle.xdr3.specs.declared.reason.Reason.TheVariants.{Trailing, WrongSide, NoCall, XidConflict}
use Rattle.xdr3.specs.declared.reason.Stop.{Stop}
use Rattle.xdr3.specs.Item.{Item}
use Rattle.xdr3.specs.Layout.{Layout, reading_layout, word_in}
use Rattle.xdr3.specs.Reading.{◌>>=◌, reading, refused}
use Rattle.rpc_head.specs.declared.values.call.ProcId.{ProcId}
use Rattle.rpc_head.specs.Messages.{call_layout, reply_layout, procedure_in}
use Rattle.rpc_head.specs.Shapes.{message_start}
use Rattle.procs3.specs.Table.{arguments_of, results_of}
use Rattle.capture3.specs.Bodies.{ReplyItems, procedure_of, xid_in}

-- the items are all of the body
abbrev pub all_of_body : List ℕ → List Item × ℕ → Result (List Item) Stop
all_of_body body read = if read.1 == length body then Ok read.0 else refused read.1 Trailing

-- a whole body by its layout
abbrev pub read_whole : Layout → List ℕ → Result (List Item) Stop
read_whole layout body = reading_layout layout body 0 >>= all_of_body body

abbrev pub is_same : ProcId → ProcId → Bool
is_same a b = (a.prog == b.prog) && (a.vers == b.vers) && (a.proc_no == b.proc_no)

-- the procedure of an xid, if it has one, is this
abbrev pub agrees : Option ProcId → ProcId → Bool
agrees None id = true
agrees (Some other) id = is_same other id

abbrev pub agreed : List (List Item) → List Item → Result (List Item) Stop
agreed before items =
    if agrees (procedure_of before (xid_in items)) (procedure_in items) then Ok items else refused 0
    XidConflict

abbrev pub call_after : List (List Item) → List ℕ → List Item × ℕ → Result (List Item) Stop
call_after before body start =
    if word_in start.0 1 == 0 then (read_whole (call_layout arguments_of) body >>= agreed before)
    else refused 4 WrongSide

-- a body of the client stream, after the calls before it
unfoldable pub judge_call : List (List Item) → List ℕ → Result (List Item) Stop
judge_call before body = reading message_start body 0 >>= call_after before body

abbrev pub answering : List ℕ → Option ProcId → Result ReplyItems Stop
answering body None = refused 0 NoCall
answering body (Some id) =
    read_whole (reply_layout (results_of id)) body
    >>= λ items. Ok (record { id = id; items = items })

abbrev pub reply_after : List (List Item) → List ℕ → List Item × ℕ → Result ReplyItems Stop
reply_after calls body start =
    if word_in start.0 1 == 0 then refused 4 WrongSide else answering body
    (procedure_of calls (word_in start.0 0))

-- a body of the server stream, after all calls of its connection
unfoldable pub judge_reply : List (List Item) → List ℕ → Result ReplyItems Stop
judge_reply calls body = reading message_start body 0 >>= reply_after calls body
