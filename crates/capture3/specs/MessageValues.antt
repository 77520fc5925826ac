-- Whole messages as values: their items, and where they have results (RFC 5531, section 9).
use Rattle.std.specs.Prelude.{Bool, true, false, List, [], Option, Some, None}
use Rattle.xdr3.specs.Item.{Item, followed_by}
use Rattle.rpc_head.specs.declared.values.reply.Accept.TheVariants.{Success}
use Rattle.rpc_head.specs.declared.values.reply.ReplyHead.{ReplyHead}
use Rattle.rpc_head.specs.declared.values.reply.ReplyHead.TheVariants.{Accepted}
use Rattle.rpc_head.specs.Calls.{call_head_items}
use Rattle.rpc_head.specs.Replies.{reply_head_items}
use Rattle.rpc_head.specs.MessageStart.{start_items}
use Rattle.capture3.specs.Bodies.{ReplyItems}
use Rattle.capture3.specs.declared.message.values.CallMsg.{CallMsg}
use Rattle.capture3.specs.declared.message.values.ReplyMsg.{ReplyMsg}
use Rattle.procs3.specs.declared.values.results.Results.{Results}
use Rattle.procs3.specs.Items.{args_items, results_items}

-- a call's items (RFC 5531, section 9)
abbrev pub call_items : CallMsg → List Item
call_items m =
    followed_by (start_items (record { xid = m.xid; is_reply = false }))
    (followed_by (call_head_items m.head) (args_items m.args))

-- the items of the results, where there are some
abbrev pub items_after_head : Option Results → List Item
items_after_head None = []
items_after_head (Some results) = results_items results

-- a reply's items (RFC 5531, section 9)
abbrev pub reply_items : ReplyMsg → List Item
reply_items m =
    followed_by (start_items (record { xid = m.xid; is_reply = true }))
    (followed_by (reply_head_items m.head) (items_after_head m.results))

abbrev pub answered_items : ReplyMsg → ReplyItems
answered_items m = record { id = m.id; items = reply_items m }

-- the call was accepted, and it succeeded (RFC 5531, section 9: SUCCESS)
abbrev pub is_success : ReplyHead → Bool
is_success (Accepted verf Success) = true
is_success _ = false
