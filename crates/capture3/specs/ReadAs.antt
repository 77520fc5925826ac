-- Entries whose calls are values, and the entries that they are.
use Rattle.std.specs.Prelude.{◌≡◌, List}
use Rattle.xdr3.specs.Item.{Item}
use Rattle.capture3.specs.declared.reader.entry.Kind.{Kind}
use Rattle.capture3.specs.declared.reader.entry.Kind.TheVariants as kinds
use Rattle.capture3.specs.declared.reader.entry_ref.EntryRef.{EntryRef}
use Rattle.capture3.specs.declared.reader.entry_ref.EntryRef.TheVariants as read
use Rattle.capture3.specs.Bodies.{IsReply}
use Rattle.capture3.specs.Entry.{Entry, Begin, Call, Turn, Reply, Close, End}
use Rattle.capture3.specs.MessageValues.{call_items}

abbrev pub kind_of_read : EntryRef → Kind
kind_of_read read.Begin = kinds.Begin
kind_of_read (read.Call call) = kinds.Call call.head.id
kind_of_read read.Turn = kinds.Turn
kind_of_read (read.Reply reply) = kinds.Reply reply.id
kind_of_read read.Close = kinds.Close
kind_of_read read.End = kinds.End

-- A call has the entry's items; a lent reply's body spells them.
abbrev pub IsReadAs : EntryRef → Entry → Type 0
IsReadAs read.Begin entry = entry ≡ Begin
IsReadAs (read.Call call) entry = entry ≡ Call (call_items call)
IsReadAs read.Turn entry = entry ≡ Turn
IsReadAs (read.Reply reply) entry = (items : List Item)
    × IsReply reply.body.now (record { id = reply.id; items = items })
    × (entry ≡ Reply reply.id items)
IsReadAs read.Close entry = entry ≡ Close
IsReadAs read.End entry = entry ≡ End
