-- Lent and kept entries, and the entries that they are.
use Rattle.std.specs.Prelude.{◌≡◌, ℕ, ◌+◌, List, [], ◌∷◌}
use Rattle.xdr3.specs.Item.{Item}
use Rattle.rpc_head.specs.Messages.{procedure_in}
use Rattle.capture3.specs.declared.reader.entry.Entry as kept
use Rattle.capture3.specs.declared.reader.entry.Entry.TheVariants as variants
use Rattle.capture3.specs.declared.reader.entry.LentEntry.{LentEntry}
use Rattle.capture3.specs.declared.reader.entry.LentEntry.TheVariants as lent
use Rattle.capture3.specs.declared.reader.entry.Kind.{Kind}
use Rattle.capture3.specs.declared.reader.entry.Kind.TheVariants as kinds
use Rattle.capture3.specs.Bodies.{IsCall, IsReply}
use Rattle.capture3.specs.Entry.{Entry, Begin, Call, Turn, Reply, Close, End}

-- what a lent entry is
abbrev pub kind_of : LentEntry → Kind
kind_of lent.Begin = kinds.Begin
kind_of (lent.Call call) = kinds.Call call.id
kind_of lent.Turn = kinds.Turn
kind_of (lent.Reply reply) = kinds.Reply reply.id
kind_of lent.Close = kinds.Close
kind_of lent.End = kinds.End

-- A lent message's body spells the entry's items, for its procedure (RFC 5531, section 9).
abbrev pub IsLent : LentEntry → Entry → Type 0
IsLent lent.Begin entry = entry ≡ Begin
IsLent (lent.Call call) entry = (items : List Item) × IsCall call.body.now items
    × (call.id ≡ procedure_in items) × (entry ≡ Call items)
IsLent lent.Turn entry = entry ≡ Turn
IsLent (lent.Reply reply) entry = (items : List Item)
    × IsReply reply.body.now (record { id = reply.id; items = items })
    × (entry ≡ Reply reply.id items)
IsLent lent.Close entry = entry ≡ Close
IsLent lent.End entry = entry ≡ End

-- A kept message's body spells the entry's items, for its procedure (RFC 5531, section 9).
abbrev pub IsKept : kept.Entry → Entry → Type 0
IsKept variants.Begin entry = entry ≡ Begin
IsKept (variants.Call call) entry = (items : List Item) × IsCall call.body.items items
    × (call.id ≡ procedure_in items) × (entry ≡ Call items)
IsKept variants.Turn entry = entry ≡ Turn
IsKept (variants.Reply reply) entry = (items : List Item)
    × IsReply reply.body.items (record { id = reply.id; items = items })
    × (entry ≡ Reply reply.id items)
IsKept variants.Close entry = entry ≡ Close
IsKept variants.End entry = entry ≡ End

-- the same one by one
abbrev pub AreKept : List kept.Entry → List Entry → Type 0
AreKept [] entries = entries ≡ []
AreKept (one ∷ more) entries = (entry : Entry) × (rest : List Entry) × (entries ≡ entry ∷ rest)
    × IsKept one entry × AreKept more rest

-- a kept entry has the kind of a lent one, and of a message the same procedure and bytes
abbrev pub IsCopy : LentEntry → kept.Entry → Type 0
IsCopy lent.Begin variants.Begin = Unit {0}
IsCopy (lent.Call call) (variants.Call copy) = (copy.id ≡ call.id)
    × (copy.body.items ≡ call.body.now)
IsCopy lent.Turn variants.Turn = Unit {0}
IsCopy (lent.Reply reply) (variants.Reply copy) = (copy.id ≡ reply.id)
    × (copy.body.items ≡ reply.body.now)
IsCopy lent.Close variants.Close = Unit {0}
IsCopy lent.End variants.End = Unit {0}
IsCopy _ _ = ⊥

-- how many connections kept entries begin
abbrev pub begun : List kept.Entry → ℕ
begun [] = 0
begun (variants.Begin ∷ more) = 1 + begun more
begun (_ ∷ more) = begun more
