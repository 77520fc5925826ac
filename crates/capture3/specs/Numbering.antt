-- The numbers of messages: their xids (RFC 5531, section 9) by the order of first appearance in a
-- connection.
use Rattle.std.specs.Prelude.{◌≡◌, ℕ, nat_eq, List, [], ◌∷◌, ◌++◌, Option, Some, None}
use Rattle.capture3.specs.declared.reader.entry.LentEntry.{LentEntry}
use Rattle.capture3.specs.declared.reader.entry.LentEntry.TheVariants as lent
use Rattle.capture3.specs.Bodies.{xid_in}
use Rattle.capture3.specs.Entry.{Entry, Call, Reply}
use Rattle.capture3.specs.Kept.{IsLent}
use Rattle.capture3.specs.OpenXids.{open_xids}
use Rattle.capture3.specs.Rank.{rank}

-- the number of a lent message
abbrev pub number_lent : LentEntry → Option ℕ
number_lent (lent.Call call) = Some call.number
number_lent (lent.Reply reply) = Some reply.number
number_lent _ = None

-- the rank of a message's xid among these; another entry has none
abbrev pub rank_among : List ℕ → Entry → Option ℕ
rank_among xids (Call items) = Some (rank nat_eq (xid_in items) xids)
rank_among xids (Reply id items) = Some (rank nat_eq (xid_in items) xids)
rank_among xids _ = None

-- The number of the entry that comes after these: the rank of its xid among the xids of its
-- connection's calls so far. A call counts itself.
abbrev pub number_after : (before : List Entry) → Entry → Option ℕ
number_after before entry = rank_among (open_xids [] (before ++ entry ∷ [])) entry

-- the entry that is lent after these, with its number
abbrev pub IsLentAfter : (before : List Entry) → LentEntry → Entry → Type 0
IsLentAfter before lent entry = IsLent lent entry × (number_lent lent ≡ number_after before entry)
