-- A message's start (RFC 5531, section 9).
use Rattle.std.specs.Prelude.{◌≡◌, ℕ, ◌+◌, List, [], ◌∷◌, drop, Result, Ok, Err}
use Rattle.xdr3.specs.declared.reason.Stop.{Stop}
use Rattle.xdr3.specs.Item.{Item, Word, called}
use Rattle.xdr3.specs.Shape.{Reads, Refuses}
use Rattle.xdr3.specs.View.{View, word_of}
use Rattle.rpc_head.specs.declared.values.message_start.MessageStart.{MessageStart}
use Rattle.rpc_head.specs.Shapes.{message_start}

-- the mtype is 1 in a reply, and 0 in a call
abbrev pub start_items : MessageStart → List Item
start_items s = Word (called "xid") s.xid ∷ Word (called "mtype") (word_of s.is_reply) ∷ []

-- The start's items stand between the old place and the new one. A stop is where and why the bytes
-- from the old place on are refused.
abbrev pub IsStart : View → Result MessageStart Stop → View → Type 0
IsStart old (Ok s) new =
    Reads message_start (drop old.at old.body) (start_items s) (drop new.at old.body)
IsStart old (Err stop) new = (after : ℕ)
    × Refuses message_start (drop old.at old.body) after stop.reason × (stop.at ≡ old.at + after)
