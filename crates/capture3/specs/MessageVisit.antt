-- What a visitor of messages is told.
use Rattle.std.specs.Prelude.{List, ◌++◌}
use Rattle.xdr3.specs.Item.{Item}
use Rattle.capture3.specs.Entry.{Entry, Call, Reply}

-- which lists of items a visitor represents while no message is open, and within one
module _ {V : Type 0} (rests stands : V → List Item → Type 0) where
  -- where old rested for a list, new stands for it with these items of a message added
  unfoldable pub OpensMessage : (old new : V) → List Item → Type 0
  OpensMessage old new items =
      (before : List Item) → rests old before → stands new (before ++ items)

  -- it was passed an entry after these items: it stands in a message, and rests after another entry
  abbrev pub HasHeard : V → List Item → Entry → Type 0
  HasHeard v before (Call items) = stands v (before ++ items)
  HasHeard v before (Reply id items) = stands v (before ++ items)
  HasHeard v before _ = rests v before

  -- where old rested for a list, new was passed the entry after it
  unfoldable pub Hears : (old new : V) → Entry → Type 0
  Hears old new entry = (before : List Item) → rests old before → HasHeard new before entry
