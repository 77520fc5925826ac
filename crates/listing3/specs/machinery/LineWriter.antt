-- What a writer of lines holds.
use Rattle.std.specs.Prelude.{◌≡◌, List, [], ◌∷◌, ◌++◌, length}
use Rattle.xdr3.specs.Item.{Item, Word, called}
use Rattle.capture3.specs.Entry.{Entry}
use Rattle.canon3.specs.Values.{handles_in}
use Rattle.canon3.specs.HandleTable.{all_items}
use Rattle.listing3.specs.declared.line_writer.LineWriter.{LineWriter}
use Rattle.listing3.specs.machinery.ItemsText.{TextStands}

-- The items of the messages before stand in front of the message's own, and how many these are in
-- front of all.
abbrev pub after_front : (front items : List Item) → List Item
after_front front items = Word [] (length front) ∷ (front ++ items)

-- which lists of items a visitor stands for, that may keep file handles
module _ {H : Type 0} (stands : H → List Item → Type 0) where
  -- items without handles change nothing
  abbrev pub SkipsOthers : Type 0
  SkipsOthers = (visitor : H) (items more : List Item) → handles_in more ≡ []
      → stands visitor items → stands visitor (items ++ more)

  -- a message that is open, after these items: its xid, and the text of the items after it
  pub record HasLineUnderWay (writer : LineWriter H) (front items : List Item) : Type 0 where
    pub gathered : stands writer.handles (front ++ items)
    pub rest : List Item
    pub begins : items ≡ Word (called "xid") writer.xid ∷ rest
    pub text : TextStands writer.items rest

  abbrev pub LineStands : LineWriter H → List Item → Type 0
  LineStands writer all = (front : List Item) × (items : List Item)
      × (all ≡ after_front front items) × HasLineUnderWay writer front items

  -- no message is open, after these items, and what is in the text means nothing
  abbrev pub LineRests : LineWriter H → List Item → Type 0
  LineRests writer all = (front : List Item) × (all ≡ after_front front [])
      × stands writer.handles front

-- what stands for entries whose lines were written
abbrev pub items_before : List Entry → List Item
items_before entries = after_front (all_items entries) []

abbrev pub always : {H : Type 0} → LineWriter H → Type 0
always writer = Unit {0}
