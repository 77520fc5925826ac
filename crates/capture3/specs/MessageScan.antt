-- Whole messages that are read and passed to a visitor at once.
use Rattle.std.specs.Prelude.{List}
use Rattle.xdr3.specs.Item.{Item}
use Rattle.capture3.specs.MessageVisit.{OpensMessage}

-- a visitor was passed the items of a message that are so
abbrev pub PassesMessage : {V : Type 0} → (rests stands : V → List Item → Type 0)
    → (List Item → Type 0) → V → V → Type 0
PassesMessage rests stands Holds old new = (items : List Item) × Holds items
    × OpensMessage rests stands old new items
