-- Captures that are the same but for the values that are masked.
use Rattle.std.specs.Prelude.{◌≡◌, ◌⊎◌, ℕ, true, false, List, [], ◌∷◌, Option, None, Some}
use Rattle.xdr3.specs.Item.{Item, Word, Hyper, Fixed}
use Rattle.rpc_head.specs.declared.values.call.ProcId.{ProcId}
use Rattle.capture3.specs.Entry.{Entry, Begin, Call, Turn, Reply, Close, End}
use Rattle.canon3.specs.OneToOne.{AreBeside, OneToOne, Pairs}
use Rattle.canon3.specs.Renaming.{Pairwise, Same}
use Rattle.masking3.specs.declared.values.class.Class.{Class}
use Rattle.masking3.specs.declared.values.spot.ItemSpot.{ItemSpot}
use Rattle.masking3.specs.declared.values.spot.ItemSpot.TheVariants.{InCall, InReply}
use Rattle.masking3.specs.declared.values.ways.Way.{Way}
use Rattle.masking3.specs.declared.values.ways.Way.TheVariants.{Keep, Zero, Number}
use Rattle.masking3.specs.declared.values.ways.Ways.{Ways}
use Rattle.masking3.specs.Classes.{class_of, class_value}
use Rattle.masking3.specs.Masked.{is_zero_that_stays}
use Rattle.masking3.specs.Spots.{next_spot}
use Rattle.masking3.specs.Unnamed.{names_by}
use Rattle.masking3.specs.Ways.{way_of}

-- ---- an item

-- equal but for their values
pub data AreAlike : Item → Item → Type 0 where
  words : {name : List ℕ} {m n : ℕ} → AreAlike (Word name m) (Word name n)
  hypers : {name : List ℕ} {m n : ℕ} → AreAlike (Hyper name m) (Hyper name n)
  eights : {name b c : List ℕ} → AreAlike (Fixed name b) (Fixed name c)

-- a value of the class that is no 0 with a meaning of its own
abbrev pub IsNumbered : Class → ℕ → Type 0
IsNumbered class n = is_zero_that_stays class n ≡ false

-- two values that stand beside one another, or both the 0 with a meaning of its own
abbrev pub ArePartners : Class → Pairs ℕ → ℕ → ℕ → Type 0
ArePartners class pairs m n =
    AreBeside pairs m n
    ⊎ ((is_zero_that_stays class m ≡ true) × (is_zero_that_stays class n ≡ true))

-- an item of a class stays, or has any value, or its partner's, by the way of the class
abbrev pub ChangesBy : Way → Class → Pairs ℕ → Item → Item → Type 0
ChangesBy Keep class pairs i j = i ≡ j
ChangesBy Zero class pairs i j = AreAlike i j
ChangesBy Number class pairs i j =
    AreAlike i j × ArePartners class pairs (class_value i) (class_value j)

-- an item of no class stays
abbrev pub ChangesOf : Ways → (Class → Pairs ℕ) → Option Class → Item → Item → Type 0
ChangesOf ways pairs None i j = i ≡ j
ChangesOf ways pairs (Some class) i j = ChangesBy (way_of ways class) class (pairs class) i j

-- an item at this spot
abbrev pub ChangesItem : Ways → (Class → Pairs ℕ) → ItemSpot → Item → Item → Type 0
ChangesItem ways pairs spot i j = ChangesOf ways pairs (class_of spot i) i j

-- the items of a message from this spot on
pub data ChangesItems (ways : Ways) (pairs : Class → Pairs ℕ)
    : ItemSpot → List Item → List Item → Type 0 where
  over : {spot : ItemSpot} → ChangesItems ways pairs spot [] []
  along : {spot : ItemSpot} {i j : Item} {a b : List Item} → ChangesItem ways pairs spot i j
      → ChangesItems ways pairs (next_spot spot i) a b
      → ChangesItems ways pairs spot (i ∷ a) (j ∷ b)

-- ---- entries

-- only items of messages change
pub data ChangesEntry (ways : Ways) (pairs : Class → Pairs ℕ) : Entry → Entry → Type 0 where
  begin : ChangesEntry ways pairs Begin Begin
  call : {a b : List Item} → ChangesItems ways pairs InCall a b
      → ChangesEntry ways pairs (Call a) (Call b)
  turn : ChangesEntry ways pairs Turn Turn
  reply : {id : ProcId} {a b : List Item} → ChangesItems ways pairs InReply a b
      → ChangesEntry ways pairs (Reply id a) (Reply id b)
  close : ChangesEntry ways pairs Close Close
  end : ChangesEntry ways pairs End End

-- One-to-one renamings of the values of each numbered class, and any values of each class that is
-- zero, turn a into entries that are the same as b up to handles, write verifiers and xids.
pub record SameButValues (ways : Ways) (a b : List Entry) : Type 0 where
  pub value_pairs : Class → Pairs ℕ
  pub values_one_to_one : (class : Class) → OneToOne (IsNumbered class) (value_pairs class)
  pub changed : List Entry
  pub changes : Pairwise (ChangesEntry ways value_pairs) a changed
  pub same : Same changed b

-- so are the captures with masked names; where these are kept, the captures as they are
abbrev pub SameBut : Ways → List Entry → List Entry → Type 0
SameBut ways a b = SameButValues ways (names_by ways a) (names_by ways b)
