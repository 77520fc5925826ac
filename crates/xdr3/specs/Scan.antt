-- What is passed to a visitor as it is read.
use Rattle.std.specs.Prelude.{◌≡◌, ℕ, Bool, List, [], ◌∷◌, Ok}
use Rattle.xdr3.specs.declared.reason.GetError.{GetError}
use Rattle.xdr3.specs.declared.reason.Reason.{Reason}
use Rattle.xdr3.specs.Gives.{Fails}
use Rattle.xdr3.specs.Item.{Item, Word}
use Rattle.xdr3.specs.Reading.{reading, word_at}
use Rattle.xdr3.specs.Layout.{Layout, reading_layout}
use Rattle.xdr3.specs.Shape.{Shape}
use Rattle.xdr3.specs.View.{MovesOn, View}
use Rattle.xdr3.specs.Visit.{Adds}

-- Items of the shape are between two positions of one body, and a visitor was passed them. Before
-- and after it there are the input and the visitor.
unfoldable pub Scans : {V : Type 0} → (V → List Item → Type 0) → Shape → (old new : View × V)
    → Type 0
Scans stands shape (old, before) (new, after) =
    (items : List Item) × (reading shape old.body old.at ≡ Ok (items, new.at)) × MovesOn old new
    × Adds stands before after items

-- A word is there, and a visitor was passed it. Of a word there are the name, the values that are
-- accepted, and the reason for any other.
unfoldable pub ScansWord : {V : Type 0} → (V → List Item → Type 0)
    → List ℕ × (ℕ → Bool) × Reason → ℕ → (old new : View × V) → Type 0
ScansWord stands (name, accepted, other) n (old, before) (new, after) =
    (word_at accepted other old.body old.at ≡ Ok (n, new.at)) × MovesOn old new
    × Adds stands before after (Word name n ∷ [])

-- The failure is that of reading the shape there, unless memory ran out.
unfoldable pub Stops : Shape → View → GetError → Type 0
Stops shape old error = Fails error (reading shape old.body old.at)

unfoldable pub StopsWord : (ℕ → Bool) → Reason → View → GetError → Type 0
StopsWord accepted other old error = Fails error (word_at accepted other old.body old.at)

-- Items of the layout are between two positions of one body, and a visitor was passed them.
unfoldable pub ScansLayout : {V : Type 0} → (V → List Item → Type 0) → Layout
    → (old new : View × V) → Type 0
ScansLayout stands layout (old, before) (new, after) =
    (items : List Item) × (reading_layout layout old.body old.at ≡ Ok (items, new.at))
    × MovesOn old new × Adds stands before after items

-- The failure is that of reading the layout there, unless memory ran out.
unfoldable pub StopsLayout : Layout → View → GetError → Type 0
StopsLayout layout old error = Fails error (reading_layout layout old.body old.at)
