-- What is passed to a visitor as it is read, to the end of a window.
use Rattle.std.specs.Prelude.{◌≡◌, List, length, Ok}
use Rattle.xdr3.specs.declared.reason.GetError.{GetError}
use Rattle.xdr3.specs.Gives.{Fails}
use Rattle.xdr3.specs.Item.{Item}
use Rattle.xdr3.specs.Reading.{from_window, reading}
use Rattle.xdr3.specs.Shape.{Shape}
use Rattle.xdr3.specs.View.{View}
use Rattle.xdr3.specs.Visit.{Adds}

-- All that is left of a window is items of the shape, and a visitor was passed them.
unfoldable pub ScansInside : {V : Type 0} → (V → List Item → Type 0) → Shape → View → V → V → Type 0
ScansInside stands shape window before after =
    (items : List Item)
    × (from_window (length window.body) (reading shape window.body window.at)
    ≡ Ok (items, length window.body)) × Adds stands before after items

unfoldable pub StopsInside : Shape → View → GetError → Type 0
StopsInside shape window error =
    Fails error (from_window (length window.body) (reading shape window.body window.at))
