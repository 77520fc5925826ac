-- The items of times (RFC 1813). Their names are those of the place where
-- they stand.
use Rattle.std.specs.Prelude.{ℕ, List, [], ◌∷◌}
use Rattle.xdr3.specs.Item.{Item, Word}
use Rattle.nfs3_types.specs.declared.values.time.Time.{Time}
use Rattle.nfs3_types.specs.declared.values.time.TimeHow.{TimeHow}
use Rattle.nfs3_types.specs.declared.values.time.TimeHow.TheVariants.{Keep, Server, Client}

abbrev pub time_items : List ℕ → List ℕ → Time → List Item
time_items sec nsec t = Word sec t.sec ∷ Word nsec t.nsec ∷ []

abbrev pub time_how_items : List ℕ → List ℕ → List ℕ → TimeHow → List Item
time_how_items name sec nsec Keep = Word name 0 ∷ []
time_how_items name sec nsec Server = Word name 1 ∷ []
time_how_items name sec nsec (Client t) = Word name 2 ∷ time_items sec nsec t
