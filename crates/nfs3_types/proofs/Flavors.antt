-- How many flavors a body can have.
use Rattle.std.proofs.Common.{ℕ, ◌^◌, ◌<◌, ◌≤◌, List, [], ◌∷◌, length, arith}
use Rattle.std.specs.List.{flat_map}
use Rattle.xdr3.specs.Item.{zero_spelling}
use Rattle.xdr3.specs.Combined.{counted_items}
use Rattle.xdr3.specs.Visit.{AreWithinLimit}
use Rattle.nfs3_types.specs.declared.values.mount3.Flavor.{Flavor}
use Rattle.nfs3_types.specs.Mounts.{flavor_items}

four_each : (all : List Flavor) → length all ≤ length (zero_spelling (flat_map flavor_items all))
four_each [] = omega arith
four_each (f ∷ all) = omega (arith, four_each all)

pub few_flavors : (name : List ℕ) (all : List Flavor)
    → AreWithinLimit (counted_items name flavor_items all) → length all < 2 ^ 32
unfolding AreWithinLimit
few_flavors name all h = omega (arith, four_each all)
