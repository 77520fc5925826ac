-- The ends of heads, as they are scanned.
use Rattle.std.specs.Prelude.{◌≡◌, ℕ, ◌==◌, if◌then◌else◌, List, [], ◌∷◌, Ok}
use Rattle.xdr3.specs.Layout.{word_in}
use Rattle.xdr3.specs.Item.{Item, Var}
use Rattle.xdr3.specs.Reading.{reading}
use Rattle.xdr3.specs.Named.{listed, opaque, word}
use Rattle.xdr3.specs.Shape.{Shape, ◌then◌}
use Rattle.xdr3.specs.View.{MovesOn, View}
use Rattle.xdr3.specs.Visit.{Adds}
use Rattle.rpc_head.specs.Shapes.{accept, auth_sys, gids, versions}

-- what follows the flavor of a credential
abbrev pub credential_of : ℕ → Shape
credential_of flavor =
    if flavor == 0 then opaque Var "cred_body" 400 else auth_sys

-- the end of the parameters of AUTH_SYS: the caller's user and groups
unfoldable pub owner : Shape
owner = word "uid" then word "gid" then gids

abbrev pub auth_stats : List ℕ
auth_stats = 0 ∷ 1 ∷ 2 ∷ 3 ∷ 4 ∷ 5 ∷ 6 ∷ 7 ∷ 8 ∷ 9 ∷ 10 ∷ 11 ∷ 12 ∷ 13 ∷ 14 ∷ []

-- what follows a reject_stat
abbrev pub denied_for : ℕ → Shape
denied_for stat =
    if stat == 0 then versions else listed "auth_stat" auth_stats

-- the items of an accepted reply's head from the accept_stat on, which is this
unfoldable pub ScansAccept : {V : Type 0} → (V → List Item → Type 0) → ℕ → (old new : View × V)
    → Type 0
ScansAccept stands stat (old, before) (new, after) =
    (items : List Item) × (reading accept old.body old.at ≡ Ok (items, new.at))
    × (word_in items 0 ≡ stat) × MovesOn old new
    × Adds stands before after items
