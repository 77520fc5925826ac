-- How many bytes of data a call carries.
use Rattle.std.specs.Prelude.{◌≡◌, ℕ, ◌-◌, ◌^◌, if◌then◌else◌, bytes_eq, min, sum_by, List, codes, length}
use Rattle.xdr3.specs.Item.{Item, Opaque, Var}
use Rattle.capture3.specs.Bodies.{IsCall}
use Rattle.uses.specs.declared.summing.DataBytes.{DataBytes}

-- the bytes of an item that is called `data` (RFC 1813, section 3.3.7)
abbrev pub data_bytes : Item → ℕ
data_bytes (Opaque Var name bytes) = if bytes_eq name (codes "data") then length bytes else 0
data_bytes _ = 0

-- the largest number of eight bytes
abbrev pub largest : ℕ
largest = 2 ^ 64 - 1

-- all bytes of data of these items, up to the largest number
abbrev pub IsSum : ℕ → List Item → Type 0
IsSum sum items = sum ≡ min (sum_by data_bytes items) largest

abbrev pub HasSummed : DataBytes → List Item → Type 0
HasSummed visitor items = IsSum visitor.sum items

-- the body is a call's, and this is the sum of its items
abbrev pub SumsData : List ℕ → ℕ → Type 0
SumsData body sum = (items : List Item) × IsCall body items × IsSum sum items
