-- What a text of items says, in which the digits of one may be left out.
use Rattle.std.specs.Prelude.{◌≡◌, ℕ, ◌+◌, ◌≤◌, ◌<◌, ◌^◌, Option, None, Some, List, [], ◌∷◌, ◌++◌, length, take, drop}
use Rattle.hex.specs.Hex.{encode_lower}
use Rattle.xdr3.specs.Item.{Item, Spells}
use Rattle.listing3.specs.declared.line_writer.items_text.Gap.{Gap}
use Rattle.listing3.specs.declared.line_writer.items_text.ItemsText.{ItemsText}
use Rattle.listing3.specs.Listing.{opening, shown_item, shown_items}

-- the text with the digits that were left out, which spell bytes of this body
abbrev pub filled : Option Gap → (text body : List ℕ) → List ℕ
filled None text body = text
filled (Some gap) text body =
    take gap.at text ++ (encode_lower (take gap.len (drop gap.skipped body)) ++ drop gap.at text)

-- The item's value is the digits of these bytes. Whatever spells it has `size` bytes, of which
-- `before` are in front of the data.
pub record HasData (item : Item) (name bytes : List ℕ) (before size : ℕ) : Type 0 where
  pub shown : shown_item item ≡ opening name ++ encode_lower bytes
  pub spelled : (body : List ℕ) → Spells (item ∷ []) body
      → (front : List ℕ) × (back : List ℕ) × (body ≡ front ++ (bytes ++ back))
      × (length front ≡ before) × (length body ≡ size)

-- the gap is in the text, and its bytes are in the body
abbrev pub IsWithin : Option Gap → (text body : List ℕ) → Type 0
IsWithin None text body = Unit {0}
IsWithin (Some gap) text body = (gap.at ≤ length text) × (gap.skipped + gap.len ≤ length body)

-- the text of these items, which this body spells
pub record IsTextOfBody (of : ItemsText) (items : List Item) (body : List ℕ) : Type 0 where
  -- the text as it is: an item whose digits were left out has no bytes
  pub others : List Item
  pub text : of.text ≡ shown_items others
  pub shows : filled of.gap of.text body ≡ shown_items items
  pub within : IsWithin of.gap of.text body
  pub seen : of.seen ≡ length body

-- it is so of whatever body spells the items
abbrev pub TextStands : ItemsText → List Item → Type 0
TextStands of items =
    (body : List ℕ) → Spells items body → length body < 2 ^ 64 → IsTextOfBody of items body
