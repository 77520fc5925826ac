-- What the laws say of the masked form.
use Rattle.std.specs.Prelude.{⊤, ◌≡◌, ◌↔◌, ◌<◌, ◌^◌, List, ◌++◌, length}
use Rattle.capture3.specs.Entry.{Entry}
use Rattle.canon3.specs.Bytes.{bytes_of}
use Rattle.canon3.specs.Canonical.{canonical}
use Rattle.canon3.specs.Renaming.{Same}
use Rattle.masking3.specs.declared.values.class.Class.{Class}
use Rattle.masking3.specs.declared.values.ways.Way.{Way}
use Rattle.masking3.specs.declared.values.ways.Way.TheVariants.{Keep, Number, Zero}
use Rattle.masking3.specs.declared.values.ways.Ways.{Ways}
use Rattle.masking3.specs.Masked.{masked, values}
use Rattle.masking3.specs.SameBut.{SameBut}
use Rattle.masking3.specs.Ways.{way_of}

-- the number of each value has room in eight bytes
abbrev pub HasRoomForNumbers : List Entry → Type 0
HasRoomForNumbers entries = (class : Class) → length (values entries class) < 2 ^ 64

-- masking again changes nothing
abbrev pub StaysMasked : Ways → List Entry → Type 0
StaysMasked ways entries = masked ways (masked ways entries) ≡ masked ways entries

-- every value stays as it is, every name and every body
abbrev pub KeepsAll : Ways → Type 0
KeepsAll ways = (class : Class) → way_of ways class ≡ Keep

-- what the second way leaves of a value is no more than what the first one does
abbrev pub RevealsNoMore : Way → Way → Type 0
RevealsNoMore Keep way = ⊤
RevealsNoMore Number Keep = ⊥
RevealsNoMore Number way = ⊤
RevealsNoMore Zero Zero = ⊤
RevealsNoMore Zero way = ⊥

-- so for each class
abbrev pub MasksAsMuch : Ways → Ways → Type 0
MasksAsMuch ways others = (class : Class) → RevealsNoMore (way_of ways class) (way_of others class)

-- the form of the first entries is the first entries of the form
abbrev pub MasksFronts : Ways → List Entry → List Entry → Type 0
MasksFronts ways a b = (more : List Entry) × (masked ways (a ++ b) ≡ masked ways a ++ more)

-- the masked forms are the same exactly if the captures are the same but for what is masked
abbrev pub MaskedFormsDecide : Ways → List Entry → List Entry → Type 0
MaskedFormsDecide ways a b = Same (masked ways a) (masked ways b) ↔ SameBut ways a b

-- so do the bytes of their canonical forms
abbrev pub MaskedBytesDecide : Ways → List Entry → List Entry → Type 0
MaskedBytesDecide ways a b =
    (bytes_of (canonical (masked ways a)) ≡ bytes_of (canonical (masked ways b)))
    ↔ SameBut ways a b
