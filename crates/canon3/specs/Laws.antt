-- What the laws say of captures.
use Rattle.std.specs.Prelude.{◌≡◌, ◌≢◌, ◌≤◌, ◌↔◌, ◌+◌, ◌⊎◌, ℕ, List, ◌++◌, take, slice_get, Some, None}
use Rattle.xdr3.specs.Item.{Item}
use Rattle.xdr3.specs.Layout.{FitsLayout}
use Rattle.rpc_head.specs.declared.values.call.ProcId.{ProcId}
use Rattle.rpc_head.specs.Messages.{call_layout, reply_layout, procedure_in}
use Rattle.procs3.specs.Table.{arguments_of, results_of}
use Rattle.capture3.specs.Capture.{total_size}
use Rattle.capture3.specs.Entry.{Entry}
use Rattle.capture3.specs.Typed.{Typed}
use Rattle.capture3.specs.declared.fault.Place.{Place}
use Rattle.canon3.specs.Bytes.{bytes_of}
use Rattle.canon3.specs.Canonical.{canonical, numbered_message}
use Rattle.canon3.specs.Renaming.{Same}
use Rattle.canon3.specs.Parting.{Parting, PartsAt, IsPlaceOf}

-- the first entries of a well-formed file, none, some or all
pub record AreFirst (entries : List Entry) : Type 0 where
  pub file : List ℕ
  pub all : List Entry
  pub more : List Entry
  pub typed : Typed file all
  pub split : all ≡ entries ++ more

-- they are the entries of their own bytes, in at most so many stream bytes
abbrev pub AreOfTheirBytes : List Entry → ℕ → Type 0
AreOfTheirBytes entries total = (typed : Typed (bytes_of entries) entries)
    × (total_size typed.connections ≤ total)

-- the first i entries are the same exactly where the bytes of their canonical forms are
abbrev pub FrontsAreDecided : List Entry → List Entry → Type 0
FrontsAreDecided a b = (i : ℕ)
    → Same (take i a) (take i b)
    ↔ (bytes_of (take i (canonical a)) ≡ bytes_of (take i (canonical b)))

-- where canonical forms are alike up to entry i and not with it, the captures part at it
abbrev pub PartWhereFormsDo : List Entry → List Entry → Type 0
PartWhereFormsDo a b = (i : ℕ) → bytes_of (take i (canonical a)) ≡ bytes_of (take i (canonical b))
    → bytes_of (take (i + 1) (canonical a)) ≢ bytes_of (take (i + 1) (canonical b)) → PartsAt a b i

-- after first entries that are the same, two entries are equal or have a place
abbrev pub HavePlaces : List Entry → List Entry → Type 0
HavePlaces a b =
    (i : ℕ) (e f : Entry) → Same (take i a) (take i b) → slice_get a i ≡ Some e
    → slice_get b i ≡ Some f
    → (e ≡ f) ⊎ ((place : Place) × IsPlaceOf (take i a) (Some e) (Some f) place)

-- two captures that are the same up to entry i end both there, or neither
abbrev pub EndTogether : List Entry → List Entry → Type 0
EndTogether a b = (i : ℕ) → Same (take i a) (take i b) → slice_get a i ≡ None ↔ slice_get b i ≡ None

-- where two captures are not the same, they part at a place
abbrev pub PartSomewhere : List Entry → List Entry → Type 0
PartSomewhere a b = (Same a b → ⊥) → (place : Place) × Parting a b place

-- they part at one place
abbrev pub PartOnce : List Entry → List Entry → Type 0
PartOnce a b = (p q : Place) → Parting a b p → Parting a b q → p ≡ q

-- a call under numbers has the layout of a call, and asks for the same procedure
abbrev pub CallStaysACall : (hs vs : List (List ℕ)) (xs : List ℕ) → List Item → Type 0
CallStaysACall hs vs xs items =
    FitsLayout (call_layout arguments_of) items
    → FitsLayout (call_layout arguments_of) (numbered_message hs vs xs items)
    × (procedure_in (numbered_message hs vs xs items) ≡ procedure_in items)

-- a reply under numbers has the layout of a reply of the same procedure
abbrev pub ReplyStaysAReply : (hs vs : List (List ℕ)) (xs : List ℕ) → ProcId → List Item → Type 0
ReplyStaysAReply hs vs xs id items =
    FitsLayout (reply_layout (results_of id)) items
    → FitsLayout (reply_layout (results_of id)) (numbered_message hs vs xs items)
