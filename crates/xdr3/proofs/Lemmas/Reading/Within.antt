-- What was read from a body can be walked: its zero spelling is no longer than the bytes that were
-- read.
use Rattle.xdr3.proofs.Common.{◌≡◌, ℕ, ◌≤◌, List, ◌++◌, length, drop, Result, Ok, Err, ap, arith, length-append, length-drop, GetError, Gives, Item, AreBytes, Spells, Layout, reading_layout, reading, Shape, Reads}
use Rattle.std.specs.Prelude.{IfOk}
use Rattle.xdr3.specs.Visit.{AreWithinLimit, body_limit}
use Rattle.xdr3.proofs.Lemmas.Reading.Decided.{both_ways}
use Rattle.xdr3.proofs.Lemmas.Reading.Items.{length_of_spelling}
use Rattle.xdr3.proofs.Lemmas.Shapes.Layouts.{layout_decides, stands_first}

pub spelled_within : (items : List Item) (front : List ℕ) → Spells items front
    → length front ≤ body_limit → AreWithinLimit items
unfolding AreWithinLimit
spelled_within items front s h = omega (arith, length_of_spelling items front s)

front_within : (items : List Item) (body front left : List ℕ) (at : ℕ) → Spells items front
    → drop at body ≡ front ++ left → length body ≤ body_limit → AreWithinLimit items
front_within items body front left at s e h =
    spelled_within items front s
    (omega (arith, ap length e, length-append front left, length-drop at body))

pub reads_within : (shape : Shape) (body left : List ℕ) (at : ℕ) (items : List Item)
    → Reads shape (drop at body) items left → length body ≤ body_limit → AreWithinLimit items
reads_within shape body left at items r h =
    front_within items body r.front left at r.spells r.whole h

pub read_within : (shape : Shape) (body : List ℕ) (at to : ℕ) (items : List Item) → AreBytes body
    → at ≤ length body → length body ≤ body_limit → reading shape body at ≡ Ok (items, to)
    → AreWithinLimit items
read_within shape body at to items fits within h e =
    reads_within shape body (drop to body) at items
    (((both_ways shape body at fits within).reads items to).0 e).reads h

pub layout_read_within : (layout : Layout) (body : List ℕ) (at to : ℕ) (items : List Item)
    → AreBytes body → at ≤ length body → length body ≤ body_limit
    → reading_layout layout body at ≡ Ok (items, to) → AreWithinLimit items
layout_read_within layout body at to items fits within h e =
    let r = ((layout_decides layout body at fits within).reads items to).0 e in
    let s = stands_first layout (drop at body) items (drop to body) r.reads in
    front_within items body s.front (drop to body) at s.spells s.whole h

-- the same of what a call answered
pub given_within : {X : Type 0} (shape : Shape) (items : X → List Item) (body : List ℕ)
    (at place : ℕ) (r : Result X GetError) → AreBytes body → at ≤ length body
    → length body ≤ body_limit → Gives items r place (reading shape body at)
    → IfOk r (λ x. AreWithinLimit (items x))
given_within shape items body at place (Ok x) fits within h g =
    read_within shape body at place (items x) fits within h g
given_within shape items body at place (Err e) fits within h g = tt

pub layout_given_within : {X : Type 0} (layout : Layout) (items : X → List Item) (body : List ℕ)
    (at place : ℕ) (r : Result X GetError) → AreBytes body → at ≤ length body
    → length body ≤ body_limit → Gives items r place (reading_layout layout body at)
    → IfOk r (λ x. AreWithinLimit (items x))
layout_given_within layout items body at place (Ok x) fits within h g =
    layout_read_within layout body at place (items x) fits within h g
layout_given_within layout items body at place (Err e) fits within h g = tt
