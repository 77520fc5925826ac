-- How messages begin, by their sides.
use Rattle.masking3.proofs.Common.{◌≡◌, ℕ, Bool, true, false, List, [], ◌∷◌, ◌++◌, refl, sym, ap, ap₂, ◌∙◌, subst, arith, Decides-eqb, Item, Word, ProcId, called, Side, Client, Server, Entry, Call, Reply, FitsCall, FitsReply, is_headed_call, is_headed_reply, by_test, ⊤, ◌==◌, ◌||◌, IsTrue, is_listed, listed, Fits, BeginsOn, mtype_of, side_by}
use Rattle.xdr3.specs.View.{word_of}

listed_is : (k n : ℕ) → IsTrue (is_listed (k ∷ []) n) → n ≡ k
listed_is k n a = by_test (k == n)
    (λ t. sym ((Decides-eqb k n).0 t))
    (λ f. let none : IsTrue (false || false) = subst IsTrue (ap (λ (b : Bool). b || false) f) a in
    absurd (cc none))

begins_at : (side : Side) (x : ℕ) (items start head back : List Item)
    → items ≡ Word (called "xid") x ∷ ((start ++ head) ++ back)
    → Fits (listed "mtype" (mtype_of side ∷ [])) start → BeginsOn side items
begins_at side x items start head back is p =
    let mtype : p.0 ≡ mtype_of side = listed_is (mtype_of side) p.0 p.2 in
    let start_is : start ≡ Word (called "mtype") (mtype_of side) ∷ [] =
    p.4 ∙ ap₂ (λ (n : ℕ) (l : List Item). Word (called "mtype") n ∷ l) mtype p.3 in (
      x,
      head ++ back,
      is ∙ ap (λ (l : List Item). Word (called "xid") x ∷ ((l ++ head) ++ back)) start_is,
    )

pub begins_call : (items : List Item) → FitsCall items → BeginsOn Client items
begins_call items p =
    let h = is_headed_call items p in
    begins_at Client h.number items h.start h.head h.back h.is h.start_fits

pub begins_reply : (id : ProcId) (items : List Item) → FitsReply id items → BeginsOn Server items
begins_reply id items p =
    let h = is_headed_reply id items p in
    begins_at Server h.number items h.start h.head h.back h.is h.start_fits

pub begins_more : (side : Side) (items more : List Item) → BeginsOn side items
    → BeginsOn side (items ++ more)
begins_more side items more (xid, rest, is) =
    (xid, rest ++ more, ap (λ (l : List Item). l ++ more) is)

-- a message is of one side
two_sides : (items : List Item) → BeginsOn Client items → BeginsOn Server items → ⊥
two_sides items (x, rest, is) (y, more, are) =
    let mtypes : mtype_of Client ≡ mtype_of Server = cc in
    let numbers : 0 ≡ 1 = mtypes in
    absurd (omega (arith, numbers))

pub one_side : (side other : Side) (items : List Item) → BeginsOn side items
    → BeginsOn other items → side ≡ other
one_side Client Client items b c = refl
one_side Client Server items b c = absurd (two_sides items b c)
one_side Server Client items b c = absurd (two_sides items c b)
one_side Server Server items b c = refl

pub mtype_by : (is_reply : Bool) → word_of is_reply ≡ mtype_of (side_by is_reply)
mtype_by false = refl
mtype_by true = refl

-- the side of an entry that is a message
abbrev pub entry_side : Entry → Side
entry_side (Reply id items) = Server
entry_side _ = Client

-- an entry that is a message begins as one of its side
abbrev pub IsBegun : Entry → Type 0
IsBegun (Call items) = BeginsOn Client items
IsBegun (Reply id items) = BeginsOn Server items
IsBegun _ = ⊤
