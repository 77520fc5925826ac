-- Other items fit the same shapes, if each part's item becomes one that fits it and chooses the
-- same.
use Rattle.canon3.proofs.Common.{◌≡◌, ℕ, suc, ◌≤◌, Bool, List, [], ◌∷◌, ◌++◌, length, refl, sym, ap, subst, arith, length-append, map, AllByRecursion, flat_map, Item, Word, Hyper, Fixed, WriteVerf, Opaque, Rest, Spells, SpellsItem, zero_spelling, zero_spelling_of, Pairwise, none, more, ⊤}
use Rattle.std.specs.Prelude.{IsTrue}
use Rattle.xdr3.specs.Shape.{Shape, choose, hyper, fixed, write_verf, opaque, nothing, both, linked, sized, Fits, links}
use Rattle.xdr3.specs.Layout.{Layout, exactly, remaining, after, FitsLayout}
use Rattle.xdr3.proofs.Lemmas.Shapes.ShapeParts.{HasParts}
use Rattle.canon3.proofs.Lemmas.WellFormed.Items.{IsEach, all_fitting}

-- R: what an item may become
module _ (R : Item → Item → Type 0) where
  abbrev pub Become : List Item → List Item → Type 0
  Become items others = Pairwise R items others

  -- ---- lists

  none_become : (others : List Item) → Become [] others → others ≡ []
  none_become others none = refl

  parted : (i : Item) (items others : List Item) → Become (i ∷ items) others
      → (j : Item) × (later : List Item) × R i j × Become items later × (others ≡ j ∷ later)
  parted i items others (more r p) = (_, _, r, p, refl)

  first_becomes : (i : Item) (items l others : List Item) → l ≡ i ∷ items → Become l others
      → (j : Item) × (later : List Item) × R i j × Become items later × (others ≡ j ∷ later)
  first_becomes i items l others is c = parted i items others (subst (λ l. Become l others) is c)

  one_becomes : (i : Item) (l others : List Item) → l ≡ i ∷ [] → Become l others
      → (j : Item) × R i j × (others ≡ j ∷ [])
  one_becomes i l others is c =
      let f = first_becomes i [] l others is c in
      (f.0, f.2, cc (f.4, none_become f.1 f.3))

  pub become_append : (a b l others : List Item) → l ≡ a ++ b → Become l others
      → (c d : List Item) × Become a c × Become b d × (others ≡ c ++ d)
  become_append [] b l others is p = ([], others, none, subst (λ l. Become l others) is p, refl)
  become_append (i ∷ a) b l others is p =
      let f = first_becomes i (a ++ b) l others is p in
      let r = become_append a b (a ++ b) f.1 refl f.3 in
      (f.0 ∷ r.0, r.1, more f.2 r.2, r.3, cc (f.4, r.4))

  -- ---- what is asked of a shape

  abbrev pub WordStays : List ℕ → Type 0
  WordStays name = (n : ℕ) (j : Item) → R (Word name n) j → j ≡ Word name n

  abbrev pub SizeStays : List Item → List Item → Type 0
  SizeStays items others = length (zero_spelling others) ≡ length (zero_spelling items)

  -- an accepted word becomes one that is accepted and chooses the same
  abbrev pub TakesWord : List ℕ → (ℕ → Bool) → (ℕ → Shape) → Type 0
  TakesWord name accepted next =
      (n : ℕ) (j : Item) → IsTrue (accepted n) → R (Word name n) j
      → (m : ℕ) × (j ≡ Word name m) × IsTrue (accepted m) × (next m ≡ next n)

  abbrev pub Takes : Shape → Type 0
  Takes (choose name accepted reason next) =
      TakesWord name accepted next × ((n : ℕ) → Takes (next n))
  Takes (hyper name) = (n : ℕ) (j : Item) → R (Hyper name n) j → Fits (hyper name) (j ∷ [])
  Takes (fixed name) =
      (bytes : List ℕ) (j : Item) → R (Fixed name bytes) j → Fits (fixed name) (j ∷ [])
  Takes (write_verf name) =
      (bytes : List ℕ) (j : Item) → R (WriteVerf name bytes) j → Fits (write_verf name) (j ∷ [])
  Takes (opaque kind name max) =
      (bytes : List ℕ) (j : Item) → length bytes ≤ max → R (Opaque kind name bytes) j
      → Fits (opaque kind name max) (j ∷ [])
  Takes nothing = ⊤
  Takes (both a b) = Takes a × Takes b
  Takes (linked name s) = WordStays name × Takes s
  Takes (sized name s) =
      WordStays name × ((items others : List Item) → Fits s items → Become items others
      → SizeStays items others) × Takes s

  abbrev pub RowTakes : Layout → Type 0
  RowTakes (exactly s) = Takes s
  RowTakes (remaining name) =
      (bytes : List ℕ) (j : Item) → R (Rest name bytes) j → (other : List ℕ) × (j ≡ Rest name other)
  RowTakes (after s next) = ⊥

  -- ---- parts, each after the same items

  word_becomes : (name : List ℕ) → WordStays name → (n : ℕ) (others : List Item)
      → Become (Word name n ∷ []) others → others ≡ Word name n ∷ []
  word_becomes name stays n others c =
      let f = one_becomes (Word name n) _ others refl c in cc (f.2, stays n f.0 f.1)

  module _ (s : Shape)
      (keeps : (part other : List Item) → Fits s part → Become part other → Fits s other)
      (front : List Item) (stays : (other : List Item) → Become front other → other ≡ front) where
    abbrev in_turn : List (List Item) → List Item
    in_turn parts = flat_map (λ part. front ++ part) parts

    parts_become : (parts : List (List Item)) (others : List Item) → AllByRecursion (Fits s) parts
        → Become (in_turn parts) others
        → (changed : List (List Item)) × AllByRecursion (Fits s) changed
        × (length changed ≡ length parts) × (others ≡ in_turn changed)
    parts_become [] others h p = ([], tt, refl, none_become others p)
    parts_become (part ∷ parts) others h p =
        let a = become_append (front ++ part) (in_turn parts) _ others refl p in
        let b = become_append front part _ a.0 refl a.2 in
        let r = parts_become parts a.1 h.1 a.3 in (
          b.1 ∷ r.0,
          (keeps part b.1 h.0 b.3, r.1),
          ap suc r.2,
          cc (a.4, b.4, stays b.0 b.2, r.3),
        )

  -- ---- shapes and layouts

  pub fits_become : (s : Shape) (items others : List Item) → Takes s → Fits s items
      → Become items others → Fits s others
  fits_become (choose name accepted reason next) items others t p c =
      let f = first_becomes (Word name p.0) p.1 items others p.4 c in
      let w = t.0 p.0 f.0 p.2 f.2 in (
        w.0,
        f.1,
        w.2,
        subst (λ s. Fits s f.1) (sym w.3) (fits_become (next p.0) p.1 f.1 (t.1 p.0) p.3 f.3),
        cc (f.4, w.1),
      )
  fits_become (hyper name) items others t p c =
      let f = one_becomes (Hyper name p.0) items others p.1 c in rw f.2 (t p.0 f.0 f.1)
  fits_become (fixed name) items others t p c =
      let f = one_becomes (Fixed name p.0) items others p.1 c in rw f.2 (t p.0 f.0 f.1)
  fits_become (write_verf name) items others t p c =
      let f = one_becomes (WriteVerf name p.0) items others p.1 c in rw f.2 (t p.0 f.0 f.1)
  fits_become (opaque kind name max) items others t p c =
      let f = one_becomes (Opaque kind name p.0) items others p.2 c in
      rw f.2 (t p.0 f.0 p.1 f.1)
  fits_become nothing items others t p c =
      none_become others (subst (λ l. Become l others) p c)
  fits_become (both a b) items others t p c =
      let d = become_append p.0 p.1 items others p.4 c in (
        d.0,
        d.1,
        fits_become a p.0 d.0 t.0 p.2 d.2,
        fits_become b p.1 d.1 t.1 p.3 d.3,
        d.4,
      )
  fits_become (linked name s) items others t p c =
      let a = become_append (links name p.0) (Word name 0 ∷ []) items others p.2 c in
      let r =
      parts_become s (λ part other q d. fits_become s part other t.1 q d) (Word name 1 ∷ [])
      (word_becomes name t.0 1) p.0 a.0 p.1 a.2 in
      (r.0, r.1, cc (a.4, r.3, word_becomes name t.0 0 a.1 a.3))
  fits_become (sized name s) items others t p c =
      let size : ℕ = length (zero_spelling p.0) in
      let f = first_becomes (Word name size) p.0 items others p.3 c in
      let same = t.1 p.0 f.1 p.1 f.3 in (
        f.1,
        fits_become s p.0 f.1 t.2 p.1 f.3,
        omega (arith, p.2, same),
        cc (f.4, t.0 size f.0 f.2, same),
      )

  pub row_becomes : (layout : Layout) (items others : List Item) → RowTakes layout
      → FitsLayout layout items → Become items others → FitsLayout layout others
  row_becomes (exactly s) items others t p c = fits_become s items others t p c
  row_becomes (remaining name) items others t p c =
      let f = one_becomes (Rest name p.0) items others p.1 c in
      let r = t p.0 f.0 f.1 in (r.0, cc (f.2, r.1))
  row_becomes (after s next) items others t p c = absurd t

  -- ---- spellings

  abbrev pub ItemStaysAsLong : Item → Type 0
  ItemStaysAsLong i = (j : Item) → R i j → length (zero_spelling_of j) ≡ length (zero_spelling_of i)

  sizes_stay : (items others : List Item) → AllByRecursion ItemStaysAsLong items
      → Become items others → SizeStays items others
  sizes_stay items others h none = refl
  sizes_stay (i ∷ items) (j ∷ others) h (more r p) =
      simp length-append (omega (arith, h.0 j r, sizes_stay items others h.1 p))

  pub size_stays : (s : Shape) → HasParts (IsEach ItemStaysAsLong) s → (items others : List Item)
      → Fits s items → Become items others → SizeStays items others
  size_stays s h items others p c =
      sizes_stay items others (all_fitting ItemStaysAsLong s items h p) c

  -- each item that has a spelling becomes one that has a spelling of zeros, no longer
  abbrev pub IsSpelledAnew : Type 0
  IsSpelledAnew =
      (i j : Item) (bytes : List ℕ) → R i j → SpellsItem i bytes
      → SpellsItem j (zero_spelling_of j)
      × (length (zero_spelling_of j) ≤ length (zero_spelling_of i))

  pub spelled_anew : IsSpelledAnew → (items others : List Item) (bytes : List ℕ)
      → Spells items bytes → Become items others
      → Spells others (zero_spelling others)
      × (length (zero_spelling others) ≤ length (zero_spelling items))
  spelled_anew each items others bytes p none = (refl, omega arith)
  spelled_anew each (i ∷ items) (j ∷ others) bytes p (more r c) =
      let one = each i j p.0 r p.2 in
      let later = spelled_anew each items others p.1 p.3 c in
      ((_, _, one.0, later.0, refl), simp length-append (omega (arith, one.1, later.1)))

-- what a function makes of each item, it becomes
pub become_mapped : (f : Item → Item) (items : List Item)
    → Pairwise (λ i j. j ≡ f i) items (map f items)
become_mapped f [] = none
become_mapped f (i ∷ items) = more refl (become_mapped f items)
