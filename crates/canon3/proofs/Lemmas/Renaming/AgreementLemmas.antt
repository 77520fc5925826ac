-- First entries of two captures whose canonical forms have equal bytes.
use Rattle.canon3.proofs.Common.{◌≡◌, ◌≢◌, ◌⊎◌, ℕ, ◌+◌, List, [], ◌∷◌, ◌++◌, length, length-append, take, None, Some, refl, sym, ap, ap₂, ◌∙◌, arith, append_assoc, append-nil, slice_get, Entry, Call, Reply, Typed, Place, bytes_of, canonical, AreFirst, IsPlaceOf, Parting, PartsAt, Same, bytes_after, slice_get_past, Agree, PartWith}
use Rattle.std.proofs.lemmas.List.{append_cancel_left, nil_from_length, take_at}
use Rattle.canon3.proofs.Lemmas.Order.Ends.{ends_too, past}
use Rattle.canon3.proofs.Lemmas.Order.First.{first_in_order, parts_where_forms_do, same_from_bytes}
use Rattle.canon3.proofs.Lemmas.Canonical.Growing.{are_some, first_front, form_grows, magic_unless}
use Rattle.canon3.proofs.Lemmas.Progress.ProgressLemmas.{side_in}
use Rattle.canon3.proofs.Lemmas.Canonical.OneFormLemmas.{canonical-same}
use Rattle.canon3.proofs.Lemmas.Comparison.Places.{place_from_parting}
use Rattle.canon3.proofs.Lemmas.Order.Prefixes.{canonical-take}

same_some : (a b : List Entry) → length a ≡ length b → are_some a ≡ are_some b
same_some [] (y ∷ b) e = absurd (omega arith)
same_some (x ∷ a) [] e = absurd (omega arith)
same_some _ _ e = refl

-- ---- two entries more

module _ (a b : List Entry) (e f : Entry) (first : AreFirst (a ++ e ∷ []))
    (second : AreFirst (b ++ f ∷ [])) (g : Agree a b) where
  fronts : bytes_of (canonical a) ++ magic_unless (are_some a)
      ≡ bytes_of (canonical b) ++ magic_unless (are_some b)
  fronts = ap₂ (λ (x y : List ℕ). x ++ y) g.bytes (ap magic_unless (same_some a b g.many))

  pub agree_more : bytes_after a (e ∷ []) ≡ bytes_after b (f ∷ [])
      → Agree (a ++ e ∷ []) (b ++ f ∷ [])
  agree_more same = record {
    many = omega (arith, g.many, length-append {A = Entry});
    bytes =
        form_grows a e first
        ∙ (ap₂ (λ (x y : List ℕ). x ++ y) fronts same ∙ sym (form_grows b f second));
  }

  pub differ_here : bytes_after a (e ∷ []) ≢ bytes_after b (f ∷ [])
      → bytes_of (canonical (a ++ e ∷ [])) ≢ bytes_of (canonical (b ++ f ∷ []))
  differ_here differ is =
      differ (append_cancel_left (bytes_of (canonical a) ++ magic_unless (are_some a))
      (bytes_after a (e ∷ [])) (bytes_after b (f ∷ []))
      (sym (form_grows a e first)
      ∙ (is
      ∙ (form_grows b f second
      ∙ ap (λ (l : List ℕ). l ++ bytes_after b (f ∷ [])) (sym fronts)))))

  pub same_so_far : Same a b
  same_so_far =
      same_from_bytes a b (first_front a (e ∷ []) first) (first_front b (f ∷ []) second) g.bytes

-- an entry that is no message is written as itself
pub mark_alike : (a b : List Entry) (e : Entry) → side_in e ≡ None
    → bytes_after a (e ∷ []) ≡ bytes_after b (e ∷ [])
mark_alike a b (Call m) none = absurd (cc)
mark_alike a b (Reply id m) none = absurd (cc)
mark_alike a b _ none = refl

-- ---- the entry after some

pub got : (a : List Entry) (e : Entry) (more : List Entry)
    → slice_get (a ++ e ∷ more) (length a) ≡ Some e
got [] e more = refl
got (x ∷ a) e more = got a e more

got_at : (a : List Entry) (e : Entry) (more : List Entry) (i : ℕ) → i ≡ length a
    → slice_get (a ++ e ∷ more) i ≡ Some e
got_at a e more i is = rw is (got a e more)

pub place_there : (a b : List Entry) (e f : Entry) → AreFirst (a ++ e ∷ []) → AreFirst (b ++ f ∷ [])
    → Agree a b → (e ≡ f) ⊎ ((place : Place) × IsPlaceOf a (Some e) (Some f) place)
place_there a b e f first second g =
    let i = length a in
    let front : take i (a ++ e ∷ []) ≡ a = take_at a (e ∷ []) i refl in
    let other : take i (b ++ f ∷ []) ≡ b = take_at b (f ∷ []) i (sym g.many) in
    rw front at (place_from_parting (a ++ e ∷ []) (b ++ f ∷ []) i e f
    (first_in_order (a ++ e ∷ []) first) (first_in_order (b ++ f ∷ []) second)
    (rw (front, other) (same_so_far a b e f first second g)) (got a e []) (got_at b f [] i g.many))

-- ---- at the ends

whole_first : (file : List ℕ) (a : List Entry) → Typed file a → AreFirst a
whole_first file a typed =
    record { file = file; all = a; more = []; typed = typed; split = sym (append-nil a) }

-- after a whole capture the other one has no more
pub no_more : (file : List ℕ) (a b more : List Entry) → Typed file a → AreFirst (b ++ more)
    → Agree a b → more ≡ []
no_more file a b more typed first g =
    let i = length a in
    let all = first.all in
    let whole : all ≡ b ++ (more ++ first.more) = first.split ∙ append_assoc b more first.more in
    let front : take i a ≡ a = ap (take i) (sym (append-nil a)) ∙ take_at a [] i refl in
    let other : take i all ≡ b =
    ap (take i) whole ∙ take_at b (more ++ first.more) i (sym g.many) in
    let same : Same a b =
    same_from_bytes a b (whole_first file a typed) (first_front b more first) g.bytes in
    let ends =
    ends_too file first.file a all typed first.typed i (rw (front, other) same)
    (slice_get_past a i (omega arith)) in
    nil_from_length more
    (omega (arith, past all i ends, ap length whole, g.many, length-append {A = Entry}))

pub typed_first : (file : List ℕ) (a more : List Entry) → Typed file (a ++ more) → AreFirst a
typed_first file a more typed =
    record { file = file; all = a ++ more; more = more; typed = typed; split = refl }

-- ---- where they part

module _ (file other : List ℕ) (a b : List Entry) (e f : Entry) (more rest : List Entry)
    (place : Place) (parts : PartWith a b e f place) (typed : Typed file ((a ++ e ∷ []) ++ more))
    (other_typed : Typed other ((b ++ f ∷ []) ++ rest)) where
  front_form : (x y : List Entry) (i : ℕ) → length x ≡ i → AreFirst (x ++ y)
      → bytes_of (take i (canonical (x ++ y))) ≡ bytes_of (canonical x)
  front_form x y i is first =
      ap bytes_of (sym (canonical-take i (x ++ y) (first_in_order (x ++ y) first))
      ∙ ap canonical (take_at x y i is))

  first_all : AreFirst ((a ++ e ∷ []) ++ more)
  first_all = whole_first file _ typed

  second_all : AreFirst ((b ++ f ∷ []) ++ rest)
  second_all = whole_first other _ other_typed

  pub not_same : Same ((a ++ e ∷ []) ++ more) ((b ++ f ∷ []) ++ rest) → ⊥
  not_same same =
      let n = length a + 1 in
      let forms : canonical ((a ++ e ∷ []) ++ more) ≡ canonical ((b ++ f ∷ []) ++ rest) =
      canonical-same same in
      let left = front_form (a ++ e ∷ []) more n (length-append a (e ∷ [])) first_all in
      let right =
      front_form (b ++ f ∷ []) rest n
      (length-append b (f ∷ []) ∙ ap (λ k. k + 1) (sym parts.agree.many)) second_all in
      parts.differ (sym left ∙ (ap (λ (l : List Entry). bytes_of (take n l)) forms ∙ right))

  pub parting : Parting ((a ++ e ∷ []) ++ more) ((b ++ f ∷ []) ++ rest) place
  parting =
      let i = length a in
      let g = parts.agree in
      let first : (a ++ e ∷ []) ++ more ≡ a ++ (e ∷ more) = append_assoc a (e ∷ []) more in
      let second : (b ++ f ∷ []) ++ rest ≡ b ++ (f ∷ rest) = append_assoc b (f ∷ []) rest in
      let left : bytes_of (take i (canonical ((a ++ e ∷ []) ++ more))) ≡ bytes_of (canonical a) =
      rw first (front_form a (e ∷ more) i refl (rw first at first_all)) in
      let right : bytes_of (take i (canonical ((b ++ f ∷ []) ++ rest))) ≡ bytes_of (canonical b) =
      rw second (front_form b (f ∷ rest) i (sym g.many) (rw second at second_all)) in
      let left_one = front_form (a ++ e ∷ []) more (i + 1) (length-append a (e ∷ [])) first_all in
      let right_one =
      front_form (b ++ f ∷ []) rest (i + 1)
      (length-append b (f ∷ []) ∙ ap (λ n. n + 1) (sym g.many)) second_all in
      let at : PartsAt ((a ++ e ∷ []) ++ more) ((b ++ f ∷ []) ++ rest) i =
      parts_where_forms_do _ _ first_all second_all i (left ∙ (g.bytes ∙ sym right))
      (λ is. parts.differ (sym left_one ∙ (is ∙ right_one))) in (
        i,
        at,
        rw (first, second, got a e more, got_at b f rest i g.many, take_at a (e ∷ more) i refl)
            parts.place_is,
      )
