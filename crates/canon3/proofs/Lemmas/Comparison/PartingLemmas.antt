-- Two complete captures that are not the same part at one place.
use Rattle.canon3.proofs.Common.{◌≡◌, ◌⊎◌, inl, inr, ⊎_elim, ℕ, zero, suc, ◌+◌, ◌≤◌, List, [], ◌∷◌, ◌++◌, length, take, refl, sym, ap, ◌∙◌, subst, arith, Option, Some, None, append-nil, slice_get, bytes_eq, cases_lt, take_all, bytes_eq-Decides, Entry, Begin, Call, Reply, End, Typed, Client, Server, Place, bytes_of, canonical, entries_after, Same, AreFirst, Side, IsMessageOf, IsPlaceOf, first_message, second_message, first_ends, second_ends, next_record, PartsAt, Parting}
use Rattle.canon3.proofs.Lemmas.Order.Order.{Stage, Between, Steps, call, reply, IsWellFormed}
use Rattle.std.proofs.Common.{add-one}
use Rattle.capture3.proofs.Lemmas.Connections.RankLemmas.{by_test}
use Rattle.canon3.proofs.Lemmas.Canonical.CanonicalStreamLemmas.{canonical-after, entries_after-append}
use Rattle.canon3.proofs.Lemmas.Order.Prefixes.{IsWellFormed-take, canonical-take}
use Rattle.canon3.proofs.Lemmas.Comparison.Places.{AreAlike, stages_alike, stage_at, place_from_parting}
use Rattle.canon3.proofs.Lemmas.Order.First.{forms_of_fronts, first_in_order, same_from_bytes, fronts_decided, parts_where_forms_do}
use Rattle.canon3.proofs.Lemmas.Order.Ends.{past, ends_too}
use Rattle.canon3.proofs.Lemmas.Renaming.Equality.{same_reflexive, same_symmetric}

-- ---- one place

no_message : (s : Side) → IsMessageOf s None → ⊥
no_message Client h = h
no_message Server h = h

no_message_at_begin : (s : Side) → IsMessageOf s (Some Begin) → ⊥
no_message_at_begin Client h = h
no_message_at_begin Server h = h

no_message_at_end : (s : Side) → IsMessageOf s (Some End) → ⊥
no_message_at_end Client h = h
no_message_at_end Server h = h

sides_agree : (x y : Side) (e f : Entry) (s t u v : Stage) → Steps s e u → Steps t f v
    → AreAlike s t → IsMessageOf x (Some e) → IsMessageOf y (Some f) → x ≡ y
sides_agree Client Client e f s t u v p q al h k = refl
sides_agree Server Server e f s t u v p q al h k = refl
sides_agree Client Server (Call m) (Reply id n) s t u v (call i g) (reply j l) al h k = absurd al
sides_agree Client Server (Call m) _ s t u v p q al h k = absurd k
sides_agree Client Server _ f s t u v p q al h k = absurd h
sides_agree Server Client (Reply id m) (Call n) s t u v (reply i g) (call j l) al h k = absurd al
sides_agree Server Client (Reply id m) _ s t u v p q al h k = absurd k
sides_agree Server Client _ f s t u v p q al h k = absurd h

side_of : (x y : Side) (e : Option Entry) → IsMessageOf x e → IsMessageOf y e → x ≡ y
side_of Client Client e h k = refl
side_of Server Server e h k = refl
side_of Client Server (Some (Call m)) h k = absurd k
side_of Client Server _ h k = absurd h
side_of Server Client (Some (Reply id m)) h k = absurd k
side_of Server Client _ h k = absurd h

module _ (before : List Entry) where
  one_place : (e f : Option Entry) (p q : Place)
      → ((x y : Side) → IsMessageOf x e → IsMessageOf y f → x ≡ y) → IsPlaceOf before e f p
      → IsPlaceOf before e f q → p ≡ q
  one_place e f p q agree (first_message s h) (first_message t k) =
      ap (λ z. next_record z before) (side_of s t e h k)
  one_place e f p q agree (first_message s h) (second_message t k) =
      ap (λ z. next_record z before) (agree s t h k)
  one_place e f p q agree (second_message s h) (first_message t k) =
      ap (λ z. next_record z before) (sym (agree t s k h))
  one_place e f p q agree (second_message s h) (second_message t k) =
      ap (λ z. next_record z before) (side_of s t f h k)
  one_place e f p q agree (first_message s h) first_ends = absurd (no_message_at_end s h)
  one_place e f p q agree (first_message s h) second_ends = absurd (no_message_at_begin s h)
  one_place e f p q agree (second_message s h) first_ends = absurd (no_message_at_begin s h)
  one_place e f p q agree (second_message s h) second_ends = absurd (no_message_at_end s h)
  one_place e f p q agree first_ends (first_message t k) = absurd (no_message_at_end t k)
  one_place e f p q agree first_ends (second_message t k) = absurd (no_message_at_begin t k)
  one_place e f p q agree second_ends (first_message t k) = absurd (no_message_at_begin t k)
  one_place e f p q agree second_ends (second_message t k) = absurd (no_message_at_end t k)
  one_place e f p q agree first_ends first_ends = refl
  one_place e f p q agree second_ends second_ends = refl

module _ (a b : List Entry) where
  one_number : (i j : ℕ) → PartsAt a b i → PartsAt a b j → i ≡ j
  one_number i j p q =
      elim (cases_lt i j) [
        | inl lt ↦ absurd (p.differ (q.same_before i lt))
        | inr le ↦ elim (cases_lt j i) [
          | inl lt ↦ absurd (q.differ (p.same_before j lt))
          | inr ge ↦ omega arith
        ]
      ]

  -- where they part at entry i, the first i are the same
  same_so_far : IsWellFormed a → (i : ℕ) → PartsAt a b i → Same (take i a) (take i b)
  same_so_far w zero p = same_reflexive [] (IsWellFormed-take zero a w)
  same_so_far w (suc i) p =
      let e : i + 1 ≡ suc i = omega arith in
      subst (λ n. Same (take n a) (take n b)) e (p.same_before i (omega arith))

  sides_at : IsWellFormed a → IsWellFormed b → (i : ℕ) → Same (take i a) (take i b)
      → (e f : Option Entry) → slice_get a i ≡ e → slice_get b i ≡ f → (x y : Side)
      → IsMessageOf x e → IsMessageOf y f → x ≡ y
  sides_at v w i s None f g h x y k l = absurd (no_message x k)
  sides_at v w i s (Some e) None g h x y k l = absurd (no_message y l)
  sides_at v w i s (Some e) (Some f) g h x y k l =
      let p = stage_at v.run i e g in
      let q = stage_at w.run i f h in
      sides_agree x y e f p.here_stage q.here_stage p.next_stage q.next_stage p.step q.step
      (stages_alike s.renames Between Between p.here_stage q.here_stage p.front q.front tt) k l

  pub one_parting : AreFirst a → AreFirst b → (p q : Place) → Parting a b p → Parting a b q → p ≡ q
  one_parting f g p q x y =
      let e : x.0 ≡ y.0 = one_number x.0 y.0 x.1 y.1 in
      let v = first_in_order a f in
      one_place _ _ _ p q
      (sides_at v (first_in_order b g) x.0 (same_so_far v x.0 x.1) _ _ refl refl) x.2
      (subst (λ n. IsPlaceOf (take n a) (slice_get a n) (slice_get b n) q) (sym e) y.2)

-- ---- there is one

abbrev AreMet : List Entry → List Entry → ℕ → Type 0
AreMet a b n = bytes_of (take n (canonical a)) ≡ bytes_of (take n (canonical b))

record FirstDiffers (a b : List Entry) : Type 0 where
  at : ℕ
  met : AreMet a b at
  differ : AreMet a b (at + 1) → ⊥

first_differs : (a b : List Entry) (n : ℕ) → (AreMet a b n → ⊥) → FirstDiffers a b
first_differs a b zero d = absurd (d refl)
first_differs a b (suc n) d =
    let x = bytes_of (take n (canonical a)) in
    let y = bytes_of (take n (canonical b)) in
    let next : n + 1 ≡ suc n = omega arith in
    by_test (bytes_eq x y)
    (λ t.
    record {
      at = n;
      met = (bytes_eq-Decides x y).0 t;
      differ = λ e. d (subst (AreMet a b) next e);
    })
    (λ f. first_differs a b n (λ e. let t = (bytes_eq-Decides x y).1 e in absurd (cc)))

-- an entry that is no message, which no number changes
abbrev IsMark : Entry → Type 0
IsMark e = (hs vs : List (List ℕ)) (xs : List ℕ) → entries_after hs vs xs (e ∷ []) ≡ e ∷ []

message_or_mark : (e : Entry) → ((side : Side) × IsMessageOf side (Some e)) ⊎ IsMark e
message_or_mark (Call m) = inl (Client, tt)
message_or_mark (Reply id m) = inl (Server, tt)
message_or_mark _ = inr (λ hs vs xs. refl)

one_taken : (l : List Entry) (i : ℕ) (e : Entry) → slice_get l i ≡ Some e
    → take (suc i) l ≡ take i l ++ e ∷ []
one_taken [] i e h = absurd cc
one_taken (x ∷ l) zero e h = let same : x ≡ e = cc in ap (λ k. k ∷ []) same
one_taken (x ∷ l) (suc i) e h = ap (λ (k : List Entry). x ∷ k) (one_taken l i e h)

one_more : (l : List Entry) (i : ℕ) (e : Entry) → slice_get l i ≡ Some e
    → take (i + 1) l ≡ take i l ++ e ∷ []
one_more l i e h = rw add-one (one_taken l i e h)

mark_kept : (a : List Entry) (i : ℕ) (e : Entry) → IsWellFormed a → slice_get a i ≡ Some e
    → IsMark e → take (i + 1) (canonical a) ≡ take i (canonical a) ++ e ∷ []
mark_kept a i e w h mark =
    let front = take i a in
    sym (canonical-take (i + 1) a w)
    ∙ canonical-after (take (i + 1) a) (IsWellFormed-take (i + 1) a w)
    ∙ ap (entries_after [] [] []) (one_more a i e h) ∙ entries_after-append front (e ∷ []) [] [] []
    ∙ ap (λ (k : List Entry). entries_after [] [] [] front ++ k) (mark _ _ _)
    ∙ ap (λ (k : List Entry). k ++ e ∷ [])
    (sym (canonical-after front (IsWellFormed-take i a w)) ∙ canonical-take i a w)

module _ (file other : List ℕ) (a b : List Entry) (p : Typed file a) (q : Typed other b) where
  first_a : AreFirst a
  first_a = record { file = file; all = a; more = []; typed = p; split = sym (append-nil a) }

  first_b : AreFirst b
  first_b = record { file = other; all = b; more = []; typed = q; split = sym (append-nil b) }

  whole_form : (l : List Entry) (n : ℕ) → IsWellFormed l → length l ≤ n
      → take n (canonical l) ≡ canonical l
  whole_form l n w le = sym (canonical-take n l w) ∙ ap canonical (take_all n l le)

  v : IsWellFormed a
  v = first_in_order a first_a

  w : IsWellFormed b
  w = first_in_order b first_b

  place_at : (d : FirstDiffers a b) → Same (take d.at a) (take d.at b) → (e f : Option Entry)
      → slice_get a d.at ≡ e → slice_get b d.at ≡ f
      → (place : Place) × IsPlaceOf (take d.at a) e f place
  place_at d s None f g h =
      let i = d.at in
      let ends = ends_too file other a b p q i s g in
      let la = past a i g in
      let lb = past b i ends in
      let again : AreMet a b (i + 1) =
      ap bytes_of (whole_form a (i + 1) v (omega arith) ∙ sym (whole_form a i v la))
      ∙ (d.met ∙ ap bytes_of (whole_form b i w lb ∙ sym (whole_form b (i + 1) w (omega arith))))
      in
      absurd (d.differ again)
  place_at d s (Some e) None g h =
      let ends =
      ends_too other file b a q p d.at (same_symmetric (take d.at a) (take d.at b) s) h in
      absurd (cc)
  place_at d s (Some e) (Some f) g h =
      ⊎_elim (λ (m : (side : Side) × IsMessageOf side (Some e)).
      (next_record m.0 (take d.at a), first_message m.0 m.1))
      (λ mark.
      ⊎_elim (λ (same : e ≡ f).
      let left = mark_kept a d.at e v g mark in
      let right = mark_kept b d.at e w (subst (λ x. slice_get b d.at ≡ Some x) (sym same) h) mark in
      let forms : take d.at (canonical a) ≡ take d.at (canonical b) =
      forms_of_fronts a b first_a first_b d.at d.met in
      absurd (d.differ
      (ap bytes_of (left ∙ (ap (λ (k : List Entry). k ++ e ∷ []) forms ∙ sym right)))))
      (λ place. place) (place_from_parting a b d.at e f v w s g h))
      (message_or_mark e)

  pub some_parting : (Same a b → ⊥) → (place : Place) × Parting a b place
  some_parting differ =
      let n = length a + length b in
      let never : AreMet a b n → ⊥ =
      λ e.
      differ
      (same_from_bytes a b first_a first_b (ap bytes_of
      (sym (whole_form a n v (omega arith)))
      ∙ (e ∙ ap bytes_of (whole_form b n w (omega arith))))) in
      let d = first_differs a b n never in
      let s = (fronts_decided a b first_a first_b d.at).1 d.met in
      let place = place_at d s (slice_get a d.at) (slice_get b d.at) refl refl in
      (place.0, (d.at, parts_where_forms_do a b first_a first_b d.at d.met d.differ, place.1))
