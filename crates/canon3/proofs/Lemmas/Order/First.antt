-- What the first entries of a well-formed file are.
use Rattle.canon3.proofs.Common.{◌≡◌, ◌≢◌, ◌↔◌, ℕ, ◌+◌, List, ◌++◌, length, map, take, drop, refl, sym, ap, ◌∙◌, subst, take-append-drop, append_assoc, Entry, bytes_of, canonical, handles, verifiers, Same, PartsAt, AreFirst, take_at}
use Rattle.canon3.proofs.Lemmas.Order.Order.{IsWellFormed}
use Rattle.canon3.proofs.Lemmas.Renaming.Equality.{same_from_canonical}
use Rattle.canon3.proofs.Lemmas.Order.Prefixes.{IsWellFormed-take, canonical-take, same_front, parts_from_first_difference}
use Rattle.canon3.proofs.Lemmas.Changes.Numbers.{canonical_of, capture_numbered, numbered_conversation}
use Rattle.canon3.proofs.Lemmas.WellFormed.Files.{holds}
use Rattle.canon3.proofs.Lemmas.Order.InOrder.{typed_in_order}
use Rattle.canon3.proofs.Lemmas.Order.Closing.{IsFront, told_apart}

taken : (a : List Entry) (f : AreFirst a) → a ≡ take (length a) f.all
taken a f = sym (ap (take (length a)) f.split ∙ take_at a f.more (length a) refl)

pub first_in_order : (a : List Entry) → AreFirst a → IsWellFormed a
first_in_order a f =
    subst IsWellFormed (sym (taken a f))
    (IsWellFormed-take (length a) f.all (typed_in_order f.file f.all f.typed))

pub first_taken : (i : ℕ) (a : List Entry) → AreFirst a → AreFirst (take i a)
first_taken i a f = record {
  file = f.file;
  all = f.all;
  more = drop i a ++ f.more;
  typed = f.typed;
  split =
      f.split ∙ ap (λ (l : List Entry). l ++ f.more) (sym (take-append-drop i a))
      ∙ append_assoc (take i a) (drop i a) f.more;
}

-- the canonical form of first entries is the first entries of a capture
pub front_of_canonical : (a : List Entry) → AreFirst a → IsFront (canonical a)
front_of_canonical a f =
    let h = holds f.file f.all f.typed in
    let hs = handles f.all in
    let vs = verifiers f.all in
    let i = length a in
    let form = canonical_of hs vs f.file f.all f.typed in
    let front : canonical a ≡ take i (canonical f.all) =
    ap canonical (taken a f) ∙ canonical-take i f.all (typed_in_order f.file f.all f.typed) in
    record {
      cs = map (numbered_conversation hs vs) h.cs;
      more = drop i (canonical f.all);
      split =
          sym form
          ∙ (sym (take-append-drop i (canonical f.all))
          ∙ ap (λ (l : List Entry). l ++ drop i (canonical f.all)) (sym front));
      are = capture_numbered hs vs h.cs h.are;
    }

pub forms_from_bytes : (a b : List Entry) → AreFirst a → AreFirst b
    → bytes_of (canonical a) ≡ bytes_of (canonical b) → canonical a ≡ canonical b
forms_from_bytes a b f g e =
    told_apart (canonical a) (canonical b) (front_of_canonical a f) (front_of_canonical b g) e

pub same_from_bytes : (a b : List Entry) → AreFirst a → AreFirst b
    → bytes_of (canonical a) ≡ bytes_of (canonical b) → Same a b
same_from_bytes a b f g e =
    same_from_canonical a b (first_in_order a f) (first_in_order b g) (forms_from_bytes a b f g e)

-- ---- the first i entries

module _ (a b : List Entry) (f : AreFirst a) (g : AreFirst b) where
  v : IsWellFormed a
  v = first_in_order a f

  w : IsWellFormed b
  w = first_in_order b g

  pub forms_of_fronts : (i : ℕ) → bytes_of (take i (canonical a)) ≡ bytes_of (take i (canonical b))
      → take i (canonical a) ≡ take i (canonical b)
  forms_of_fronts i e =
      sym (canonical-take i a v)
      ∙ (forms_from_bytes (take i a) (take i b) (first_taken i a f) (first_taken i b g)
      (ap bytes_of (canonical-take i a v) ∙ (e ∙ ap bytes_of (sym (canonical-take i b w))))
      ∙ canonical-take i b w)

  pub fronts_decided : (i : ℕ)
      → Same (take i a) (take i b)
      ↔ (bytes_of (take i (canonical a)) ≡ bytes_of (take i (canonical b)))
  fronts_decided i = (
    (λ s. ap bytes_of ((same_front a b v w i).0 s)),
    (λ e. (same_front a b v w i).1 (forms_of_fronts i e)),
  )

  pub parts_where_forms_do : (i : ℕ)
      → bytes_of (take i (canonical a)) ≡ bytes_of (take i (canonical b))
      → bytes_of (take (i + 1) (canonical a)) ≢ bytes_of (take (i + 1) (canonical b))
      → PartsAt a b i
  parts_where_forms_do i e d =
      parts_from_first_difference a b v w i (forms_of_fronts i e) (λ k. d (ap bytes_of k))
