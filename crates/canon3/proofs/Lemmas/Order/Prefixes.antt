-- The first entries of a capture, and where two captures part.
use Rattle.std.proofs.Common.{◌≡◌, ◌≢◌, ℕ, ◌≤◌, ◌+◌, ◌↔◌, List, [], ◌∷◌, ◌++◌, length, take, drop, refl, sym, ap, ◌∙◌, subst, arith, append_assoc, length-append, take-append-drop, take-take}
use Rattle.canon3.proofs.Common.{flat_map, Entry, items_of, handles_in, verifiers_in, Member, Same, canonical, entry_bytes, bytes_of, PartsAt}
use Rattle.std.proofs.lemmas.List.Concat.{flat_map-append}
use Rattle.canon3.proofs.Lemmas.Order.Order.{IsWellFormed}
use Rattle.canon3.proofs.Lemmas.Numbers.RankLemmas.{member-append_left}
use Rattle.canon3.proofs.Lemmas.Canonical.CanonicalLemmas.{Within}
use Rattle.canon3.proofs.Lemmas.Canonical.CanonicalStreamLemmas.{canonical-after, take-after}
use Rattle.canon3.proofs.Lemmas.WellFormed.Nesting.{runs-take}
use Rattle.canon3.proofs.Lemmas.Canonical.OneFormLemmas.{canonical-same}
use Rattle.canon3.proofs.Lemmas.Renaming.Equality.{same_from_canonical}

module _ {X : Type 0} (f : Entry → List X) (i : ℕ) (es : List Entry) where
  flat_map_split : flat_map f es ≡ flat_map f (take i es) ++ flat_map f (drop i es)
  flat_map_split =
      ap (flat_map f) (sym (take-append-drop i es)) ∙ flat_map-append f (take i es) (drop i es)

  flat_map_take_within : Within (flat_map f (take i es)) (flat_map f es)
  flat_map_take_within x m =
      subst (Member x) (sym flat_map_split) (member-append_left (flat_map f (drop i es)) m)

  length-flat_map_take : length (flat_map f (take i es)) ≤ length (flat_map f es)
  length-flat_map_take = omega (arith, ap length flat_map_split, length-append {A = X})

pub IsWellFormed-take : (i : ℕ) (es : List Entry) → IsWellFormed es → IsWellFormed (take i es)
IsWellFormed-take i es w = record {
  stage = (runs-take w.run i).0;
  run = (runs-take w.run i).1;
  handles_fit =
      λ h m. w.handles_fit h (flat_map_take_within (λ e. handles_in (items_of e)) i es h m);
  verifiers_fit =
      λ v m. w.verifiers_fit v (flat_map_take_within (λ e. verifiers_in (items_of e)) i es v m);
  few_handles =
      omega (arith, w.few_handles, length-flat_map_take (λ e. handles_in (items_of e)) i es);
  few_verifiers =
      omega (arith, w.few_verifiers, length-flat_map_take (λ e. verifiers_in (items_of e)) i es);
}

pub canonical-take : (i : ℕ) (es : List Entry) → IsWellFormed es
    → canonical (take i es) ≡ take i (canonical es)
canonical-take i es w =
    canonical-after (take i es) (IsWellFormed-take i es w)
    ∙ (take-after i es [] [] [] ∙ ap (take i) (sym (canonical-after es w)))

bytes_of-append : (a b : List Entry) → (rest : List ℕ) × (bytes_of (a ++ b) ≡ bytes_of a ++ rest)
bytes_of-append [] b = (bytes_of b, refl)
bytes_of-append (e ∷ a) b =
    (flat_map entry_bytes b, rw (flat_map-append entry_bytes (e ∷ a) b) (simp append_assoc))

pub bytes_of-take : (i : ℕ) (es : List Entry)
    → (rest : List ℕ) × (bytes_of es ≡ bytes_of (take i es) ++ rest)
bytes_of-take i es =
    let r = bytes_of-append (take i es) (drop i es) in
    (r.0, ap bytes_of (sym (take-append-drop i es)) ∙ r.1)

-- ---- where two captures part

module _ (a b : List Entry) (v : IsWellFormed a) (w : IsWellFormed b) where
  pub same_front : (i : ℕ)
      → Same (take i a) (take i b) ↔ (take i (canonical a) ≡ take i (canonical b))
  same_front i = (
    (λ s. sym (canonical-take i a v) ∙ (canonical-same s ∙ canonical-take i b w)),
    (λ e.
        same_from_canonical (take i a) (take i b) (IsWellFormed-take i a v)
        (IsWellFormed-take i b w) (canonical-take i a v ∙ (e ∙ sym (canonical-take i b w)))),
  )

  -- what a comparison entry by entry finds
  pub parts_from_first_difference : (i : ℕ) → take i (canonical a) ≡ take i (canonical b)
      → take (i + 1) (canonical a) ≢ take (i + 1) (canonical b) → PartsAt a b i
  parts_from_first_difference i e d = record {
    differ = λ s. d ((same_front (i + 1)).0 s);
    same_before = λ j lt.
        let le : j + 1 ≤ i = omega arith in
        (same_front (j + 1)).1 (sym (take-take (j + 1) i (canonical a) le)
        ∙ (ap (take (j + 1)) e ∙ take-take (j + 1) i (canonical b) le));
  }
