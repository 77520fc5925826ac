-- Masked texts have spellings, and no longer ones.
use Rattle.capture3.proofs.Lemmas.Container.BytesOf.{all_bytes, checked}
use Rattle.masking3.proofs.Common.{ℕ, zero, suc, ◌≤◌, List, length, map, replicate, refl, arith, length-replicate, cond_either, Way, Keep, Ways, AreBytes-nil, host_by, is_silly_name, silly_by, silly_zero, raw_by, text_by, with_text, Item, AreBytes, SpellsItem, residue, zero_spelling_of, length_of_opaque, zero_spelled_one, way_of, Machines, Raw, SillyNames}
use Rattle.masking3.proofs.Lemmas.Unnamed.TextsLemmas.{by_name, by_text, raw_length, text_shorter}

zeros_are_bytes : (n : ℕ) → AreBytes (replicate n 0)
zeros_are_bytes zero i = omega arith
zeros_are_bytes (suc n) zero = omega arith
zeros_are_bytes (suc n) (suc i) = zeros_are_bytes n i

silly_bytes : (way : Way) (b : List ℕ) → AreBytes b → AreBytes (silly_by way b)
unfolding all_bytes
silly_bytes Keep b h = h
silly_bytes way b h = cond_either AreBytes (is_silly_name b) (checked silly_zero refl) h

host_bytes : (way : Way) (b : List ℕ) → AreBytes b → AreBytes (host_by way b)
host_bytes Keep b h = h
host_bytes way b h = AreBytes-nil

raw_bytes : (way : Way) (b : List ℕ) → AreBytes b → AreBytes (raw_by way b)
raw_bytes Keep b h = h
raw_bytes way b h = zeros_are_bytes (length b)

module _ (ways : Ways) where
  abbrev pub with_texts : List Item → List Item
  with_texts items = map (with_text ways) items

  pub item_spelled : (i : Item) (bytes : List ℕ) → SpellsItem i bytes
      → SpellsItem (with_text ways i) (zero_spelling_of (with_text ways i))
  item_spelled i bytes p =
      by_text ways (λ i j. SpellsItem i (zero_spelling_of i) → SpellsItem j (zero_spelling_of j))
      (λ i q. q)
      (λ name b q.
      let n = residue (length (text_by ways name b)) in (
        replicate n 0,
        omega (arith, q.1, text_shorter ways name b),
        by_name name (λ f. AreBytes (f ways b)) (silly_bytes (way_of ways SillyNames) b q.2)
            (host_bytes (way_of ways Machines) b q.2) q.2,
        length-replicate {A = ℕ} n 0,
        zeros_are_bytes n,
        refl,
      )) (λ name b q. (raw_bytes (way_of ways Raw) b q.0, refl)) i (zero_spelled_one i bytes p)

  pub item_length : (i : Item)
      → length (zero_spelling_of (with_text ways i)) ≤ length (zero_spelling_of i)
  item_length i =
      by_text ways (λ i j. length (zero_spelling_of j) ≤ length (zero_spelling_of i))
      (λ i. omega arith)
      (λ name b. omega (arith, text_shorter ways name b, length_of_opaque))
      (λ name b. omega (arith, raw_length (way_of ways Raw) b)) i
