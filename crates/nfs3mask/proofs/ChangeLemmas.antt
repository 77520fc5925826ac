-- Words that change a mask one after another.
use Rattle.nfs3mask.proofs.Common.{sym, ap, ap₂, arith, zero, suc, ◌≡◌, ◌<◌, ◌∙◌, ◌+◌, ◌++◌, ℕ, List, [], ◌∷◌, length, map, slice_index_or, string_bytes, take, drop, ◌-◌, ◌≤◌, String, Global, Change, change_word, with_change, AreChanges, flat_map, get_or, Class, Times, Way, Keep, Ways, classes, position, usual, ways_after, changes_of}
use Rattle.std.proofs.Math.Seq.{take-length, take-suc}
use Rattle.std.proofs.lemmas.List.{ext_get_or, flat_map_more, map-append, take_more}
use Rattle.std.specs.List.{range_with_len}
use Rattle.std.proofs.lemmas.List.FromFn.{get_or-map-range_with_len}
use Rattle.std.proofs.lemmas.List.Sums.{fold-append}

-- each of the words is that of a change
pub says_each : (words : List (String Global)) (k : ℕ) (w : String Global) → k < length words
    → w ≡ slice_index_or words k w → (changes : List Change)
    → map string_bytes words ≡ map change_word changes
    → (c : Change) × (string_bytes w ≡ change_word c)
says_each [] k w low is changes e = absurd (omega (arith, low))
says_each (x ∷ words) k w low is [] e = absurd (cc)
says_each (x ∷ words) zero w low is (c ∷ changes) e = (c, cc)
says_each (x ∷ words) (suc k) w low is (c ∷ changes) e =
    says_each words k w (omega (arith, low)) is changes cc

-- and so are those before it, and it
pub one_more : (words : List (String Global)) (k : ℕ) (w : String Global) (ways : Ways) (c : Change)
    → k < length words → w ≡ slice_index_or words k w → string_bytes w ≡ change_word c
    → AreChanges (map string_bytes (take k words)) ways
    → AreChanges (map string_bytes (take (k + 1) words)) (with_change ways c)
one_more words k w ways c low is of_c before =
    let next : k + 1 ≡ suc k = omega arith in
    let all : take (k + 1) words ≡ take k words ++ w ∷ [] =
    ap (λ n. take n words) next ∙ take-suc words k w low
    ∙ ap (λ v. take k words ++ v ∷ []) (sym is) in
    record {
      changes = before.changes ++ c ∷ [];
      said = ap (map string_bytes) all ∙ map-append string_bytes (take k words) (w ∷ [])
          ∙ ap₂ (λ xs x. xs ++ x ∷ []) before.said of_c
          ∙ sym (map-append change_word before.changes (c ∷ []));
      after =
          ap (λ v. with_change v c) before.after
          ∙ sym (fold-append with_change usual before.changes (c ∷ []));
    }

-- ---- words by their number

-- a program's name, two names, and the words after them
pub names_first : (words : List (String Global)) (a b : String Global) (input output : List ℕ)
    → 3 ≤ length words → a ≡ slice_index_or words 1 a → b ≡ slice_index_or words 2 b
    → string_bytes a ≡ input → string_bytes b ≡ output
    → (program : List ℕ) × (map string_bytes words
    ≡ program ∷ input ∷ output ∷ map string_bytes (take (length words - 3) (drop 3 words)))
names_first [] a b input output low is_a is_b of_a of_b = absurd (omega (arith, low))
names_first (x ∷ []) a b input output low is_a is_b of_a of_b = absurd (omega (arith, low))
names_first (x ∷ y ∷ []) a b input output low is_a is_b of_a of_b = absurd (omega (arith, low))
names_first (x ∷ y ∷ z ∷ more) a b input output low is_a is_b of_a of_b =
    let n : length (x ∷ y ∷ z ∷ more) - 3 ≡ length more = omega arith in
    let rest : take (length (x ∷ y ∷ z ∷ more) - 3) more ≡ more =
    ap (λ k. take k more) n ∙ take-length more in
    (string_bytes x, cc)

-- ---- words that tell a mask

-- all ways, of their classes one after another
all_ways : (l : List Way) → length l ≡ 13
    → map (λ class. get_or l (position class) Keep) classes ≡ l
all_ways l long =
    ext_get_or Keep (map (λ k. get_or l k Keep) (range_with_len 0 13)) l (sym long)
    (λ i low. get_or-map-range_with_len (λ k. get_or l k Keep) 0 13 i i Keep low (omega arith))

-- the words for the mask change the usual one into it
pub told_again : (ways : Ways) → length ways.by_class ≡ 13 → ways_after (changes_of ways) ≡ ways
told_again ways long = ap (λ l. record { by_class = l }) (all_ways ways.by_class long)

-- a text of the first classes, and of one more
pub told_more : (f : Class → List ℕ) (n : ℕ) (before after : List ℕ) → n < 13
    → before ≡ flat_map f (take n classes) → after ≡ before ++ f (get_or classes n Times)
    → after ≡ flat_map f (take (n + 1) classes)
told_more f n before after low so_far e =
    e ∙ ap (λ (t : List ℕ). t ++ f (get_or classes n Times)) so_far
    ∙ flat_map_more f [] (take n classes) (get_or classes n Times)
    ∙ ap (flat_map f) (sym (take_more classes n Times low))
