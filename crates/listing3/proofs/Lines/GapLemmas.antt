-- Digits that are written part by part, and text around them.
use Rattle.listing3.proofs.Common.{◌≡◌, ℕ, List, [], ◌∷◌, ◌++◌, length, take, drop, refl, sym, ap, ap₂, ◌∙◌, subst, append_assoc, append-nil, arith, Appends, AppendsFront, encode_lower, encode_with, Option, min, inl, inr, Appends-trans, cases_lt, take_all, drop_all, TookUpTo, front_of_first, front_of_second}
use Rattle.listing3.proofs.HalvesLemmas.{hex_parts}

-- ---- digits, part by part

module _ (first now new : Option (List ℕ)) (whole all part rest : List ℕ)
    (taken : TookUpTo first now whole (encode_lower all)) (cut : all ≡ part ++ rest) where
  spelled : encode_lower all ≡ encode_lower part ++ encode_lower rest
  spelled = ap encode_lower cut ∙ hex_parts part rest

  pub part_taken : Appends now new (encode_lower part)
      → TookUpTo first new whole (encode_lower rest)
  part_taken appended = record {
    front = taken.front ++ encode_lower part;
    split =
        taken.split
        ∙ (ap (λ (l : List ℕ). taken.front ++ l) spelled
        ∙ sym (append_assoc taken.front (encode_lower part) (encode_lower rest)));
    appended =
        Appends-trans first now new taken.front (encode_lower part) taken.appended appended;
  }

  pub part_cut : AppendsFront now new (encode_lower part) → AppendsFront first new whole
  part_cut cut_off =
      front_of_second first now new taken.front (encode_lower all) whole taken.split taken.appended
      (front_of_first now new (encode_lower part) (encode_lower rest) (encode_lower all) spelled
      cut_off)

pub all_taken : (first now : Option (List ℕ)) (whole rest : List ℕ)
    → TookUpTo first now whole (encode_lower rest) → length rest ≡ 0 → Appends first now whole
unfolding encode_with
all_taken first now whole [] taken none =
    subst (Appends first now) (sym (taken.split ∙ append-nil taken.front)) taken.appended
all_taken first now whole (x ∷ rest) taken none = absurd (omega (arith, none))

-- ---- text before and after the digits

same_cut : (place n : ℕ) (text : List ℕ) → n ≡ min place (length text)
    → (take n text ≡ take place text) × (drop n text ≡ drop place text)
same_cut place n text is =
    elim (cases_lt place (length text)) [
      | inl lt ↦ let same : n ≡ place = omega (arith, is, lt) in
          (ap (λ k. take k text) same, ap (λ k. drop k text) same)
      | inr ge ↦ (
        take_all n text (omega (arith, is, ge)) ∙ sym (take_all place text (omega (arith, ge))),
        drop_all n text (omega (arith, is, ge)) ∙ sym (drop_all place text (omega (arith, ge))),
      )
    ]

module _ (a b c d : Option (List ℕ)) (head text digits : List ℕ) (place n : ℕ)
    (is : n ≡ min place (length text)) where
  abbrev pub Whole : List ℕ
  Whole = head ++ (take place text ++ (digits ++ drop place text))

  whole_is : Whole ≡ (head ++ take n text) ++ (digits ++ drop n text)
  whole_is =
      let same = same_cut place n text is in
      ap₂ (λ (x y : List ℕ). head ++ (x ++ (digits ++ y))) (sym same.0) (sym same.1)
      ∙ sym (append_assoc head (take n text) (digits ++ drop n text))

  pub filled_written : Appends a b (head ++ take n text) → Appends b c digits
      → Appends c d (drop n text) → Appends a d Whole
  filled_written first second third =
      subst (Appends a d) (sym whole_is)
      (Appends-trans a b d (head ++ take n text) (digits ++ drop n text) first
      (Appends-trans b c d digits (drop n text) second third))

  pub cut_before : AppendsFront a b (head ++ take n text) → AppendsFront a b Whole
  cut_before first =
      front_of_first a b (head ++ take n text) (digits ++ drop n text) Whole whole_is first

  pub cut_within : Appends a b (head ++ take n text) → AppendsFront b c digits
      → AppendsFront a c Whole
  cut_within first second =
      front_of_second a b c (head ++ take n text) (digits ++ drop n text) Whole whole_is first
      (front_of_first b c digits (drop n text) (digits ++ drop n text) refl second)

  pub cut_after : Appends a b (head ++ take n text) → Appends b c digits
      → AppendsFront c d (drop n text) → AppendsFront a d Whole
  cut_after first second third =
      front_of_second a b d (head ++ take n text) (digits ++ drop n text) Whole whole_is first
      (front_of_second b c d digits (drop n text) (digits ++ drop n text) refl second third)
