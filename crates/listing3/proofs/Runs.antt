-- Runs of fields, in parts.
use Rattle.listing3.proofs.Common.{◌≡◌, ℕ, ◌+◌, ◌-◌, All, subst, length-drop, List, [], ◌∷◌, ◌++◌, length, take, drop, refl, ap, ap₂, sym, ◌∙◌, arith, append_assoc, flat_map-append, PlainField, Item, shown_item, shown_items, take-append-drop, take_rest, plain_item, run_items, run_size, width}
use Rattle.std.proofs.lemmas.List.{drop-drop, length-take-le}
use Rattle.std.proofs.lemmas.List.Elements.{All-drop, All-take}
use Rattle.listing3.specs.machinery.Fields.{HasFields, HasShortName, PutsFields}

-- the fields up to a place, and those from it on, as they are cut out
cut_at : (place : ℕ) (fields : List PlainField)
    → fields ≡ take place fields ++ take (length fields - place) (drop place fields)
cut_at place fields =
    sym (ap (λ (l : List PlainField). take place fields ++ l) (take_rest fields place)
    ∙ take-append-drop place fields)

run_parts : (front back : List PlainField) (bytes : List ℕ)
    → run_items (front ++ back) bytes
    ≡ run_items front bytes ++ run_items back (drop (run_size front) bytes)
run_parts [] back bytes = refl
run_parts (field ∷ front) back bytes =
    ap (λ (l : List Item). plain_item field bytes ∷ l)
    (run_parts front back (drop (width field) bytes)
    ∙ ap (λ (l : List ℕ). run_items front (drop (width field) bytes) ++ run_items back l)
    (drop-drop (run_size front) (width field) bytes))

-- a part was written after another
part_after : (now between start : List ℕ) (fields front back : List PlainField)
    (bytes rest : List ℕ) (size : ℕ) → fields ≡ front ++ back → size ≡ run_size front
    → rest ≡ drop size bytes
    → between ≡ start ++ shown_items (run_items front bytes)
    → now ≡ between ++ shown_items (run_items back rest)
    → now ≡ start ++ shown_items (run_items fields bytes)
part_after now between start fields front back bytes rest size parts is others first second =
    let left : rest ≡ drop (run_size front) bytes = others ∙ ap (λ (n : ℕ). drop n bytes) is in
    second ∙ ap₂ (λ (a : List ℕ) (l : List ℕ). a ++ shown_items (run_items back l)) first left
    ∙ append_assoc start (shown_items (run_items front bytes))
    (shown_items (run_items back (drop (run_size front) bytes)))
    ∙ ap (λ (l : List ℕ). start ++ l)
    (sym (flat_map-append shown_item (run_items front bytes)
    (run_items back (drop (run_size front) bytes)))
    ∙ ap shown_items (sym (run_parts front back bytes))
    ∙ ap (λ (l : List PlainField). shown_items (run_items l bytes)) (sym parts))

-- how many bytes both parts have
both_sizes : (fields front back : List PlainField) → fields ≡ front ++ back
    → run_size front + run_size back ≡ run_size fields
both_sizes fields front back parts = sym (sizes front back) ∙ ap run_size (sym parts)
  where
    sizes : (a b : List PlainField) → run_size (a ++ b) ≡ run_size a + run_size b
    sizes [] b = omega arith
    sizes (field ∷ a) b = omega (arith, sizes a b)

-- ---- two parts of a run, `a` fields and then `b`

module _ (a b : ℕ) (fields : List PlainField) (bytes : List ℕ)
    (has : HasFields (a + b) fields bytes) where
  abbrev Front : List PlainField
  Front = take a fields

  abbrev Back : List PlainField
  Back = take (length fields - a) (drop a fields)

  sizes : run_size Front + run_size Back ≡ run_size fields
  sizes = both_sizes fields Front Back (cut_at a fields)

  pub first_fields : HasFields a Front bytes
  first_fields = record {
    count_is = length-take-le a fields (omega (arith, has.count_is));
    short = All-take HasShortName a fields has.short;
    size = omega (arith, sizes, has.size);
  }

  pub last_fields : (size : ℕ) → size ≡ run_size Front
      → HasFields b Back (take (length bytes - size) (drop size bytes))
  last_fields size is = record {
    count_is =
        ap length (take_rest fields a) ∙ omega (arith, length-drop a fields, has.count_is);
    short =
        subst (All HasShortName) (sym (take_rest fields a))
        (All-drop HasShortName a fields has.short);
    size =
        omega (
          arith,
          is,
          sizes,
          has.size,
          ap length (take_rest bytes size),
          length-drop size bytes,
        );
  }

  pub both_put : (old middle new : List ℕ) (at : ℕ) (ends last : ℕ × ℕ)
      → PutsFields a Front bytes (old, middle) at ends
      → PutsFields b Back (take (length bytes - ends.1) (drop ends.1 bytes)) (middle, new) ends.0
      last
      → PutsFields (a + b) fields bytes (old, new) at (last.0, ends.1 + last.1)
  both_put old middle new at ends last first second = record {
    within = omega (arith, first.within, second.within);
    size = ap₂ (λ m n. m + n) first.size second.size ∙ sizes;
    puts = (
      part_after _ _ _ fields Front Back bytes _ ends.1 (cut_at a fields) first.size
          (take_rest bytes ends.1) first.puts.0 second.puts.0,
      second.puts.1 ∙ first.puts.1,
    );
  }
