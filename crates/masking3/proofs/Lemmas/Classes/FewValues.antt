-- A capture has fewer values of a class than bytes.
use Rattle.masking3.proofs.Common.{◌≡◌, ℕ, ◌≤◌, List, [], ◌∷◌, ◌++◌, length, sym, ap, ◌∙◌, subst, arith, length-append, AllByRecursion, flat_map-append, length-bytes_high_first, Item, Word, Hyper, Fixed, Spells, SpellsItem, zero_spelling, zero_spelling_of, max_bytes, Entry, Call, Reply, items_of, AreFirst, all_entries, holds, cond_either, Class, ItemSpot, InCall, InReply, class_of_fixed, class_of_hyper, class_of_word, class_value, position, is_zero_that_stays, value_in, value_where, values, values_in, values_in_entry, next_spot, ◌==◌, ◌&&◌, not, Option, None, Some, Typed}
use Rattle.capture3.specs.Laws.{spelled}
use Rattle.capture3.proofs.Lemmas.Reached.Limits.{typed_within}

module _ (d : Class) where
  one_value : (o : Option Class) (n : ℕ) → length (value_where d o n) ≤ 1
  one_value None n = omega arith
  one_value (Some e) n =
      cond_either (λ (l : List ℕ). length l ≤ 1)
      ((position d == position e) && not (is_zero_that_stays d n)) (omega arith) (omega arith)

  few_of_item : (spot : ItemSpot) (i : Item) (bytes : List ℕ) → SpellsItem i bytes
      → length (value_in d spot i) ≤ length (zero_spelling_of i)
  few_of_item spot (Word name n) bytes p =
      omega (arith, one_value (class_of_word spot name) n, length-bytes_high_first 4 n)
  few_of_item spot (Hyper name n) bytes p =
      omega (arith, one_value (class_of_hyper spot name) n, length-bytes_high_first 8 n)
  few_of_item spot (Fixed name b) bytes p =
      omega (arith, one_value (class_of_fixed name) (class_value (Fixed name b)), p.0)
  few_of_item spot i bytes p = omega arith

  few_of_message : (spot : ItemSpot) (items : List Item) (bytes : List ℕ) → Spells items bytes
      → length (values_in d spot items) ≤ length (zero_spelling items)
  few_of_message spot [] bytes p = omega arith
  few_of_message spot (i ∷ items) bytes p =
      omega (
        arith,
        few_of_item spot i p.0 p.2,
        few_of_message (next_spot spot i) items p.1 p.3,
        length-append (value_in d spot i) (values_in d (next_spot spot i) items),
        length-append (zero_spelling_of i) (zero_spelling items),
      )

  abbrev IsFew : Entry → Type 0
  IsFew e = length (values_in_entry d e) ≤ length (zero_spelling (items_of e))

  few_of_entries : (entries : List Entry) → AllByRecursion IsFew entries
      → length (values entries d) ≤ spelled entries
  few_of_entries [] h = omega arith
  few_of_entries (Call m ∷ entries) h =
      simp length-append (omega (arith, h.0, few_of_entries entries h.1))
  few_of_entries (Reply id m ∷ entries) h =
      simp length-append (omega (arith, h.0, few_of_entries entries h.1))
  few_of_entries (e ∷ entries) h = few_of_entries entries h.1

  pub few_of_file : (file : List ℕ) (all : List Entry) → Typed file all
      → length (values all d) ≤ max_bytes
  few_of_file file all typed =
      let h = holds file all typed in
      let few : AllByRecursion IsFew all =
      subst (AllByRecursion IsFew) (sym h.is)
      (all_entries IsFew (λ m s. few_of_message InCall m (zero_spelling m) s.0.1)
      (λ r s. few_of_message InReply r.items (zero_spelling r.items) s.0.1) (omega arith)
      (omega arith) (omega arith) (omega arith) h.cs h.are.converse) in
      omega (arith, few_of_entries all few, (typed_within file all typed).small)

  pub few_of_first : (entries : List Entry) → AreFirst entries
      → length (values entries d) ≤ max_bytes
  few_of_first entries first =
      let all : values first.all d ≡ values entries d ++ values first.more d =
      ap (λ l. values l d) first.split ∙ flat_map-append (values_in_entry d) entries first.more in
      omega (
        arith,
        few_of_file first.file first.all first.typed,
        ap length all,
        length-append (values entries d) (values first.more d),
      )
