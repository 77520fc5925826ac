-- A run of attributes that is put together before it is written.
use Rattle.masking3.proofs.Common.{zero, suc, replicate, ◌≡◌, ℕ, ◌+◌, ◌≤◌, List, [], ◌∷◌, ◌++◌, refl, sym, ap, ◌∙◌, subst, append_assoc, append-nil, arith, flat_map-append, length, Item, Rest, zero_spelling, zero_spelling_of, Ways, Adds, MaskStands, true}
use Rattle.xdr3.specs.Visit.{AddsSome}
use Rattle.std.specs.Prelude.{take}
use Rattle.masking3.specs.declared.masking_writer.MaskingWriter.{MaskingWriter}
use Rattle.masking3.specs.machinery.KnownFields.{with_run}
use Rattle.masking3.proofs.Lemmas.Writing.WriterLemmas.{Spells, with_parts}
use Rattle.std.proofs.lemmas.List.{take_all}

pub put_there : (end at width : ℕ) (old new bytes spelled : List ℕ) → end ≡ at + length bytes
    → take end new ≡ take at old ++ bytes → bytes ≡ spelled → length spelled ≡ width
    → take (at + width) new ≡ take at old ++ spelled
put_there end at width old new bytes spelled ends written is size =
    subst (λ n. take n new ≡ take at old ++ spelled)
    (ends ∙ ap (λ (l : List ℕ). at + length l) is ∙ ap (λ n. at + n) size)
    (written ∙ ap (λ (l : List ℕ). take at old ++ l) is)

-- what a writer appends
appends : (old new : List ℕ) (items : List Item) → Adds Spells old new items
    → new ≡ old ++ zero_spelling items
unfolding Adds
appends old new items adds = adds (Rest [] old ∷ []) (sym (append-nil old))

-- what the rest of a message appends
pub appends_rest : (old new name bytes : List ℕ) → Adds Spells old new (Rest name bytes ∷ [])
    → new ≡ old ++ bytes
appends_rest old new name bytes adds =
    appends old new (Rest name bytes ∷ []) adds
    ∙ ap (λ (l : List ℕ). old ++ l) (append-nil bytes)

-- a writer that appended the spelling of an item has added it
pub spelled_item : (old new : List ℕ) (i : Item) → new ≡ old ++ zero_spelling_of i
    → Adds Spells old new (i ∷ [])
unfolding Adds
spelled_item old new i is before was =
    is ∙ ap (λ (l : List ℕ). l ++ zero_spelling_of i) was
    ∙ sym (flat_map-append zero_spelling_of before (i ∷ [])
    ∙ ap (λ (l : List ℕ). zero_spelling before ++ l) (append-nil (zero_spelling_of i)))

-- an item more is put into a run behind these bytes
pub put_spells : (front old new : List ℕ) (j : Item) → new ≡ old ++ zero_spelling_of j
    → Adds Spells (front ++ old) (front ++ new) (j ∷ [])
put_spells front old new j is =
    spelled_item (front ++ old) (front ++ new) j
    (ap (λ (l : List ℕ). front ++ l) is ∙ sym (append_assoc front old (zero_spelling_of j)))

-- a writer that has failed stands for anything
pub fails_some : {P S H : Type 0} (ways : Ways) (old new : MaskingWriter P S H) (items : List Item)
    → new.failed ≡ true → AddsSome (MaskStands ways) old new items
unfolding AddsSome
fails_some ways old new items failed = λ before stands. ([], items, refl, λ going. absurd (cc))

-- ---- zeros

abbrev pub zeros : ℕ → List ℕ
zeros n = replicate n 0

-- some zeros, and those that are left
pub zeros_joined : (a b : ℕ) → zeros a ++ zeros b ≡ zeros (a + b)
zeros_joined zero b =
    let all : b ≡ 0 + b = omega arith in ap zeros all
zeros_joined (suc a) b =
    let all : suc (a + b) ≡ suc a + b = omega arith in
    ap (λ (l : List ℕ). 0 ∷ l) (zeros_joined a b) ∙ ap zeros all

pub some_zeros : (m n : ℕ) → n ≤ m → take n (zeros m) ≡ zeros n
some_zeros m zero low = refl
some_zeros zero (suc n) low = absurd (omega (arith, low))
some_zeros (suc m) (suc n) low =
    ap (λ (l : List ℕ). 0 ∷ l) (some_zeros m n (omega (arith, low)))

-- ---- attributes

-- the run is written
pub run_written : {P S H : Type 0} (ways : Ways) (old w : MaskingWriter P S H)
    (run bytes name : List ℕ) (items : List Item) → length run ≤ 80
    → Adds (MaskStands ways) (with_run old []) (with_run w (take 80 run)) items
    → Adds Spells w.writer bytes (Rest name run ∷ [])
    → Adds (MaskStands ways) old (with_parts ways w w.handles w.classes bytes w.spot) items
run_written ways old w run bytes name items size adds write =
    let is : bytes ≡ w.writer ++ take 80 run =
    appends w.writer bytes (Rest name run ∷ []) write
    ∙ ap (λ (l : List ℕ). w.writer ++ l) (append-nil run ∙ sym (take_all 80 run size)) in
    subst
    (λ (l : List ℕ).
    Adds (MaskStands ways) old (with_parts ways w w.handles w.classes l w.spot) items)
    (sym is)
    (subst
    (λ (l : List ℕ).
    Adds (MaskStands ways) (with_parts ways old old.handles old.classes l old.spot)
    (with_run w (take 80 run)) items) (append-nil old.writer) adds)
