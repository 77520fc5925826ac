-- What stays and what is replaced of the spellings of items.
use Rattle.canon3.proofs.Common.{◌≡◌, ℕ, ◌+◌, ◌^◌, ◌<◌, List, [], ◌∷◌, ◌++◌, length, replicate, drop, refl, sym, ap, ◌∙◌, subst, arith, length-append, append-nil, append_assoc, flat_map-append, PlainField, run_items, run_size, Makes, Noted, IsNotedAs}
use Rattle.std.proofs.lemmas.List.{nil_from_length}
use Rattle.xdr3.specs.declared.plain.PlainField.TheVariants as fields
use Rattle.xdr3.specs.Item.{Item, Word, Hyper, Fixed, WriteVerf, Opaque, Rest, Kind, Handle, SpellsItem, Spells, residue, word_bytes, zero_spelling_of, zero_spelling}
use Rattle.xdr3.proofs.Lemmas.Reading.Items.{Spells-single, Spells-split}

-- the next bytes stay
abbrev pub KeepsRun : (old new : Noted) → (count : ℕ) → Type 0
KeepsRun old new count =
    (body more form : List ℕ) → Makes old body form → length more ≡ count
    → length (body ++ more) < 2 ^ 64 → Makes new (body ++ more) (form ++ more)

-- the next bytes are replaced by these
abbrev pub ReplacesRun : (old new : Noted) → (skipped : ℕ) → (put : List ℕ) → Type 0
ReplacesRun old new skipped put = (body gone form : List ℕ) → Makes old body form
    → length gone ≡ skipped → Makes new (body ++ gone) (form ++ put)

-- the next bytes become zeros
abbrev pub ClearsRun : (old new : Noted) → (count : ℕ) → Type 0
ClearsRun old new count =
    (body gone form : List ℕ) → Makes old body form → length gone ≡ count
    → length (body ++ gone) < 2 ^ 64 → Makes new (body ++ gone) (form ++ replicate count 0)

-- the spellings of items are their zero spelling alone, of this many bytes
abbrev pub AreFixed : List Item → (count : ℕ) → Type 0
AreFixed items count =
    (bytes : List ℕ) → Spells items bytes → (bytes ≡ zero_spelling items) × (length bytes ≡ count)

-- after the items and the others of which this was so, it is so of these too
abbrev pub Notes : (old new : Noted) → (items others : List Item) → Type 0
Notes old new items others =
    (before after : List Item) → IsNotedAs old before after
    → IsNotedAs new (before ++ items) (after ++ others)

pub noted_none : (noted : Noted) → Makes noted [] [] → IsNotedAs noted [] []
noted_none noted makes body none few = rw none makes

module _ (old new : Noted) where
  pub notes_kept : (items : List Item) (count : ℕ) → AreFixed items count → KeepsRun old new count
      → Notes old new items items
  notes_kept items count fixed keeps l m noted body spells few =
      let (a, b, front, back, split) = Spells-split l items body spells in
      let same = fixed b back in
      let all : length (a ++ b) < 2 ^ 64 = rw split at few in
      rw (split, flat_map-append zero_spelling_of m items, ← same.0) (keeps a b (zero_spelling m)
      (noted a front (omega (arith, all, length-append a b))) same.1 all)

  pub notes_replaced : (i j : Item) (skipped : ℕ) (put : List ℕ)
      → ((bytes : List ℕ) → SpellsItem i bytes → length bytes ≡ skipped) → put ≡ zero_spelling_of j
      → ReplacesRun old new skipped put → Notes old new (i ∷ []) (j ∷ [])
  notes_replaced i j skipped put size is replaces l m noted body spells few =
      let (a, b, front, back, split) = Spells-split l (i ∷ []) body spells in
      let all : length (a ++ b) < 2 ^ 64 = rw split at few in
      rw (split, flat_map-append zero_spelling_of m (j ∷ []), append-nil (zero_spelling_of j), ← is)
      (replaces a b (zero_spelling m) (noted a front (omega (arith, all, length-append a b)))
      (size b (Spells-single i b back)))

-- ---- items of a fixed size

fixed_one : (i : Item) (count : ℕ)
    → ((bytes : List ℕ) → SpellsItem i bytes
    → (bytes ≡ zero_spelling_of i) × (length bytes ≡ count)) → AreFixed (i ∷ []) count
fixed_one i count one bytes spells =
    let (same, size) = one bytes (Spells-single i bytes spells) in
    (same ∙ sym (append-nil (zero_spelling_of i)), size)

pub word_fixed : (name : List ℕ) (n : ℕ) → AreFixed (Word name n ∷ []) 4
word_fixed name n = fixed_one (Word name n) 4 (λ bytes s. (s.1, ap length s.1))

pub hyper_fixed : (name : List ℕ) (n : ℕ) → AreFixed (Hyper name n ∷ []) 8
hyper_fixed name n = fixed_one (Hyper name n) 8 (λ bytes s. (s.1, ap length s.1))

pub bytes_fixed : (name bytes : List ℕ) → AreFixed (Fixed name bytes ∷ []) 8
bytes_fixed name bytes = fixed_one (Fixed name bytes) 8 (λ b s. (s.2, ap length s.2 ∙ s.0))

pub rest_fixed : (name bytes : List ℕ) → AreFixed (Rest name bytes ∷ []) (length bytes)
rest_fixed name bytes = fixed_one (Rest name bytes) (length bytes) (λ b s. (s.1, ap length s.1))

-- a run without residual bytes
pub run_fixed : (kind : Kind) (name bytes : List ℕ) → residue (length bytes) ≡ 0
    → AreFixed (Opaque kind name bytes ∷ []) (4 + length bytes)
run_fixed kind name bytes none = fixed_one (Opaque kind name bytes) (4 + length bytes) (λ b s.
    let no_more : s.0 ≡ [] = nil_from_length s.0 (s.3 ∙ none) in
    let zeros : replicate (residue (length bytes)) 0 ≡ [] = ap (λ k. replicate k 0) none in (
      s.5 ∙ ap (λ (k : List ℕ). word_bytes (length bytes) ++ (bytes ++ k)) (no_more ∙ sym zeros),
      omega (arith, ap length s.5, length-append bytes s.0, ap length no_more),
    ))

pub plain_fixed : (all : List PlainField) (run : List ℕ)
    → AreFixed (run_items all run) (run_size all)
plain_fixed [] run bytes spells = (spells, ap length spells)
plain_fixed (fields.Word name ∷ all) run bytes (front, back, first, more, split) =
    let (same, size) = plain_fixed all (drop 4 run) back more in (
      rw (split, first.1, same),
      omega (arith, ap length split, length-append front back, ap length first.1, size),
    )
plain_fixed (fields.Hyper name ∷ all) run bytes (front, back, first, more, split) =
    let (same, size) = plain_fixed all (drop 8 run) back more in (
      rw (split, first.1, same),
      omega (arith, ap length split, length-append front back, ap length first.1, size),
    )

-- ---- runs with residual bytes

pub opaque_size : (kind : Kind) (name bytes spelling : List ℕ)
    → SpellsItem (Opaque kind name bytes) spelling
    → length spelling ≡ 4 + (length bytes + residue (length bytes))
opaque_size kind name bytes spelling s = omega (arith, ap length s.5, s.3, length-append bytes s.0)

-- the residual bytes become zeros
pub notes_padded : (old mid new : Noted) (kind : Kind) (name bytes : List ℕ)
    → KeepsRun old mid (4 + length bytes)
    → ClearsRun mid new (residue (length bytes))
    → Notes old new (Opaque kind name bytes ∷ []) (Opaque kind name bytes ∷ [])
notes_padded old mid new kind name bytes keeps clears l m noted body spells few =
    let i = Opaque kind name bytes in
    let (a, b, front, back, split) = Spells-split l (i ∷ []) body spells in
    let (residual, short, fit, count, fits, is) = Spells-single i b back in
    let run : List ℕ = word_bytes (length bytes) ++ bytes in
    let whole : body ≡ (a ++ run) ++ residual =
    split ∙ ap (λ (k : List ℕ). a ++ k) is ∙ simp append_assoc in
    let all : length ((a ++ run) ++ residual) < 2 ^ 64 = rw whole at few in
    let first : length (a ++ run) < 2 ^ 64 =
    omega (arith, all, length-append (a ++ run) residual) in
    let kept =
    keeps a run (zero_spelling m) (noted a front (omega (arith, first, length-append a run)))
    (length-append (word_bytes (length bytes)) bytes) first in
    let form : (zero_spelling m ++ run) ++ replicate (residue (length bytes)) 0
    ≡ zero_spelling (m ++ i ∷ []) =
    rw (flat_map-append zero_spelling_of m (i ∷ [])) (simp (append_assoc, append-nil)) in
    subst (λ (k : List ℕ). Makes new k (zero_spelling (m ++ i ∷ []))) (sym whole)
    (subst (Makes new ((a ++ run) ++ residual)) form
    (clears (a ++ run) residual (zero_spelling m ++ run) kept count all))

-- ---- numbers in place of values

pub notes_verifier : (old new : Noted) (name verifier put : List ℕ) → ReplacesRun old new 8 put
    → Notes old new (WriteVerf name verifier ∷ []) (WriteVerf name put ∷ [])
notes_verifier old new name verifier put =
    notes_replaced old new (WriteVerf name verifier) (WriteVerf name put) 8 put
    (λ bytes s. ap length s.2 ∙ s.0) refl

pub notes_handle : (old new : Noted) (name handle put word : List ℕ) → length word ≡ 4
    → put ≡ word_bytes 4 ++ word
    → ReplacesRun old new (4 + (length handle + residue (length handle))) put
    → Notes old new (Opaque Handle name handle ∷ []) (Opaque Handle name word ∷ [])
notes_handle old new name handle put word four is =
    notes_replaced old new (Opaque Handle name handle) (Opaque Handle name word)
    (4 + (length handle + residue (length handle))) put (opaque_size Handle name handle)
    (is ∙ rw four (ap (λ (l : List ℕ). word_bytes 4 ++ l) (sym (append-nil word))))
