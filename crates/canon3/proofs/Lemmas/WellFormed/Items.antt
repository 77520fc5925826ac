-- What is so of the items of a shape, and the bytes and values of items.
use Rattle.std.proofs.Common.{◌≡◌, ℕ, zero, suc, ◌+◌, ◌%◌, ◌/◌, ◌^◌, ◌<◌, ◌≤◌, List, [], ◌∷◌, ◌++◌, length, replicate, subst, arith, length-append, append-nil, ⊎_elim}
use Rattle.canon3.proofs.Common.{⊤, AllByRecursion, flat_map, handle_in, verifier_in, handles_in, verifiers_in, Member, here, there, IsHandle, IsVerifier, Item, Word, Hyper, Fixed, WriteVerf, Opaque, Rest, Handle, AreBytes, SpellsItem, Spells, residue, word_bytes, zero_spelling_of, zero_spelling, zero_spelled_all, AreBytes-nil, AreBytes-append}
use Rattle.std.specs.Int.{bytes_high_first, byte_at}
use Rattle.std.proofs.lemmas.List.{length-replicate}
use Rattle.xdr3.specs.Shape.{Shape, choose, hyper, fixed, write_verf, opaque, nothing, both, linked, sized, Fits, links}
use Rattle.xdr3.specs.Layout.{Layout, exactly, remaining, after, FitsLayout}
use Rattle.xdr3.proofs.Lemmas.Reading.Items.{Spells-one, Spells-single}
use Rattle.xdr3.proofs.Lemmas.Shapes.ShapeParts.{HasParts, Part, RowHasParts, fixed_part, hyper_part, opaque_part, rest_part, size_part, word_part, write_verf_part}
use Rattle.procs3.proofs.ProtocolParts.{HasRoom}
use Rattle.canon3.proofs.Lemmas.Numbers.RankLemmas.{member-append_cases}
use Rattle.canon3.proofs.Lemmas.Renaming.RenamingLemmas.{all_weaker}

-- ---- lists

pub all_append : {A : Type 0} (P : A → Type 0) (l m : List A) → AllByRecursion P l
    → AllByRecursion P m → AllByRecursion P (l ++ m)
all_append P [] m h k = k
all_append P (x ∷ l) m h k = (h.0, all_append P l m h.1 k)

all_flat_map : {A B : Type 0} (P : B → Type 0) (f : A → List B) (l : List A)
    → AllByRecursion (λ x. AllByRecursion P (f x)) l → AllByRecursion P (flat_map f l)
all_flat_map P f [] h = tt
all_flat_map P f (x ∷ l) h = all_append P (f x) (flat_map f l) h.0 (all_flat_map P f l h.1)

-- what is so of each part's values is so of all
pub all_members : {A B : Type 0} (P : B → Type 0) (f : A → List B) (l : List A)
    → AllByRecursion (λ x. (y : B) → Member y (f x) → P y) l → (y : B) → Member y (flat_map f l)
    → P y
all_members P f [] h y m = elim m [ ]
all_members P f (x ∷ l) h y m =
    ⊎_elim (h.0 y) (all_members P f l h.1 y) (member-append_cases (f x) m)

-- ---- what is so of each item

module _ (P : Item → Type 0) where
  abbrev AllAre : List Item → Type 0
  AllAre items = AllByRecursion P items

  -- so is each item that stands for the part
  abbrev pub IsEach : Part → Type 0
  IsEach (word_part name reason) = (n : ℕ) → P (Word name n)
  IsEach (hyper_part name) = (n : ℕ) → P (Hyper name n)
  IsEach (fixed_part name) = (bytes : List ℕ) → P (Fixed name bytes)
  IsEach (write_verf_part name) = (bytes : List ℕ) → P (WriteVerf name bytes)
  IsEach (rest_part name) = (bytes : List ℕ) → P (Rest name bytes)
  IsEach (opaque_part kind name max) =
      (bytes : List ℕ) → length bytes ≤ max → P (Opaque kind name bytes)
  IsEach (size_part name s) = (n : ℕ) → P (Word name n)

  pub all_fitting : (s : Shape) (items : List Item) → HasParts IsEach s → Fits s items
      → AllAre items
  all_fitting (choose name accepted reason next) items h p =
      rw p.4 (h.0 p.0, all_fitting (next p.0) p.1 (h.1 p.0) p.3)
  all_fitting (hyper name) items h p = rw p.1 (h p.0, tt)
  all_fitting (fixed name) items h p = rw p.1 (h p.0, tt)
  all_fitting (write_verf name) items h p = rw p.1 (h p.0, tt)
  all_fitting (opaque kind name max) items h p = rw p.2 (h p.0 p.1, tt)
  all_fitting nothing items h p = rw p tt
  all_fitting (both a b) items h p =
      rw p.4 (all_append P p.0 p.1 (all_fitting a p.0 h.0 p.2) (all_fitting b p.1 h.1 p.3))
  all_fitting (linked name s) items h p =
      rw p.2 (all_append P (links name p.0) (Word name 0 ∷ [])
      (all_flat_map P (λ part. Word name 1 ∷ part) p.0 (all_weaker _
      (λ part. AllAre (Word name 1 ∷ part)) (λ part q. (h.0 1, all_fitting s part h.1 q)) p.0 p.1))
      (h.0 0, tt))
  all_fitting (sized name s) items h p =
      rw p.3 (h.0 (length (zero_spelling p.0)), all_fitting s p.0 h.1 p.1)

  all_in_row : (layout : Layout) (items : List Item) → RowHasParts IsEach layout
      → FitsLayout layout items → AllAre items
  all_in_row (exactly s) items h p = all_fitting s items h p
  all_in_row (remaining name) items h p = rw p.1 (h p.0, tt)
  all_in_row (after s next) items h p = absurd h

  pub all_in_message : (s : Shape) (next : List Item → Layout) (items : List Item)
      → HasParts IsEach s → ((front : List Item) → RowHasParts IsEach (next front))
      → FitsLayout (after s next) items → AllAre items
  all_in_message s next items h k p =
      rw p.4
      (all_append P p.0 p.1 (all_fitting s p.0 h p.2) (all_in_row (next p.0) p.1 (k p.0) p.3))

-- ---- handles have at most 64 bytes

abbrev pub IsShort : Item → Type 0
IsShort (Opaque Handle name bytes) = length bytes ≤ 64
IsShort _ = ⊤

pub short_part : (part : Part) → HasRoom part → IsEach IsShort part
short_part (opaque_part Handle name max) h = λ bytes le. omega (arith, h.1, le)
short_part (opaque_part _ name max) h = λ bytes le. tt
short_part _ h = λ x. tt

-- ---- spellings

below : (y : ℕ) → y % 256 < 256
below y = omega arith

byte_small : (k x : ℕ) → byte_at k x < 256
byte_small zero x = below x
byte_small (suc k) x = below (x / 256 ^ suc k)

pub are_bytes_of_number : (n x : ℕ) → AreBytes (bytes_high_first n x)
are_bytes_of_number zero x i = omega arith
are_bytes_of_number (suc n) x zero = byte_small n x
are_bytes_of_number (suc n) x (suc i) = are_bytes_of_number n x i

pub length_of_opaque : (bytes : List ℕ)
    → length (word_bytes (length bytes) ++ (bytes ++ replicate (residue (length bytes)) 0))
    ≡ 4 + (length bytes + residue (length bytes))
length_of_opaque bytes = simp (length-append, length-replicate) (omega arith)

pub zero_spelled_one : (i : Item) (bytes : List ℕ) → SpellsItem i bytes
    → SpellsItem i (zero_spelling_of i)
zero_spelled_one i bytes p =
    subst (SpellsItem i) (append-nil (zero_spelling_of i)) (Spells-single i (zero_spelling (i ∷ []))
    (zero_spelled_all (i ∷ []) bytes (Spells-one i bytes p)))

-- ---- bytes of spellings

spelled_are_bytes : (i : Item) (bytes : List ℕ) → SpellsItem i bytes → AreBytes bytes
spelled_are_bytes (Word name n) bytes p = rw p.1 (are_bytes_of_number 4 n)
spelled_are_bytes (Hyper name n) bytes p = rw p.1 (are_bytes_of_number 8 n)
spelled_are_bytes (Fixed name b) bytes p = rw p.2 p.1
spelled_are_bytes (WriteVerf name b) bytes p = rw p.2 p.1
spelled_are_bytes (Opaque kind name b) bytes p =
    rw p.5 (AreBytes-append (word_bytes (length b)) (b ++ p.0) (are_bytes_of_number 4 (length b))
    (AreBytes-append b p.0 p.2 p.4))
spelled_are_bytes (Rest name b) bytes p = rw p.1 p.0

pub spellings_are_bytes : (items : List Item) (bytes : List ℕ) → Spells items bytes → AreBytes bytes
spellings_are_bytes [] bytes p = rw p AreBytes-nil
spellings_are_bytes (i ∷ items) bytes p =
    rw p.4 (AreBytes-append p.0 p.1 (spelled_are_bytes i p.0 p.2)
    (spellings_are_bytes items p.1 p.3))

-- ---- there are fewer handles and write verifiers than bytes

few_values : (f : Item → List (List ℕ))
    → ((i : Item) (bytes : List ℕ) → SpellsItem i bytes
    → length (f i) ≤ length (zero_spelling_of i))
    → (items : List Item) (bytes : List ℕ) → Spells items bytes
    → length (flat_map f items) ≤ length (zero_spelling items)
few_values f one [] bytes p = omega arith
few_values f one (i ∷ items) bytes p =
    simp length-append (omega (arith, one i p.0 p.2, few_values f one items p.1 p.3))

few_handles_one : (i : Item) (bytes : List ℕ) → SpellsItem i bytes
    → length (handle_in i) ≤ length (zero_spelling_of i)
few_handles_one (Opaque Handle name (b ∷ bs)) bytes p = omega (arith, length_of_opaque (b ∷ bs))
few_handles_one i bytes p = omega arith

pub few_handles : (items : List Item) (bytes : List ℕ) → Spells items bytes
    → length (handles_in items) ≤ length (zero_spelling items)
few_handles = few_values handle_in few_handles_one

few_verifiers_one : (i : Item) (bytes : List ℕ) → SpellsItem i bytes
    → length (verifier_in i) ≤ length (zero_spelling_of i)
few_verifiers_one (WriteVerf name v) bytes p = omega (arith, p.0)
few_verifiers_one i bytes p = omega arith

pub few_verifiers : (items : List Item) (bytes : List ℕ) → Spells items bytes
    → length (verifiers_in items) ≤ length (zero_spelling items)
few_verifiers = few_values verifier_in few_verifiers_one

-- ---- what the handles and write verifiers are

handle_one : (i : Item) → IsShort i → (h : List ℕ) → Member h (handle_in i) → IsHandle h
handle_one (Opaque Handle name (b ∷ bs)) s h here = (omega arith, s)
handle_one (Opaque Handle name (b ∷ bs)) s h (there m) = elim m [ ]
handle_one _ s h m = elim m [ ]

pub handles_are : (items : List Item) → AllByRecursion IsShort items → (h : List ℕ)
    → Member h (handles_in items) → IsHandle h
handles_are items s = all_members IsHandle handle_in items (all_weaker _ _ handle_one items s)

verifier_one : (i : Item) (bytes : List ℕ) → SpellsItem i bytes → (v : List ℕ)
    → Member v (verifier_in i) → IsVerifier v
verifier_one (WriteVerf name w) bytes p v here = p.0
verifier_one (WriteVerf name w) bytes p v (there m) = elim m [ ]
verifier_one _ bytes p v m = elim m [ ]

pub verifiers_are : (items : List Item) (bytes : List ℕ) → Spells items bytes → (v : List ℕ)
    → Member v (verifiers_in items) → IsVerifier v
verifiers_are [] bytes p v m = elim m [ ]
verifiers_are (i ∷ items) bytes p v m =
    ⊎_elim (verifier_one i p.0 p.2 v) (verifiers_are items p.1 p.3 v)
    (member-append_cases (verifier_in i) m)
