-- The canonical form grows after the entries so far.
use Rattle.canon3.proofs.Common.{◌≡◌, ℕ, Bool, true, false, List, [], ◌∷◌, ◌++◌, refl, sym, ap, ◌∙◌, append_assoc, append-nil, flat_map, flat_map-append, Item, Word, One, magic, Entry, Begin, Call, Reply, items_of, bytes_of, entry_bytes, canonical, numbered, entries_after, open_xids, AreFirst, handles, handles_in, verifiers, verifiers_in, xid_of, bytes_after}
use Rattle.canon3.proofs.Lemmas.Order.First.{first_in_order}
use Rattle.canon3.proofs.Lemmas.Order.Order.{BeginsWithXid, IsAnswering}
use Rattle.canon3.proofs.Lemmas.Canonical.CanonicalStreamLemmas.{canonical-after, entries_after-append}
use Rattle.canon3.proofs.Lemmas.WellFormed.Nesting.{Paired, paired}

pub first_front : (a b : List Entry) → AreFirst (a ++ b) → AreFirst a
first_front a b f =
    record {
      file = f.file;
      all = f.all;
      more = b ++ f.more;
      typed = f.typed;
      split = f.split ∙ append_assoc a b f.more;
    }

-- ---- values

pub handles_push : (entries : List Entry) (one : Entry)
    → handles (entries ++ one ∷ []) ≡ handles entries ++ handles_in (items_of one)
handles_push entries one = simp (flat_map-append, append-nil)

pub verifiers_push : (entries : List Entry) (one : Entry)
    → verifiers (entries ++ one ∷ []) ≡ verifiers entries ++ verifiers_in (items_of one)
verifiers_push entries one = simp (flat_map-append, append-nil)

-- ---- a message's xid

paired_after : (a b : List Entry) (xs : List ℕ) → Paired xs (a ++ b) → Paired (open_xids xs a) b
paired_after [] b xs p = p
paired_after (Begin ∷ a) b xs p = paired_after a b [] p
paired_after (Call m ∷ a) b xs p = paired_after a b (xs ++ xid_of m) p.1
paired_after (Reply id m ∷ a) b xs p = paired_after a b xs p.1
paired_after (_ ∷ a) b xs p = paired_after a b xs p

pub last_paired : (a : List Entry) (one : Entry) → AreFirst (a ++ one ∷ [])
    → Paired (open_xids [] a) (one ∷ [])
last_paired a one f =
    paired_after a (one ∷ []) [] (paired (first_in_order (a ++ one ∷ []) f).run [] tt)

pub answering_begins : (xs : List ℕ) (items : List Item) → IsAnswering xs items
    → BeginsWithXid items
answering_begins xs (Word name x ∷ items) known = tt
answering_begins xs _ known = absurd known

-- ---- bytes

abbrev pub are_some : List Entry → Bool
are_some [] = false
are_some (entry ∷ entries) = true

-- the magic, where no entry came before
abbrev pub magic_unless : Bool → List ℕ
magic_unless true = []
magic_unless false = magic One

some_numbered : (e : Entry) (a : List Entry) (hs vs : List (List ℕ)) (xs : List ℕ)
    → are_some (numbered hs vs xs (e ∷ a)) ≡ true
some_numbered Begin a hs vs xs = refl
some_numbered _ a hs vs xs = refl

some_canonical : (e : Entry) (a : List Entry) → are_some (canonical (e ∷ a)) ≡ true
some_canonical e a = some_numbered e a (handles (e ∷ a)) (verifiers (e ∷ a)) []

bytes_some : (l : List Entry) → are_some l ≡ true → bytes_of l ≡ magic One ++ flat_map entry_bytes l
bytes_some [] some = absurd cc
bytes_some (e ∷ l) some = refl

bytes_with : (l m : List Entry) → are_some l ≡ true
    → bytes_of (l ++ m) ≡ bytes_of l ++ flat_map entry_bytes m
bytes_with [] m some = absurd cc
bytes_with (e ∷ l) m some =
    rw (flat_map-append entry_bytes (e ∷ l) m) (simp append_assoc)

form_some : (e : Entry) (a b : List Entry) → AreFirst ((e ∷ a) ++ b)
    → bytes_of (canonical ((e ∷ a) ++ b)) ≡ bytes_of (canonical (e ∷ a)) ++ bytes_after (e ∷ a) b
form_some e a b f =
    let front : canonical (e ∷ a) ≡ entries_after [] [] [] (e ∷ a) =
    canonical-after (e ∷ a) (first_in_order (e ∷ a) (first_front (e ∷ a) b f)) in
    let after : List Entry =
    entries_after (handles (e ∷ a)) (verifiers (e ∷ a)) (open_xids [] (e ∷ a)) b in
    let whole : canonical ((e ∷ a) ++ b) ≡ canonical (e ∷ a) ++ after =
    canonical-after ((e ∷ a) ++ b) (first_in_order ((e ∷ a) ++ b) f)
    ∙ (entries_after-append (e ∷ a) b [] [] []
    ∙ ap (λ (l : List Entry). l ++ after) (sym front)) in
    ap bytes_of whole ∙ bytes_with (canonical (e ∷ a)) after (some_canonical e a)

pub form_grows : (a : List Entry) (one : Entry) → AreFirst (a ++ one ∷ [])
    → bytes_of (canonical (a ++ one ∷ []))
    ≡ (bytes_of (canonical a) ++ magic_unless (are_some a)) ++ bytes_after a (one ∷ [])
form_grows [] one f =
    bytes_some (canonical (one ∷ [])) (some_canonical one [])
    ∙ ap (λ (l : List Entry). magic One ++ flat_map entry_bytes l)
    (canonical-after (one ∷ []) (first_in_order (one ∷ []) f))
form_grows (e ∷ a) one f =
    form_some e a (one ∷ []) f
    ∙ ap (λ (l : List ℕ). l ++ bytes_after (e ∷ a) (one ∷ []))
    (sym (append-nil (bytes_of (canonical (e ∷ a)))))

-- the form of the first entries is a front of the form of all
pub form_fronts : (a b : List Entry) → AreFirst (a ++ b)
    → (back : List ℕ) × (bytes_of (canonical (a ++ b)) ≡ bytes_of (canonical a) ++ back)
form_fronts [] b f = (bytes_of (canonical b), refl)
form_fronts (e ∷ a) b f = (bytes_after (e ∷ a) b, form_some e a b f)
