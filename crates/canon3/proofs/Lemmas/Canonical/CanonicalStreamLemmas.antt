-- What comes later in a capture leaves the numbers so far.
use Rattle.canon3.proofs.Common.{◌≡◌, ℕ, zero, suc, List, [], ◌∷◌, ◌++◌, map, take, refl, ap, ap₂, ◌∙◌, append_assoc, append-nil, bytes_eq, nat_eq, big_bytes, Decides-eqb, bytes_eq-Decides, Item, Word, Opaque, Handle, WriteVerf, word_bytes, Entry, Begin, Call, Reply, handle_in, verifier_in, handles_in, verifiers_in, handles, verifiers, call_xids, xid_of, rank, here, numbered_item, numbered_message, numbered, canonical, open_xids, items_after, message_after, entries_after}
use Rattle.canon3.proofs.Lemmas.Order.Order.{BeginsWithXid, IsWellFormed}
use Rattle.canon3.proofs.Lemmas.WellFormed.Nesting.{Paired, paired, no_call}
use Rattle.canon3.proofs.Lemmas.Numbers.RankLemmas.{rank-append, member-append_right}
use Rattle.canon3.proofs.Lemmas.Canonical.CanonicalLemmas.{Within, answering}

item_after : (i : Item) (hs vs hr vr all_hs all_vs : List (List ℕ))
    → all_hs ≡ (hs ++ handle_in i) ++ hr → all_vs ≡ (vs ++ verifier_in i) ++ vr
    → numbered_item all_hs all_vs i ≡ numbered_item (hs ++ handle_in i) (vs ++ verifier_in i) i
item_after (Opaque Handle name (b ∷ bs)) hs vs hr vr all_hs all_vs e f =
    ap (λ n. Opaque Handle name (word_bytes n))
    (rw e (rank-append bytes_eq bytes_eq-Decides hr (member-append_right hs here)))
item_after (WriteVerf name v) hs vs hr vr all_hs all_vs e f =
    ap (λ n. WriteVerf name (big_bytes 8 n))
    (rw f (rank-append bytes_eq bytes_eq-Decides vr (member-append_right vs here)))
item_after _ hs vs hr vr all_hs all_vs e f = refl

all_items_after : (l : List Item) (hs vs hr vr all_hs all_vs : List (List ℕ))
    → all_hs ≡ hs ++ (handles_in l ++ hr) → all_vs ≡ vs ++ (verifiers_in l ++ vr)
    → map (numbered_item all_hs all_vs) l ≡ items_after hs vs l
all_items_after [] hs vs hr vr all_hs all_vs e f = refl
all_items_after (i ∷ l) hs vs hr vr all_hs all_vs e f =
    ap₂ (λ j k. j ∷ k)
    (item_after i hs vs (handles_in l ++ hr) (verifiers_in l ++ vr) all_hs all_vs
    (e ∙ simp append_assoc) (f ∙ simp append_assoc))
    (all_items_after l (hs ++ handle_in i) (vs ++ verifier_in i) hr vr all_hs all_vs
    (e ∙ simp append_assoc) (f ∙ simp append_assoc))

is_message_after : (m : List Item) (hs vs hr vr all_hs all_vs : List (List ℕ))
    (xs xr all_xs : List ℕ) → BeginsWithXid m → Within (xid_of m) xs
    → all_hs ≡ hs ++ (handles_in m ++ hr) → all_vs ≡ vs ++ (verifiers_in m ++ vr)
    → all_xs ≡ xs ++ xr → numbered_message all_hs all_vs all_xs m ≡ message_after hs vs xs m
is_message_after (Word name x ∷ items) hs vs hr vr all_hs all_vs xs xr all_xs b w e f g =
    ap₂ (λ n k. Word name n ∷ k)
    (ap (rank nat_eq x) g ∙ rank-append nat_eq Decides-eqb xr (w x here))
    (all_items_after items hs vs hr vr all_hs all_vs e f)
is_message_after _ hs vs hr vr all_hs all_vs xs xr all_xs b w e f g = absurd b

are_entries_after : (es : List Entry) (hs vs all_hs all_vs : List (List ℕ)) (xs all_xs : List ℕ)
    → Paired xs es → all_hs ≡ hs ++ handles es → all_vs ≡ vs ++ verifiers es
    → all_xs ≡ xs ++ call_xids es → numbered all_hs all_vs all_xs es ≡ entries_after hs vs xs es
are_entries_after [] hs vs all_hs all_vs xs all_xs p e f g = refl
are_entries_after (Begin ∷ es) hs vs all_hs all_vs xs all_xs p e f g =
    ap (λ r. Begin ∷ r) (are_entries_after es hs vs all_hs all_vs [] (call_xids es) p e f refl)
are_entries_after (Call m ∷ es) hs vs all_hs all_vs xs all_xs p e f g =
    let g' : all_xs ≡ (xs ++ xid_of m) ++ call_xids es = rw append_assoc g in
    ap₂ (λ n r. Call n ∷ r) (is_message_after m hs vs (handles es) (verifiers es) all_hs all_vs
    (xs ++ xid_of m) (call_xids es) all_xs p.0 (λ x h. member-append_right xs h) e f g')
    (are_entries_after es (hs ++ handles_in m) (vs ++ verifiers_in m) all_hs all_vs (xs ++ xid_of m)
    all_xs p.1 (rw append_assoc e) (rw append_assoc f) g')
are_entries_after (Reply id m ∷ es) hs vs all_hs all_vs xs all_xs p e f g =
    let a = answering xs m p.0 in
    ap₂ (λ n r. Reply id n ∷ r) (is_message_after m hs vs (handles es) (verifiers es) all_hs all_vs
    xs (call_xids es) all_xs a.0 a.1 e f g)
    (are_entries_after es (hs ++ handles_in m) (vs ++ verifiers_in m) all_hs all_vs xs all_xs p.1
    (rw append_assoc e) (rw append_assoc f) g)
are_entries_after (_ ∷ es) hs vs all_hs all_vs xs all_xs p e f g =
    rw (are_entries_after es hs vs all_hs all_vs xs all_xs p e f g)

pub canonical-after : (es : List Entry) → IsWellFormed es → canonical es ≡ entries_after [] [] [] es
canonical-after es w =
    are_entries_after es [] [] (handles es) (verifiers es) [] [] (paired w.run [] tt) refl refl
    (no_call w.run)

-- ---- the first i entries

pub take-after : (i : ℕ) (es : List Entry) (hs vs : List (List ℕ)) (xs : List ℕ)
    → entries_after hs vs xs (take i es) ≡ take i (entries_after hs vs xs es)
take-after zero es hs vs xs = refl
take-after (suc i) [] hs vs xs = refl
take-after (suc i) (Begin ∷ es) hs vs xs = rw (take-after i es)
take-after (suc i) (_ ∷ es) hs vs xs = rw (take-after i es)

-- ---- one more item, and more entries

pub items_after-push : (l : List Item) (hs vs : List (List ℕ)) (i : Item)
    → items_after hs vs (l ++ i ∷ [])
    ≡ items_after hs vs l
    ++ numbered_item ((hs ++ handles_in l) ++ handle_in i)
    ((vs ++ verifiers_in l) ++ verifier_in i) i ∷ []
items_after-push [] hs vs i = simp append-nil
items_after-push (j ∷ l) hs vs i =
    simp (items_after-push l, append_assoc)

pub entries_after-append : (a b : List Entry) (hs vs : List (List ℕ)) (xs : List ℕ)
    → entries_after hs vs xs (a ++ b)
    ≡ entries_after hs vs xs a
    ++ entries_after (hs ++ handles a) (vs ++ verifiers a) (open_xids xs a) b
entries_after-append [] b hs vs xs = simp append-nil
entries_after-append (Call m ∷ a) b hs vs xs = simp (entries_after-append a b, append_assoc)
entries_after-append (Reply id m ∷ a) b hs vs xs = simp (entries_after-append a b, append_assoc)
entries_after-append (_ ∷ a) b hs vs xs = simp (entries_after-append a b)
