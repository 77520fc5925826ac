-- Renamed captures have one canonical form.
use Rattle.canon3.proofs.Common.{◌≡◌, ℕ, List, [], ◌∷◌, map, refl, sym, ap, ap₂, ◌∙◌, bytes_eq, nat_eq, AllByRecursion, flat_map, big_bytes, Item, Word, Opaque, Handle, WriteVerf, word_bytes, Entry, Begin, Call, Turn, Reply, Close, End, items_of, handle_in, verifier_in, handles, verifiers, call_xids, Member, Pairs, IsXid, numbered_item, numbered_message, numbered, canonical, IsPlain, RenamesItem, handle, verifier, plain, Pairwise, none, more, RenamesMessage, message, Renames, ended, begins, calls, turns, replies, closes, ends, Same}
use Rattle.canon3.proofs.Lemmas.Numbers.RankLemmas.{pairwise-append, rank_paired}
use Rattle.canon3.proofs.Lemmas.Renaming.OneToOneLemmas.{Agree, Alike}
use Rattle.canon3.proofs.Lemmas.Renaming.RenamingLemmas.{matches-from_same}

abbrev pub In : {K : Type 0} → Pairs K → K → K → Type 0
In pairs x y = Member (x, y) pairs

pairwise-flat_map : {A X : Type 0} {R : A → A → Type 0} {S : X → X → Type 0} {l m : List A}
    (f : A → List X) → ((x y : A) → R x y → Pairwise S (f x) (f y)) → Pairwise R l m
    → Pairwise S (flat_map f l) (flat_map f m)
pairwise-flat_map f g none = none
pairwise-flat_map f g (more r p) = pairwise-append (g _ _ r) (pairwise-flat_map f g p)

-- ---- an item that no renaming changes

pub plain_handle : (i : Item) → IsPlain i → handle_in i ≡ []
plain_handle (Opaque Handle name (b ∷ bs)) f = absurd f
plain_handle _ f = refl

pub plain_verifier : (i : Item) → IsPlain i → verifier_in i ≡ []
plain_verifier (WriteVerf name bytes) f = absurd f
plain_verifier _ f = refl

pub plain_numbered : (hs vs : List (List ℕ)) (i : Item) → IsPlain i → numbered_item hs vs i ≡ i
plain_numbered hs vs (Opaque Handle name (b ∷ bs)) f = absurd f
plain_numbered hs vs (WriteVerf name bytes) f = absurd f
plain_numbered hs vs _ f = refl

-- ---- the values stand beside their partners

module _ {ps vs : Pairs (List ℕ)} where
  handle_paired : (i j : Item) → RenamesItem ps vs i j
      → Pairwise (In ps) (handle_in i) (handle_in j)
  handle_paired i j (handle m) = more m none
  handle_paired i j (verifier m) = none
  handle_paired i j (plain item f) = rw (plain_handle item f) none

  verifier_paired : (i j : Item) → RenamesItem ps vs i j
      → Pairwise (In vs) (verifier_in i) (verifier_in j)
  verifier_paired i j (handle m) = none
  verifier_paired i j (verifier m) = more m none
  verifier_paired i j (plain item f) = rw (plain_verifier item f) none

  -- such values of all entries
  module _ (qs : Pairs (List ℕ)) (f : Item → List (List ℕ))
      (none_in_word : (name : List ℕ) (x : ℕ) → f (Word name x) ≡ [])
      (each : (i j : Item) → RenamesItem ps vs i j → Pairwise (In qs) (f i) (f j)) where
    message_paired : {xs : Pairs ℕ} (m n : List Item) → RenamesMessage ps vs xs m n
        → Pairwise (In qs) (flat_map f m) (flat_map f n)
    message_paired m n (message {name = name} {x = x} {y = y} h p) =
        rw (none_in_word name x, none_in_word name y) (pairwise-flat_map f each p)

    all_paired : {xs : Pairs ℕ} {xss : List (Pairs ℕ)} {a b : List Entry} → Renames ps vs xs xss a b
        → Pairwise (In qs) (flat_map (λ e. flat_map f (items_of e)) a)
        (flat_map (λ e. flat_map f (items_of e)) b)
    all_paired ended = none
    all_paired (begins r) = all_paired r
    all_paired (calls m r) = pairwise-append (message_paired _ _ m) (all_paired r)
    all_paired (turns r) = all_paired r
    all_paired (replies m r) = pairwise-append (message_paired _ _ m) (all_paired r)
    all_paired (closes r) = all_paired r
    all_paired (ends r) = all_paired r

  pub all_handles_paired : {xs : Pairs ℕ} {xss : List (Pairs ℕ)} {a b : List Entry}
      → Renames ps vs xs xss a b → Pairwise (In ps) (handles a) (handles b)
  all_handles_paired r = all_paired ps handle_in (λ name x. refl) handle_paired r

  pub all_verifiers_paired : {xs : Pairs ℕ} {xss : List (Pairs ℕ)} {a b : List Entry}
      → Renames ps vs xs xss a b → Pairwise (In vs) (verifiers a) (verifiers b)
  all_verifiers_paired r = all_paired vs verifier_in (λ name x. refl) verifier_paired r

  xids_paired : {xs : Pairs ℕ} {xss : List (Pairs ℕ)} {a b : List Entry} → Renames ps vs xs xss a b
      → Pairwise (In xs) (call_xids a) (call_xids b)
  xids_paired ended = none
  xids_paired (begins r) = none
  xids_paired (calls (message x p) r) = more x (xids_paired r)
  xids_paired (turns r) = xids_paired r
  xids_paired (replies m r) = xids_paired r
  xids_paired (closes r) = xids_paired r
  xids_paired (ends r) = xids_paired r

-- ---- so they have one number

module _ {ps vs : Pairs (List ℕ)} (handles_alike : Alike bytes_eq ps)
    (verifiers_alike : Alike bytes_eq vs) (hs hs' ks ks' : List (List ℕ))
    (hp : Pairwise (In ps) hs hs') (kp : Pairwise (In vs) ks ks') where
  item_number : (i j : Item) → RenamesItem ps vs i j
      → numbered_item hs ks i ≡ numbered_item hs' ks' j
  item_number i j (handle {name = name} m) =
      ap (λ n. Opaque Handle name (word_bytes n)) (rank_paired bytes_eq bytes_eq (In ps)
      (λ x y u v p q. handles_alike (x, u) (y, v) p q) m hp)
  item_number i j (verifier {name = name} m) =
      ap (λ n. WriteVerf name (big_bytes 8 n)) (rank_paired bytes_eq bytes_eq (In vs)
      (λ x y u v p q. verifiers_alike (x, u) (y, v) p q) m kp)
  item_number i j (plain item f) = plain_numbered hs ks item f ∙ sym (plain_numbered hs' ks' item f)

  items_number : {l m : List Item} → Pairwise (RenamesItem ps vs) l m
      → map (numbered_item hs ks) l ≡ map (numbered_item hs' ks') m
  items_number none = refl
  items_number (more r p) = ap₂ (λ i is. i ∷ is) (item_number _ _ r) (items_number p)

  message_number : {xs : Pairs ℕ} {l l' : List ℕ} {m n : List Item} → Alike nat_eq xs
      → Pairwise (In xs) l l' → RenamesMessage ps vs xs m n
      → numbered_message hs ks l m ≡ numbered_message hs' ks' l' n
  message_number {xs = xs} al lp (message {name = name} x p) =
      ap₂ (λ n is. Word name n ∷ is)
      (rank_paired nat_eq nat_eq (In xs) (λ x y u v p q. al (x, u) (y, v) p q) x lp)
      (items_number p)

  entries_number : {xs : Pairs ℕ} {xss : List (Pairs ℕ)} {a b : List Entry}
      → Renames ps vs xs xss a b → (l l' : List ℕ) → Alike nat_eq xs → Pairwise (In xs) l l'
      → AllByRecursion (Agree nat_eq IsXid) xss → numbered hs ks l a ≡ numbered hs' ks' l' b
  entries_number ended l l' al lp g = refl
  entries_number (begins {a = a} {b = b} r) l l' al lp g =
      ap (λ es. Begin ∷ es)
      (entries_number r (call_xids a) (call_xids b) g.0.alike (xids_paired r) g.1)
  entries_number (calls m r) l l' al lp g =
      ap₂ (λ n es. Call n ∷ es) (message_number al lp m) (entries_number r l l' al lp g)
  entries_number (turns r) l l' al lp g = ap (λ es. Turn ∷ es) (entries_number r l l' al lp g)
  entries_number (replies {id = id} m r) l l' al lp g =
      ap₂ (λ n es. Reply id n ∷ es) (message_number al lp m) (entries_number r l l' al lp g)
  entries_number (closes r) l l' al lp g = ap (λ es. Close ∷ es) (entries_number r l l' al lp g)
  entries_number (ends r) l l' al lp g = ap (λ es. End ∷ es) (entries_number r l l' al lp g)

pub canonical-same : {a b : List Entry} → Same a b → canonical a ≡ canonical b
canonical-same {a = a} {b = b} s =
    let m = matches-from_same s in
    entries_number m.handles_agree.alike m.verifiers_agree.alike (handles a) (handles b)
    (verifiers a) (verifiers b) (all_handles_paired m.renames) (all_verifiers_paired m.renames)
    m.renames [] [] (λ p q h. elim h [ ]) none m.xids_agree
