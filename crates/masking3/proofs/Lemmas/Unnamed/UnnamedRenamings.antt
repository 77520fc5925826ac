-- Captures that are renamed, or whose values change, do so with masked names as well.
use Rattle.masking3.proofs.Common.{◌≡◌, ⊎_elim, ℕ, zero, suc, List, map, refl, ap, subst, bytes_eq, Option, Item, Word, Opaque, Rest, Text, called, Entry, Pairs, by_test, Class, ItemSpot, InCall, InReply, Way, Keep, Ways, class_of, next_spot, with_text, after_first, emptied, less_by, named_by, named_entry, names_by, text_size, unnamed_credential, way_of, AreAlike, words, ChangesOf, ChangesItem, ChangesItems, over, along, ChangesEntry, call, reply, IsPlain, RenamesItem, plain, Pairwise, none, more, RenamesMessage, message, Renames, ended, begins, calls, turns, replies, closes, ends, Same, Machines}
use Rattle.masking3.proofs.Lemmas.Masked.SameButLemmas.{changed_is, same_by_renaming}
use Rattle.masking3.proofs.Lemmas.Unnamed.TextsLemmas.{by_text, text_spot}
use Rattle.masking3.proofs.Lemmas.Unnamed.UnnamedLemmas.{IsNoLength, any_way, free_length, less_stays}

-- ---- renamings

plain_less : (n : ℕ) (i : Item) → IsPlain i → IsPlain (less_by n i)
plain_less n (Word name m) p = tt
plain_less n i p = p

plain_emptied : (i : Item) → IsPlain i → IsPlain (emptied i)
plain_emptied (Opaque Text name b) p = tt
plain_emptied i p = p

module _ {ps vs : Pairs (List ℕ)} where
  size_renamed : (i j : Item) → RenamesItem ps vs i j → text_size i ≡ text_size j
  size_renamed i j (plain item p) = refl
  size_renamed i j r = refl

  less_renamed : (n : ℕ) (i j : Item) → RenamesItem ps vs i j
      → RenamesItem ps vs (less_by n i) (less_by n j)
  less_renamed n i j (plain item p) = plain (less_by n item) (plain_less n item p)
  less_renamed n i j r = r

  emptied_renamed : (i j : Item) → RenamesItem ps vs i j → RenamesItem ps vs (emptied i) (emptied j)
  emptied_renamed i j (plain item p) = plain (emptied item) (plain_emptied item p)
  emptied_renamed i j r = r

  after_renamed : (n : ℕ) {l m : List Item} → Pairwise (RenamesItem ps vs) l m
      → Pairwise (RenamesItem ps vs) (after_first n unnamed_credential l)
      (after_first n unnamed_credential m)
  after_renamed zero (more {x = i} {y = j} a (more b (more {x = k} {y = o} c p))) =
      rw (size_renamed k o c) (more (less_renamed (text_size o) i j a) (more b
      (more (emptied_renamed k o c) p)))
  after_renamed (suc n) (more a p) = more a (after_renamed n p)
  after_renamed n p = p

  message_renamed : {xs : Pairs ℕ} (way : Way) {l m : List Item} → RenamesMessage ps vs xs l m
      → RenamesMessage ps vs xs (named_by way l) (named_by way m)
  message_renamed Keep r = r
  message_renamed way (message b p) = message b (after_renamed 6 p)

  module _ (by : Ways) where
    text_renamed : (i j : Item) → RenamesItem ps vs i j
        → RenamesItem ps vs (with_text by i) (with_text by j)
    text_renamed i j (plain item p) =
        plain (with_text by item)
        (by_text by (λ i j. IsPlain i → IsPlain j) (λ i p. p) (λ name b p. tt) (λ name b p. tt) item
        p)
    text_renamed i j r = r

    texts_renamed : {l m : List Item} → Pairwise (RenamesItem ps vs) l m
        → Pairwise (RenamesItem ps vs) (map (with_text by) l) (map (with_text by) m)
    texts_renamed none = none
    texts_renamed (more {x = i} {y = j} a p) = more (text_renamed i j a) (texts_renamed p)

    entries_renamed : {xs : Pairs ℕ} {xss : List (Pairs ℕ)} {a b : List Entry}
        → Renames ps vs xs xss a b → Renames ps vs xs xss (names_by by a) (names_by by b)
    entries_renamed ended = ended
    entries_renamed (begins r) = begins (entries_renamed r)
    entries_renamed (calls (message b p) r) =
        calls (message_renamed (way_of by Machines) (message b (texts_renamed p)))
        (entries_renamed r)
    entries_renamed (turns r) = turns (entries_renamed r)
    entries_renamed (replies (message b p) r) =
        replies (message b (texts_renamed p)) (entries_renamed r)
    entries_renamed (closes r) = closes (entries_renamed r)
    entries_renamed (ends r) = ends (entries_renamed r)

pub same_named : (by : Ways) {a b : List Entry} → Same a b → Same (names_by by a) (names_by by b)
same_named by s = same_by_renaming s (entries_renamed by s.renames)

-- ---- changes

-- what is so of both of two alike items is so of an item and the changed one
changed_to : (P : Item → Item → Type 0) → ((i : Item) → P i i)
    → ((i j : Item) → AreAlike i j → P i j) → (ways : Ways) (pairs : Class → Pairs ℕ)
    → (o : Option Class) (i j : Item) → ChangesOf ways pairs o i j → P i j
changed_to P same alike ways pairs o i j h =
    ⊎_elim (λ e. subst (P i) e (same i)) (alike i j) (changed_is ways pairs o i j h)

size_alike : (i j : Item) → AreAlike i j → text_size i ≡ text_size j
size_alike i j words = refl
size_alike i j a = refl

emptied_alike : (i j : Item) → AreAlike i j → emptied i ≡ i → emptied j ≡ j
emptied_alike i j words e = refl
emptied_alike i j a e = refl

text_alike : (by : Ways) (i j : Item) → AreAlike i j → with_text by i ≡ i → with_text by j ≡ j
text_alike by i j words e = refl
text_alike by i j a e = refl

less_alike : (n : ℕ) (i j : Item) → AreAlike i j → IsNoLength i → less_by n j ≡ j
less_alike n i j words f = rw f refl
less_alike n i j a f = refl

module _ (ways : Ways) (pairs : Class → Pairs ℕ) where
  size_changed : (i j : Item) → ChangesItem ways pairs InCall i j → text_size i ≡ text_size j
  size_changed i j h =
      changed_to (λ i j. text_size i ≡ text_size j) (λ i. refl) size_alike ways pairs
      (class_of InCall i) i j h

  -- an item that stays, as those that are alike do
  stays_changed : (f : Item → Item) (P : Item → Type 0) → ((i : Item) → P i → f i ≡ i)
      → ((i j : Item) → AreAlike i j → P i → f j ≡ j) → (spot : ItemSpot) (i j : Item) → P i
      → ChangesItem ways pairs spot i j → ChangesItem ways pairs spot (f i) (f j)
  stays_changed f P stays alike spot i j p h =
      let e = changed_to (λ i j. P i → f j ≡ j) stays alike ways pairs (class_of spot i) i j h p in
      rw (stays i p, e) h

  emptied_changed : (i j : Item) → ChangesItem ways pairs InCall i j
      → ChangesItem ways pairs InCall (emptied i) (emptied j)
  emptied_changed (Opaque Text name b) j h = ap emptied h
  emptied_changed i j h =
      stays_changed emptied (λ i. emptied i ≡ i) (λ i e. e) emptied_alike InCall i j refl h

  less_changed : (n : ℕ) (i j : Item) → ChangesItem ways pairs InCall i j
      → ChangesItem ways pairs InCall (less_by n i) (less_by n j)
  less_changed n (Word name m) j h = by_test (bytes_eq name (called "cred_length"))
      (λ t.
      rw (free_length InCall name t) (ap (less_by n) (rw (free_length InCall name t) at h)))
      (λ f.
      stays_changed (less_by n) IsNoLength (less_stays n) (less_alike n) InCall (Word name m) j f h)
  less_changed n i j h =
      stays_changed (less_by n) IsNoLength (less_stays n) (less_alike n) InCall i j tt h

  after_changed : (n : ℕ) {l m : List Item} → ChangesItems ways pairs InCall l m
      → ChangesItems ways pairs InCall (after_first n unnamed_credential l)
      (after_first n unnamed_credential m)
  after_changed zero (along {i = i} {j = j} a (along b (along {i = k} {j = o} c p))) =
      rw (size_changed k o c) (along (less_changed (text_size o) i j a) (along b
      (along (emptied_changed k o c) p)))
  after_changed (suc n) (along a p) = along a (after_changed n p)
  after_changed n p = p

  module _ (by : Ways) where
    text_changed : (spot : ItemSpot) (i j : Item) → ChangesItem ways pairs spot i j
        → ChangesItem ways pairs spot (with_text by i) (with_text by j)
    text_changed spot (Opaque Text name b) j h = ap (with_text by) h
    text_changed spot (Rest name b) j h = ap (with_text by) h
    text_changed spot i j h =
        stays_changed (with_text by) (λ i. with_text by i ≡ i) (λ i e. e) (text_alike by) spot i j
        refl h

    texts_changed : (spot : ItemSpot) {l m : List Item} → ChangesItems ways pairs spot l m
        → ChangesItems ways pairs spot (map (with_text by) l) (map (with_text by) m)
    texts_changed spot over = over
    texts_changed spot (along {i = i} {j = j} c p) =
        along (text_changed spot i j c)
        (rw (text_spot by spot i) (texts_changed (next_spot spot i) p))

    entry_changed : (a b : Entry) → ChangesEntry ways pairs a b
        → ChangesEntry ways pairs (named_entry by a) (named_entry by b)
    entry_changed a b (call {a = l} {b = m} c) =
        call (any_way (λ f. ChangesItems ways pairs InCall (f (map (with_text by) l)) (f
        (map (with_text by) m))) (texts_changed InCall c) (after_changed 7
        (texts_changed InCall c)) (way_of by Machines))
    entry_changed a b (reply c) = reply (texts_changed InReply c)
    entry_changed a b c = c

    pub changes_named : {a b : List Entry} → Pairwise (ChangesEntry ways pairs) a b
        → Pairwise (ChangesEntry ways pairs) (names_by by a) (names_by by b)
    changes_named none = none
    changes_named (more {x = a} {y = b} c p) = more (entry_changed a b c) (changes_named p)
