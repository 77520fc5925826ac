-- Renamings can be turned, linked and carried over to more pairs.
use Rattle.canon3.proofs.Common.{ℕ, List, [], ◌∷◌, map, bytes_eq, nat_eq, AllByRecursion, Decides-eqb, bytes_eq-Decides, Item, Entry, RenamesItem, handle, verifier, plain, Pairwise, none, more, RenamesMessage, message, Renames, ended, begins, calls, turns, replies, closes, ends, Same, Member, Pairs, IsHandle, IsVerifier, IsXid}
use Rattle.canon3.proofs.Lemmas.Renaming.OneToOneLemmas.{Agree, agree-from, turned, member-turned, agree-turned, linked, member-linked, agree-linked, kept, member-kept, one_to_one-kept}

-- ---- lists side by side

pub pairwise_weaker : {A B : Type 0} {R S : A → B → Type 0} {l : List A} {m : List B}
    → ((x : A) (y : B) → R x y → S x y) → Pairwise R l m → Pairwise S l m
pairwise_weaker f none = none
pairwise_weaker f (more r p) = more (f _ _ r) (pairwise_weaker f p)

pairwise_turned : {A B : Type 0} {R : A → B → Type 0} {S : B → A → Type 0} {l : List A} {m : List B}
    → ((x : A) (y : B) → R x y → S y x) → Pairwise R l m → Pairwise S m l
pairwise_turned f none = none
pairwise_turned f (more r p) = more (f _ _ r) (pairwise_turned f p)

pairwise_linked : {A B C : Type 0} {R : A → B → Type 0} {S : B → C → Type 0} {U : A → C → Type 0}
    {l : List A} {m : List B} {n : List C} → ((x : A) (y : B) (z : C) → R x y → S y z → U x z)
    → Pairwise R l m → Pairwise S m n → Pairwise U l n
pairwise_linked f none none = none
pairwise_linked f (more r p) (more s q) = more (f _ _ _ r s) (pairwise_linked f p q)

-- ---- more pairs

module _ {ps qs vs ws : Pairs (List ℕ)}
    (handles : (p : List ℕ × List ℕ) → Member p ps → Member p qs)
    (verifiers : (p : List ℕ × List ℕ) → Member p vs → Member p ws) where
  item_weaker : (i j : Item) → RenamesItem ps vs i j → RenamesItem qs ws i j
  item_weaker i j (handle m) = handle (handles _ m)
  item_weaker i j (verifier m) = verifier (verifiers _ m)
  item_weaker i j (plain item f) = plain item f

  message_weaker : {xs ys : Pairs ℕ} {m n : List Item} → ((p : ℕ × ℕ) → Member p xs → Member p ys)
      → RenamesMessage ps vs xs m n → RenamesMessage qs ws ys m n
  message_weaker f (message m p) = message (f _ m) (pairwise_weaker item_weaker p)

  kept_xids : {xs : Pairs ℕ} → Agree nat_eq IsXid xs → (p : ℕ × ℕ) → Member p xs
      → Member p (kept nat_eq xs)
  kept_xids {xs = xs} g p m = member-kept nat_eq Decides-eqb xs p g.alike m

  renames_kept : {xs : Pairs ℕ} {xss : List (Pairs ℕ)} {a b : List Entry} → Renames ps vs xs xss a b
      → Agree nat_eq IsXid xs → AllByRecursion (Agree nat_eq IsXid) xss
      → Renames qs ws (kept nat_eq xs) (map (kept nat_eq) xss) a b
  renames_kept ended g gs = ended
  renames_kept (begins r) g gs = begins (renames_kept r gs.0 gs.1)
  renames_kept (calls m r) g gs = calls (message_weaker (kept_xids g) m) (renames_kept r g gs)
  renames_kept (turns r) g gs = turns (renames_kept r g gs)
  renames_kept (replies m r) g gs = replies (message_weaker (kept_xids g) m) (renames_kept r g gs)
  renames_kept (closes r) g gs = closes (renames_kept r g gs)
  renames_kept (ends r) g gs = ends (renames_kept r g gs)

-- ---- turned

item_turned : {ps vs : Pairs (List ℕ)} (i j : Item) → RenamesItem ps vs i j
    → RenamesItem (turned ps) (turned vs) j i
item_turned i j (handle m) = handle (member-turned m)
item_turned i j (verifier m) = verifier (member-turned m)
item_turned i j (plain item f) = plain item f

message_turned : {ps vs : Pairs (List ℕ)} {xs : Pairs ℕ} {m n : List Item}
    → RenamesMessage ps vs xs m n → RenamesMessage (turned ps) (turned vs) (turned xs) n m
message_turned (message m p) = message (member-turned m) (pairwise_turned item_turned p)

renames_turned : {ps vs : Pairs (List ℕ)} {xs : Pairs ℕ} {xss : List (Pairs ℕ)} {a b : List Entry}
    → Renames ps vs xs xss a b → Renames (turned ps) (turned vs) (turned xs) (map turned xss) b a
renames_turned ended = ended
renames_turned (begins r) = begins (renames_turned r)
renames_turned (calls m r) = calls (message_turned m) (renames_turned r)
renames_turned (turns r) = turns (renames_turned r)
renames_turned (replies m r) = replies (message_turned m) (renames_turned r)
renames_turned (closes r) = closes (renames_turned r)
renames_turned (ends r) = ends (renames_turned r)

-- ---- linked

abbrev links : List (Pairs ℕ) → List (Pairs ℕ) → List (Pairs ℕ)
links (xs ∷ xss) (ys ∷ yss) = linked nat_eq xs ys ∷ links xss yss
links _ _ = []

agree-links : (xss yss : List (Pairs ℕ)) → AllByRecursion (Agree nat_eq IsXid) xss
    → AllByRecursion (Agree nat_eq IsXid) yss → AllByRecursion (Agree nat_eq IsXid) (links xss yss)
agree-links (xs ∷ xss) (ys ∷ yss) g h =
    (agree-linked nat_eq Decides-eqb g.0 h.0, agree-links xss yss g.1 h.1)
agree-links _ _ g h = tt

module _ {ps qs vs ws : Pairs (List ℕ)} where
  item_linked : (i j k : Item) → RenamesItem ps vs i j → RenamesItem qs ws j k
      → RenamesItem (linked bytes_eq ps qs) (linked bytes_eq vs ws) i k
  item_linked i j k (handle m) (handle n) = handle (member-linked bytes_eq bytes_eq-Decides m n)
  item_linked i j k (verifier m) (verifier n) =
      verifier (member-linked bytes_eq bytes_eq-Decides m n)
  item_linked i j k (plain item f) (plain other g) = plain item f
  item_linked i j k (plain item f) _ = absurd f
  item_linked i j k _ (plain item f) = absurd f

  message_linked : {xs ys : Pairs ℕ} {l m n : List Item} → RenamesMessage ps vs xs l m
      → RenamesMessage qs ws ys m n
      → RenamesMessage (linked bytes_eq ps qs) (linked bytes_eq vs ws) (linked nat_eq xs ys) l n
  message_linked (message m p) (message n q) =
      message (member-linked nat_eq Decides-eqb m n) (pairwise_linked item_linked p q)

  renames_linked : {xs ys : Pairs ℕ} {xss yss : List (Pairs ℕ)} {a b c : List Entry}
      → Renames ps vs xs xss a b → Renames qs ws ys yss b c
      → Renames (linked bytes_eq ps qs) (linked bytes_eq vs ws) (linked nat_eq xs ys)
      (links xss yss) a c
  renames_linked ended ended = ended
  renames_linked (begins r) (begins s) = begins (renames_linked r s)
  renames_linked (calls m r) (calls n s) = calls (message_linked m n) (renames_linked r s)
  renames_linked (turns r) (turns s) = turns (renames_linked r s)
  renames_linked (replies m r) (replies n s) = replies (message_linked m n) (renames_linked r s)
  renames_linked (closes r) (closes s) = closes (renames_linked r s)
  renames_linked (ends r) (ends s) = ends (renames_linked r s)

-- ---- what Same says, where a pair may be repeated

pub all_mapped : {A B : Type 0} (P : A → Type 0) (Q : B → Type 0) (f : A → B)
    → ((x : A) → P x → Q (f x)) → (l : List A) → AllByRecursion P l → AllByRecursion Q (map f l)
all_mapped P Q f g [] h = tt
all_mapped P Q f g (x ∷ l) h = (g x h.0, all_mapped P Q f g l h.1)

pub all_weaker : {A : Type 0} (P Q : A → Type 0) → ((x : A) → P x → Q x) → (l : List A)
    → AllByRecursion P l → AllByRecursion Q l
all_weaker P Q g [] h = tt
all_weaker P Q g (x ∷ l) h = (g x h.0, all_weaker P Q g l h.1)

pub record Matches (a b : List Entry) : Type 0 where
  pub handle_pairs : Pairs (List ℕ)
  pub verifier_pairs : Pairs (List ℕ)
  pub xid_pairs : List (Pairs ℕ)
  pub handles_agree : Agree bytes_eq IsHandle handle_pairs
  pub verifiers_agree : Agree bytes_eq IsVerifier verifier_pairs
  pub xids_agree : AllByRecursion (Agree nat_eq IsXid) xid_pairs
  pub renames : Renames handle_pairs verifier_pairs [] xid_pairs a b

pub same-from_matches : {a b : List Entry} → Matches a b → Same a b
same-from_matches m = record {
  handle_pairs = kept bytes_eq m.handle_pairs;
  verifier_pairs = kept bytes_eq m.verifier_pairs;
  xid_pairs = map (kept nat_eq) m.xid_pairs;
  handles_one_to_one = one_to_one-kept bytes_eq bytes_eq-Decides m.handle_pairs m.handles_agree;
  verifiers_one_to_one =
      one_to_one-kept bytes_eq bytes_eq-Decides m.verifier_pairs m.verifiers_agree;
  xids_one_to_one =
      all_mapped _ _ (kept nat_eq) (one_to_one-kept nat_eq Decides-eqb) m.xid_pairs m.xids_agree;
  renames = renames_kept
      (λ p. member-kept bytes_eq bytes_eq-Decides m.handle_pairs p m.handles_agree.alike)
      (λ p. member-kept bytes_eq bytes_eq-Decides m.verifier_pairs p m.verifiers_agree.alike)
      m.renames (record { parts = λ p h. (tt, tt); alike = λ p q h. elim h [ ] }) m.xids_agree;
}

pub matches-from_same : {a b : List Entry} → Same a b → Matches a b
matches-from_same s = record {
  handle_pairs = s.handle_pairs;
  verifier_pairs = s.verifier_pairs;
  xid_pairs = s.xid_pairs;
  handles_agree = agree-from bytes_eq bytes_eq-Decides s.handles_one_to_one;
  verifiers_agree = agree-from bytes_eq bytes_eq-Decides s.verifiers_one_to_one;
  xids_agree =
      all_weaker _ _ (λ ps. agree-from nat_eq Decides-eqb) s.xid_pairs s.xids_one_to_one;
  renames = s.renames;
}

pub matches_turned : {a b : List Entry} → Matches a b → Matches b a
matches_turned m = record {
  handle_pairs = turned m.handle_pairs;
  verifier_pairs = turned m.verifier_pairs;
  xid_pairs = map turned m.xid_pairs;
  handles_agree = agree-turned bytes_eq bytes_eq-Decides m.handles_agree;
  verifiers_agree = agree-turned bytes_eq bytes_eq-Decides m.verifiers_agree;
  xids_agree =
      all_mapped _ _ turned (λ ps. agree-turned nat_eq Decides-eqb) m.xid_pairs m.xids_agree;
  renames = renames_turned m.renames;
}

pub matches_linked : {a b c : List Entry} → Matches a b → Matches b c → Matches a c
matches_linked m n = record {
  handle_pairs = linked bytes_eq m.handle_pairs n.handle_pairs;
  verifier_pairs = linked bytes_eq m.verifier_pairs n.verifier_pairs;
  xid_pairs = links m.xid_pairs n.xid_pairs;
  handles_agree = agree-linked bytes_eq bytes_eq-Decides m.handles_agree n.handles_agree;
  verifiers_agree = agree-linked bytes_eq bytes_eq-Decides m.verifiers_agree n.verifiers_agree;
  xids_agree = agree-links m.xid_pairs n.xid_pairs m.xids_agree n.xids_agree;
  renames = renames_linked m.renames n.renames;
}
