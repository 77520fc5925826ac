-- The canonical form is a one-to-one renaming of the entries.
use Rattle.canon3.proofs.Common.{◌≡◌, ℕ, ◌<◌, ◌^◌, List, [], ◌∷◌, ◌++◌, length, map, refl, sym, ap, ◌∙◌, subst, ⊎_elim, arith, bytes_eq, nat_eq, AllByRecursion, Decides-eqb, bytes_eq-Decides, Item, Word, Opaque, Handle, WriteVerf, word_bytes, Entry, Begin, Call, Turn, Reply, Close, End, handle_in, verifier_in, handles_in, verifiers_in, handles, verifiers, call_xids, xid_of, rank, Member, here, there, Pairs, IsHandle, IsVerifier, IsXid, RenamesItem, handle, verifier, plain, Pairwise, none, more, RenamesMessage, message, Renames, ended, begins, calls, turns, replies, closes, ends, Same, numbered_item, numbered_message, numbered, canonical, big_bytes, big_number}
use Rattle.byteorder.specs.Numbers.{big_number-reads_back}
use Rattle.canon3.proofs.Lemmas.Order.Order.{BeginsWithXid, IsAnswering, IsWellFormed}
use Rattle.canon3.proofs.Lemmas.WellFormed.Nesting.{Paired, paired, no_call}
use Rattle.canon3.proofs.Lemmas.Numbers.RankLemmas.{same_rank, rank-le-length, member-append_left, member-append_right, member-append_cases}
use Rattle.canon3.proofs.Lemmas.Renaming.OneToOneLemmas.{Agree, graph, member-graph, agree-graph}
use Rattle.canon3.proofs.Lemmas.Renaming.RenamingLemmas.{Matches, same-from_matches}

-- each member of l is one of m
abbrev pub Within : {K : Type 0} → List K → List K → Type 0
Within {K} l m = (x : K) → Member x l → Member x m

within_left : {K : Type 0} (l m n : List K) → Within (l ++ m) n → Within l n
within_left l m n f x h = f x (member-append_left m h)

within_right : {K : Type 0} (l m n : List K) → Within (l ++ m) n → Within m n
within_right l m n f x h = f x (member-append_right l h)

within_both : {K : Type 0} (l m n : List K) → Within l n → Within m n → Within (l ++ m) n
within_both l m n f g x h = ⊎_elim (f x) (g x) (member-append_cases l h)

pub answering : (xs : List ℕ) (m : List Item) → IsAnswering xs m
    → BeginsWithXid m × Within (xid_of m) xs
answering xs (Word name x ∷ items) a = (tt, one x xs a)
  where
    one : (x : ℕ) (xs : List ℕ) → Member x xs → Within (x ∷ []) xs
    one x xs a y here = a
    one x xs a y (there h) = elim h [ ]
answering xs _ a = absurd a

-- ---- the pairs

-- a number is known by its bytes
pub number_back : (n x y : ℕ) → x < 256 ^ n → y < 256 ^ n → big_bytes n x ≡ big_bytes n y → x ≡ y
number_back n x y a b e =
    sym (big_number-reads_back n x [] a)
    ∙ (ap (λ (l : List ℕ). big_number n (l ++ [])) e ∙ big_number-reads_back n y [] b)

abbrev handle_number : List (List ℕ) → List ℕ → List ℕ
handle_number hs h = word_bytes (rank bytes_eq h hs)

abbrev verifier_number : List (List ℕ) → List ℕ → List ℕ
verifier_number vs v = big_bytes 8 (rank bytes_eq v vs)

abbrev xid_number : List ℕ → ℕ → ℕ
xid_number l x = rank nat_eq x l

abbrev xid_graphs : List Entry → List (Pairs ℕ)
xid_graphs [] = []
xid_graphs (Begin ∷ es) = graph (xid_number (call_xids es)) (call_xids es) ∷ xid_graphs es
xid_graphs (_ ∷ es) = xid_graphs es

agree-numbers : {IsPart : List ℕ → Type 0} (n : ℕ) (l : List (List ℕ))
    → ((x : List ℕ) → Member x l → IsPart x × IsPart (big_bytes n (rank bytes_eq x l)))
    → length l < 256 ^ n → Agree bytes_eq IsPart (graph (λ x. big_bytes n (rank bytes_eq x l)) l)
agree-numbers n l fit few =
    agree-graph bytes_eq bytes_eq-Decides (λ x. big_bytes n (rank bytes_eq x l)) l fit
    (λ x y h k e. same_rank bytes_eq bytes_eq-Decides h k (number_back n _ _
    (omega (arith, few, rank-le-length bytes_eq bytes_eq-Decides h))
    (omega (arith, few, rank-le-length bytes_eq bytes_eq-Decides k)) e))

agree-handles : (hs : List (List ℕ)) → ((h : List ℕ) → Member h hs → IsHandle h)
    → length hs < 2 ^ 32 → Agree bytes_eq IsHandle (graph (handle_number hs) hs)
agree-handles hs fit few =
    agree-numbers 4 hs (λ h m. (fit h m, (omega arith, omega arith))) (omega arith)

agree-verifiers : (vs : List (List ℕ)) → ((v : List ℕ) → Member v vs → IsVerifier v)
    → length vs < 2 ^ 32 → Agree bytes_eq IsVerifier (graph (verifier_number vs) vs)
agree-verifiers vs fit few = agree-numbers 8 vs (λ v m. (fit v m, refl)) (omega arith)

agree-xids : (l : List ℕ) → Agree nat_eq IsXid (graph (xid_number l) l)
agree-xids l =
    agree-graph nat_eq Decides-eqb (xid_number l) l (λ x m. (tt, tt))
    (λ x y m n e. same_rank nat_eq Decides-eqb m n e)

agree-graphs : (es : List Entry) → AllByRecursion (Agree nat_eq IsXid) (xid_graphs es)
agree-graphs [] = tt
agree-graphs (Begin ∷ es) = (agree-xids (call_xids es), agree-graphs es)
agree-graphs (_ ∷ es) = agree-graphs es

-- ---- each entry

module _ (hs vs : List (List ℕ)) where
  abbrev ps : Pairs (List ℕ)
  ps = graph (handle_number hs) hs

  abbrev qs : Pairs (List ℕ)
  qs = graph (verifier_number vs) vs

  item_renumbers : (i : Item) → Within (handle_in i) hs → Within (verifier_in i) vs
      → RenamesItem ps qs i (numbered_item hs vs i)
  item_renumbers (Opaque Handle name (b ∷ bs)) h k =
      handle (member-graph (handle_number hs) (h (b ∷ bs) here))
  item_renumbers (WriteVerf name v) h k = verifier (member-graph (verifier_number vs) (k v here))
  item_renumbers i h k = plain i tt

  items_renumber : (l : List Item) → Within (handles_in l) hs → Within (verifiers_in l) vs
      → Pairwise (RenamesItem ps qs) l (map (numbered_item hs vs) l)
  items_renumber [] h k = none
  items_renumber (i ∷ l) h k =
      more (item_renumbers i (within_left (handle_in i) (handles_in l) hs h)
      (within_left (verifier_in i) (verifiers_in l) vs k))
      (items_renumber l (within_right (handle_in i) (handles_in l) hs h)
      (within_right (verifier_in i) (verifiers_in l) vs k))

  message_renumbers : (xs : List ℕ) (m : List Item) → BeginsWithXid m → Within (xid_of m) xs
      → Within (handles_in m) hs → Within (verifiers_in m) vs
      → RenamesMessage ps qs (graph (xid_number xs) xs) m (numbered_message hs vs xs m)
  message_renumbers xs (Word name x ∷ items) b f h k =
      message (member-graph (xid_number xs) (f x here)) (items_renumber items h k)
  message_renumbers xs _ b f h k = absurd b

  -- seen: the xids of the open connection's calls so far; xs: those of all its calls
  entries_renumber : (es : List Entry) (seen xs : List ℕ) → Paired seen es → Within seen xs
      → Within (call_xids es) xs → Within (handles es) hs → Within (verifiers es) vs
      → Renames ps qs (graph (xid_number xs) xs) (xid_graphs es) es (numbered hs vs xs es)
  entries_renumber [] seen xs p s c h k = ended
  entries_renumber (Begin ∷ es) seen xs p s c h k =
      begins (entries_renumber es [] (call_xids es) p (λ x m. elim m [ ]) (λ x m. m) h k)
  entries_renumber (Call m ∷ es) seen xs p s c h k =
      let own = within_left (xid_of m) (call_xids es) xs c in
      calls (message_renumbers xs m p.0 own (within_left (handles_in m) (handles es) hs h)
      (within_left (verifiers_in m) (verifiers es) vs k))
      (entries_renumber es (seen ++ xid_of m) xs p.1 (within_both seen (xid_of m) xs s own)
      (within_right (xid_of m) (call_xids es) xs c)
      (within_right (handles_in m) (handles es) hs h)
      (within_right (verifiers_in m) (verifiers es) vs k))
  entries_renumber (Turn ∷ es) seen xs p s c h k = turns (entries_renumber es seen xs p s c h k)
  entries_renumber (Reply id m ∷ es) seen xs p s c h k =
      let a = answering seen m p.0 in
      replies (message_renumbers xs m a.0 (λ x n. s x (a.1 x n))
      (within_left (handles_in m) (handles es) hs h)
      (within_left (verifiers_in m) (verifiers es) vs k))
      (entries_renumber es seen xs p.1 s c (within_right (handles_in m) (handles es) hs h)
      (within_right (verifiers_in m) (verifiers es) vs k))
  entries_renumber (Close ∷ es) seen xs p s c h k = closes (entries_renumber es seen xs p s c h k)
  entries_renumber (End ∷ es) seen xs p s c h k = ends (entries_renumber es seen xs p s c h k)

pub matches_canonical : (es : List Entry) → IsWellFormed es → Matches es (canonical es)
matches_canonical es w = record {
  handle_pairs = ps (handles es) (verifiers es);
  verifier_pairs = qs (handles es) (verifiers es);
  xid_pairs = xid_graphs es;
  handles_agree = agree-handles (handles es) w.handles_fit w.few_handles;
  verifiers_agree = agree-verifiers (verifiers es) w.verifiers_fit w.few_verifiers;
  xids_agree = agree-graphs es;
  renames =
      entries_renumber (handles es) (verifiers es) es [] [] (paired w.run [] tt) (λ x m. m)
      (λ x m. subst (Member x) (sym (no_call w.run)) m) (λ x m. m) (λ x m. m);
}

pub same-canonical : (es : List Entry) → IsWellFormed es → Same es (canonical es)
same-canonical es w = same-from_matches (matches_canonical es w)
