-- Renaming the handles, write verifiers and xids of a capture, and equality up to renaming.
use Rattle.std.specs.Prelude.{ℕ, List, [], ◌∷◌, ⊤}
use Rattle.std.specs.List.{AllByRecursion}
use Rattle.xdr3.specs.Item.{Item, Word, Opaque, Handle, WriteVerf}
use Rattle.rpc_head.specs.declared.values.call.ProcId.{ProcId}
use Rattle.capture3.specs.Entry.{Entry, Begin, Call, Turn, Reply, Close, End}
use Rattle.canon3.specs.OneToOne.{Member, Pairs, OneToOne, IsHandle, IsVerifier, IsXid}

-- an item that no renaming changes
abbrev pub IsPlain : Item → Type 0
IsPlain (Opaque Handle name []) = ⊤
IsPlain (Opaque Handle name (b ∷ bs)) = ⊥
IsPlain (WriteVerf name bytes) = ⊥
IsPlain _ = ⊤

pub data RenamesItem (handle_pairs verifier_pairs : Pairs (List ℕ)) : Item → Item → Type 0 where
  handle : {name : List ℕ} {b c : ℕ} {bs cs : List ℕ} → Member (b ∷ bs, c ∷ cs) handle_pairs
      → RenamesItem handle_pairs verifier_pairs (Opaque Handle name (b ∷ bs)) (Opaque Handle name (c
      ∷ cs))
  verifier : {name v w : List ℕ} → Member (v, w) verifier_pairs
      → RenamesItem handle_pairs verifier_pairs (WriteVerf name v) (WriteVerf name w)
  plain : (item : Item) → IsPlain item → RenamesItem handle_pairs verifier_pairs item item

-- R holds of the first two, of the second two, and so on
pub data Pairwise {A B : Type 0} (R : A → B → Type 0) : List A → List B → Type 0 where
  none : Pairwise R [] []
  more : {x : A} {y : B} {xs : List A} {ys : List B} → R x y → Pairwise R xs ys
      → Pairwise R (x ∷ xs) (y ∷ ys)

-- the xid is the first item
pub data RenamesMessage (handle_pairs verifier_pairs : Pairs (List ℕ))
    (xid_pairs : Pairs ℕ) : List Item → List Item → Type 0 where
  message : {name : List ℕ} {x y : ℕ} {items items' : List Item} → Member (x, y) xid_pairs
      → Pairwise (RenamesItem handle_pairs verifier_pairs) items items'
      → RenamesMessage handle_pairs verifier_pairs xid_pairs (Word name x ∷ items) (Word name y
      ∷ items')

-- Every handle that is not empty, every write verifier and every xid is replaced by its partner,
-- and all else stays. The pairs of xids are those of the open connection; each Begin takes the next
-- ones.
pub data Renames (handle_pairs verifier_pairs : Pairs (List ℕ)) : Pairs ℕ → List
    (Pairs ℕ) → List Entry → List Entry → Type 0 where
  ended : {xs : Pairs ℕ} {xss : List (Pairs ℕ)} → Renames handle_pairs verifier_pairs xs xss [] []
  begins : {xs ys : Pairs ℕ} {xss : List (Pairs ℕ)} {a b : List Entry}
      → Renames handle_pairs verifier_pairs ys xss a b
      → Renames handle_pairs verifier_pairs xs (ys ∷ xss) (Begin ∷ a) (Begin ∷ b)
  calls : {xs : Pairs ℕ} {xss : List (Pairs ℕ)} {m n : List Item} {a b : List Entry}
      → RenamesMessage handle_pairs verifier_pairs xs m n
      → Renames handle_pairs verifier_pairs xs xss a b
      → Renames handle_pairs verifier_pairs xs xss (Call m ∷ a) (Call n ∷ b)
  turns : {xs : Pairs ℕ} {xss : List (Pairs ℕ)} {a b : List Entry}
      → Renames handle_pairs verifier_pairs xs xss a b
      → Renames handle_pairs verifier_pairs xs xss (Turn ∷ a) (Turn ∷ b)
  replies : {xs : Pairs ℕ} {xss : List (Pairs ℕ)} {id : ProcId} {m n : List Item} {a b : List Entry}
      → RenamesMessage handle_pairs verifier_pairs xs m n
      → Renames handle_pairs verifier_pairs xs xss a b
      → Renames handle_pairs verifier_pairs xs xss (Reply id m ∷ a) (Reply id n ∷ b)
  closes : {xs : Pairs ℕ} {xss : List (Pairs ℕ)} {a b : List Entry}
      → Renames handle_pairs verifier_pairs xs xss a b
      → Renames handle_pairs verifier_pairs xs xss (Close ∷ a) (Close ∷ b)
  ends : {xs : Pairs ℕ} {xss : List (Pairs ℕ)} {a b : List Entry}
      → Renames handle_pairs verifier_pairs xs xss a b
      → Renames handle_pairs verifier_pairs xs xss (End ∷ a) (End ∷ b)

-- there are one-to-one renamings, of handles and of write verifiers across the capture and of xids
-- in each connection, that turn a into b
pub record Same (a b : List Entry) : Type 0 where
  pub handle_pairs : Pairs (List ℕ)
  pub verifier_pairs : Pairs (List ℕ)
  pub xid_pairs : List (Pairs ℕ)
  pub handles_one_to_one : OneToOne IsHandle handle_pairs
  pub verifiers_one_to_one : OneToOne IsVerifier verifier_pairs
  pub xids_one_to_one : AllByRecursion (OneToOne IsXid) xid_pairs
  pub renames : Renames handle_pairs verifier_pairs [] xid_pairs a b
