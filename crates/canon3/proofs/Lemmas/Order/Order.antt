-- The order of entries in a capture, and what the laws ask of entries.
use Rattle.std.specs.Prelude.{ℕ, ◌<◌, ◌^◌, List, [], ◌∷◌, ◌++◌, length, ⊤}
use Rattle.canon3.proofs.Common.{Item, Word, Entry, Begin, Call, Turn, Reply, Close, End, xid_of, handles, verifiers, Member, IsHandle, IsVerifier, ProcId}

-- a message begins with its xid
abbrev pub BeginsWithXid : List Item → Type 0
BeginsWithXid (Word name x ∷ items) = ⊤
BeginsWithXid _ = ⊥

-- a reply has the xid of a call of its connection
abbrev pub IsAnswering : (xs : List ℕ) → List Item → Type 0
IsAnswering xs (Word name x ∷ items) = Member x xs
IsAnswering xs _ = ⊥

-- where a reader stands; xs are the xids of the open connection's calls so far
pub data Stage : Type 0 where
  Between : Stage
  InCalls : (xs : List ℕ) → Stage
  InReplies : (xs : List ℕ) → Stage
  Over : Stage

-- an entry that may come next, and where it leads
pub data Steps : Stage → Entry → Stage → Type 0 where
  begin : Steps Between Begin (InCalls [])
  call : {xs : List ℕ} (items : List Item) → BeginsWithXid items
      → Steps (InCalls xs) (Call items) (InCalls (xs ++ xid_of items))
  turn : {xs : List ℕ} → Steps (InCalls xs) Turn (InReplies xs)
  reply : {xs : List ℕ} {id : ProcId} (items : List Item) → IsAnswering xs items
      → Steps (InReplies xs) (Reply id items) (InReplies xs)
  close : {xs : List ℕ} → Steps (InReplies xs) Close Between
  end : Steps Between End Over

pub data Runs : Stage → List Entry → Stage → Type 0 where
  stays : {s : Stage} → Runs s [] s
  steps : {s t u : Stage} {e : Entry} {es : List Entry} → Steps s e t → Runs t es u
      → Runs s (e ∷ es) u

-- entries of a well-formed capture, or the first of them
pub record IsWellFormed (es : List Entry) : Type 0 where
  pub stage : Stage
  pub run : Runs Between es stage
  pub handles_fit : (h : List ℕ) → Member h (handles es) → IsHandle h
  pub verifiers_fit : (v : List ℕ) → Member v (verifiers es) → IsVerifier v
  pub few_handles : length (handles es) < 2 ^ 32
  pub few_verifiers : length (verifiers es) < 2 ^ 32
