-- How a whole is read and refused by its parts, one case of `Shape` after the other (RFC 4506,
-- section 4).
use Rattle.std.specs.Prelude.{◌≡◌, ℕ, zero, suc, ◌+◌, ◌^◌, ◌<◌, ◌≤◌, Bool, IsTrue, List, [], ◌∷◌, ◌++◌, length}
use Rattle.byteorder.specs.Endian.{big_bytes}
use Rattle.xdr3.specs.declared.reason.Reason.{Reason}
use Rattle.xdr3.specs.declared.reason.Reason.TheVariants.{Short, BadBool, TooLong, AuthLength}
use Rattle.xdr3.specs.Reason.{in_window}
use Rattle.xdr3.specs.Item.{Kind, Item, Word, Hyper, Opaque, AreBytes, word_bytes, residue}
use Rattle.xdr3.specs.Layout.{Layout, after, FitsLayout, ReadsLayout, RefusesLayout}
use Rattle.xdr3.specs.Shape.{Shape, choose, hyper, opaque, nothing, both, linked, array_named, sized, is_bool, is_at_most, Fits, Reads, RefusesWord, Refuses}

-- ---- places

-- the bytes begin with the word, and more follow
pub record BeginsWith (n : ℕ) (bytes more : List ℕ) : Type 0 where
  pub fits : n < 2 ^ 32
  pub is : bytes ≡ word_bytes n ++ more

-- a place counted from the first of the bytes is one counted from the first of the last bytes
abbrev pub IsPlaceIn : List ℕ → List ℕ → ℕ → ℕ → Type 0
IsPlaceIn bytes last at further = at + length last ≡ length bytes + further

-- ---- parts one after the other

-- the shape is read so many times
abbrev pub ReadsTimes : Shape → ℕ → List ℕ → List Item → List ℕ → Type 0
ReadsTimes shape zero bytes items left = (items ≡ []) × (left ≡ bytes)
ReadsTimes shape (suc n) bytes items left =
    (part : List Item) × (parts : List Item) × (more : List ℕ)
    × Reads shape bytes part more × ReadsTimes shape n more parts left × (items ≡ part ++ parts)

-- ---- the cases

pub record ChooseByParts (name : List ℕ) (accepted : ℕ → Bool) (other : Reason)
    (next : ℕ → Shape) : Type 0 where
  pub fits : (n : ℕ) (more : List Item) → IsTrue (accepted n) → Fits (next n) more
      → Fits (choose name accepted other next) (Word name n ∷ more)
  pub reads : (n : ℕ) (bytes more left : List ℕ) (items : List Item) → BeginsWith n bytes more
      → IsTrue (accepted n)
      → Reads (next n) more items left
      → Reads (choose name accepted other next) bytes (Word name n ∷ items) left
  pub refuses_word : (bytes : List ℕ) (at : ℕ) (reason : Reason)
      → RefusesWord accepted other bytes at reason
      → Refuses (choose name accepted other next) bytes at reason
  pub refuses_next : (n : ℕ) (bytes more : List ℕ) (at : ℕ) (reason : Reason)
      → BeginsWith n bytes more → IsTrue (accepted n)
      → Refuses (next n) more at reason
      → Refuses (choose name accepted other next) bytes (4 + at) reason

pub record HyperByParts (name : List ℕ) : Type 0 where
  pub reads : (n : ℕ) (bytes left : List ℕ) → n < 2 ^ 64 → bytes ≡ big_bytes 8 n ++ left
      → Reads (hyper name) bytes (Hyper name n ∷ []) left
  pub refuses : (bytes : List ℕ) → length bytes < 8 → Refuses (hyper name) bytes 0 Short

-- eight bytes as they are, by one of the two shapes that have them
pub record EightByParts (shape : Shape) (item : List ℕ → Item) : Type 0 where
  pub reads : (run left : List ℕ) → length run ≡ 8 → AreBytes run
      → Reads shape (run ++ left) (item run ∷ []) left
  pub refuses : (bytes : List ℕ) → length bytes < 8 → Refuses shape bytes 0 Short

pub record OpaqueByParts (kind : Kind) (name : List ℕ) (max : ℕ) : Type 0 where
  pub reads : (bytes more run residual left : List ℕ) → BeginsWith (length run) bytes more
      → more ≡ (run ++ residual) ++ left → length run ≤ max
      → AreBytes run → length residual ≡ residue (length run) → AreBytes residual
      → Reads (opaque kind name max) bytes (Opaque kind name run ∷ []) left
  pub refuses_length : (bytes : List ℕ) (at : ℕ) (reason : Reason)
      → RefusesWord (is_at_most max) TooLong bytes at reason
      → Refuses (opaque kind name max) bytes at reason
  pub refuses_run : (n : ℕ) (bytes more : List ℕ) → BeginsWith n bytes more → n ≤ max
      → length more < n + residue n → Refuses (opaque kind name max) bytes 4 Short

abbrev pub NothingByParts : Type 0
NothingByParts = (bytes : List ℕ) → Reads nothing bytes [] bytes

pub record BothByParts (a b : Shape) : Type 0 where
  pub fits : (xs ys : List Item) → Fits a xs → Fits b ys → Fits (both a b) (xs ++ ys)
  pub reads : (bytes more left : List ℕ) (xs ys : List Item) → Reads a bytes xs more
      → Reads b more ys left → Reads (both a b) bytes (xs ++ ys) left
  pub refuses_first : (bytes : List ℕ) (at : ℕ) (reason : Reason) → Refuses a bytes at reason
      → Refuses (both a b) bytes at reason
  pub refuses_second : (bytes more : List ℕ) (xs : List Item) (at further : ℕ) (reason : Reason)
      → Reads a bytes xs more → Refuses b more further reason
      → IsPlaceIn bytes more at further → Refuses (both a b) bytes at reason

pub record LinkedByParts (name : List ℕ) (shape : Shape) : Type 0 where
  pub reads_none : (bytes left : List ℕ) → BeginsWith 0 bytes left
      → Reads (linked name shape) bytes (Word name 0 ∷ []) left
  pub reads_more : (bytes first more left : List ℕ) (part parts : List Item)
      → BeginsWith 1 bytes first → Reads shape first part more
      → Reads (linked name shape) more parts left
      → Reads (linked name shape) bytes (Word name 1 ∷ (part ++ parts)) left
  pub refuses_word : (bytes : List ℕ) (at : ℕ) (reason : Reason)
      → RefusesWord is_bool BadBool bytes at reason → Refuses (linked name shape) bytes at reason
  pub refuses_part : (bytes first : List ℕ) (at : ℕ) (reason : Reason) → BeginsWith 1 bytes first
      → Refuses shape first at reason → Refuses (linked name shape) bytes (4 + at) reason
  pub refuses_later : (bytes first more : List ℕ) (part : List Item) (at further : ℕ)
      (reason : Reason) → BeginsWith 1 bytes first → Reads shape first part more
      → Refuses (linked name shape) more further reason → IsPlaceIn bytes more at further
      → Refuses (linked name shape) bytes at reason

pub record CountedByParts (name : List ℕ) (max : ℕ) (shape : Shape) : Type 0 where
  pub reads : (n : ℕ) (bytes first left : List ℕ) (items : List Item) → BeginsWith n bytes first
      → n ≤ max → ReadsTimes shape n first items left
      → Reads (array_named name max shape) bytes (Word name n ∷ items) left
  pub refuses_count : (bytes : List ℕ) (at : ℕ) (reason : Reason)
      → RefusesWord (is_at_most max) TooLong bytes at reason
      → Refuses (array_named name max shape) bytes at reason
  pub refuses_part : (n k : ℕ) (bytes first more : List ℕ) (items : List Item) (at further : ℕ)
      (reason : Reason) → BeginsWith n bytes first → n ≤ max → k < n
      → ReadsTimes shape k first items more → Refuses shape more further reason
      → IsPlaceIn bytes more at further → Refuses (array_named name max shape) bytes at reason

pub record SizedByParts (name : List ℕ) (shape : Shape) : Type 0 where
  pub reads : (n : ℕ) (bytes window left : List ℕ) (items : List Item)
      → BeginsWith n bytes (window ++ left) → length window ≡ n → n ≤ 400
      → Reads shape window items [] → Reads (sized name shape) bytes (Word name n ∷ items) left
  pub refuses_length : (bytes : List ℕ) (at : ℕ) (reason : Reason)
      → RefusesWord (is_at_most 400) TooLong bytes at reason
      → Refuses (sized name shape) bytes at reason
  pub refuses_cut : (n : ℕ) (bytes more : List ℕ) → BeginsWith n bytes more → n ≤ 400
      → length more < n → Refuses (sized name shape) bytes 4 Short
  pub refuses_inside : (n : ℕ) (bytes window left : List ℕ) (at : ℕ) (reason : Reason)
      → BeginsWith n bytes (window ++ left) → length window ≡ n → n ≤ 400
      → Refuses shape window at reason
      → Refuses (sized name shape) bytes (4 + at) (in_window reason)
  pub refuses_over : (n : ℕ) (bytes window left over : List ℕ) (items : List Item) (at : ℕ)
      → BeginsWith n bytes (window ++ left) → length window ≡ n → n ≤ 400
      → Reads shape window items over → 0 < length over → at + length over ≡ 4 + n
      → Refuses (sized name shape) bytes at AuthLength

-- the same of a layout
pub record AfterByParts (shape : Shape) (next : List Item → Layout) : Type 0 where
  pub fits : (xs ys : List Item) → Fits shape xs → FitsLayout (next xs) ys
      → FitsLayout (after shape next) (xs ++ ys)
  pub reads : (bytes more left : List ℕ) (xs ys : List Item) → Reads shape bytes xs more
      → ReadsLayout (next xs) more ys left → ReadsLayout (after shape next) bytes (xs ++ ys) left
  pub refuses_first : (bytes : List ℕ) (at : ℕ) (reason : Reason) → Refuses shape bytes at reason
      → RefusesLayout (after shape next) bytes at reason
  pub refuses_next : (bytes more : List ℕ) (xs : List Item) (at further : ℕ) (reason : Reason)
      → Reads shape bytes xs more → RefusesLayout (next xs) more further reason
      → IsPlaceIn bytes more at further → RefusesLayout (after shape next) bytes at reason
