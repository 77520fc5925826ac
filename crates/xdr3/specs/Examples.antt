-- A file worked by hand: what the definitions say of its bytes.
use Rattle.std.specs.Prelude.{◌≡◌, ℕ, ◌==◌, nat_lt, if◌then◌else◌, List, [], ◌∷◌, ◌++◌, length, take, Result, Ok, codes}
use Rattle.std.specs.List.{flat_map, AllByRecursion}
use Rattle.xdr3.specs.declared.reason.Reason.{Reason}
use Rattle.xdr3.specs.declared.reason.Reason.TheVariants.{Short, Trailing, BadEnum, TooLong}
use Rattle.xdr3.specs.declared.reason.Stop.{Stop}
use Rattle.xdr3.specs.Item.{Item, Word, Opaque, Var, Text, word_bytes, zero_spelling}
use Rattle.xdr3.specs.Shape.{Shape, ◌then◌, choose, nothing, opaque}
use Rattle.xdr3.specs.Layout.{Layout, exactly, reading_layout}
use Rattle.xdr3.specs.Reading.{◌>>=◌, refused}

-- each number in four bytes (RFC 4506, section 4.2)
abbrev pub words : List ℕ → List ℕ
words numbers = flat_map word_bytes numbers

-- the items of a whole body, or its first fault
abbrev pub reading_verdict : Layout → List ℕ → Result (List Item) Stop
reading_verdict layout body =
    reading_layout layout body 0 >>= λ x. if x.1 == length body then Ok x.0 else refused x.1
    Trailing

abbrev pub IsRefused : Layout → List ℕ → ℕ → Reason → Type 0
IsRefused layout body at reason = reading_verdict layout body ≡ refused at reason

-- each cut of the body to one of these lengths is short there
abbrev pub CutsAreShort : Layout → List ℕ → ℕ → List ℕ → Type 0
CutsAreShort layout body at lengths =
    AllByRecursion (λ n. IsRefused layout (take n body) at Short) lengths

-- TEXT (0), DATA (1) with its creator, EXEC (2) with its interpretor
abbrev pub file_type : Shape
file_type =
    choose (codes "kind") (λ n. nat_lt n 3) BadEnum
    (λ n. if n == 0 then nothing else
    (if n == 1 then opaque Text (codes "creator") 255 else opaque Text (codes "interpretor")
    255))

abbrev pub file : Layout
file = exactly
    (opaque Text (codes "filename") 255 then file_type then opaque Text (codes "owner") 32
    then opaque Var (codes "data") 65535)

-- the bytes, with residual bytes of this value
abbrev pub file_bytes : ℕ → List ℕ
file_bytes b =
    words (9 ∷ [])
    ++ (codes "sillyprog"
    ++ (b ∷ b ∷ b ∷ words (2 ∷ 4 ∷ [])
    ++ (codes "lisp"
    ++ (words (4 ∷ [])
    ++ (codes "john" ++ (words (6 ∷ []) ++ (codes "(quit)" ++ b ∷ b ∷ [])))))))

abbrev pub file_items : List Item
file_items =
    Opaque Text (codes "filename") (codes "sillyprog") ∷ Word (codes "kind") 2
    ∷ Opaque Text (codes "interpretor") (codes "lisp")
    ∷ Opaque Text (codes "owner") (codes "john") ∷ Opaque Var (codes "data") (codes "(quit)") ∷ []

pub record File : Type 0 where
  pub read : reading_verdict file (file_bytes 0) ≡ Ok file_items
  pub residual : reading_verdict file (file_bytes 255) ≡ Ok file_items
  pub spelled : zero_spelling file_items ≡ file_bytes 0
  pub no_length : CutsAreShort file (file_bytes 0) 0 (0 ∷ 1 ∷ 2 ∷ 3 ∷ [])
  pub no_name : CutsAreShort file (file_bytes 0) 4 (4 ∷ 12 ∷ 13 ∷ 15 ∷ [])
  pub no_data : CutsAreShort file (file_bytes 0) 40 (40 ∷ 46 ∷ 47 ∷ [])
  pub no_such_kind : IsRefused file (words (0 ∷ 3 ∷ [])) 4 BadEnum
  pub long_owner : IsRefused file (words (0 ∷ 0 ∷ 33 ∷ [])) 8 TooLong
  pub one_byte_more : IsRefused file (file_bytes 0 ++ 0 ∷ []) 48 Trailing
