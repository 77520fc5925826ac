-- The numbers of ftype3 (RFC 1813).
use Rattle.std.specs.Prelude.{ℕ, List, [], ◌∷◌}
use Rattle.nfs3_types.specs.declared.values.kind.FileKind.{FileKind}
use Rattle.nfs3_types.specs.declared.values.kind.FileKind.TheVariants.{Reg, Dir, Blk, Chr, Lnk, Sock, Fifo}

-- ftype3 (RFC 1813)
abbrev pub file_kind_words : List ℕ
file_kind_words = 1 ∷ 2 ∷ 3 ∷ 4 ∷ 5 ∷ 6 ∷ 7 ∷ []

abbrev pub file_kind_number : FileKind → ℕ
file_kind_number Reg = 1
file_kind_number Dir = 2
file_kind_number Blk = 3
file_kind_number Chr = 4
file_kind_number Lnk = 5
file_kind_number Sock = 6
file_kind_number Fifo = 7
