-- The permissions of a file that replaces another. A mode has three bits for each class: the
-- owner's are the highest, then those of the group, and then those of the others.
use Rattle.std.specs.Prelude.{ℕ, ◌*◌, ◌/◌, ◌^◌, bit_and, bit_or}

-- what each class may
abbrev pub by_all : ℕ → ℕ
by_all mode = bit_and (bit_and (bit_and mode (mode / 2 ^ 3)) (mode / 2 ^ 6)) 0o007

-- The owner has the rights of the owner before, and the group and the others those of all. The bits
-- of the group before may be the mask of an access control list.
abbrev pub permissions_of : (old : ℕ) → ℕ
permissions_of old = bit_or (bit_and old 0o700) (by_all old * 0o011)
