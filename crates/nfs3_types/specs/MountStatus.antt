-- The numbers of mountstat3 (RFC 1813, section 5.1.5).
use Rattle.std.specs.Prelude.{ℕ, List, [], ◌∷◌}
use Rattle.nfs3_types.specs.declared.values.mount3.MountStatus.{MountStatus}
use Rattle.nfs3_types.specs.declared.values.mount3.MountStatus.TheVariants.{Ok, Perm, NoEnt, Io, Acces, NotDir, Inval, NameTooLong, NotSupp, ServerFault}

-- mountstat3 (RFC 1813, section 5.1.5)
abbrev pub mount_status_words : List ℕ
mount_status_words = 0 ∷ 1 ∷ 2 ∷ 5 ∷ 13 ∷ 20 ∷ 22 ∷ 63 ∷ 10004 ∷ 10006 ∷ []

abbrev pub mount_status_number : MountStatus → ℕ
mount_status_number Ok = 0
mount_status_number Perm = 1
mount_status_number NoEnt = 2
mount_status_number Io = 5
mount_status_number Acces = 13
mount_status_number NotDir = 20
mount_status_number Inval = 22
mount_status_number NameTooLong = 63
mount_status_number NotSupp = 10004
mount_status_number ServerFault = 10006
