-- The numbers of nfsstat3 (RFC 1813).
use Rattle.std.specs.Prelude.{ℕ, List, [], ◌∷◌}
use Rattle.nfs3_types.specs.declared.values.status.Status.{Status}
use Rattle.nfs3_types.specs.declared.values.status.Status.TheVariants.{Ok, Failed}
use Rattle.nfs3_types.specs.declared.values.status.Failure.{Failure}
use Rattle.nfs3_types.specs.declared.values.status.Failure.TheVariants.{Perm, NoEnt, Io, Nxio, Acces, Exist, XDev, NoDev, NotDir, IsDir, Inval, FBig, NoSpc, RoFs, MLink, NameTooLong, NotEmpty, DQuot, Stale, Remote, BadHandle, NotSync, BadCookie, NotSupp, TooSmall, ServerFault, BadType, Jukebox}

-- nfsstat3 (RFC 1813)
abbrev pub status_words : List ℕ
status_words =
    0 ∷ 1 ∷ 2 ∷ 5 ∷ 6 ∷ 13 ∷ 17 ∷ 18 ∷ 19 ∷ 20 ∷ 21 ∷ 22 ∷ 27 ∷ 28 ∷ 30 ∷ 31 ∷ 63 ∷ 66 ∷ 69 ∷ 70
    ∷ 71 ∷ 10001 ∷ 10002 ∷ 10003 ∷ 10004 ∷ 10005 ∷ 10006 ∷ 10007 ∷ 10008 ∷ []

abbrev pub failure_number : Failure → ℕ
failure_number Perm = 1
failure_number NoEnt = 2
failure_number Io = 5
failure_number Nxio = 6
failure_number Acces = 13
failure_number Exist = 17
failure_number XDev = 18
failure_number NoDev = 19
failure_number NotDir = 20
failure_number IsDir = 21
failure_number Inval = 22
failure_number FBig = 27
failure_number NoSpc = 28
failure_number RoFs = 30
failure_number MLink = 31
failure_number NameTooLong = 63
failure_number NotEmpty = 66
failure_number DQuot = 69
failure_number Stale = 70
failure_number Remote = 71
failure_number BadHandle = 10001
failure_number NotSync = 10002
failure_number BadCookie = 10003
failure_number NotSupp = 10004
failure_number TooSmall = 10005
failure_number ServerFault = 10006
failure_number BadType = 10007
failure_number Jukebox = 10008

abbrev pub status_number : Status → ℕ
status_number Ok = 0
status_number (Failed failure) = failure_number failure
