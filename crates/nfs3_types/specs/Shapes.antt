-- The shapes of the parts of NFS version 3 and MOUNT version 3 (RFC 1813).
use Prim.Native.String.{String}
use Rattle.std.specs.Prelude.{ℕ, ◌==◌, if◌then◌else◌, List, [], ◌∷◌}
use Rattle.xdr3.specs.Named.{array, hyper, linked, listed, opaque, optional, union, word}
use Rattle.xdr3.specs.Shape.{Shape, ◌then◌, choose, is_listed, nothing, word_named}
use Rattle.xdr3.specs.declared.reason.Reason.TheVariants.{BadEnum}
use Rattle.xdr3.specs.Item.{Handle, Text, called}
use Rattle.nfs3_types.specs.FileKind.{file_kind_words}
use Rattle.nfs3_types.specs.MountStatus.{mount_status_words}
use Rattle.nfs3_types.specs.Status.{status_words}

-- the maximum of what has none of its own (RFC 4506, sections 4.10, 4.11 and 4.13)
abbrev pub no_maximum : ℕ
no_maximum = 4294967295

-- ---- NFS version 3

-- nfsstat3 (RFC 1813)
unfoldable pub status : Shape
status = listed "status" status_words

-- nfs_fh3, at most 64 bytes (RFC 1813, section 2.4)
unfoldable pub handle : Shape
handle = opaque Handle "fh" 64

-- nfstime3 (RFC 1813); its words are named after the time that it is
unfoldable pub time_named : List ℕ → List ℕ → Shape
time_named sec nsec = word_named sec then word_named nsec

abbrev pub time : String → String → Shape
time sec nsec = time_named (called sec) (called nsec)

-- fattr3 (RFC 1813)
unfoldable pub attributes : Shape
attributes = listed "type" file_kind_words then word "mode" then word "nlink" then word "uid"
    then word "gid" then hyper "size" then hyper "used" then word "rdev1" then word "rdev2"
    then hyper "fsid" then hyper "fileid" then time "atime_sec" "atime_nsec"
    then time "mtime_sec" "mtime_nsec" then time "ctime_sec" "ctime_nsec"

-- post_op_attr (RFC 1813)
unfoldable pub post_op_attr : Shape
post_op_attr = optional "attr" attributes

-- wcc_attr (RFC 1813)
unfoldable pub wcc_attr : Shape
wcc_attr = hyper "size" then time "mtime_sec" "mtime_nsec" then time "ctime_sec" "ctime_nsec"

-- wcc_data (RFC 1813)
unfoldable pub wcc : Shape
wcc = optional "before" wcc_attr then post_op_attr

-- post_op_fh3 (RFC 1813)
unfoldable pub post_op_fh : Shape
post_op_fh = optional "handle" handle

-- set_atime and set_mtime: DONT_CHANGE (0), SET_TO_SERVER_TIME (1), SET_TO_CLIENT_TIME (2), and
-- after the last alone a time (RFC 1813)
unfoldable pub time_how_named : List ℕ → List ℕ → List ℕ → Shape
time_how_named name sec nsec =
    choose name (is_listed (0 ∷ 1 ∷ 2 ∷ [])) BadEnum
    (λ how. if how == 2 then time_named sec nsec else nothing)

abbrev pub time_how : String → String → String → Shape
time_how name sec nsec = time_how_named (called name) (called sec) (called nsec)

-- sattr3, with set_mode3, set_uid3, set_gid3 and set_size3 (RFC 1813)
unfoldable pub settable : Shape
settable = optional "set_mode" (word "mode") then optional "set_uid" (word "uid")
    then optional "set_gid" (word "gid") then optional "set_size" (hyper "size")
    then time_how "set_atime" "atime_sec" "atime_nsec"
    then time_how "set_mtime" "mtime_sec" "mtime_nsec"

-- sattrguard3 (RFC 1813, section 3.3.2)
abbrev pub guard : Shape
guard = optional "check" (time "ctime_sec" "ctime_nsec")

-- diropargs3 (RFC 1813)
unfoldable pub dir_op : Shape
dir_op = handle then opaque Text "name" no_maximum

-- a status, and then the parts of a success (0) or of a failure (RFC 1813, section 3.3)
unfoldable pub results : Shape → Shape → Shape
results done failed = union "status" status_words BadEnum (λ n. if n == 0 then done else failed)

-- ---- MOUNT version 3

-- mountstat3 (RFC 1813, section 5.1.5)
unfoldable pub mount_status : Shape
mount_status = listed "status" mount_status_words

-- a flavor of auth_flavors (RFC 1813, section 5.2.1)
unfoldable pub flavor : Shape
flavor = word "flavor"

-- mountres3_ok (RFC 1813, section 5.2.1)
unfoldable pub mount_ok : Shape
mount_ok = handle then array "flavors" no_maximum flavor

-- mountbody (RFC 1813, sections 5.1.4 and 5.2.2)
unfoldable pub mounted : Shape
mounted = opaque Text "hostname" 255 then opaque Text "directory" 1024

-- groupnode (RFC 1813, sections 5.1.4 and 5.2.5)
unfoldable pub group : Shape
group = opaque Text "name" 255

-- exportnode (RFC 1813, sections 5.1.4 and 5.2.5)
unfoldable pub export : Shape
export = opaque Text "directory" 1024 then linked "group" group
