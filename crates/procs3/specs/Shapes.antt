-- The shapes of arguments and results that have a name of their own: choices, and structs that
-- stand in several rows of the table or in lists (RFC 1813, sections 3.3 and 5.2).
use Rattle.std.specs.Prelude.{◌==◌, ◌||◌, if◌then◌else◌, [], ◌∷◌}
use Rattle.xdr3.specs.Named.{fixed, hyper, opaque, union, word}
use Rattle.xdr3.specs.Shape.{Shape, ◌then◌, nothing}
use Rattle.xdr3.specs.declared.reason.Reason.TheVariants.{BadEnum}
use Rattle.xdr3.specs.Item.{Text}
use Rattle.nfs3_types.specs.FileKind.{file_kind_words}
use Rattle.nfs3_types.specs.MountStatus.{mount_status_words}
use Rattle.nfs3_types.specs.Shapes.{handle, mount_ok, no_maximum, post_op_attr, post_op_fh, settable, wcc}

-- READ3args and COMMIT3args (RFC 1813, sections 3.3.6 and 3.3.21)
unfoldable pub file_range : Shape
file_range = handle then hyper "offset" then word "count"

-- createhow3: UNCHECKED (0), GUARDED (1) or EXCLUSIVE (2) (RFC 1813, section 3.3.8)
unfoldable pub create_how : Shape
create_how = union "how" (0 ∷ 1 ∷ 2 ∷ []) BadEnum
    (λ how. if how == 2 then fixed "createverf" else settable)

-- devicedata3 (RFC 1813, section 3.3.11)
unfoldable pub device : Shape
device = settable then word "spec1" then word "spec2"

-- mknoddata3, of NF3BLK (3), NF3CHR (4), NF3SOCK (6) or NF3FIFO (7) (RFC 1813, section 3.3.11)
unfoldable pub mknod_what : Shape
mknod_what = union "type" file_kind_words BadEnum
    (λ kind. if (kind == 3) || (kind == 4) then device else
    (if (kind == 6) || (kind == 7) then settable else nothing))

-- CREATE3resok, MKDIR3resok, SYMLINK3resok and MKNOD3resok (RFC 1813, sections 3.3.8 to 3.3.11)
unfoldable pub create_ok : Shape
create_ok = post_op_fh then post_op_attr then wcc

-- entry3 (RFC 1813, section 3.3.16)
unfoldable pub entry : Shape
entry = hyper "fileid" then opaque Text "name" no_maximum then hyper "cookie"

-- entryplus3 (RFC 1813, section 3.3.17)
unfoldable pub entry_plus : Shape
entry_plus = entry then post_op_attr then post_op_fh

-- a dirpath of at most 1024 bytes (RFC 1813, sections 5.1.4, 5.2.1 and 5.2.3)
unfoldable pub dirpath : Shape
dirpath = opaque Text "dirpath" 1024

-- mountres3: a status, and after 0 what was mounted (RFC 1813, section 5.2.1)
unfoldable pub mount_results : Shape
mount_results = union "status" mount_status_words BadEnum
    (λ n. if n == 0 then mount_ok else nothing)
