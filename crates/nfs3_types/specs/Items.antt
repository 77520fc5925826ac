-- The items of the parts (RFC 1813).
use Rattle.std.specs.Prelude.{ℕ, List, [], ◌∷◌, Option}
use Rattle.xdr3.specs.Combined.{optional_items}
use Rattle.xdr3.specs.Item.{Item, followed_by, Handle, Hyper, Opaque, Text, Word, called}
use Rattle.nfs3_types.specs.declared.values.attributes.Fattr.{Fattr}
use Rattle.nfs3_types.specs.declared.values.attributes.PostOpAttr.{PostOpAttr}
use Rattle.nfs3_types.specs.declared.values.attributes.Wcc.{Wcc}
use Rattle.nfs3_types.specs.declared.values.attributes.WccAttr.{WccAttr}
use Rattle.nfs3_types.specs.declared.values.directory.DirOp.{DirOp}
use Rattle.nfs3_types.specs.declared.values.directory.PostOpFh.{PostOpFh}
use Rattle.nfs3_types.specs.declared.values.kind.FileKind.{FileKind}
use Rattle.nfs3_types.specs.declared.values.settable.Guard.{Guard}
use Rattle.nfs3_types.specs.declared.values.settable.Sattr.{Sattr}
use Rattle.nfs3_types.specs.declared.values.status.Status.{Status}
use Rattle.nfs3_types.specs.declared.values.handle.Handle as handles
use Rattle.nfs3_types.specs.FileKind.{file_kind_number}
use Rattle.nfs3_types.specs.Handle.{handle_bytes}
use Rattle.nfs3_types.specs.Status.{status_number}
use Rattle.nfs3_types.specs.Times.{time_how_items, time_items}

abbrev pub status_items : Status → List Item
status_items s = Word (called "status") (status_number s) ∷ []

abbrev pub file_kind_items : FileKind → List Item
file_kind_items k = Word (called "type") (file_kind_number k) ∷ []

abbrev pub handle_items : handles.Handle → List Item
handle_items h = Opaque Handle (called "fh") (handle_bytes h) ∷ []

abbrev pub attributes_items : Fattr → List Item
attributes_items f =
    Word (called "type") (file_kind_number f.kind) ∷ Word (called "mode") f.mode
    ∷ Word (called "nlink") f.nlink
    ∷ Word (called "uid") f.uid ∷ Word (called "gid") f.gid
    ∷ Hyper (called "size") f.size ∷ Hyper (called "used") f.used ∷ Word (called "rdev1") f.rdev1
    ∷ Word (called "rdev2") f.rdev2
    ∷ Hyper (called "fsid") f.fsid ∷ Hyper (called "fileid") f.fileid
    ∷ Word (called "atime_sec") f.atime.sec ∷ Word (called "atime_nsec") f.atime.nsec
    ∷ Word (called "mtime_sec") f.mtime.sec ∷ Word (called "mtime_nsec") f.mtime.nsec
    ∷ Word (called "ctime_sec") f.ctime.sec ∷ Word (called "ctime_nsec") f.ctime.nsec ∷ []

abbrev pub post_op_attr_items : PostOpAttr → List Item
post_op_attr_items p = optional_items (called "attr") attributes_items p.attr

abbrev pub wcc_attr_items : WccAttr → List Item
wcc_attr_items w =
    Hyper (called "size") w.size ∷ Word (called "mtime_sec") w.mtime.sec
    ∷ Word (called "mtime_nsec") w.mtime.nsec
    ∷ Word (called "ctime_sec") w.ctime.sec ∷ Word (called "ctime_nsec") w.ctime.nsec ∷ []

abbrev pub wcc_items : Wcc → List Item
wcc_items w =
    followed_by (optional_items (called "before") wcc_attr_items w.before)
    (post_op_attr_items w.after)

abbrev pub post_op_fh_items : PostOpFh → List Item
post_op_fh_items p = optional_items (called "handle") handle_items p.handle

-- a number that may be set
abbrev pub set_word_items : List ℕ → List ℕ → Option ℕ → List Item
set_word_items set name n = optional_items set (λ n. Word name n ∷ []) n

abbrev pub set_hyper_items : List ℕ → List ℕ → Option ℕ → List Item
set_hyper_items set name n = optional_items set (λ n. Hyper name n ∷ []) n

abbrev pub settable_items : Sattr → List Item
settable_items s =
    followed_by (set_word_items (called "set_mode") (called "mode") s.mode)
    (followed_by (set_word_items (called "set_uid") (called "uid") s.uid)
    (followed_by (set_word_items (called "set_gid") (called "gid") s.gid)
    (followed_by (set_hyper_items (called "set_size") (called "size") s.size)
    (followed_by
    (time_how_items (called "set_atime") (called "atime_sec") (called "atime_nsec") s.atime)
    (time_how_items (called "set_mtime") (called "mtime_sec") (called "mtime_nsec") s.mtime)))))

abbrev pub guard_items : Guard → List Item
guard_items g =
    optional_items (called "check") (time_items (called "ctime_sec") (called "ctime_nsec")) g.check

abbrev pub dir_op_items : DirOp → List Item
dir_op_items d =
    Opaque Handle (called "fh") (handle_bytes d.dir) ∷ Opaque Text (called "name") d.name.now ∷ []
