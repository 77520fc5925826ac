-- The items of arguments and results of the procedures on a file (RFC 1813, section 3.3).
use Rattle.std.specs.Prelude.{List, [], ◌∷◌}
use Rattle.xdr3.specs.Item.{Item, followed_by, Handle, Hyper, Opaque, Text, Var, Word, WriteVerf, called}
use Rattle.xdr3.specs.View.{word_of}
use Rattle.nfs3_types.specs.Handle.{handle_bytes}
use Rattle.nfs3_types.specs.Items.{guard_items, handle_items, post_op_attr_items, settable_items, wcc_items}
use Rattle.nfs3_types.specs.Stable.{stable_number}
use Rattle.procs3.specs.declared.values.files.SetAttrArgs.{SetAttrArgs}
use Rattle.procs3.specs.declared.values.files.AccessArgs.{AccessArgs}
use Rattle.procs3.specs.declared.values.files.AccessOk.{AccessOk}
use Rattle.procs3.specs.declared.values.files.ReadLinkOk.{ReadLinkOk}
use Rattle.procs3.specs.declared.values.files.FileRange.{FileRange}
use Rattle.procs3.specs.declared.values.files.ReadOk.{ReadOk}
use Rattle.procs3.specs.declared.values.files.WriteArgs.{WriteArgs}
use Rattle.procs3.specs.declared.values.files.WriteOk.{WriteOk}
use Rattle.procs3.specs.declared.values.files.CommitOk.{CommitOk}

abbrev pub setattr_args_items : SetAttrArgs → List Item
setattr_args_items s =
    followed_by (handle_items s.handle)
    (followed_by (settable_items s.attr)
    (guard_items s.guard))

abbrev pub access_args_items : AccessArgs → List Item
access_args_items a =
    Opaque Handle (called "fh") (handle_bytes a.handle) ∷ Word (called "access") a.access ∷ []

abbrev pub access_ok_items : AccessOk → List Item
access_ok_items a =
    followed_by (post_op_attr_items a.attr)
    (Word (called "access") a.access ∷ [])

abbrev pub readlink_ok_items : ReadLinkOk → List Item
readlink_ok_items r =
    followed_by (post_op_attr_items r.attr)
    (Opaque Text (called "path") r.path.now ∷ [])

abbrev pub file_range_items : FileRange → List Item
file_range_items f =
    Opaque Handle (called "fh") (handle_bytes f.handle) ∷ Hyper (called "offset") f.offset
    ∷ Word (called "count") f.count ∷ []

abbrev pub read_ok_items : ReadOk → List Item
read_ok_items r =
    followed_by (post_op_attr_items r.attr)
    (Word (called "count") r.count ∷ Word (called "eof") (word_of r.eof)
    ∷ Opaque Var (called "data") r.content.now ∷ [])

abbrev pub write_args_items : WriteArgs → List Item
write_args_items w =
    Opaque Handle (called "fh") (handle_bytes w.handle) ∷ Hyper (called "offset") w.offset
    ∷ Word (called "count") w.count ∷ Word (called "stable") (stable_number w.stable)
    ∷ Opaque Var (called "data") w.content.now ∷ []

abbrev pub write_ok_items : WriteOk → List Item
write_ok_items w =
    followed_by (wcc_items w.wcc)
    (Word (called "count") w.count ∷ Word (called "committed") (stable_number w.committed)
    ∷ WriteVerf (called "verf") w.verf ∷ [])

abbrev pub commit_ok_items : CommitOk → List Item
commit_ok_items c =
    followed_by (wcc_items c.wcc)
    (WriteVerf (called "verf") c.verf ∷ [])
