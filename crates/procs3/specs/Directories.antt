-- The items of arguments and results of the procedures on names in directories (RFC 1813, section
-- 3.3).
use Rattle.std.specs.Prelude.{ℕ, Bool, List, [], ◌∷◌}
use Rattle.xdr3.specs.Combined.{linked_items}
use Rattle.xdr3.specs.Item.{Item, followed_by, Fixed, Handle, Hyper, Opaque, Text, Word, called}
use Rattle.xdr3.specs.View.{word_of}
use Rattle.nfs3_types.specs.Handle.{handle_bytes}
use Rattle.nfs3_types.specs.Items.{dir_op_items, handle_items, post_op_attr_items, post_op_fh_items, wcc_items}
use Rattle.procs3.specs.declared.values.directories.LookupOk.{LookupOk}
use Rattle.procs3.specs.declared.values.directories.RenameArgs.{RenameArgs}
use Rattle.procs3.specs.declared.values.directories.RenameWcc.{RenameWcc}
use Rattle.procs3.specs.declared.values.directories.LinkArgs.{LinkArgs}
use Rattle.procs3.specs.declared.values.directories.LinkWcc.{LinkWcc}
use Rattle.procs3.specs.declared.values.directories.ReadDirArgs.{ReadDirArgs}
use Rattle.procs3.specs.declared.values.directories.Entry.{Entry}
use Rattle.procs3.specs.declared.values.directories.ReadDirOk.{ReadDirOk}
use Rattle.procs3.specs.declared.values.directories.ReadDirPlusArgs.{ReadDirPlusArgs}
use Rattle.procs3.specs.declared.values.directories.EntryPlus.{EntryPlus}
use Rattle.procs3.specs.declared.values.directories.ReadDirPlusOk.{ReadDirPlusOk}

-- a dirlist3 or a dirlistplus3 after the directory's attributes
abbrev pub listing_items : {E : Type 0} → List Item → List ℕ → (E → List Item) → List E → Bool
    → List Item
listing_items attr cookieverf items entries eof =
    followed_by attr
    (followed_by (Fixed (called "cookieverf") cookieverf ∷ [])
    (followed_by (linked_items (called "entry") items entries)
    (Word (called "eof") (word_of eof) ∷ [])))

abbrev pub lookup_ok_items : LookupOk → List Item
lookup_ok_items l =
    followed_by (handle_items l.handle)
    (followed_by (post_op_attr_items l.attr)
    (post_op_attr_items l.dir))

abbrev pub rename_args_items : RenameArgs → List Item
rename_args_items r =
    followed_by (dir_op_items r.from)
    (dir_op_items r.to)

abbrev pub rename_wcc_items : RenameWcc → List Item
rename_wcc_items r =
    followed_by (wcc_items r.from)
    (wcc_items r.to)

abbrev pub link_args_items : LinkArgs → List Item
link_args_items l =
    followed_by (handle_items l.handle)
    (dir_op_items l.place)

abbrev pub link_wcc_items : LinkWcc → List Item
link_wcc_items l =
    followed_by (post_op_attr_items l.attr)
    (wcc_items l.dir)

abbrev pub readdir_args_items : ReadDirArgs → List Item
readdir_args_items r =
    Opaque Handle (called "fh") (handle_bytes r.handle) ∷ Hyper (called "cookie") r.cookie
    ∷ Fixed (called "cookieverf") r.cookieverf ∷ Word (called "count") r.count ∷ []

abbrev pub entry_items : Entry → List Item
entry_items e =
    Hyper (called "fileid") e.fileid ∷ Opaque Text (called "name") e.name.now
    ∷ Hyper (called "cookie") e.cookie
    ∷ []

abbrev pub readdir_ok_items : ReadDirOk → List Item
readdir_ok_items r =
    listing_items (post_op_attr_items r.attr) r.cookieverf entry_items r.entries.items r.eof

abbrev pub readdirplus_args_items : ReadDirPlusArgs → List Item
readdirplus_args_items r =
    Opaque Handle (called "fh") (handle_bytes r.handle) ∷ Hyper (called "cookie") r.cookie
    ∷ Fixed (called "cookieverf") r.cookieverf ∷ Word (called "dircount") r.dircount
    ∷ Word (called "maxcount") r.maxcount ∷ []

abbrev pub entry_plus_items : EntryPlus → List Item
entry_plus_items e =
    followed_by (Hyper (called "fileid") e.fileid ∷ Opaque Text (called "name") e.name.now
    ∷ Hyper (called "cookie") e.cookie ∷ [])
    (followed_by (post_op_attr_items e.attr)
    (post_op_fh_items e.handle))

abbrev pub readdirplus_ok_items : ReadDirPlusOk → List Item
readdirplus_ok_items r =
    listing_items (post_op_attr_items r.attr) r.cookieverf entry_plus_items r.entries.items r.eof
