-- The items of arguments and results of the procedures that make a file (RFC 1813, sections 3.3.8
-- to 3.3.11).
use Rattle.std.specs.Prelude.{List, [], ◌∷◌}
use Rattle.xdr3.specs.Item.{Item, followed_by, Fixed, Opaque, Text, Word, called}
use Rattle.nfs3_types.specs.Items.{dir_op_items, post_op_attr_items, post_op_fh_items, settable_items, wcc_items}
use Rattle.procs3.specs.Tagged.{tagged_items}
use Rattle.procs3.specs.declared.values.creation.CreateArgs.{CreateArgs}
use Rattle.procs3.specs.declared.values.creation.MkDirArgs.{MkDirArgs}
use Rattle.procs3.specs.declared.values.creation.SymLinkArgs.{SymLinkArgs}
use Rattle.procs3.specs.declared.values.creation.Device.{Device}
use Rattle.procs3.specs.declared.values.creation.MkNodArgs.{MkNodArgs}
use Rattle.procs3.specs.declared.values.creation.CreateOk.{CreateOk}
use Rattle.procs3.specs.declared.values.creation.CreateHow.{CreateHow}
use Rattle.procs3.specs.declared.values.creation.CreateHow.TheVariants.{Unchecked, Guarded, Exclusive}
use Rattle.procs3.specs.declared.values.creation.MkNodWhat.{MkNodWhat}
use Rattle.procs3.specs.declared.values.creation.MkNodWhat.TheVariants.{Reg, Dir, Blk, Chr, Lnk, Sock, Fifo}

abbrev pub create_how_items : CreateHow → List Item
create_how_items (Unchecked attr) = tagged_items (called "how") 0 settable_items attr
create_how_items (Guarded attr) = tagged_items (called "how") 1 settable_items attr
create_how_items (Exclusive verf) = Word (called "how") 2 ∷ Fixed (called "createverf") verf ∷ []

abbrev pub create_args_items : CreateArgs → List Item
create_args_items c =
    followed_by (dir_op_items c.place)
    (create_how_items c.how)

abbrev pub mkdir_args_items : MkDirArgs → List Item
mkdir_args_items m =
    followed_by (dir_op_items m.place)
    (settable_items m.attr)

abbrev pub symlink_args_items : SymLinkArgs → List Item
symlink_args_items s =
    followed_by (dir_op_items s.place)
    (followed_by (settable_items s.attr)
    (Opaque Text (called "path") s.path.now ∷ []))

abbrev pub device_items : Device → List Item
device_items d =
    followed_by (settable_items d.attr)
    (Word (called "spec1") d.spec1 ∷ Word (called "spec2") d.spec2 ∷ [])

abbrev pub mknod_what_items : MkNodWhat → List Item
mknod_what_items Reg = Word (called "type") 1 ∷ []
mknod_what_items Dir = Word (called "type") 2 ∷ []
mknod_what_items (Blk d) = tagged_items (called "type") 3 device_items d
mknod_what_items (Chr d) = tagged_items (called "type") 4 device_items d
mknod_what_items Lnk = Word (called "type") 5 ∷ []
mknod_what_items (Sock attr) = tagged_items (called "type") 6 settable_items attr
mknod_what_items (Fifo attr) = tagged_items (called "type") 7 settable_items attr

abbrev pub mknod_args_items : MkNodArgs → List Item
mknod_args_items m =
    followed_by (dir_op_items m.place)
    (mknod_what_items m.what)

abbrev pub create_ok_items : CreateOk → List Item
create_ok_items c =
    followed_by (post_op_fh_items c.handle)
    (followed_by (post_op_attr_items c.attr)
    (wcc_items c.dir))
