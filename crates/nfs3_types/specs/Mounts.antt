-- The items of MOUNT's parts (RFC 1813, sections 5.1 and 5.2).
use Rattle.std.specs.Prelude.{List, [], ◌∷◌}
use Rattle.xdr3.specs.Combined.{counted_items, linked_items}
use Rattle.xdr3.specs.Item.{Item, followed_by, Opaque, Text, Word, called}
use Rattle.nfs3_types.specs.declared.values.mount3.Export.{Export}
use Rattle.nfs3_types.specs.declared.values.mount3.Exports.{Exports}
use Rattle.nfs3_types.specs.declared.values.mount3.Flavor.{Flavor}
use Rattle.nfs3_types.specs.declared.values.mount3.Group.{Group}
use Rattle.nfs3_types.specs.declared.values.mount3.MountList.{MountList}
use Rattle.nfs3_types.specs.declared.values.mount3.MountOk.{MountOk}
use Rattle.nfs3_types.specs.declared.values.mount3.MountStatus.{MountStatus}
use Rattle.nfs3_types.specs.declared.values.mount3.Mounted.{Mounted}
use Rattle.nfs3_types.specs.Items.{handle_items}
use Rattle.nfs3_types.specs.MountStatus.{mount_status_number}

abbrev pub mount_status_items : MountStatus → List Item
mount_status_items s = Word (called "status") (mount_status_number s) ∷ []

abbrev pub flavor_items : Flavor → List Item
flavor_items f = Word (called "flavor") f.number ∷ []

abbrev pub mount_ok_items : MountOk → List Item
mount_ok_items m =
    followed_by (handle_items m.handle)
    (counted_items (called "flavors") flavor_items m.flavors.items)

abbrev pub mounted_items : Mounted → List Item
mounted_items m =
    Opaque Text (called "hostname") m.hostname.now
    ∷ Opaque Text (called "directory") m.directory.now ∷ []

abbrev pub mount_list_items : MountList → List Item
mount_list_items l = linked_items (called "entry") mounted_items l.entries.items

abbrev pub export_group_items : Group → List Item
export_group_items g = Opaque Text (called "name") g.name.now ∷ []

abbrev pub export_items : Export → List Item
export_items e =
    followed_by (Opaque Text (called "directory") e.directory.now
    ∷ []) (linked_items (called "group") export_group_items e.groups.items)

abbrev pub exports_items : Exports → List Item
exports_items e = linked_items (called "entry") export_items e.entries.items
