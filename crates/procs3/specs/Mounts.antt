-- The items of arguments and results of MOUNT's procedures (RFC 1813, section 5.2).
use Rattle.std.specs.Prelude.{List, [], ◌∷◌}
use Rattle.xdr3.specs.Item.{Item, Opaque, Text, called}
use Rattle.procs3.specs.declared.values.mounts.DirPath.{DirPath}
use Rattle.procs3.specs.declared.values.mounts.MountRes.{MountRes}
use Rattle.procs3.specs.declared.values.mounts.MountRes.TheVariants.{Done, Failed}
use Rattle.procs3.specs.Tagged.{tagged_items}
use Rattle.nfs3_types.specs.Mounts.{mount_ok_items, mount_status_items}

abbrev pub dirpath_items : DirPath → List Item
dirpath_items d =
    Opaque Text (called "dirpath") d.dirpath.now ∷ []

abbrev pub mount_results_items : MountRes → List Item
mount_results_items (Done m) = tagged_items (called "status") 0 mount_ok_items m
mount_results_items (Failed status) = mount_status_items status
