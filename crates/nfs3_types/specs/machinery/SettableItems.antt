-- The items of the last of the attributes to be set.
use Rattle.std.specs.Prelude.{List}
use Rattle.xdr3.specs.Item.{Item, called, followed_by}
use Rattle.nfs3_types.specs.declared.values.settable.Sattr.{Sattr}
use Rattle.nfs3_types.specs.Items.{set_hyper_items}
use Rattle.nfs3_types.specs.Times.{time_how_items}

abbrev pub size_and_times_items : Sattr → List Item
size_and_times_items s =
    followed_by (set_hyper_items (called "set_size") (called "size") s.size)
    (followed_by
    (time_how_items (called "set_atime") (called "atime_sec") (called "atime_nsec") s.atime)
    (time_how_items (called "set_mtime") (called "mtime_sec") (called "mtime_nsec") s.mtime))
