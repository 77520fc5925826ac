-- The items of three times.
use Rattle.std.specs.Prelude.{List, ◌++◌}
use Rattle.xdr3.specs.Item.{Item, called}
use Rattle.nfs3_types.specs.declared.values.time.Times.{Times}
use Rattle.nfs3_types.specs.Times.{time_items}

abbrev pub times_items : Times → List Item
times_items t =
    time_items (called "atime_sec") (called "atime_nsec") t.atime
    ++ (time_items (called "mtime_sec") (called "mtime_nsec") t.mtime
    ++ time_items (called "ctime_sec") (called "ctime_nsec") t.ctime)
