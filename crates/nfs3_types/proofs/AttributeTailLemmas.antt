-- Attributes by the ends of their shapes.
use Rattle.std.proofs.Common.{List}
use Rattle.xdr3.specs.Named.{listed}
use Rattle.xdr3.specs.Shape.{◌then◌}
use Rattle.xdr3.specs.declared.reason.GetError.{GetError}
use Rattle.xdr3.specs.Item.{Item}
use Rattle.xdr3.specs.Scan.{Scans, Stops}
use Rattle.xdr3.specs.View.{View}
use Rattle.nfs3_types.specs.machinery.AttributeTails.{after_type, settable_times, times}
use Rattle.nfs3_types.specs.Shapes.{attributes, time_how}
use Rattle.nfs3_types.specs.FileKind.{file_kind_words}

pub attributes_scanned : {V : Type 0} (stands : V → List Item → Type 0) (v0 v1 : View) (s0 s1 : V)
    → Scans stands (listed "type" file_kind_words then after_type) (v0, s0) (v1, s1)
    → Scans stands attributes (v0, s0) (v1, s1)
unfolding after_type times attributes
attributes_scanned stands v0 v1 s0 s1 h = h

pub attributes_stop : (v0 : View) (error : GetError)
    → Stops (listed "type" file_kind_words then after_type) v0 error → Stops attributes v0 error
unfolding after_type times attributes
attributes_stop v0 error h = h

pub ruleset whole_attributes = (attributes_scanned, attributes_stop)

pub settable_times_scanned : {V : Type 0} (stands : V → List Item → Type 0) (v0 v1 : View)
    (s0 s1 : V) → Scans stands settable_times (v0, s0) (v1, s1)
    → Scans stands (time_how "set_atime" "atime_sec" "atime_nsec"
    then time_how "set_mtime" "mtime_sec" "mtime_nsec") (v0, s0) (v1, s1)
unfolding settable_times
settable_times_scanned stands v0 v1 s0 s1 h = h

pub settable_times_stop : (v0 : View) (error : GetError) → Stops settable_times v0 error
    → Stops
    (time_how "set_atime" "atime_sec" "atime_nsec"
    then time_how "set_mtime" "mtime_sec" "mtime_nsec") v0 error
unfolding settable_times
settable_times_stop v0 error h = h

pub ruleset whole_settable = (settable_times_scanned, settable_times_stop)
