-- Ends of the shapes of attributes, for the functions that share them.
use Rattle.std.specs.Prelude.{ℕ, List}
use Rattle.xdr3.specs.Item.{called}
use Rattle.xdr3.specs.Named.{hyper, optional, word}
use Rattle.xdr3.specs.Shape.{Shape, ◌then◌, optional_named, word_named}
use Rattle.nfs3_types.specs.Shapes.{time, time_how}

-- the times of a fattr3 (RFC 1813)
unfoldable pub times : Shape
times =
    time "atime_sec" "atime_nsec" then time "mtime_sec" "mtime_nsec"
    then time "ctime_sec" "ctime_nsec"

unfoldable pub after_type : Shape
after_type =
    word "mode" then word "nlink" then word "uid" then word "gid" then hyper "size"
    then hyper "used" then word "rdev1" then word "rdev2" then hyper "fsid" then hyper "fileid"
    then times

-- a number that may be set, as a part that stays folded in the reading of attributes to be set
unfoldable pub set_word : List ℕ → List ℕ → Shape
set_word set name = optional_named set (word_named name)

unfoldable pub settable_parts : Shape
settable_parts = set_word (called "set_mode") (called "mode")
    then set_word (called "set_uid") (called "uid") then set_word (called "set_gid") (called "gid")
    then optional "set_size" (hyper "size") then time_how "set_atime" "atime_sec" "atime_nsec"
    then time_how "set_mtime" "mtime_sec" "mtime_nsec"

unfoldable pub settable_times : Shape
settable_times =
    time_how "set_atime" "atime_sec" "atime_nsec" then time_how "set_mtime" "mtime_sec" "mtime_nsec"
