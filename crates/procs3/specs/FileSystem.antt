-- The items of the results about a file system (RFC 1813, sections 3.3.18 to 3.3.20).
use Rattle.std.specs.Prelude.{List, [], ◌∷◌}
use Rattle.xdr3.specs.Item.{Item, followed_by, Hyper, Word, called}
use Rattle.xdr3.specs.View.{word_of}
use Rattle.nfs3_types.specs.Items.{post_op_attr_items}
use Rattle.procs3.specs.declared.values.file_system.FsStatOk.{FsStatOk}
use Rattle.procs3.specs.declared.values.file_system.FsInfoOk.{FsInfoOk}
use Rattle.procs3.specs.declared.values.file_system.PathConfOk.{PathConfOk}

abbrev pub fsstat_ok_items : FsStatOk → List Item
fsstat_ok_items f =
    followed_by (post_op_attr_items f.attr)
    (Hyper (called "tbytes") f.tbytes ∷ Hyper (called "fbytes") f.fbytes
    ∷ Hyper (called "abytes") f.abytes
    ∷ Hyper (called "tfiles") f.tfiles ∷ Hyper (called "ffiles") f.ffiles
    ∷ Hyper (called "afiles") f.afiles
    ∷ Word (called "invarsec") f.invarsec ∷ [])

abbrev pub fsinfo_ok_items : FsInfoOk → List Item
fsinfo_ok_items f =
    followed_by (post_op_attr_items f.attr)
    (Word (called "rtmax") f.rtmax ∷ Word (called "rtpref") f.rtpref
    ∷ Word (called "rtmult") f.rtmult
    ∷ Word (called "wtmax") f.wtmax ∷ Word (called "wtpref") f.wtpref
    ∷ Word (called "wtmult") f.wtmult
    ∷ Word (called "dtpref") f.dtpref ∷ Hyper (called "maxfilesize") f.maxfilesize
    ∷ Word (called "delta_sec") f.delta.sec ∷ Word (called "delta_nsec") f.delta.nsec
    ∷ Word (called "properties") f.properties ∷ [])

abbrev pub pathconf_ok_items : PathConfOk → List Item
pathconf_ok_items p =
    followed_by (post_op_attr_items p.attr)
    (Word (called "linkmax") p.linkmax ∷ Word (called "name_max") p.name_max
    ∷ Word (called "no_trunc") (word_of p.no_trunc)
    ∷ Word (called "chown_restricted") (word_of p.chown_restricted)
    ∷ Word (called "case_insensitive") (word_of p.case_insensitive)
    ∷ Word (called "case_preserving") (word_of p.case_preserving) ∷ [])
