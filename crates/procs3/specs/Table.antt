-- The procedures of NFS and MOUNT version 3: a row for each, with its name and the layouts of its
-- arguments and its results.
use Prim.Native.String.{String}
use Rattle.std.specs.Prelude.{ℕ, Bool, ◌==◌, ◌&&◌, ◌||◌, if◌then◌else◌, List, [], ◌∷◌, ◌++◌, Option, Some, None, codes, get_or, map}
use Rattle.xdr3.specs.Item.{Text, Var, called}
use Rattle.xdr3.specs.Layout.{Layout, exactly, remaining}
use Rattle.xdr3.specs.Named.{boolean, fixed, hyper, linked, listed, opaque, word, write_verf}
use Rattle.xdr3.specs.Shape.{Shape, ◌then◌, is_listed, nothing}
use Rattle.nfs3_types.specs.Shapes.{attributes, dir_op, export, guard, handle, mounted, no_maximum, post_op_attr, results, settable, time, wcc}
use Rattle.nfs3_types.specs.Stable.{stable_words}
use Rattle.rpc_head.specs.declared.values.call.ProcId.{ProcId}
use Rattle.procs3.specs.Shapes.{create_how, create_ok, dirpath, entry, entry_plus, file_range, mknod_what, mount_results}

-- a name, the arguments and the results (RFC 1813, sections 3.3 and 5.2)
abbrev pub Procedure : Type 0
Procedure = List ℕ × Shape × Shape

-- A procedure of NFS: its name, its arguments, and the parts of a success and those of a failure,
-- which follow a status (RFC 1813, section 3.3).
abbrev pub nfs : String → Shape → Shape → Shape → Procedure
nfs name arguments done failed = (codes "NFSPROC3_" ++ codes name, arguments, results done failed)

-- ---- arguments and results by their names in RFC 1813, sections 3.3.6, 3.3.7, 3.3.16 to 3.3.20

abbrev pub read3resok : Shape
read3resok = post_op_attr then word "count" then boolean "eof" then opaque Var "data" no_maximum

abbrev pub write3args : Shape
write3args = handle then hyper "offset" then word "count" then listed "stable" stable_words
    then opaque Var "data" no_maximum

abbrev pub write3resok : Shape
write3resok = wcc then word "count" then listed "committed" stable_words then write_verf "verf"

abbrev pub readdir3args : Shape
readdir3args = handle then hyper "cookie" then fixed "cookieverf" then word "count"

abbrev pub readdir3resok : Shape
readdir3resok = post_op_attr then fixed "cookieverf" then linked "entry" entry then boolean "eof"

abbrev pub readdirplus3args : Shape
readdirplus3args =
    handle then hyper "cookie" then fixed "cookieverf" then word "dircount" then word "maxcount"

abbrev pub readdirplus3resok : Shape
readdirplus3resok = post_op_attr then fixed "cookieverf" then linked "entry" entry_plus
    then boolean "eof"

abbrev pub fsstat3resok : Shape
fsstat3resok = post_op_attr then hyper "tbytes" then hyper "fbytes" then hyper "abytes"
    then hyper "tfiles" then hyper "ffiles" then hyper "afiles" then word "invarsec"

abbrev pub fsinfo3resok : Shape
fsinfo3resok = post_op_attr then word "rtmax" then word "rtpref" then word "rtmult"
    then word "wtmax" then word "wtpref" then word "wtmult" then word "dtpref"
    then hyper "maxfilesize" then time "delta_sec" "delta_nsec" then word "properties"

abbrev pub pathconf3resok : Shape
pathconf3resok = post_op_attr then word "linkmax" then word "name_max" then boolean "no_trunc"
    then boolean "chown_restricted" then boolean "case_insensitive" then boolean "case_preserving"

-- ---- the tables

-- the procedures of NFS in order, from 0: procedure n is that of section 3.3.n of RFC 1813
unfoldable pub nfs_procedures : List Procedure
nfs_procedures =
    (codes "NFSPROC3_NULL", nothing, nothing)
    ∷ nfs "GETATTR" handle attributes nothing
    ∷ nfs "SETATTR" (handle then settable then guard) wcc wcc
    ∷ nfs "LOOKUP" dir_op (handle then post_op_attr then post_op_attr) post_op_attr
    ∷ nfs "ACCESS" (handle then word "access") (post_op_attr then word "access") post_op_attr
    ∷ nfs "READLINK" handle (post_op_attr then opaque Text "path" no_maximum) post_op_attr
    ∷ nfs "READ" file_range read3resok post_op_attr
    ∷ nfs "WRITE" write3args write3resok wcc
    ∷ nfs "CREATE" (dir_op then create_how) create_ok wcc
    ∷ nfs "MKDIR" (dir_op then settable) create_ok wcc
    ∷ nfs "SYMLINK" (dir_op then settable then opaque Text "path" no_maximum) create_ok wcc
    ∷ nfs "MKNOD" (dir_op then mknod_what) create_ok wcc
    ∷ nfs "REMOVE" dir_op wcc wcc
    ∷ nfs "RMDIR" dir_op wcc wcc
    ∷ nfs "RENAME" (dir_op then dir_op) (wcc then wcc) (wcc then wcc)
    ∷ nfs "LINK" (handle then dir_op) (post_op_attr then wcc) (post_op_attr then wcc)
    ∷ nfs "READDIR" readdir3args readdir3resok post_op_attr
    ∷ nfs "READDIRPLUS" readdirplus3args readdirplus3resok post_op_attr
    ∷ nfs "FSSTAT" handle fsstat3resok post_op_attr
    ∷ nfs "FSINFO" handle fsinfo3resok post_op_attr
    ∷ nfs "PATHCONF" handle pathconf3resok post_op_attr
    ∷ nfs "COMMIT" file_range (wcc then write_verf "verf") wcc
    ∷ []

-- the procedures of MOUNT in order, from 0: procedure n is that of section 5.2.n of RFC 1813
unfoldable pub mount_procedures : List Procedure
mount_procedures =
    (codes "MOUNTPROC3_NULL", nothing, nothing)
    ∷ (codes "MOUNTPROC3_MNT", dirpath, mount_results)
    ∷ (codes "MOUNTPROC3_DUMP", nothing, linked "entry" mounted)
    ∷ (codes "MOUNTPROC3_UMNT", dirpath, nothing)
    ∷ (codes "MOUNTPROC3_UMNTALL", nothing, nothing)
    ∷ (codes "MOUNTPROC3_EXPORT", nothing, linked "entry" export)
    ∷ []

-- The procedures of version 3 of NFS, program 100003, and of MOUNT, program 100005 (RFC 1813,
-- sections 2.2 and 5.1.2). No other program has any.
abbrev pub procedures_of : ProcId → List Procedure
procedures_of id =
    if (id.prog == 100003) && (id.vers == 3) then nfs_procedures else
    (if (id.prog == 100005) && (id.vers == 3) then mount_procedures else [])

-- what a column has for procedure n of these, or all bytes that are left if there is none
abbrev pub layout_in : (Procedure → Shape) → List Procedure → ℕ → Layout
layout_in column procedures n =
    get_or (map (λ row. exactly (column row)) procedures) n (remaining (called "rest"))

-- the arguments of a call (RFC 1813, sections 3.3 and 5.2)
unfoldable pub arguments_of : ProcId → Layout
arguments_of id = layout_in (λ row. row.1) (procedures_of id) id.proc_no

-- the results of a successful call (RFC 1813, sections 3.3 and 5.2)
unfoldable pub results_of : ProcId → Layout
results_of id = layout_in (λ row. row.2) (procedures_of id) id.proc_no

-- READDIR and READDIRPLUS, and MNT, DUMP and EXPORT: their results have a list
abbrev pub has_list : ProcId → Bool
has_list id =
    ((id.prog == 100003) && ((id.vers == 3) && is_listed (16 ∷ 17 ∷ []) id.proc_no))
    || ((id.prog == 100005) && ((id.vers == 3) && is_listed (1 ∷ 2 ∷ 5 ∷ []) id.proc_no))

-- the name of procedure n of these
abbrev pub name_in : List Procedure → ℕ → Option (List ℕ)
name_in procedures n = get_or (map (λ row. Some row.0) procedures) n None

-- the name of a procedure of NFS version 3 or MOUNT version 3 (RFC 1813, sections 3.3 and 5.2)
abbrev pub name_of_procedure : ProcId → Option (List ℕ)
name_of_procedure id = name_in (procedures_of id) id.proc_no
