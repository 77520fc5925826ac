-- Each part of all arguments and results is one of the protocol's, shape by shape and procedure by
-- procedure.
use Rattle.std.proofs.Common.{ℕ, List, arith, refl}
use Rattle.std.specs.List.{AllByRecursion}
use Rattle.std.specs.Prelude.{nat_eq, ◌||◌, if◌then◌else◌}
use Rattle.xdr3.specs.Item.{Item, called}
use Rattle.xdr3.specs.Shape.{Shape, fixed, hyper, nothing, optional_named, word_named}
use Rattle.xdr3.specs.Layout.{Layout, exactly, remaining}
use Rattle.xdr3.proofs.Lemmas.Shapes.ShapeParts.{RowHasParts, counted_has_parts, parts_if, row_if}
use Rattle.rpc_head.specs.declared.values.call.ProcId.{ProcId}
use Rattle.rpc_head.specs.Messages.{has_results}
use Rattle.nfs3_types.specs.Shapes.{attributes, dir_op, export, flavor, group, guard, handle, mount_ok, mounted, no_maximum, post_op_attr, post_op_fh, results, settable, time, time_how_named, time_named, wcc, wcc_attr}
use Rattle.procs3.specs.Shapes.{create_how, create_ok, device, dirpath, entry, entry_plus, file_range, mknod_what, mount_results}
use Rattle.procs3.specs.Table.{Procedure, arguments_of, mount_procedures, nfs_procedures, results_of}
use Rattle.procs3.proofs.TableLemmas.{layout_of_procedure}
use Rattle.procs3.proofs.ProtocolParts.{AWord, AreProtocolParts, IsNameOf, IsProtocolPart}

optional_parts : (name : List ℕ) (s : Shape) → IsNameOf name AWord → AreProtocolParts s
    → AreProtocolParts (optional_named name s)
unfolding optional_named
optional_parts name s w h = (assumption, λ n. parts_if IsProtocolPart (nat_eq n 0) nothing s tt h)

-- ---- parts

handle_parts : AreProtocolParts handle
unfolding handle called
handle_parts = record { reason = tt; room = (omega arith, omega arith); name = (refl, refl) }

time_parts : (sec nsec : List ℕ) → IsNameOf sec AWord → IsNameOf nsec AWord
    → AreProtocolParts (time_named sec nsec)
unfolding time_named
time_parts sec nsec h k = assumption

attributes_parts : AreProtocolParts attributes
unfolding attributes time_named called
attributes_parts = assumption

post_op_attr_parts : AreProtocolParts post_op_attr
unfolding post_op_attr called
post_op_attr_parts = optional_parts (called "attr") attributes (refl, refl) attributes_parts

wcc_attr_parts : AreProtocolParts wcc_attr
unfolding wcc_attr time_named called
wcc_attr_parts = assumption

wcc_parts : AreProtocolParts wcc
unfolding wcc called
wcc_parts =
    (optional_parts (called "before") wcc_attr (refl, refl) wcc_attr_parts, post_op_attr_parts)

post_op_fh_parts : AreProtocolParts post_op_fh
unfolding post_op_fh called
post_op_fh_parts = optional_parts (called "handle") handle (refl, refl) handle_parts

time_how_parts : (name sec nsec : List ℕ) → IsNameOf name AWord → IsNameOf sec AWord
    → IsNameOf nsec AWord → AreProtocolParts (time_how_named name sec nsec)
unfolding time_how_named
time_how_parts name sec nsec w h k = (
  assumption,
  λ how.
      parts_if IsProtocolPart (nat_eq how 2) (time_named sec nsec) nothing (time_parts sec nsec h k)
      tt,
)

set_word_parts : (set name : List ℕ) → IsNameOf set AWord → IsNameOf name AWord
    → AreProtocolParts (optional_named set (word_named name))
set_word_parts set name w h = optional_parts set (word_named name) w assumption

settable_parts : AreProtocolParts settable
unfolding settable called
settable_parts = assumption (
  set_word_parts (called "set_mode") (called "mode") (refl, refl) (refl, refl),
  set_word_parts (called "set_uid") (called "uid") (refl, refl) (refl, refl),
  set_word_parts (called "set_gid") (called "gid") (refl, refl) (refl, refl),
  optional_parts (called "set_size") (hyper (called "size")) (refl, refl) (assumption),
  time_how_parts (called "set_atime") (called "atime_sec") (called "atime_nsec") (refl, refl)
      (refl, refl)
      (refl, refl),
  time_how_parts (called "set_mtime") (called "mtime_sec") (called "mtime_nsec") (refl, refl)
      (refl, refl)
      (refl, refl),
)

guard_parts : AreProtocolParts guard
unfolding called
guard_parts =
    optional_parts (called "check") (time "ctime_sec" "ctime_nsec") (refl, refl)
    (time_parts (called "ctime_sec") (called "ctime_nsec") (refl, refl) (refl, refl))

results_parts : (done failed : Shape) → AreProtocolParts done → AreProtocolParts failed
    → AreProtocolParts (results done failed)
unfolding results called
results_parts done failed h k =
    (assumption, λ n. parts_if IsProtocolPart (nat_eq n 0) done failed h k)

dir_op_parts : AreProtocolParts dir_op
unfolding dir_op called
dir_op_parts = assumption handle_parts

mount_ok_parts : AreProtocolParts mount_ok
unfolding mount_ok flavor called
mount_ok_parts = assumption (
  handle_parts,
  counted_has_parts IsProtocolPart (called "flavors") no_maximum flavor (assumption) (assumption),
)

mounted_parts : AreProtocolParts mounted
unfolding mounted called
mounted_parts = assumption

export_parts : AreProtocolParts export
unfolding export group called
export_parts = assumption

-- ---- the parts of procedures that have a name

file_range_parts : AreProtocolParts file_range
unfolding file_range called
file_range_parts = assumption handle_parts

create_how_parts : AreProtocolParts create_how
unfolding create_how called
create_how_parts = (
  assumption,
  λ how.
      parts_if IsProtocolPart (nat_eq how 2) (fixed (called "createverf")) settable (assumption)
      settable_parts,
)

device_parts : AreProtocolParts device
unfolding device called
device_parts = assumption settable_parts

mknod_what_parts : AreProtocolParts mknod_what
unfolding mknod_what called
mknod_what_parts = (
  assumption,
  λ kind.
      parts_if IsProtocolPart (nat_eq kind 3 || nat_eq kind 4) device
      (if nat_eq kind 6 || nat_eq kind 7 then settable else nothing) device_parts
      (parts_if IsProtocolPart (nat_eq kind 6 || nat_eq kind 7) settable nothing settable_parts tt),
)

create_ok_parts : AreProtocolParts create_ok
unfolding create_ok
create_ok_parts = assumption (post_op_fh_parts, post_op_attr_parts, wcc_parts)

dirpath_parts : AreProtocolParts dirpath
unfolding dirpath called
dirpath_parts = assumption

mount_results_parts : AreProtocolParts mount_results
unfolding mount_results called
mount_results_parts =
    (assumption, λ n. parts_if IsProtocolPart (nat_eq n 0) mount_ok nothing mount_ok_parts tt)

-- ---- the table of procedures

abbrev pub IsProtocolRow : Layout → Type 0
IsProtocolRow layout = RowHasParts IsProtocolPart layout

-- the arguments and the results of one procedure
abbrev AreProtocolRows : Procedure → Type 0
AreProtocolRows row = AreProtocolParts row.1 × AreProtocolParts row.2

nfs_procedures_parts : AllByRecursion AreProtocolRows nfs_procedures
unfolding nfs_procedures entry entry_plus time_named called
nfs_procedures_parts =
    search (
      results_parts,
      handle_parts,
      attributes_parts,
      post_op_attr_parts,
      wcc_parts,
      post_op_fh_parts,
      settable_parts,
      guard_parts,
      dir_op_parts,
      file_range_parts,
      create_how_parts,
      mknod_what_parts,
      create_ok_parts,
    ) depth 60 fits 40000

mount_procedures_parts : AllByRecursion AreProtocolRows mount_procedures
unfolding mount_procedures called
mount_procedures_parts =
    search (dirpath_parts, mount_results_parts, mounted_parts, export_parts) depth 20

rest_parts : IsProtocolRow (remaining (called "rest"))
unfolding called
rest_parts = assumption

pub arguments_have_parts : (id : ProcId) → IsProtocolRow (arguments_of id)
unfolding arguments_of
arguments_have_parts id =
    layout_of_procedure AreProtocolRows IsProtocolRow (λ row. exactly row.1) (λ row h. h.0)
    nfs_procedures_parts mount_procedures_parts rest_parts id

pub results_have_parts : (id : ProcId) → IsProtocolRow (results_of id)
unfolding results_of
results_have_parts id =
    layout_of_procedure AreProtocolRows IsProtocolRow (λ row. exactly row.2) (λ row h. h.1)
    nfs_procedures_parts mount_procedures_parts rest_parts id

-- what follows the head of a reply
pub reply_has_parts : (id : ProcId) (items : List Item)
    → IsProtocolRow (if has_results items then results_of id else exactly nothing)
reply_has_parts id items =
    row_if IsProtocolPart (has_results items) (results_of id) (exactly nothing)
    (results_have_parts id) tt
