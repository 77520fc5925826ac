-- Each shape of the protocol takes masked values: a word of a class takes any value, and chooses
-- nothing.
use Rattle.masking3.proofs.Common.{cond_either, ◌≡◌, ℕ, zero, suc, Bool, false, List, AllByRecursion, refl, ⊤, ◌||◌, IsTrue, bytes_eq, nat_eq, if◌then◌else◌, Option, None, Some, Item, Text, Layout, exactly, remaining, after, HasParts, Part, counted_has_parts, fixed_part, rest_part, opaque_part, ProcId, has_results, called, Side, Client, Server, Class, ItemSpot, InCall, class_of_word, Shape, ◌then◌, choose, repeated, hyper, linked, listed, nothing, both, sized, word, accept, auth_sys, call_head, credential, deny, gids, parameters, reply_head, verifier, arguments_of, results_of}
use Rattle.xdr3.specs.Shape.{array_named, optional_named}
use Rattle.nfs3_types.specs.Shapes.{attributes, dir_op, export, flavor, group, guard, handle, mount_ok, mounted, no_maximum, post_op_attr, post_op_fh, results, settable, time_how_named, time_named, wcc, wcc_attr}
use Rattle.procs3.specs.Shapes.{create_how, create_ok, device, dirpath, entry, entry_plus, file_range, mknod_what, mount_results}
use Rattle.procs3.specs.Table.{mount_procedures, nfs_procedures}
use Rattle.procs3.proofs.TableLemmas.{layout_of_procedure}
use Rattle.masking3.proofs.Lemmas.Classes.SpotLemmas.{IsOn}

-- ---- what is asked of a shape

-- a word of a class takes any value, and nothing follows that it chooses
abbrev pub TakesWord : Option Class → (ℕ → Bool) → (ℕ → Shape) → Type 0
TakesWord None accepted next = ⊤
TakesWord (Some class) accepted next =
    ((n : ℕ) → IsTrue (accepted n)) × ((n : ℕ) → next n ≡ nothing)

-- Eight bytes may have another length than masked ones, where they are not spelled, and so may a
-- text that is masked. The rest of a message is in no such part.
abbrev pub KeepsSize : Part → Type 0
KeepsSize (fixed_part name) = ⊥
KeepsSize (rest_part name) = ⊥
KeepsSize (opaque_part Text name max) =
    (bytes_eq name (called "name") ≡ false) × (bytes_eq name (called "hostname") ≡ false)
KeepsSize _ = ⊤

abbrev pub TakesMasks : ItemSpot → Shape → Type 0
TakesMasks spot (choose name accepted reason next) =
    TakesWord (class_of_word spot name) accepted next × ((n : ℕ) → TakesMasks spot (next n))
TakesMasks spot (both a b) = TakesMasks spot a × TakesMasks spot b
TakesMasks spot (linked name s) = (class_of_word spot name ≡ None) × TakesMasks spot s
TakesMasks spot (sized name s) =
    (class_of_word spot name ≡ None) × HasParts KeepsSize s × TakesMasks spot s
TakesMasks spot _ = ⊤

abbrev pub RowTakesMasks : ItemSpot → Layout → Type 0
RowTakesMasks spot (exactly s) = TakesMasks spot s
RowTakesMasks spot (remaining name) = ⊤
RowTakesMasks spot (after s next) = ⊥

-- a count of links has a class at some spots
attributes_at : (spot : ItemSpot) → TakesMasks spot attributes
unfolding attributes time_named called
attributes_at InCall = assumption
attributes_at _ = assumption

-- at any spot
module _ (spot : ItemSpot) where
  -- ---- parts

  optional_takes : (name : List ℕ) (s : Shape) → class_of_word spot name ≡ None → TakesMasks spot s
      → TakesMasks spot (optional_named name s)
  unfolding optional_named
  optional_takes name s w h = (rw w tt, λ n. cond_either (TakesMasks spot) (nat_eq n 0) tt h)

  times_take : (n : ℕ) (s : Shape) → TakesMasks spot s → TakesMasks spot (repeated n s)
  times_take zero s h = tt
  times_take (suc n) s h = (h, times_take n s h)

  counted_takes : (name : List ℕ) (max : ℕ) (s : Shape) → class_of_word spot name ≡ None
      → TakesMasks spot s → TakesMasks spot (array_named name max s)
  unfolding array_named
  counted_takes name max s w h = (rw w tt, λ n. times_take n s h)

  post_op_attr_takes : TakesMasks spot post_op_attr
  unfolding post_op_attr called
  post_op_attr_takes = optional_takes (called "attr") attributes refl (attributes_at spot)

  wcc_takes : TakesMasks spot wcc
  unfolding wcc wcc_attr time_named called
  wcc_takes = (optional_takes (called "before") wcc_attr refl (assumption), post_op_attr_takes)

  post_op_fh_takes : TakesMasks spot post_op_fh
  unfolding post_op_fh handle called
  post_op_fh_takes = optional_takes (called "handle") handle refl tt

  time_how_takes : (name sec nsec : List ℕ) → class_of_word spot name ≡ None
      → TakesMasks spot (time_named sec nsec)
      → TakesMasks spot (time_how_named name sec nsec)
  unfolding time_how_named
  time_how_takes name sec nsec w h =
      (rw w tt, λ how. cond_either (TakesMasks spot) (nat_eq how 2) h tt)

  settable_takes : TakesMasks spot settable
  unfolding settable time_named called
  settable_takes = assumption (
    optional_takes (called "set_mode") (word "mode") refl (assumption),
    optional_takes (called "set_uid") (word "uid") refl (assumption),
    optional_takes (called "set_gid") (word "gid") refl (assumption),
    optional_takes (called "set_size") (hyper (called "size")) refl tt,
    time_how_takes (called "set_atime") (called "atime_sec") (called "atime_nsec") refl
        (assumption),
    time_how_takes (called "set_mtime") (called "mtime_sec") (called "mtime_nsec") refl
        (assumption),
  )

  create_how_takes : TakesMasks spot create_how
  unfolding create_how called
  create_how_takes =
      (tt, λ how. cond_either (TakesMasks spot) (nat_eq how 2) tt settable_takes)

  mknod_what_takes : TakesMasks spot mknod_what
  unfolding device mknod_what called
  mknod_what_takes = (
    tt,
    λ kind.
        cond_either (TakesMasks spot) (nat_eq kind 3 || nat_eq kind 4) (assumption settable_takes)
        (cond_either (TakesMasks spot) (nat_eq kind 6 || nat_eq kind 7) settable_takes tt),
  )

  -- ---- the table of procedures

  nfs_arguments_take : AllByRecursion (λ row. TakesMasks spot row.1) nfs_procedures
  unfolding nfs_procedures dir_op file_range handle called time_named
  nfs_arguments_take =
      let guarded : TakesMasks spot guard =
      optional_takes (called "check") (time_named (called "ctime_sec") (called "ctime_nsec")) refl
      (assumption) in
      search (settable_takes, create_how_takes, mknod_what_takes) depth 40 fits 10000

  mount_arguments_take : AllByRecursion (λ row. TakesMasks spot row.1) mount_procedures
  unfolding mount_procedures dirpath
  mount_arguments_take = assumption

  pub arguments_take : (id : ProcId) → RowTakesMasks spot (arguments_of id)
  unfolding arguments_of
  arguments_take id =
      layout_of_procedure (λ row. TakesMasks spot row.1) (RowTakesMasks spot)
      (λ row. exactly row.1) (λ row h. h) nfs_arguments_take mount_arguments_take tt id

  results_take : (done failed : Shape) → TakesMasks spot done → TakesMasks spot failed
      → TakesMasks spot (results done failed)
  unfolding results called
  results_take done failed h k = (tt, λ n. cond_either (TakesMasks spot) (nat_eq n 0) h k)

  nfs_results_take : AllByRecursion (λ row. TakesMasks spot row.2) nfs_procedures
  unfolding nfs_procedures create_ok entry entry_plus handle called time_named
  nfs_results_take =
      search (results_take, attributes_at, post_op_fh_takes, post_op_attr_takes, wcc_takes)
      depth 40 fits 10000

  -- ---- heads

  verifier_takes : TakesMasks spot verifier
  unfolding verifier called
  verifier_takes = assumption

  pub reply_head_takes : TakesMasks spot reply_head
  unfolding reply_head accept deny called
  reply_head_takes = (
    tt,
    λ n.
        cond_either (TakesMasks spot) (nat_eq n 0)
        (verifier_takes, (tt, λ m. cond_either (TakesMasks spot) (nat_eq m 2) (assumption) tt))
        (tt, λ m. cond_either (TakesMasks spot) (nat_eq m 0) (assumption) (assumption)),
  )

  pub mtype_takes : (types : List ℕ) → TakesMasks spot (listed "mtype" types)
  unfolding called
  mtype_takes types = assumption

-- ---- a group of a credential has a class

credential_takes : TakesMasks InCall credential
unfolding credential auth_sys parameters gids called
credential_takes =
    let groups = counted_takes InCall (called "gids") 16 (word "group") refl (assumption) in
    let size = counted_has_parts KeepsSize (called "gids") 16 (word "group") tt (assumption) in
    (tt, λ n. cond_either (TakesMasks InCall) (nat_eq n 0) tt (assumption (groups, size)))

-- ---- a word for another group of an export has none

exports_at : (spot : ItemSpot) → IsOn Server spot
    → TakesMasks spot (linked (called "entry") export)
unfolding export group called
exports_at InCall on = absurd on
exports_at _ on = assumption

module _ (spot : ItemSpot) (on : IsOn Server spot) where
  mount_results_take : AllByRecursion (λ row. TakesMasks spot row.2) mount_procedures
  unfolding flavor handle called mount_ok mount_procedures mount_results mounted
  mount_results_take =
      let found : TakesMasks spot mount_results = (
        tt,
        λ k. cond_either (TakesMasks spot) (nat_eq k 0)
            (assumption
            (counted_takes spot (called "flavors") no_maximum flavor (search) (assumption))) tt,
      ) in
      search (exports_at spot on) depth 20 fits 5000

  -- what follows the head of a reply
  pub reply_takes : (id : ProcId) (items : List Item)
      → RowTakesMasks spot (if has_results items then results_of id else exactly nothing)
  unfolding results_of
  reply_takes id items =
      cond_either (RowTakesMasks spot) (has_results items)
      (layout_of_procedure (λ row. TakesMasks spot row.2) (RowTakesMasks spot)
      (λ row. exactly row.2) (λ row h. h) (nfs_results_take spot) mount_results_take tt id) tt

-- ---- at each spot of a side

abbrev pub TakesOn : Side → Shape → Type 0
TakesOn side s = (spot : ItemSpot) → IsOn side spot → TakesMasks spot s

abbrev pub RowTakesOn : Side → Layout → Type 0
RowTakesOn side layout = (spot : ItemSpot) → IsOn side spot → RowTakesMasks spot layout

pub call_head_takes : TakesOn Client call_head
unfolding call_head called
call_head_takes InCall on = assumption (credential_takes, verifier_takes InCall)
call_head_takes _ on = absurd on
