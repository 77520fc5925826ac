-- The layouts of procedures, out of their table.
use Rattle.std.proofs.Common.{ℕ, zero, suc, Bool, true, false, List, [], ◌∷◌}
use Rattle.std.specs.Prelude.{◌==◌, ◌&&◌, get_or, if◌then◌else◌, map}
use Rattle.std.specs.List.{AllByRecursion}
use Rattle.xdr3.specs.Layout.{Layout, remaining}
use Rattle.rpc_head.specs.declared.values.call.ProcId.{ProcId}
use Rattle.xdr3.specs.Item.{called}
use Rattle.procs3.specs.Table.{Procedure, mount_procedures, nfs_procedures, procedures_of}

-- where P is so of each row, and Q of the layout of such a row and of all bytes that are left, Q is
-- so of the layout of each procedure
module _ (P : Procedure → Type 0) (Q : Layout → Type 0) (layout : Procedure → Layout)
    (each : (row : Procedure) → P row → Q (layout row)) where
  layout_of_row : (rows : List Procedure) (n : ℕ) → AllByRecursion P rows
      → Q (remaining (called "rest")) → Q (get_or (map layout rows) n (remaining (called "rest")))
  layout_of_row [] n all other = other
  layout_of_row (row ∷ rows) zero all other = each row all.0
  layout_of_row (row ∷ rows) (suc n) all other = layout_of_row rows n all.1 other

  rows_if : (b : Bool) (xs ys : List Procedure) → AllByRecursion P xs → AllByRecursion P ys
      → AllByRecursion P (if b then xs else ys)
  rows_if true xs ys h k = h
  rows_if false xs ys h k = k

  pub layout_of_procedure : AllByRecursion P nfs_procedures → AllByRecursion P mount_procedures
      → Q (remaining (called "rest")) → (id : ProcId)
      → Q (get_or (map layout (procedures_of id)) id.proc_no (remaining (called "rest")))
  layout_of_procedure nfs mount other id =
      layout_of_row (procedures_of id) id.proc_no
      (rows_if (id.prog == 100003 && id.vers == 3) nfs_procedures _ nfs
      (rows_if (id.prog == 100005 && id.vers == 3) mount_procedures [] mount tt)) other
