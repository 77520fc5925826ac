-- The names that most proofs of the crate cite, passed on from one place. Declares nothing.
unfoldable pub use Rattle.xdr3.specs.Item.{called}
pub use Rattle.xdr3.proofs.Lemmas.Reading.Within.{layout_given_within}
pub use Rattle.xdr3.proofs.Lemmas.Shapes.Layouts.{layout_is_read}
pub use Rattle.xdr3.proofs.Lemmas.Shapes.Walks.{next_adds_some, next_within, on_err, steps_add}
pub use Rattle.procs3.specs.Items.{args_items, results_items}
