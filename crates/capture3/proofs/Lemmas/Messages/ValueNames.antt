-- The names that most proofs of the crate cite, passed on from one place. Declares nothing.
pub use Rattle.capture3.proofs.Lemmas.Messages.BodiesLemmas.{is_same_self, same_is, the_calls, the_replies}
pub use Rattle.capture3.proofs.Lemmas.Messages.MessageScanLemmas.{error_stops, stop_stops}
pub use Rattle.capture3.specs.Bodies.{IsCall, IsReply, procedure_of, xid_in}
unfoldable pub use Rattle.capture3.specs.BodyProgram.{judge_call, judge_reply}
unfoldable pub use Rattle.xdr3.specs.Item.{called}
pub use Rattle.rpc_head.specs.Calls.{call_head_items}
pub use Rattle.rpc_head.specs.Replies.{reply_head_items}
pub use Rattle.std.proofs.Common.{Bool, Err, IfErr, List, None, Ok, Result, Some, [], ap, append-nil, arith, cond, eq-eqb, length, refl, subst, sym, true, ℕ, ◌∙◌, ◌∷◌, ◌≡◌, ◌≢◌}
pub use Rattle.std.proofs.Math.Logic.{∥∥₁_elim}
pub use Rattle.std.proofs.lemmas.Bool.{false≢true}
pub use Rattle.xdr3.proofs.Lemmas.Reading.Within.{layout_given_within}
pub use Rattle.xdr3.proofs.Lemmas.Shapes.Layouts.{layout_is_read}
pub use Rattle.xdr3.proofs.Lemmas.Shapes.Walks.{next_adds_some, next_within, on_err, steps_add}
pub use Rattle.xdr3.specs.Item.{Item}
pub use Rattle.xdr3.specs.declared.reason.Reason.TheVariants.{WrongSide}
pub use Rattle.xdr3.specs.declared.reason.Stop.{Stop}
pub use mathlib.Core.HLevel.{⊥_prop}
pub use Rattle.procs3.specs.Items.{args_items, results_items}
pub use Rattle.capture3.specs.MessageValues.{call_items, is_success, items_after_head}
pub use Rattle.capture3.specs.declared.message.values.CallMsg.{CallMsg}
