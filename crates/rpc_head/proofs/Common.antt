-- The names that most proofs of the crate cite, passed on from one place. Declares nothing.
pub use Rattle.byteorder.specs.Endian.{big_number}
pub use Rattle.std.proofs.Common.{Bool, Err, List, Ok, Result, [], ap, arith, cond, false, length, refl, replicate, rules, subst, sym, take, true, ℕ, ◌*◌, ◌++◌, ◌+◌, ◌<◌, ◌∙◌, ◌∷◌, ◌≡◌, ◌≤◌}
pub use Rattle.std.proofs.lemmas.Bool.{cases_lt, lt-ltb, ne_eqb}
pub use Rattle.std.specs.List.{flat_map}
pub use Rattle.std.specs.Prelude.{IfErr, OnOk}
pub use Rattle.xdr3.proofs.Lemmas.Reading.Sound.{sound}
pub use Rattle.xdr3.proofs.Lemmas.Scans.ScanLemmas.{moves_both}
pub use Rattle.xdr3.proofs.Lemmas.Shapes.Walks.{adds_joined, next_adds_some, on_err, steps_add}
pub use Rattle.xdr3.specs.Item.{AreBytes, Item, Word}
unfoldable pub use Rattle.xdr3.specs.Layout.{reading_layout}
pub use Rattle.xdr3.specs.Reading.{number_at, refused, run_at, word_at, ◌>>=◌}
unfoldable pub use Rattle.xdr3.specs.Reading.{reading}
unfoldable pub use Rattle.xdr3.specs.Scan.{Scans, Stops}
pub use Rattle.xdr3.specs.Shape.{Shape, choose, is_any, is_listed, nothing, word_named, ◌then◌}
pub use Rattle.xdr3.specs.Named.{word}
pub use Rattle.xdr3.specs.View.{MovesOn, View}
pub use Rattle.xdr3.specs.Visit.{Adds}
unfoldable pub use Rattle.xdr3.specs.Visit.{AreWithinLimit}
pub use Rattle.xdr3.specs.declared.reason.GetError.{GetError}
pub use Rattle.xdr3.specs.declared.reason.Reason.TheVariants.{BadEnum, Flavor, RpcVersion, Short}
pub use Rattle.xdr3.specs.declared.reason.Stop.{Stop}
pub use Rattle.rpc_head.specs.Groups.{count_items, group_items}
pub use Rattle.rpc_head.specs.MessageStart.{start_items}
unfoldable pub use Rattle.rpc_head.specs.Messages.{call_layout, start_of_type, reply_layout}
unfoldable pub use Rattle.xdr3.specs.Item.{called}
unfoldable pub use Rattle.rpc_head.specs.Shapes.{accept, deny, gids, message_start, reply_head, verifier}
pub use Rattle.rpc_head.specs.declared.scans.call.Opening.{Opening}
pub use Rattle.rpc_head.specs.declared.values.message_start.MessageStart.{MessageStart}
pub use Rattle.rpc_head.specs.machinery.HeadRuns.{short_after}
