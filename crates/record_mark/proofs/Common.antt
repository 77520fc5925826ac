-- The names that most proofs of the crate cite, passed on from one place. Declares nothing.
pub use Rattle.std.proofs.Common.{Bool, List, [], ap, append-nil, append_assoc, ap₂, arith, cond, drop, false, inl, inr, length, length-append, length-take, nat_lt, refl, subst, suc, sym, take, true, zero, ℕ, ◌++◌, ◌+◌, ◌-◌, ◌<◌, ◌∙◌, ◌∷◌, ◌≡◌}
pub use Rattle.std.proofs.Math.Seq.{take-add}
pub use Rattle.std.proofs.lemmas.Grind.{common_steps}
pub use Rattle.std.specs.Int.{to_be_bytes, w32}
pub use Rattle.std.specs.List.{concat}
pub use Rattle.record_mark.specs.Joiner.{taking_of}
pub use Rattle.record_mark.specs.Joining.{Between, Bytes, EndsRecord, HasJoined, Header, Joined, Joining, TooLong, Whole, expecting, headed, join_next}
pub use Rattle.record_mark.specs.Machine.{Ends, Next, Run, Runs, Stopped, Stops, after, landed, step, within}
pub use Rattle.record_mark.specs.RecordMark.{HasBody, IsHeader, IsRecord, IsTooLong, IsUnfinished, max_body}
unfoldable pub use Rattle.record_mark.specs.RecordMark.{is_last, length_of}
pub use Rattle.record_mark.specs.Stage.{taking_at}
pub use Rattle.record_mark.specs.Taking.{HasTaken, IsRunning, IsWhole, Led, OutOfMemory, Taking, body_of, joined_body, joining_of, unbegun}
pub use Rattle.record_mark.specs.Word.{IsWord, Joins, word_next}
unfoldable pub use Rattle.record_mark.specs.Word.{number}
pub use Rattle.record_mark.specs.WordPart.{TakesWord}
pub use Rattle.record_mark.specs.machinery.TakingSteps.{led_on}
