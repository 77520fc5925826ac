-- The names that most proofs of the crate cite, passed on from one place. Declares nothing.
pub use Rattle.byteorder.specs.Endian.{big_bytes, big_number}
pub use Rattle.capture3.proofs.Lemmas.Container.BytesOf.{AreBytes-append, AreBytes-nil, checked}
pub use Rattle.capture3.proofs.Lemmas.Reached.EmittedEntries.{reached_by_machine}
pub use Rattle.capture3.proofs.Lemmas.Reader.PassedOn.{error_is}
pub use Rattle.capture3.proofs.Lemmas.Reader.ObservedLemmas.{IsPrefixOf, gave_none, gave_on, prefix_of_kept, prefix_of_observed, shown_of_all}
pub use Rattle.capture3.specs.Bodies.{IsCall, IsReply, ReplyItems, xid_in}
pub use Rattle.capture3.specs.Capture.{One, magic}
pub use Rattle.capture3.specs.Chunks.{max_bytes}
pub use Rattle.capture3.specs.Entries.{IsMetBy, failure_of, loan_of, source_of}
pub use Rattle.capture3.specs.Entry.{Begin, Call, Close, End, Entry, Reply, Turn, items_of}
pub use Rattle.capture3.specs.machinery.Stepping.{IsOfKind}
pub use Rattle.capture3.specs.Laws.{most_entries}
pub use Rattle.capture3.specs.Reached.{AreFirstReached, Reached}
pub use Rattle.capture3.specs.SidedChunks.{Streams, size}
pub use Rattle.capture3.specs.Observed.{Gave, Observed}
pub use Rattle.capture3.specs.Typed.{AnswerCalls, Converses, HaveEntries, HaveOneProcedure, IsIn, IsRecordOf, Typed, connection_entries, reply_entry}
pub use Rattle.capture3.specs.declared.fault.Error.{Error}
pub use Rattle.capture3.specs.declared.fault.Place.{Place}
pub use Rattle.capture3.specs.declared.fault.Side.{Side}
pub use Rattle.capture3.specs.declared.fault.Side.TheVariants.{Client, Server}
pub use Rattle.capture3.specs.declared.reader.entries.Entries.{Entries}
pub use Rattle.capture3.specs.declared.reader.entry.LentEntry.{LentEntry}
pub use Rattle.capture3.specs.declared.reader.entry.Kind.{Kind}
pub use Rattle.capture3.specs.machinery.EntriesHistory.{StandsFor, entries_left}
pub use Rattle.nfs3_types.specs.Handle.{handle_bytes}
pub use Rattle.patches.specs.Patches.{Makes, Noted}
unfoldable pub use Rattle.procs3.specs.Table.{arguments_of, results_of}
pub use Rattle.record_mark.proofs.Steps.{IsWord-big_bytes}
pub use Rattle.record_mark.specs.RecordMark.{max_body}
pub use Rattle.record_mark.specs.Word.{Joins}
unfoldable pub use Rattle.rpc_head.specs.Messages.{call_layout, start_of_type, reply_layout}
unfoldable pub use Rattle.rpc_head.specs.Shapes.{call_head, reply_head}
pub use Rattle.rpc_head.specs.declared.values.call.ProcId.{ProcId}
pub use Rattle.std.proofs.Common.{Bool, Err, List, None, Ok, Option, Result, Some, [], ap, append-nil, append_assoc, ap₂, arith, cond, drop, false, inl, inr, length, length-append, length-drop, length-take, map, min, refl, replicate, rules, subst, suc, sym, take, take-append-drop, true, zero, ℕ, ⊎_elim, ◌++◌, ◌+◌, ◌-◌, ◌<◌, ◌^◌, ◌||◌, ◌↔◌, ◌∙◌, ◌∷◌, ◌≡◌, ◌≢◌, ◌≤◌, ◌⊎◌}
pub use Rattle.std.proofs.KnownBytes.{Appends-nil, Appends-trans}
pub use Rattle.std.proofs.lemmas.Bool.{cases_lt}
pub use Rattle.std.proofs.lemmas.Bool.Decides.{Decides-eqb}
pub use Rattle.std.proofs.lemmas.Grind.{common_steps, flat_map-append}
pub use Rattle.std.proofs.lemmas.List.{map-append, take_all, take_at}
pub use Rattle.std.proofs.lemmas.Option.{slice_get_past}
pub use Rattle.std.proofs.lemmas.Result.{on_ok_weaker}
pub use Rattle.std.proofs.lemmas.Slice.Eq.{bytes_eq-Decides}
pub use Rattle.std.specs.Bool.{Decides}
pub use Rattle.std.specs.Io.KnownBytes.{Appends}
pub use Rattle.std.specs.List.{AllByRecursion, flat_map, list_any, position_or_len}
pub use Rattle.std.specs.Prelude.{OnOk, bytes_eq, if◌then◌else◌, nat_eq, slice_get, ⊤, ◌==◌}
pub use Rattle.xdr3.proofs.Lemmas.Reading.Decided.{zero_spelled_all}
pub use Rattle.xdr3.proofs.Lemmas.Reading.Items.{length_of_spelling}
pub use Rattle.xdr3.specs.Item.{AreBytes, Fixed, Handle, Hyper, Item, Opaque, Rest, Spells, SpellsItem, Word, WriteVerf, residue, word_bytes, zero_spelling, zero_spelling_of}
pub use Rattle.xdr3.specs.Plain.{run_items, run_size}
unfoldable pub use Rattle.xdr3.specs.Visit.{Adds}
pub use Rattle.xdr3.specs.declared.plain.PlainField.{PlainField}
pub use Rattle.canon3.specs.Bytes.{bytes_of, chunk_bytes, entry_bytes, message_bytes, record_bytes}
pub use Rattle.canon3.specs.Canonical.{canonical, numbered, numbered_item, numbered_message}
pub use Rattle.canon3.specs.CanonicalStream.{entries_after, items_after, message_after}
pub use Rattle.capture3.specs.Numbering.{IsLentAfter}
pub use Rattle.canon3.specs.HandleTable.{Gathers, HoldsHandles, same_handle}
pub use Rattle.canon3.specs.Laws.{AreFirst}
pub use Rattle.canon3.specs.OneToOne.{IsHandle, IsVerifier, IsXid, Member, Pairs, here, there}
pub use Rattle.canon3.specs.Parting.{IsMessageOf, IsPlaceOf, Parting, PartsAt, connections, first_ends, first_message, next_record, second_ends, second_message}
pub use Rattle.capture3.specs.Progress.{HasPassed}
pub use Rattle.capture3.specs.Rank.{HoldsDistinct, distinct, number_limit, rank, with_key}
pub use Rattle.canon3.specs.Renaming.{IsPlain, Pairwise, Renames, RenamesItem, RenamesMessage, Same, begins, calls, closes, ended, ends, handle, message, more, none, plain, replies, turns, verifier}
pub use Rattle.canon3.specs.SinkWrites.{AppendsFront}
pub use Rattle.canon3.specs.Summary.{AreMessageCounts, IsSummary}
pub use Rattle.capture3.specs.OpenXids.{xid_of}
pub use Rattle.canon3.specs.Values.{call_xids, handle_in, handles, handles_in, verifier_in, verifiers, verifiers_in}
pub use Rattle.canon3.specs.declared.canonical_form.message_writer.MessageWriter.{MessageWriter}
pub use Rattle.canon3.specs.declared.comparison.verdict.SameError.{SameError}
pub use Rattle.capture3.specs.declared.reader.progress.Progress.{Progress}
pub use Rattle.canon3.specs.declared.summary.Summary.{Summary}
pub use Rattle.canon3.specs.machinery.ComparisonSteps.{Agree, PartWith}
pub use Rattle.canon3.specs.machinery.MessageWriter.{AreFew, Before, HoldsBefore, IsGoing, IsNotedAs, IsWithinMessage, WriterRests, WriterStands, items_of_writer, values_before, values_of}
pub use Rattle.capture3.specs.OpenXids.{open_xids}
pub use Rattle.canon3.specs.machinery.ProgressSteps.{place_from}
pub use Rattle.canon3.specs.machinery.Spelling.{HasSpelled, bytes_after, spelling_of}
pub use Rattle.canon3.specs.HandleTable.{all_items}
