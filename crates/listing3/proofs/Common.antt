-- The names that most proofs of the crate cite, passed on from one place. Declares nothing.
pub use Rattle.canon3.proofs.Lemmas.WellFormed.Conversations.{AreConversing, Conversation, IsSpelledCall, IsSpelledReply, all_in, length_of_record, of_all, reply_items, stream_of, weight}
pub use Rattle.canon3.proofs.Lemmas.WellFormed.Messages.{BeginsWithWord, FitsCall, FitsReply, call_begins, each_of_call, each_of_reply, is_headed_call, is_headed_reply, reply_begins}
pub use Rattle.canon3.proofs.Lemmas.Writing.SinkWritesLemmas.{TookUpTo, front_of_first, front_of_second}
pub use Rattle.canon3.specs.Parting.{connections, records_after}
pub use Rattle.canon3.specs.SinkWrites.{AppendsFront}
pub use Rattle.canon3.specs.HandleTable.{all_items}
pub use Rattle.capture3.specs.Bodies.{ReplyItems, xid_in}
pub use Rattle.capture3.specs.Entry.{Begin, Call, Close, End, Entry, Reply, Turn, items_of}
pub use Rattle.hex.specs.Hex.{decode_of, encode_lower, lower_digits}
unfoldable pub use Rattle.hex.specs.Hex.{encode_with}
pub use Rattle.rpc_head.specs.Messages.{procedure_in}
unfoldable pub use Rattle.xdr3.specs.Item.{called}
pub use Rattle.rpc_head.specs.declared.values.call.ProcId.{ProcId}
pub use Rattle.std.proofs.Common.{Bool, Err, List, None, Ok, Option, Result, Some, T, [], ap, append-nil, append_assoc, ap₂, arith, bytes_eq, codes, decimal, drop, drop-set-lt, eq-zero-or-pos, eqb, eqb→eq, false, get_or, inl, inr, length, length-drop, length-set, length-take-le, map, min, not, refl, rules, set, slice_index, subst, suc, sym, take, take-take, true, zero, ℕ, ⊎_elim, ◌%◌, ◌&&◌, ◌*◌, ◌++◌, ◌+◌, ◌-◌, ◌/◌, ◌<◌, ◌==◌, ◌^◌, ◌∙◌, ◌∷◌, ◌≡◌, ◌≢◌, ◌≤◌, ◌⊎◌}
pub use Rattle.std.proofs.KnownBytes.{Appends-nil, Appends-trans}
pub use Rattle.std.proofs.Math.Seq.{drop-append_seam, drop-drop, take-append-add, take-append_seam, take-length}
pub use Rattle.std.proofs.lemmas.Bool.{and_parts, cases_Bool, cases_lt, false≢true, leb-true}
pub use Rattle.std.proofs.lemmas.Fmt.{decimal_by_steps, decimal_digit, decimal_injective, decimal_step}
pub use Rattle.std.proofs.lemmas.Grind.{common_steps, flat_map-append}
pub use Rattle.std.proofs.lemmas.List.{drop-append-le, drop_all, drop_more, length-append, map-append, take-append-drop, take-append-le, take_all, take_more, take_more_set, take_rest}
pub use Rattle.std.proofs.lemmas.Result.{on_err_weaker, on_ok_weaker}
unfoldable pub use Rattle.std.specs.Fmt.{digits}
pub use Rattle.std.specs.Io.KnownBytes.{Appends}
pub use Rattle.std.specs.List.{All, AllByRecursion, flat_map, list_all}
pub use Rattle.std.specs.Prelude.{OnErr, OnOk, if◌then◌else◌, vec_len}
pub use Rattle.std.specs.Slice.Iter.{chunks_rest, chunks_size}
pub use Rattle.xdr3.proofs.Lemmas.Shapes.Walks.{adds_nothing, on_err}
pub use Rattle.xdr3.specs.Item.{AreBytes, Fixed, Handle, Hyper, Item, Kind, Opaque, Rest, Spells, SpellsItem, Text, Var, Word, WriteVerf, residue, word_bytes, zero_spelling}
pub use Rattle.xdr3.specs.Plain.{plain_item, run_items, run_size, width}
unfoldable pub use Rattle.xdr3.specs.Visit.{Adds, Keeps}
pub use Rattle.xdr3.specs.declared.plain.PlainField.{PlainField}
pub use Rattle.listing3.specs.Listing.{client, entry_line, is_plain, item_name, line, lines_after, message_text, named, opening, prefix, procedure_name, quoted, quoted_byte, server, shown, shown_item, shown_items, value_of}
pub use Rattle.listing3.specs.declared.line_writer.items_text.Gap.{Gap}
pub use Rattle.listing3.specs.declared.line_writer.items_text.ItemsText.{ItemsText}
pub use Rattle.listing3.specs.machinery.Fields.{HasShortName, field_name}
pub use Rattle.listing3.specs.machinery.Digits.{AreHalves, halves_in_order}
pub use Rattle.listing3.specs.machinery.ItemsText.{HasData, IsTextOfBody, IsWithin, TextStands, filled}
pub use Rattle.listing3.specs.machinery.LineWriter.{HasLineUnderWay, LineRests, LineStands, SkipsOthers, after_front, always, items_before}
pub use Rattle.listing3.specs.machinery.WritesText.{WritesText}
