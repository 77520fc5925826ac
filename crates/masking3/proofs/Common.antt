-- The names that most proofs of the crate cite, passed on from one place. Declares nothing.
pub use Rattle.byteorder.specs.Endian.{big_bytes, big_number}
pub use Rattle.byteorder.specs.Numbers.{big_number-reads_back, length-bytes_high_first}
pub use Rattle.capture3.proofs.Lemmas.Connections.RankLemmas.{by_test, cond_either, length-with_keys}
pub use Rattle.canon3.proofs.Lemmas.Numbers.RankLemmas.{equivalence, member-append_cases, member-append_left, member-append_right, rank-append, rank-le-length, rank-map, rank_paired, same_rank}
pub use Rattle.canon3.proofs.Lemmas.Renaming.OneToOneLemmas.{Agree, agree-graph, graph, member-graph}
pub use Rattle.canon3.proofs.Lemmas.Renaming.RenamingLemmas.{all_mapped, all_weaker}
pub use Rattle.canon3.proofs.Lemmas.WellFormed.Conversations.{AreConversing, Conversation, IsSpelledCall, IsSpelledReply, in_map, items_of_reply, length_of_record, map_in, of_all, reply_items, stream_of, weight}
pub use Rattle.canon3.proofs.Lemmas.WellFormed.Files.{AreCapture, all_entries, all_of, entries_of, holds, total_of_anew, total_weight, typed_anew}
pub use Rattle.canon3.proofs.Lemmas.WellFormed.Items.{IsEach, are_bytes_of_number, length_of_opaque, zero_spelled_one}
pub use Rattle.canon3.proofs.Lemmas.WellFormed.Messages.{FitsCall, FitsReply, call_next, headed_call_fits, headed_reply_fits, is_headed_call, is_headed_reply, reply_next}
pub use Rattle.canon3.proofs.Lemmas.Writing.Visiting.{settled}
pub use Rattle.canon3.specs.Bytes.{bytes_of, chunk_bytes, entry_bytes, magic_before, record_bytes}
pub use Rattle.canon3.specs.HandleTable.{Gathers, HoldsHandles}
pub use Rattle.canon3.specs.Laws.{AreFirst, AreOfTheirBytes}
pub use Rattle.canon3.specs.OneToOne.{Member, OneToOne, Pairs, here, there}
pub use Rattle.capture3.specs.Rank.{before, distinct, number_limit, rank}
pub use Rattle.canon3.specs.Renaming.{IsPlain, Pairwise, Renames, RenamesItem, RenamesMessage, Same, begins, calls, closes, ended, ends, handle, message, more, none, plain, replies, turns}
pub use Rattle.canon3.specs.SinkWrites.{AppendsFront}
pub use Rattle.canon3.specs.Values.{handle_in, handles, handles_in}
pub use Rattle.canon3.proofs.Lemmas.Canonical.Growing.{are_some, magic_unless}
pub use Rattle.capture3.proofs.Lemmas.Container.BytesOf.{AreBytes-nil}
pub use Rattle.capture3.specs.Bodies.{ReplyItems, xid_in}
pub use Rattle.capture3.specs.Chunks.{max_bytes}
pub use Rattle.capture3.specs.Entry.{Begin, Call, Close, End, Entry, Reply, Turn, items_of}
pub use Rattle.capture3.specs.Typed.{AnswerCalls, HaveOneProcedure, IsIn, Typed, connection_entries, reply_entry}
pub use Rattle.capture3.specs.declared.fault.Side.{Side}
pub use Rattle.capture3.specs.declared.fault.Side.TheVariants.{Client, Server}
unfoldable pub use Rattle.xdr3.specs.Item.{called}
unfoldable pub use Rattle.procs3.specs.Table.{arguments_of, results_of}
pub use Rattle.rpc_head.specs.Messages.{has_results, procedure_in}
pub use Rattle.rpc_head.specs.Shapes.{versions}
unfoldable pub use Rattle.rpc_head.specs.Shapes.{accept, auth_sys, call_head, credential, deny, gids, parameters, reply_head, verifier}
pub use Rattle.rpc_head.specs.declared.values.call.ProcId.{ProcId}
pub use Rattle.std.proofs.Common.{Bool, List, OnErr, OnOk, [], ap, append-nil, append_assoc, ap₂, arith, drop, false, get_or-set_other, inl, inr, le-leb, length, length-append, ltb-true, map, min, nat_le, nat_lt, refl, replicate, slice_set, subst, suc, sym, true, zero, ℕ, ⊎_elim, ◌++◌, ◌+◌, ◌-◌, ◌<◌, ◌^◌, ◌∙◌, ◌∷◌, ◌≡◌, ◌≢◌, ◌≤◌, ◌⊎◌}
pub use Rattle.std.proofs.lemmas.Bool.{and_parts}
pub use Rattle.std.proofs.lemmas.Bool.Decides.{Decides-eqb}
pub use Rattle.std.proofs.lemmas.Grind.{flat_map-append}
pub use Rattle.std.proofs.lemmas.List.{length-map, length-replicate, map-append}
pub use Rattle.std.proofs.lemmas.Result.{on_err_weaker, on_ok_weaker}
pub use Rattle.std.proofs.lemmas.Slice.Eq.{bytes_eq-Decides}
pub use Rattle.std.specs.Io.KnownBytes.{Appends}
pub use Rattle.std.specs.List.{AllByRecursion, flat_map, list_all}
pub use Rattle.std.specs.Prelude.{IsTrue, None, Option, Some, bytes_eq, fold, get_or, if◌then◌else◌, nat_eq, not, ⊤, ◌&&◌, ◌==◌, ◌||◌}
pub use Rattle.xdr3.proofs.Lemmas.Shapes.ShapeParts.{HasParts, Part, counted_has_parts, fixed_part, hyper_part, opaque_part, parts_weaker, rest_part, size_part, word_part, write_verf_part}
pub use Rattle.xdr3.specs.Item.{AreBytes, Fixed, Handle, Hyper, Item, Opaque, Rest, Spells, SpellsItem, Text, Var, Word, WriteVerf, residue, word_bytes, zero_spelling, zero_spelling_of}
pub use Rattle.xdr3.specs.Layout.{FitsLayout, Layout, after, exactly, remaining, word_in}
pub use Rattle.xdr3.specs.Shape.{Fits, Shape, both, choose, fixed, hyper, is_listed, linked, links, nothing, opaque, sized, repeated, word_named, write_verf, ◌then◌}
pub use Rattle.xdr3.specs.Named.{listed, word}
unfoldable pub use Rattle.xdr3.specs.Visit.{Adds, Keeps}
pub use Rattle.masking3.specs.Classes.{class_of, class_of_fixed, class_of_hyper, class_of_word, class_value, classes, position, row, zero_stays}
pub use Rattle.masking3.specs.Laws.{HasRoomForNumbers, KeepsAll, MaskedBytesDecide, MaskedFormsDecide, MasksAsMuch, RevealsNoMore, StaysMasked}
pub use Rattle.masking3.specs.Masked.{by_way, is_zero_that_stays, masked, masked_bytes, masked_entry, masked_item, masked_items, masked_values, number_among, substitute, value_in, value_where, values, values_in, values_in_entry, with_value}
pub use Rattle.masking3.specs.SameBut.{AreAlike, ArePartners, ChangesBy, ChangesEntry, ChangesItem, ChangesItems, ChangesOf, IsNumbered, SameBut, SameButValues, along, begin, call, close, eights, end, hypers, over, reply, turn, words}
pub use Rattle.masking3.specs.Spots.{after_word, next_spot}
pub use Rattle.masking3.specs.Texts.{host_by, is_silly_name, silly_by, silly_zero, raw_by, text_by, with_text, zero_name}
pub use Rattle.masking3.specs.Unnamed.{after_first, emptied, less_by, named_by, named_call, named_entry, names_by, text_size, unnamed_credential, unnamed_items}
pub use Rattle.masking3.specs.Ways.{usual, way_of}
pub use Rattle.masking3.specs.declared.values.class.Class.{Class}
pub use Rattle.masking3.specs.declared.values.class.Class.TheVariants.{Machines, Owners, Raw, SillyNames, Times}
pub use Rattle.masking3.specs.declared.values.spot.ItemSpot.{ItemSpot}
pub use Rattle.masking3.specs.declared.values.spot.ItemSpot.TheVariants.{InCall, InDirectory, InReply, InWcc}
pub use Rattle.masking3.specs.declared.values.ways.Way.{Way}
pub use Rattle.masking3.specs.declared.values.ways.Way.TheVariants.{Keep, Number, Zero}
pub use Rattle.masking3.specs.declared.values.ways.Ways.{Ways}
pub use Rattle.masking3.specs.machinery.ClassTables.{HoldsAt, HoldsValues, no_values, with_one}
pub use Rattle.masking3.specs.machinery.MaskingWriter.{HasMaskedUnderWay, HasMemory, HasNoneUnderWay, HoldsMasked, MaskRests, MaskStands, after_messages, visited_entry, visited_item, visited_items, visited_value, values_so_far, written_as}
pub use Rattle.masking3.specs.machinery.MessageSpot.{BeginsOn, first_spot, mtype_of, side_by, spot_after}
pub use Rattle.masking3.specs.machinery.UnnamedBody.{body_by, has_name, head_less_by, name_room, unnamed_body}
