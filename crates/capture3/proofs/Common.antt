-- The names that most proofs of the crate cite, passed on from one place.
unfoldable pub use Rattle.procs3.specs.Table.{arguments_of, results_of}
pub use Rattle.record_mark.proofs.Joins.{joining_runs, record_stops, too_long_stops, join_leads}
pub use Rattle.record_mark.proofs.Machines.{Leads, Tells, after-append, after_stopped, counted_runs, counted_stops, last_running-append, leads_within, nested_runs, nested_stops, not_runs, only_stops, ran_before, ran_to, tells, Earlier, last_stopped, nested_last, runs_along}
pub use Rattle.record_mark.proofs.Words.{IsPart, Joins-snoc, word_leads, word_runs, word_stops, concat-snoc}
pub use Rattle.record_mark.specs.Joining.{Between, Bytes, Header, Joined, Joining, TooLong, Whole, join_next, EndsRecord, HasJoined}
pub use Rattle.record_mark.specs.Machine.{Ends, Goes, Next, Run, Runs, Stopped, Stops, after, landed, last_running, within}
pub use Rattle.record_mark.specs.RecordMark.{IsFragment, IsOpen, IsRecord, Marks, IsTooLong}
pub use Rattle.record_mark.specs.Taking.{IsRunning, IsWhole, Led, OutOfMemory, Taking, body_of, joined_body, joining_of, released}
pub use Rattle.record_mark.specs.Word.{IsWord, Joins, word_next}
unfoldable pub use Rattle.record_mark.specs.Word.{number}
pub use Rattle.record_mark.specs.WordPart.{bytes_so_far, TakesWord}
pub use Rattle.record_mark.specs.declared.word_part.WordPart.{WordPart}
pub use Rattle.rpc_head.specs.MessageStart.{start_items}
pub use Rattle.rpc_head.specs.Messages.{procedure_in}
unfoldable pub use Rattle.rpc_head.specs.Messages.{call_layout, start_of_type, reply_layout}
unfoldable pub use Rattle.rpc_head.specs.Shapes.{call_head, message_start, reply_head}
pub use Rattle.rpc_head.specs.declared.values.call.ProcId.{ProcId}
pub use Rattle.rpc_head.specs.declared.values.message_start.MessageStart.{MessageStart}
pub use Rattle.std.proofs.Common.{Bool, Err, IfOk, List, None, Ok, Option, Result, Some, [], add-one, ap, append-nil, append_assoc, ap₂, arith, cond, drop, eq-eqb, eqb-true, false, get_or, if◌then◌else◌, inl, inr, is_some, le-ltb, length, length-append, length-drop, length-take, lt-ltb, ltb-false, ltb-true, map, nat_eq, nat_lt, ne_eqb, refl, slice_range, subst, suc, sym, take, take-append-drop, take_all, true, vec_len, zero, ℕ, ◌%◌, ◌++◌, ◌+◌, ◌-◌, ◌<◌, ◌==◌, ◌∙◌, ◌∷◌, ◌≡◌, ◌≢◌, ◌≤◌, ◌⊎◌, IfErr, IsTrue, not, replicate, reverse, set, ⊎_elim, ◌*◌}
pub use Rattle.std.proofs.Math.Logic.{∥∥₁_elim}
pub use Rattle.std.proofs.Props.{props}
pub use Rattle.std.proofs.lemmas.Bool.{eqb-false, false≢true}
pub use Rattle.std.proofs.lemmas.Grind.{common_steps}
pub use Rattle.std.proofs.lemmas.List.{append_cancel_left, map-append}
pub use Rattle.std.proofs.lemmas.Option.{none-some, same_Some, slice_get_past}
pub use Rattle.std.specs.Int.{swap_bytes, w32, from_be_bytes, to_be_bytes, to_le_bytes}
pub use Rattle.std.specs.List.{concat, slice_get, list_any, position_or_len}
pub use Rattle.std.specs.Prelude.{unwrap_or}
pub use Rattle.std.specs.Result.{IsErrAnd, result_ok}
pub use Rattle.xdr3.proofs.Lemmas.Reading.Complete.{complete}
pub use Rattle.xdr3.proofs.Lemmas.Reading.Items.{length_of_spelling, Spells-split}
pub use Rattle.xdr3.proofs.Lemmas.Reading.Reasons.{IsOfItem, HasItemReason, refused_for, row_refused_for}
pub use Rattle.xdr3.proofs.Lemmas.Shapes.Layouts.{reads_whole, layout_decides}
pub use Rattle.xdr3.specs.Item.{AreBytes, Item, Spells, Word, called}
unfoldable pub use Rattle.xdr3.specs.Item.{followed_by}
pub use Rattle.xdr3.specs.Layout.{Layout, RefusesLayout, exactly, ReadsLayout, word_in}
unfoldable pub use Rattle.xdr3.specs.Layout.{reading_layout}
pub use Rattle.xdr3.specs.Reading.{refused, ◌>>=◌}
unfoldable pub use Rattle.xdr3.specs.Reading.{reading}
unfoldable pub use Rattle.xdr3.specs.Visit.{Adds}
pub use Rattle.xdr3.specs.declared.reason.GetError.{GetError}
pub use Rattle.xdr3.specs.declared.reason.Reason.{Reason}
pub use Rattle.xdr3.specs.declared.reason.Reason.TheVariants.{AfterEnd, BadEnum, BadMagic, BadMark, CaptureCut, NoCall, RecordCut, RecordTooLong, RpcVersion, Short, TooManyBytes, TooManyConnections, Trailing, WrongSide, XidConflict}
pub use Rattle.xdr3.specs.declared.reason.Stop.{Stop}
pub use Rattle.capture3.specs.Bodies.{ACall, AReply, AcceptsCall, AcceptsReply, BadCall, BadReply, IsCall, IsReply, LongCall, LongReply, OtherCall, ReplyItems, Starts, Unasked, procedure_of, xid_in, LeavesMore, RefusesCall, RefusesReply}
pub use Rattle.capture3.specs.BodyProgram.{agreed, agrees, all_of_body, answering, read_whole}
unfoldable pub use Rattle.capture3.specs.BodyProgram.{judge_call, judge_reply}
pub use Rattle.capture3.specs.Capture.{AreStreams, IsCapture, IsConnection, One, Two, Version, magic, max_connections, total_size}
pub use Rattle.capture3.specs.Chunks.{AreChunks, BeginsStream, IsChunk, IsStream, max_bytes, WithinChunk}
pub use Rattle.capture3.specs.ConnectionMachine.{Closes, Closing, InClient, InMixed, InServer, Opening, Refuses, ShownFault, after_client, conversing, ending, judge_replies, opened, opening_next, after_server, client_refusal, refusal, server_refusal, shown_with, turning, opening_entries}
pub use Rattle.capture3.specs.Connections.{BadSide, ConnectionShows, InCalls, InClientStream, InReplies, InServerStream, InTurnShows, MixedShows, NoLength, StreamsShow, TooMuch, calls_in_turn, replies_to}
pub use Rattle.capture3.specs.Entry.{End, Entry}
pub use Rattle.capture3.specs.FileMachine.{Parsing, concluded, digit, emitted, file_next, file_start, last_entries, magic_front, parsed, parsing_in, reached, verdict, verdict_of, marked}
pub use Rattle.capture3.specs.FirstFault.{AfterConnections, ByteAfterEnd, ConnectionIsTooMany, FirstFault, IsClean, MagicDiffers, MarkIsBad, Rule, Shows, WithinConnection}
pub use Rattle.capture3.specs.Laws.{AreWithinLimits, begins, most_bytes, HasItsPlace, HasOneVerdict, HaveSameEntries, IsCutShort, IsJudgedInTurn, IsJudgedOnce, IsOfVersion, IsWithinVersion, spelled}
pub use Rattle.capture3.specs.Reached.{AreFirstReached, AreWhole, BetweenConnections, InConnection, InMagic, EndsStreams, IsLongestClean, Opens, Reached, ReachesInside, StillReaches}
pub use Rattle.capture3.specs.Records.{AreMessages, CutsOpen, FirstRecordFault, Holds, HoldsSoFar, IsCut, Judgement, PassesLimit, RefusesRecord, StreamShows}
pub use Rattle.capture3.specs.SideMachine.{SideCloses, SideEnd, SideRefuses, Siding, fault_of_record, side_next, siding_from, siding_in, awaiting, closing, counted}
pub use Rattle.capture3.specs.SidedChunks.{AreMixed, BeginsMixed, IsSidedChunk, SidedChunk, Streams, carried_by, gathered, of_side, side_word, size, with_more, AfterSideWord, WithinSided}
pub use Rattle.capture3.specs.SidedChunksMachine.{MixedCloses, MixedEnd, MixedRefuses, Mixing, SideChunk, SideLength, SideWord, awaiting_side, measured, mixed_next, mixed_step, mixing_from, mixing_in, sided}
pub use Rattle.capture3.specs.Sides.{CutsRecord, PassesBytes, Position, ShowsRecord, SideShows, file_fault, place_at}
pub use Rattle.capture3.specs.StreamMachine.{Faulty, Held, Judge, Reading, RecordFault, StreamEnd, end_of, fault_at, judged, left_in, reading_with, recorded, rest_end, stream_end, stream_next, unread}
pub use Rattle.capture3.specs.Observed.{Gave, IsSpent, Observed}
pub use Rattle.capture3.specs.Typed.{Converses, HaveEntries, IsWellFormed, Typed, connection_entries, reply_entry, AnswerCalls, HaveOneProcedure, IsIn, IsRecordOf}
pub use Rattle.capture3.specs.declared.container.Container.{Container}
pub use Rattle.capture3.specs.declared.container.Cursor.{Cursor}
pub use Rattle.capture3.specs.declared.container.position.spot.Event.{Event}
pub use Rattle.capture3.specs.declared.container.position.spot.Event.TheVariants.{Begin, Close, Record, Turn}
pub use Rattle.capture3.specs.declared.container.position.spot.Spot.{Spot}
pub use Rattle.capture3.specs.declared.container.position.TheConstants.{MAGIC}
pub use Rattle.capture3.specs.declared.container.position.Transition.{Transition}
pub use Rattle.capture3.specs.declared.fault.Error.{Error}
pub use Rattle.capture3.specs.declared.fault.Fault.{Fault}
pub use Rattle.capture3.specs.declared.fault.Side.{Side}
pub use Rattle.capture3.specs.declared.fault.Side.TheVariants.{Client, Server}
pub use Rattle.capture3.specs.declared.message.calls.NumberedCall.{NumberedCall}
pub use Rattle.capture3.specs.declared.message.counting.XidCounting.{XidCounting}
pub use Rattle.capture3.specs.declared.message.scan.ScannedCall.{ScannedCall}
pub use Rattle.capture3.specs.declared.reader.entry.Kind.{Kind}
pub use Rattle.capture3.specs.machinery.Calls.{AreSame, Gains, Known, KnowsNone, Puts, at_home, known_in_list, lined, in_list, next_number, number_for, number_in, over, procedure_in_call, number_or}
pub use Rattle.capture3.specs.machinery.Container.{AreStored, Arrives, CanGoOn, FirstKept, InFirstKept, InNextKept, IsReady, Leaves, NextKept, Reaches, ShowsError, room_in, unpacking_in, unpacking_of}
pub use Rattle.capture3.specs.machinery.ContainerMachine.{Mark, Mixed, Unpacking, chunk_counted, connection_marked, fault_in_record, mixed_at, mixed_ended, mixed_on, unpack_next, unpacking_with, Has, Unpacked, at_byte, before_mark, begun_at, in_chunk, left_of_magic, record_joined}
unfoldable pub use Rattle.capture3.specs.machinery.Calls.{home_of}
pub use Rattle.capture3.specs.machinery.CountedCalls.{known_of}
pub use Rattle.capture3.specs.OpenXids.{open_xids, xid_of}
pub use Rattle.capture3.specs.Rank.{number_limit, rank, before, distinct, with_key, with_keys}
pub use Rattle.std.specs.Prelude.{min, IfSome, IsSome, ◌&&◌, ◌^◌, ◌||◌}
pub use Rattle.capture3.specs.machinery.EntriesHistory.{HasRead, StandsFor, entries_left}
pub use Rattle.capture3.specs.machinery.Pairing.{FailsAt, GoesTo, HasCome, HasNumber, IsHeld, StandsAt, StandsOrRecalls}
pub use Rattle.capture3.specs.machinery.FileStanding.{Agrees, EmitsOn, Judged, call_judged, client_entries, connection_begun, connection_closed, emitted_at, parsing_at, reply_judged, resumed, resumed_at, server_entries, turned, with_call, with_reply, AgreesOn, conversed}
pub use Rattle.capture3.specs.machinery.KeptStreams.{Recalls, ShowsFirst, between_records}
pub use Rattle.capture3.specs.machinery.Messages.{HasProcedures, IsTableOf, results_after, xids_in}
pub use Rattle.capture3.specs.machinery.Position.{IsBeforeMark, IsEndSpot, StoredWith, opened_at, unpacking_at, version_of, IsOfContainer, Lands, Moves, MovesFrom, ShowsFault, StepsFrom, StoredAt, cost_of, opened_word, room_of, word_read}
pub use Rattle.capture3.specs.machinery.Spelled.{SpellsCall, SpellsReply}
pub use Rattle.capture3.specs.declared.message.counted_calls.CountedCalls.{CountedCalls}
pub use Rattle.capture3.specs.declared.reader.pairing.Pairing.{Pairing}

-- the length of bytes in parts, for `omega`
pub joined_length : (front back : List ℕ) → length (front ++ back) ≡ length front + length back
joined_length = length-append

pub ruleset lengths = (arith, joined_length)

-- where the next connection's bytes begin, after its word 1
abbrev pub next_position : List ℕ → List Streams → Position
next_position front connections = record {
  connection = suc (length connections);
  start = length front + 4;
  before = total_size connections;
}

-- where a server stream's bytes begin, after those of the client stream, which carry `client`
abbrev pub server_position : Position → List ℕ → List ℕ → Position
server_position at front client =
    record at { start = at.start + length front; before = at.before + length client }
