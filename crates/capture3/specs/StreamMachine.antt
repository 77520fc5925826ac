-- The machine that reads a stream: the messages so far, and the record that it is in.
use Rattle.std.specs.Prelude.{ℕ, suc, List, [], ◌∷◌, ◌++◌, length, Result, Ok, Err}
use Rattle.xdr3.specs.declared.reason.Reason.{Reason}
use Rattle.xdr3.specs.declared.reason.Reason.TheVariants.{RecordCut, RecordTooLong}
use Rattle.xdr3.specs.declared.reason.Stop.{Stop}
use Rattle.record_mark.specs.Machine.{Next, Goes, Ends, Run, Runs, Stops, Stopped, after, last_running, within}
use Rattle.record_mark.specs.Joining.{Joining, Between, Header, Bytes, Joined, Whole, TooLong, join_next}

-- a place in a stream, records counted from 1, and the reason
pub record RecordFault : Type 0 where
  pub number : ℕ
  pub byte : ℕ
  pub reason : Reason

-- a fault in the record after these messages
abbrev pub fault_at : {M : Type 0} → List M → ℕ → Reason → RecordFault
fault_at messages byte reason =
    record { number = suc (length messages); byte = byte; reason = reason }

-- from the messages before and a body, the message, or where and why it is refused
abbrev pub Judge : Type 0 → Type 0
Judge Message = List Message → List ℕ → Result Message Stop

pub record Reading (M : Type 0) : Type 0 where
  pub messages : List M
  pub joining : Joining

-- after these messages, in a record
abbrev pub reading_with : {M : Type 0} → List M → Joining → Reading M
reading_with messages joining = record { messages = messages; joining = joining }

abbrev pub judged : {M : Type 0} → List M → Result M Stop → Next (Reading M) RecordFault
judged messages (Ok m) = Goes (reading_with (messages ++ m ∷ []) Between)
judged messages (Err stop) = Ends (fault_at messages stop.at stop.reason)

abbrev pub recorded : {M : Type 0} → Judge M → List M → Joined → Next (Reading M) RecordFault
recorded judge messages (Whole body) = judged messages (judge messages body)
recorded judge messages (TooLong at) = Ends (fault_at messages at RecordTooLong)

abbrev pub stream_next : {M : Type 0} → Judge M → Reading M → ℕ → Next (Reading M) RecordFault
stream_next judge s byte =
    within (reading_with s.messages) (recorded judge s.messages) (join_next s.joining byte)

abbrev pub unread : {M : Type 0} → Reading M
unread = reading_with [] Between

-- its messages, or the messages before its first fault
pub data StreamEnd (M : Type 0) : Type 0 where
  Held : (messages : List M) → StreamEnd M
  Faulty : (messages : List M) → RecordFault → StreamEnd M

-- the stream ends here
abbrev pub left_in : {M : Type 0} → List M → Joining → StreamEnd M
left_in messages Between = Held messages
left_in messages (Header body part) = Faulty messages (fault_at messages (length body) RecordCut)
left_in messages (Bytes body last left) =
    Faulty messages (fault_at messages (length body) RecordCut)

abbrev pub end_of : {M : Type 0} → List M → Run (Reading M) RecordFault → StreamEnd M
end_of messages (Runs s) = left_in s.messages s.joining
end_of messages (Stops fault) = Faulty messages fault
end_of messages (Stopped fault) = Faulty messages fault

-- what it says at a stream's end, from where it stands before the rest of the stream
abbrev pub rest_end : {M : Type 0} → Judge M → Reading M → List ℕ → StreamEnd M
rest_end judge s rest =
    end_of (last_running (stream_next judge) s rest).messages
    (after (stream_next judge) (Runs s) rest)

-- what it says of a whole stream
abbrev pub stream_end : {M : Type 0} → Judge M → List ℕ → StreamEnd M
stream_end judge stream = rest_end judge unread stream
