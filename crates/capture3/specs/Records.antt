-- The stream of one side: records (RFC 5531, section 11), whose bodies are judged in turn.
use Rattle.std.specs.Prelude.{◌≡◌, ◌⊎◌, ℕ, List, [], ◌∷◌, ◌++◌, length}
use Rattle.xdr3.specs.declared.reason.Reason.TheVariants.{RecordCut, RecordTooLong}
use Rattle.xdr3.specs.declared.reason.Stop.{Stop}
use Rattle.record_mark.specs.RecordMark.{Marks, IsRecord, IsTooLong, IsOpen, IsUnfinished}

-- which messages bodies are, and where and why any other body is refused, after the messages of the
-- stream before it
pub record Judgement (M : Type 0) : Type 1 where
  pub accepts : List M → List ℕ → M → Type 0
  pub refuses : List M → List ℕ → Stop → Type 0

-- after the messages before, the bodies are these messages, one after another
abbrev pub AreMessages : {M : Type 0} → Judgement M → List M → List (List ℕ) → List M → Type 0
AreMessages {M} judge before [] messages = messages ≡ []
AreMessages {M} judge before (body ∷ bodies) messages = (m : M) × (rest : List M)
    × (messages ≡ m ∷ rest) × judge.accepts before body m
    × AreMessages judge (before ++ m ∷ []) bodies rest

-- the stream is whole records, and these are its messages
abbrev pub Holds : {M : Type 0} → Judgement M → List ℕ → List M → Type 0
Holds judge stream messages = (bodies : List (List ℕ)) × Marks stream bodies
    × AreMessages judge [] bodies messages

-- the stream is whole records with these messages, and then nothing or a record that is not whole
pub record HoldsSoFar {M : Type 0} (judge : Judgement M) (stream : List ℕ)
    (messages : List M) : Type 0 where
  pub front : List ℕ
  pub last : List ℕ
  pub body : List ℕ
  pub split : stream ≡ front ++ last
  pub holds : Holds judge front messages
  pub unfinished : IsUnfinished last body

-- after these messages the last byte of the stream shows that the next record stops so
pub data StreamShows {M : Type 0} (judge : Judgement M) (stream : List ℕ) (messages : List M)
    (stop : Stop) : Type 0 where
  -- it is the last of a record that is refused
  RefusesRecord : (front last body : List ℕ) → stream ≡ front ++ last → Holds judge front messages
      → IsRecord last body → judge.refuses messages body stop
      → StreamShows judge stream messages stop
  -- it is the last of a fragment header with which the body would pass the limit
  PassesLimit : (front last : List ℕ) → stream ≡ front ++ last → Holds judge front messages
      → IsTooLong last stop.at → stop.reason ≡ RecordTooLong
      → StreamShows judge stream messages stop

-- The stream ends while a record is open, after these messages: RecordCut, after as many bytes of
-- its body as have come.
pub data IsCut {M : Type 0} (judge : Judgement M) (stream : List ℕ) (messages : List M)
    (stop : Stop) : Type 0 where
  CutsOpen : (front last body : List ℕ) → stream ≡ front ++ last → Holds judge front messages
      → IsOpen last body → stop ≡ record { at = length body; reason = RecordCut }
      → IsCut judge stream messages stop

-- the first fault of a whole stream, after the messages of the records before it
abbrev pub FirstRecordFault : {M : Type 0} → Judgement M → List ℕ → List M → Stop → Type 0
FirstRecordFault judge stream messages stop =
    ((front : List ℕ) × (rest : List ℕ) × (stream ≡ front ++ rest)
    × StreamShows judge front messages stop)
    ⊎ IsCut judge stream messages stop
