-- A whole stream, with its messages or its first fault.
use Rattle.capture3.proofs.Common.{◌≡◌, inl, inr, ℕ, List, [], ◌∷◌, ◌++◌, length, refl, sym, ap, ◌∙◌, append_assoc, append-nil, Ok, Ends, Run, Runs, Stops, Stopped, after, landed, last_running, Joining, Between, Header, Bytes, Joined, Whole, TooLong, join_next, AreBytes, RecordTooLong, RecordCut, Judgement, Holds, IsOpen, Stop, RecordFault, fault_at, FirstRecordFault, RefusesRecord, PassesLimit, CutsOpen, record_stops, too_long_stops, Judge, Reading, judged, recorded, stream_next, unread, StreamEnd, Held, Faulty, left_in, end_of, rest_end, stream_end, reading_with, HasJoined, Tells, after-append, after_stopped, nested_last, nested_runs, nested_stops, last_running-append, last_stopped}
use Rattle.record_mark.proofs.Takings.{IsIn, open_in, opened}
use Rattle.capture3.proofs.Lemmas.Messages.BodyProgramLemmas.{Judged}
use Rattle.capture3.proofs.Lemmas.Sides.StreamMachineLemmas.{HasRead, ShowsFault, stream_leads, between_holds, nothing_read, held_runs, stream_runs}
use Rattle.capture3.proofs.Lemmas.Files.Telling.{tells_bytes}

-- ---- from a record's start on

-- what is said after bytes that the machine runs through is said of them all
pub rest_after : {M : Type 0} (judge : Judge M) (s t : Reading M) (front rest : List ℕ)
    → after (stream_next judge) (Runs s) front ≡ Runs t
    → rest_end judge s (front ++ rest) ≡ rest_end judge t rest
rest_after judge s t front rest runs =
    rw (last_running-append (stream_next judge) s t front rest runs, after-append, runs)

abbrev pub between : {M : Type 0} → List M → Reading M
between messages = reading_with messages Between

-- the next record is accepted
pub rest_accepts : {M : Type 0} (judge : Judge M) (messages : List M) (front rest body : List ℕ)
    (m : M) → after join_next (Runs Between) front ≡ Stops (Whole body)
    → judge messages body ≡ Ok m
    → rest_end judge (between messages) (front ++ rest)
    ≡ rest_end judge (between (messages ++ m ∷ [])) rest
rest_accepts judge messages front rest body m whole ok =
    rest_after judge (between messages) (between (messages ++ m ∷ [])) front rest
    (nested_stops join_next (stream_next judge) (reading_with messages)
    (recorded judge messages) (λ s byte. refl) front Between (Whole body) whole
    ∙ ap (λ r. landed (judged messages r)) ok)

-- it is refused, or too long
pub rest_refuses : {M : Type 0} (judge : Judge M) (messages : List M) (front rest : List ℕ)
    (x : Joined) (fault : RecordFault) → after join_next (Runs Between) front ≡ Stops x
    → recorded judge messages x ≡ Ends fault
    → rest_end judge (between messages) (front ++ rest) ≡ Faulty messages fault
rest_refuses {M} judge messages front rest x fault stops ends =
    rw (last_is, after-append, stop) (stays rest)
  where
    stop : after (stream_next judge) (Runs (between messages)) front ≡ Stops fault
    stop =
        nested_stops join_next (stream_next judge) (reading_with messages) (recorded judge messages)
        (λ s byte. refl) front Between x stops ∙ ap landed ends

    last_is : last_running (stream_next judge) (between messages) (front ++ rest)
        ≡ reading_with messages (last_running join_next Between front)
    last_is =
        last_stopped (stream_next judge) (between messages) front rest fault stop
        ∙ nested_last join_next (stream_next judge) (reading_with messages)
        (recorded judge messages) (λ s byte. refl) front Between x fault ends stops

    stays : (more : List ℕ)
        → end_of messages (after (stream_next judge) (Stops fault) more) ≡ Faulty messages fault
    stays [] = refl
    stays (byte ∷ more) = ap (end_of messages) (after_stopped (stream_next judge) fault more)

-- no record is whole any more
pub rest_leaves : {M : Type 0} (judge : Judge M) (messages : List M) (rest : List ℕ) (j : Joining)
    → after join_next (Runs Between) rest ≡ Runs j
    → rest_end judge (between messages) rest ≡ left_in messages j
rest_leaves judge messages rest j runs =
    rw (nested_runs join_next (stream_next judge) (reading_with messages) (recorded judge messages)
    (λ s byte. refl) rest Between j runs)

-- ---- a whole stream

-- what is said of a whole stream holds
abbrev pub EndsStream : {M : Type 0} → Judgement M → List ℕ → StreamEnd M → Type 0
EndsStream judge stream (Held messages) = Holds judge stream messages
EndsStream judge stream (Faulty messages fault) = (stop : Stop)
    × FirstRecordFault judge stream messages stop
    × (fault ≡ fault_at messages stop.at stop.reason)

stream_tells : {M : Type 0} (judge : Judged M) (stream : List ℕ) → AreBytes stream
    → Tells (HasRead judge.says) (ShowsFault judge.says) stream
    (after (stream_next judge.decide) (Runs unread) stream)
stream_tells judge =
    tells_bytes (stream_next judge.decide) (HasRead judge.says) (ShowsFault judge.says)
    (stream_leads judge) unread (nothing_read judge.says)

-- before a record at fault the messages are whole
last_after : {M : Type 0} (judge : Judged M) (front last rest : List ℕ) (messages : List M)
    (x : Joined) (fault : RecordFault) → Holds judge.says front messages
    → after join_next (Runs Between) last ≡ Stops x → recorded judge.decide messages x ≡ Ends fault
    → rest_end judge.decide unread (front ++ last ++ rest) ≡ Faulty messages fault
last_after judge front last rest messages x fault holds stops ends =
    ap (rest_end judge.decide unread) (append_assoc front last rest)
    ∙ rest_after judge.decide unread (between messages) front (last ++ rest)
    (held_runs judge front messages holds)
    ∙ rest_refuses judge.decide messages last rest x fault stops ends

pub stream_ends : {M : Type 0} (judge : Judged M) (stream : List ℕ) (x : StreamEnd M)
    → EndsStream judge.says stream x → stream_end judge.decide stream ≡ x
stream_ends judge stream (Held messages) h = rw (held_runs judge stream messages h)
stream_ends judge stream (Faulty messages fault) (
  stop,
  inl (before, rest, split, RefusesRecord front last body within holds whole refused),
  is,
) =
    rw (split, within, is) (last_after judge front last rest messages (Whole body)
    (fault_at messages stop.at stop.reason) holds (record_stops last body whole)
    (ap (judged messages) (judge.refuses messages body stop refused)))
stream_ends judge stream (Faulty messages fault) (
  stop,
  inl (before, rest, split, PassesLimit front last within holds long too_long),
  is,
) =
    rw (split, within, is, too_long) (last_after judge front last rest messages (TooLong stop.at)
    (fault_at messages stop.at RecordTooLong) holds (too_long_stops last stop.at long) refl)
stream_ends {M} judge stream (Faulty messages fault) (
  stop,
  inr (CutsOpen front last body split holds is_open cut),
  is,
) =
    let o = open_in last body is_open in
    let there = is ∙ ap (λ (s : Stop). fault_at messages s.at s.reason) cut in
    at_joining o.0 o.2 ∙ left_open o.0 o.1 ∙ ap (Faulty messages) (sym there)
  where
    at_joining : (j : Joining) → HasJoined last j
        → stream_end judge.decide stream ≡ left_in messages j
    at_joining j joined =
        rw (stream_runs judge stream (reading_with messages j)
        (record { front = front; last = last; split = split; holds = holds; joined = joined }))

    left_open : (j : Joining) → IsIn body j
        → left_in messages j ≡ Faulty messages (fault_at messages (length body) RecordCut)
    left_open Between h = absurd h
    left_open (Header other part) h = rw h refl
    left_open (Bytes other more left) h = rw h refl

-- in an open record
cut_open : {M : Type 0} (judge : Judgement M) (stream : List ℕ) (messages : List M)
    {joining : Joining} (body : List ℕ)
    → (h : HasRead judge stream (reading_with messages joining)) → IsOpen h.last body
    → EndsStream judge stream (Faulty messages (fault_at messages (length body) RecordCut))
cut_open judge stream messages body h is_open = (
  record { at = length body; reason = RecordCut },
  inr (CutsOpen h.front h.last body h.split h.holds is_open refl),
  refl,
)

left_ends : {M : Type 0} (judge : Judgement M) (stream : List ℕ) (messages : List M)
    (joining : Joining) → HasRead judge stream (reading_with messages joining)
    → EndsStream judge stream (left_in messages joining)
left_ends judge stream messages Between h = between_holds judge stream messages h
left_ends judge stream messages (Header body part) h =
    cut_open judge stream messages body h (opened h.last body (Header body part) refl h.joined)
left_ends judge stream messages (Bytes body last left) h =
    cut_open judge stream messages body h (opened h.last body (Bytes body last left) refl h.joined)

-- it ends in one way that holds
ends_somehow : {M : Type 0} (judge : Judged M) (stream : List ℕ) (run : Run (Reading M) RecordFault)
    → Tells (HasRead judge.says) (ShowsFault judge.says) stream run
    → (x : StreamEnd M) × EndsStream judge.says stream x
ends_somehow judge stream (Runs s) h =
    (left_in s.messages s.joining, left_ends judge.says stream s.messages s.joining h)
ends_somehow judge stream (Stops fault) h =
    (Faulty h.0 fault, (h.1, inl (stream, [], sym (append-nil stream), h.2), h.3))
ends_somehow judge stream (Stopped fault) h =
    let (messages, stop, shows, is) = h.ending in
    (Faulty messages fault, (stop, inl (h.front, h.byte ∷ h.back, h.split, shows), is))

pub ends_stream : {M : Type 0} (judge : Judged M) (stream : List ℕ) → AreBytes stream
    → EndsStream judge.says stream (stream_end judge.decide stream)
ends_stream judge stream are =
    let run = after (stream_next judge.decide) (Runs unread) stream in
    let e = ends_somehow judge stream run (stream_tells judge stream are) in
    rw (stream_ends judge stream e.0 e.1) e.1
