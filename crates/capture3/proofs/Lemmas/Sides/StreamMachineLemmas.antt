-- The machine for a stream against records and messages.
use Rattle.capture3.proofs.Common.{◌≡◌, ℕ, List, [], ◌∷◌, ◌++◌, refl, sym, ap, subst, ◌∙◌, append_assoc, append-nil, Result, Ok, Err, Run, Runs, Stops, landed, after, Leads, leads_within, after-append, nested_runs, nested_stops, Joins-snoc, AreBytes, Stop, Reading, judged, recorded, stream_next, unread, joined_body, reading_with, IsRecord, Marks, Joining, Between, Joined, Whole, TooLong, join_next, HasJoined, EndsRecord, join_leads, record_stops, joining_runs, Judgement, AreMessages, Holds, HoldsSoFar, RecordFault, RecordTooLong, fault_at, RefusesRecord, PassesLimit, StreamShows, too_long_stops}
use Rattle.record_mark.proofs.Takings.{standing, unfinished}
use Rattle.capture3.proofs.Lemmas.Container.BytesOf.{split_bytes, record_bytes}
use Rattle.capture3.proofs.Lemmas.Messages.BodyProgramLemmas.{Judged}

-- the stream so far is whole records, and then what has come of the next
pub record HasRead {M : Type 0} (judge : Judgement M) (stream : List ℕ) (s : Reading M) : Type
    0 where
  pub front : List ℕ
  pub last : List ℕ
  pub split : stream ≡ front ++ last
  pub holds : Holds judge front s.messages
  pub joined : HasJoined last s.joining

-- the last byte of the stream shows this fault, after some messages
abbrev pub ShowsFault : {M : Type 0} → Judgement M → List ℕ → RecordFault → Type 0
ShowsFault {M} judge stream fault = (messages : List M) × (stop : Stop)
    × StreamShows judge stream messages stop × (fault ≡ fault_at messages stop.at stop.reason)

-- the machine from a state on
abbrev pub stream_after : {M : Type 0} → Judged M → Reading M → List ℕ → Run (Reading M) RecordFault
stream_after judge s = after (stream_next judge.decide) (Runs s)

AreMessages-snoc : {M : Type 0} (judge : Judgement M) (bodies : List (List ℕ))
    (before messages : List M) (body : List ℕ) (m : M)
    → AreMessages judge before bodies messages → judge.accepts (before ++ messages) body m
    → AreMessages judge before (bodies ++ body ∷ []) (messages ++ m ∷ [])
AreMessages-snoc judge [] before messages body m h e = (
  m,
  [],
  ap (λ ms. ms ++ m ∷ []) h,
  subst (λ ms. judge.accepts ms body m) (ap (λ ms. before ++ ms) h ∙ append-nil before) e,
  refl,
)
AreMessages-snoc judge (b ∷ bodies) before messages body m h e = (
  h.0,
  h.1 ++ m ∷ [],
  ap (λ ms. ms ++ m ∷ []) h.2,
  h.3,
  AreMessages-snoc judge bodies (before ++ h.0 ∷ []) h.1 body m h.4
      (rw (← (ap (λ ms. before ++ ms) h.2 ∙ sym (append_assoc before (h.0 ∷ []) h.1))) e),
)

-- one record more
Holds-snoc : {M : Type 0} (judge : Judgement M) (front last : List ℕ) (messages : List M)
    (body : List ℕ) (m : M) → Holds judge front messages → IsRecord last body
    → judge.accepts messages body m → Holds judge (front ++ last) (messages ++ m ∷ [])
Holds-snoc judge front last messages body m h whole e = (
  h.0 ++ body ∷ [],
  Joins-snoc IsRecord h.0 front last body h.1 whole,
  AreMessages-snoc judge h.0 [] messages body m h.2 e,
)

judged_leads : {M : Type 0} (judge : Judged M) (stream front last : List ℕ) (messages : List M)
    (body : List ℕ) → AreBytes body → stream ≡ front ++ last → Holds judge.says front messages
    → IsRecord last body → (r : Result M Stop) → judge.decide messages body ≡ r
    → Leads (HasRead judge.says) (ShowsFault judge.says) stream (judged messages r)
judged_leads judge stream front last messages body are split holds whole (Ok m) e =
    record {
      front = stream;
      last = [];
      split = sym (append-nil stream);
      joined = refl;
      holds =
          rw split (Holds-snoc judge.says front last messages body m holds whole
          (judge.accepted messages body m are e));
    }
judged_leads judge stream front last messages body are split holds whole (Err stop) e = (
  messages,
  stop,
  RefusesRecord front last body split holds whole (judge.refused messages body stop are e),
  refl,
)

recorded_leads : {M : Type 0} (judge : Judged M) (stream front last : List ℕ) (messages : List M)
    → AreBytes last → stream ≡ front ++ last → Holds judge.says front messages → (x : Joined)
    → EndsRecord last x
    → Leads (HasRead judge.says) (ShowsFault judge.says) stream (recorded judge.decide messages x)
recorded_leads judge stream front last messages are split holds (Whole body) h =
    judged_leads judge stream front last messages body (record_bytes last body h are) split holds h
    (judge.decide messages body) refl
recorded_leads judge stream front last messages are split holds (TooLong at) h = (
  messages,
  record { at = at; reason = RecordTooLong },
  PassesLimit front last split holds h refl,
  refl,
)

pub stream_leads : {M : Type 0} (judge : Judged M) (stream : List ℕ) (s : Reading M) (byte : ℕ)
    → AreBytes (stream ++ byte ∷ []) → HasRead judge.says stream s
    → Leads (HasRead judge.says) (ShowsFault judge.says) (stream ++ byte ∷ [])
    (stream_next judge.decide s byte)
stream_leads judge stream s byte are h =
    let split : stream ++ byte ∷ [] ≡ h.front ++ (h.last ++ byte ∷ []) =
    ap (λ (b : List ℕ). b ++ byte ∷ []) h.split ∙ append_assoc h.front h.last (byte ∷ []) in
    leads_within HasJoined EndsRecord (HasRead judge.says) (ShowsFault judge.says)
    (reading_with s.messages) (recorded judge.decide s.messages)
    (h.last ++ byte ∷ []) (stream ++ byte ∷ [])
    (λ j joined.
    record {
      front = h.front;
      last = h.last ++ byte ∷ [];
      split = split;
      holds = h.holds;
      joined = joined;
    })
    (λ x ends.
    recorded_leads judge (stream ++ byte ∷ []) h.front (h.last ++ byte ∷ []) s.messages
    (split_bytes (stream ++ byte ∷ []) h.front (h.last ++ byte ∷ []) split are).1 split
    h.holds x ends)
    (join_next s.joining byte) (join_leads h.last s.joining byte h.joined)

-- between two records the stream is whole records
pub between_holds : {M : Type 0} (judge : Judgement M) (stream : List ℕ) (messages : List M)
    → HasRead judge stream (reading_with messages Between) → Holds judge stream messages
between_holds judge stream messages h =
    subst (λ (b : List ℕ). Holds judge b messages)
    (sym (append-nil h.front) ∙ ap (λ (b : List ℕ). h.front ++ b) (sym h.joined) ∙ sym h.split)
    h.holds

pub nothing_read : {M : Type 0} (judge : Judgement M) → HasRead judge [] unread
nothing_read judge =
    record { front = []; last = []; split = refl; holds = ([], refl, refl); joined = refl }

-- ---- the other way round

pub record_closes : {M : Type 0} (judge : Judged M) (messages : List M) (bytes : List ℕ)
    (x : Joined) → after join_next (Runs Between) bytes ≡ Stops x
    → after (stream_next judge.decide) (Runs (reading_with messages Between))
    bytes ≡ landed (recorded judge.decide messages x)
record_closes judge messages bytes x e =
    nested_stops join_next (stream_next judge.decide) (reading_with messages)
    (recorded judge.decide messages) (λ s byte. refl) bytes Between x e

records_run : {M : Type 0} (judge : Judged M) (bodies : List (List ℕ)) (before messages : List M)
    (stream : List ℕ) → Marks stream bodies → AreMessages judge.says before bodies messages
    → after (stream_next judge.decide) (Runs (reading_with before Between)) stream
    ≡ Runs (reading_with (before ++ messages) Between)
records_run judge [] before messages stream h j =
    ap (after (stream_next judge.decide) (Runs (reading_with before Between))) h
    ∙ ap (λ ms. Runs (reading_with ms Between))
    (sym (append-nil before) ∙ ap (λ ms. before ++ ms) (sym j))
records_run judge (body ∷ bodies) before messages stream h j =
    ap (after (stream_next judge.decide) (Runs (reading_with before Between))) h.2
    ∙ after-append (stream_next judge.decide) (Runs (reading_with before Between)) h.0 h.1
    ∙ ap (λ r. after (stream_next judge.decide) r h.1) (record_closes judge before h.0
    (Whole body) (record_stops h.0 body h.3)
    ∙ ap (λ r. landed (judged before r)) (judge.accepts before body j.0 j.3))
    ∙ records_run judge bodies (before ++ j.0 ∷ []) j.1 h.1 h.4 j.4
    ∙ ap (λ ms. Runs (reading_with ms Between))
    (append_assoc before (j.0 ∷ []) j.1 ∙ ap (λ ms. before ++ ms) (sym j.2))

-- after whole records the machine stands between two
pub held_runs : {M : Type 0} (judge : Judged M) (stream : List ℕ) (messages : List M)
    → Holds judge.says stream messages
    → after (stream_next judge.decide) (Runs unread) stream ≡ Runs (reading_with messages Between)
held_runs judge stream messages holds = records_run judge holds.0 [] messages stream holds.1 holds.2

later : {M : Type 0} (judge : Judged M) (stream front last : List ℕ) (messages : List M)
    → stream ≡ front ++ last → Holds judge.says front messages
    → after (stream_next judge.decide) (Runs unread) stream
    ≡ after (stream_next judge.decide) (Runs (reading_with messages Between)) last
later judge stream front last messages split holds =
    ap (after (stream_next judge.decide) (Runs unread)) split
    ∙ after-append (stream_next judge.decide) (Runs unread) front last
    ∙ ap (λ r. after (stream_next judge.decide) r last) (held_runs judge front messages holds)

pub stream_runs : {M : Type 0} (judge : Judged M) (stream : List ℕ) (s : Reading M)
    → HasRead judge.says stream s → after (stream_next judge.decide) (Runs unread) stream ≡ Runs s
stream_runs judge stream s h =
    later judge stream h.front h.last s.messages h.split h.holds
    ∙ nested_runs join_next (stream_next judge.decide) (reading_with s.messages)
    (recorded judge.decide s.messages) (λ j byte. refl) h.last Between s.joining
    (joining_runs h.last s.joining h.joined)

-- at the last byte of a stream that shows a fault
pub shown_stops : {M : Type 0} (judge : Judged M) (stream : List ℕ) (messages : List M)
    (stop : Stop) → StreamShows judge.says stream messages stop
    → after (stream_next judge.decide) (Runs unread) stream
    ≡ Stops (fault_at messages stop.at stop.reason)
shown_stops judge stream messages stop (RefusesRecord front last body split holds whole refused) =
    later judge stream front last messages split holds
    ∙ record_closes judge messages last (Whole body) (record_stops last body whole)
    ∙ ap (λ r. landed (judged messages r)) (judge.refuses messages body stop refused)
shown_stops judge stream messages stop (PassesLimit front last split holds long is) =
    later judge stream front last messages split holds
    ∙ record_closes judge messages last (TooLong stop.at) (too_long_stops last stop.at long)
    ∙ ap (λ r. Stops (fault_at messages stop.at r)) (sym is)

-- ---- what is not whole

pub has_read : {M : Type 0} (judge : Judgement M) (stream : List ℕ) (messages : List M)
    → HoldsSoFar judge stream messages
    → (j : Joining) × HasRead judge stream (reading_with messages j)
has_read judge stream messages h =
    let is = standing h.last h.body h.unfinished in (
      is.joining,
      record {
        front = h.front;
        last = h.last;
        split = h.split;
        holds = h.holds;
        joined = is.joined;
      },
    )

pub holds_so_far : {M : Type 0} (judge : Judgement M) (stream : List ℕ) (s : Reading M)
    → HasRead judge stream s → HoldsSoFar judge stream s.messages
holds_so_far judge stream s h =
    record {
      front = h.front;
      last = h.last;
      body = joined_body s.joining;
      split = h.split;
      holds = h.holds;
      unfinished = unfinished h.last s.joining h.joined;
    }
