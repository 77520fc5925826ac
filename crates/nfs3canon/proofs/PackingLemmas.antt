-- Streams that are packed pair by pair.
use Rattle.std.specs.Prelude.{◌-◌, drop}
use Rattle.std.proofs.lemmas.List.{get_or-drop, length-drop, take-append-drop}
use Rattle.nfs3canon.proofs.Common.{◌≡◌, ◌⊎◌, ◌<◌, ◌+◌, ◌*◌, ◌/◌, ap, ap₂, sym, refl, subst, inl, inr, arith, false, is_ok, is_err, if◌then◌else◌, append_assoc, ◌∙◌, zero, suc, ℕ, List, [], ◌∷◌, ◌++◌, Option, Result, Ok, Err, String, Global, length, map, take, slice_index_or, string_bytes, length-map, map-append, take_more, TracedReader, Streams, Gave, IsSpent, Error, CountsReadings, IsUnread, FileReading, reading_in, reading_under, Outcome, one_failed, observed_of, AreOfFirst, AreReadStreams, FailsToOpenLater, OneHasFailed, IsReadWhole, PacksFile, PacksNone, RefusesStreams}
use Rattle.capture3.specs.declared.fault.Error.TheVariants as errors
use Rattle.capture3.proofs.Lemmas.Reader.ObservedLemmas.{prefix_of_observed}
use Rattle.capture3.specs.declared.fault.Fault.{Fault}
use Rattle.packing3.specs.Stopped.{BreaksOff, HasNoRoom}
use Rattle.program3.specs.Files.{FailsToOpenStream, FilesRun, FinishesNone}
use Rattle.program3.specs.declared.reading.Closed.{Closed}
use Rattle.program3.specs.declared.outcome.Outcome.TheVariants as outcomes
use Rattle.nfs3canon.specs.machinery.Packing.{StopsPacking}

-- the names under which files were opened
abbrev pub names_read : List FileReading → List (List ℕ)
names_read readings = map (λ reading. reading.name) readings

-- ---- why a packing stops

module _ (holds : List ℕ → Option (List ℕ)) (names : List (List ℕ))
    (readings : List FileReading) where
  -- a stream was not opened
  pub stops : (outcome : Outcome) → FailsToOpenLater names readings outcome
      → StopsPacking holds names readings outcome
  stops (outcomes.Packed (Ok done)) (first, (k, name, within, is, inl named)) = absurd named
  stops (outcomes.Packed (Ok done)) (first, (k, name, within, is, inr (inl other))) = absurd (cc)
  stops (outcomes.Packed (Ok done)) (first, (k, name, within, is, inr (inr other))) = absurd (cc)
  stops (outcomes.Packed (Err (errors.Refused fault))) (first, (k, name, within, is, inl named)) =
      absurd named
  stops (outcomes.Packed (Err (errors.Refused fault)))
      (first, (k, name, within, is, inr (inl other))) =
      absurd (cc)
  stops (outcomes.Packed (Err (errors.Refused fault)))
      (first, (k, name, within, is, inr (inr other))) =
      absurd (cc)
  stops (outcomes.Packed (Err errors.Read)) (first, (k, name, within, is, inl named)) = absurd named
  stops (outcomes.Packed (Err errors.Read)) (first, (k, name, within, is, inr (inl other))) =
      absurd (cc)
  stops (outcomes.Packed (Err errors.Read)) (first, (k, name, within, is, inr (inr other))) =
      absurd (cc)
  stops (outcomes.Packed (Err error)) later = tt
  stops outcome later = later

  -- the packing met an error
  pub stops_error : (error : Error) → (error ≡ errors.Read → OneHasFailed readings)
      → ((fault : Fault) → error ≡ errors.Refused fault → RefusesStreams holds readings fault)
      → StopsPacking holds names readings (outcomes.Packed (Err error))
  stops_error errors.Read failed refused = failed refl
  stops_error (errors.Refused fault) failed refused = refused fault refl
  stops_error error failed refused = tt

-- what an error says of a pair that was not added
abbrev pub StopsAdding : (old new : Option (List ℕ)) → (pairs : List Streams) → Streams → Error
    → Type 0
StopsAdding old new pairs streams error =
    ((streams ≡ record { client = []; server = [] }) × HasNoRoom old new pairs error)
    ⊎ BreaksOff old new (pairs ++ streams ∷ []) error

module _ (run : FilesRun) (output : List ℕ) (names : List (List ℕ))
    (none : PacksNone run names) where
  -- no file was finished
  pub packs_stopped : (outcome : Outcome) → StopsPacking run.holds names run.readings outcome
      → PacksFile run output names outcome
  packs_stopped (outcomes.Packed (Ok done)) stopped = absurd stopped
  packs_stopped (outcomes.Packed (Err (errors.Refused fault))) stopped = (stopped, none)
  packs_stopped (outcomes.Packed (Err errors.Read)) stopped = (stopped, none)
  packs_stopped (outcomes.Packed (Err error)) stopped = none
  packs_stopped outcome stopped = inr (stopped, none.1)

  not_made : (outcome : Outcome) → run.readings ≡ [] → FailsToOpenStream output outcome
      → PacksFile run output names outcome
  not_made (outcomes.Packed (Ok done)) nothing (inl named) = absurd named
  not_made (outcomes.Packed (Ok done)) nothing (inr (inl other)) = absurd (cc)
  not_made (outcomes.Packed (Ok done)) nothing (inr (inr other)) = absurd (cc)
  not_made (outcomes.Packed (Err (errors.Refused fault))) nothing (inl named) = absurd named
  not_made (outcomes.Packed (Err (errors.Refused fault))) nothing (inr (inl other)) = absurd (cc)
  not_made (outcomes.Packed (Err (errors.Refused fault))) nothing (inr (inr other)) = absurd (cc)
  not_made (outcomes.Packed (Err errors.Read)) nothing (inl named) = absurd named
  not_made (outcomes.Packed (Err errors.Read)) nothing (inr (inl other)) = absurd (cc)
  not_made (outcomes.Packed (Err errors.Read)) nothing (inr (inr other)) = absurd (cc)
  not_made (outcomes.Packed (Err error)) nothing fails = none
  not_made outcome nothing fails = inl (fails, (nothing, none.1))

-- the output was not made
pub packs_none : (run : FilesRun) (output : List ℕ) (names : List (List ℕ)) → run.readings ≡ []
    → FinishesNone run.finished → (outcome : Outcome) → FailsToOpenStream output outcome
    → PacksFile run output names outcome
packs_none run output names nothing same outcome fails =
    not_made run output names
    ((names, ap (λ readings. names_read readings ++ names) (sym nothing)), same) outcome nothing
    fails

-- the name of the stream at an index
pub name_at : (streams : List (String Global)) (k : ℕ) (stream : String Global)
    → stream ≡ slice_index_or streams k stream
    → slice_index_or (map string_bytes streams) k (string_bytes stream) ≡ string_bytes stream
name_at [] k stream is = refl
name_at (x ∷ streams) zero stream is = ap string_bytes (sym is)
name_at (x ∷ streams) (suc k) stream is = name_at streams k stream is

-- the names after the first ones
pub names_after : (names : List (List ℕ)) (k : ℕ) (readings : List FileReading)
    → names_read readings ≡ take k names → names ≡ names_read readings ++ drop k names
names_after names k readings are =
    sym (take-append-drop k names) ∙ ap (λ (l : List (List ℕ)). l ++ drop k names) (sym are)

-- of the streams after the first k, which were read, that at i was not opened
pub stops_at : (holds : List ℕ → Option (List ℕ)) (streams : List (String Global))
    (readings : List FileReading) (k i index : ℕ) (stream : String Global) (name : List ℕ)
    (outcome : Outcome) → index ≡ k + i → index < length streams
    → stream ≡ slice_index_or streams index stream → name ≡ string_bytes stream
    → names_read readings ≡ take k (map string_bytes streams) → FailsToOpenStream name outcome
    → StopsPacking holds (map string_bytes streams) readings outcome
stops_at holds streams readings k i index stream name outcome at low is named are fails =
    let names = map string_bytes streams in
    let left : length (drop k names) ≡ length names - k = length-drop k names in
    let within : i < length (drop k names) =
    omega (arith, at, low, left, length-map streams string_bytes) in
    let other = string_bytes stream in
    stops holds names readings outcome (
      (drop k names, names_after names k readings are),
      (
        i,
        other,
        within,
        get_or-drop k names i other
            ∙ ap (λ j. slice_index_or names j other) (sym at)
            ∙ name_at streams index stream is,
        subst (λ (n : List ℕ). FailsToOpenStream n outcome) named fails,
      ),
    )

-- ---- one pair more

module _ (holds : List ℕ → Option (List ℕ)) where
  pub streams_more : (names more : List (List ℕ)) (readings others : List FileReading)
      (pairs further : List Streams) → AreReadStreams holds names readings pairs
      → AreReadStreams holds more others further
      → AreReadStreams holds (names ++ more) (readings ++ others) (pairs ++ further)
  streams_more [] more [] others [] further are streams = streams
  streams_more [] more [] others (pair ∷ pairs) further are streams = absurd are
  streams_more [] more (one ∷ readings) others pairs further are streams = absurd are
  streams_more (client ∷ []) more readings others pairs further are streams = absurd are
  streams_more (client ∷ server ∷ names) more [] others pairs further are streams = absurd are
  streams_more (client ∷ server ∷ names) more (one ∷ []) others pairs further are streams =
      absurd are
  streams_more (client ∷ server ∷ names) more (one ∷ other ∷ readings) others [] further are
      streams =
      absurd are
  streams_more (client ∷ server ∷ names) more (one ∷ other ∷ readings) others (pair ∷ pairs) further
      (a, b, rest) streams =
      (a, b, streams_more names more readings others pairs further rest streams)

-- the first names, with those of one pair more
pub two_more : (streams : List (String Global)) (k : ℕ) (client server : String Global)
    → k < length streams / 2 → client ≡ slice_index_or streams (2 * k) client
    → server ≡ slice_index_or streams (2 * k + 1) server
    → take (2 * (k + 1)) (map string_bytes streams)
    ≡ take (2 * k) (map string_bytes streams)
    ++ string_bytes client ∷ string_bytes server ∷ []
two_more streams k client server low is other_is =
    let names = map string_bytes streams in
    let many : length names ≡ length streams = length-map streams string_bytes in
    let one : 2 * k < length names = omega (arith, low, many) in
    let two : 2 * k + 1 < length names = omega (arith, low, many) in
    let steps : 2 * (k + 1) ≡ 2 * k + 1 + 1 = omega (arith) in
    ap (λ n. take n names) steps
    ∙ take_more names (2 * k + 1) (string_bytes server) two
    ∙ ap (λ n. take (2 * k + 1) names ++ n ∷ []) (name_at streams (2 * k + 1) server other_is)
    ∙ ap (λ (l : List (List ℕ)). l ++ string_bytes server ∷ [])
    (take_more names (2 * k) (string_bytes client) one
    ∙ ap (λ n. take (2 * k) names ++ n ∷ []) (name_at streams (2 * k) client is))
    ∙ append_assoc (take (2 * k) names) (string_bytes client ∷ []) (string_bytes server ∷ [])

-- both files of a pair are closed, one after the other
pub both_closed : (old between new : List Closed) (one other : Closed) (a b : FileReading)
    → between ≡ old ++ one ∷ [] → new ≡ between ++ other ∷ [] → reading_in one ≡ a
    → reading_in other ≡ b
    → map reading_in new ≡ (map reading_in old ++ a ∷ []) ++ b ∷ []
both_closed old between new one other a b first second is other_is =
    ap (map reading_in) second ∙ map-append reading_in between (other ∷ [])
    ∙ ap₂ (λ l r. l ++ r ∷ []) (ap (map reading_in) first ∙ map-append reading_in old (one ∷ [])
    ∙ ap (λ r. map reading_in old ++ r ∷ []) is) other_is

-- what was pushed, if the push did not fail
pub pushed : {A X E : Type 0} (result : Result X E) (old new : List A) (value : A)
    → is_err result ≡ false
    → new ≡ (if is_ok result then old ++ value ∷ [] else old) → new ≡ old ++ value ∷ []
pushed (Ok x) old new value not_failed is = is
pushed (Err error) old new value not_failed is = absurd (cc)

-- what was read of a file since it was opened
pub given_since : {R : Type 0} (remaining : R → Option (List ℕ)) (was now : TracedReader R)
    → was.given ≡ [] → (given : List ℕ)
    → Gave (observed_of remaining was) (observed_of remaining now) given → now.given ≡ given
given_since remaining was now none given gave = gave.1 ∙ ap (λ (l : List ℕ). l ++ given) none

-- a file that was read to its end
pub whole : {R : Type 0} (remaining : R → Option (List ℕ)) (holds : List ℕ → Option (List ℕ))
    (name : List ℕ) (was now : TracedReader R) → IsUnread remaining (holds name) was
    → (given : List ℕ) → Gave (observed_of remaining was) (observed_of remaining now) given
    → IsSpent (observed_of remaining now) → IsReadWhole holds (reading_under name now) name given
whole remaining holds name was now unread given gave spent = record {
  named = refl;
  given = given_since remaining was now unread.given given gave;
  spent = spent.0;
  held =
      λ content is.
      let p =
      prefix_of_observed (observed_of remaining was) (observed_of remaining now) given content
      (unread.left ∙ is) gave in
      sym (p.all spent);
}

-- a read of one of the pair failed
pub pair_failed : (X : Type 0) {R : Type 0} (readings : List FileReading) (client server : List ℕ)
    (was now other other_now : TracedReader R) → was.failures ≡ 0 → other.failures ≡ 0
    → CountsReadings {X = X} was.failures now.failures other.failures other_now.failures
    (Err errors.Read)
    → OneHasFailed
    ((readings ++ reading_under client now ∷ []) ++ reading_under server other_now ∷ [])
pair_failed X readings client server was now other other_now none other_none
    (inl (counts, same)) = record {
      front = readings;
      reading = reading_under client now;
      back = reading_under server other_now ∷ [];
      split = append_assoc readings (reading_under client now ∷ [])
          (reading_under server other_now ∷ []);
      failed = one_failed {X = X} client was.failures now none (Err errors.Read) counts;
    }
pair_failed X readings client server was now other other_now none other_none
    (inr (same, counts)) = record {
      front = readings ++ reading_under client now ∷ [];
      reading = reading_under server other_now;
      back = [];
      split = refl;
      failed =
          one_failed {X = X} server other.failures other_now other_none (Err errors.Read) counts;
    }

-- ---- the names of what was read

module _ (holds : List ℕ → Option (List ℕ)) where
  pub names_are_read : (names : List (List ℕ)) (readings : List FileReading) (pairs : List Streams)
      → AreReadStreams holds names readings pairs → names_read readings ≡ names
  names_are_read [] [] [] are = refl
  names_are_read [] [] (pair ∷ pairs) are = absurd are
  names_are_read [] (one ∷ readings) pairs are = absurd are
  names_are_read (client ∷ []) readings pairs are = absurd are
  names_are_read (client ∷ server ∷ names) [] pairs are = absurd are
  names_are_read (client ∷ server ∷ names) (one ∷ []) pairs are = absurd are
  names_are_read (client ∷ server ∷ names) (one ∷ other ∷ readings) [] are = absurd are
  names_are_read (client ∷ server ∷ names) (one ∷ other ∷ readings) (pair ∷ pairs) (a, b, rest) =
      ap₂ (λ c l. c ∷ l) a.named
      (ap₂ (λ s l. s ∷ l) b.named (names_are_read names readings pairs rest))

pub of_first : (names : List (List ℕ)) (k : ℕ) (readings : List FileReading)
    → names_read readings ≡ take k names → AreOfFirst names readings
of_first names k readings are = (drop k names, names_after names k readings are)

pub pairs_first : (holds : List ℕ → Option (List ℕ)) (names : List (List ℕ)) (k : ℕ)
    (readings : List FileReading) (pairs : List Streams)
    → AreReadStreams holds (take k names) readings pairs → AreOfFirst names readings
pairs_first holds names k readings pairs are =
    of_first names k readings (names_are_read holds (take k names) readings pairs are)

module _ (streams : List (String Global)) (k : ℕ) (old new : List Closed) (one : Closed)
    (stream : String Global) (within : k < length streams)
    (stands : stream ≡ slice_index_or streams k stream)
    (named : one.name.bytes ≡ string_bytes stream)
    (are : names_read (map reading_in old) ≡ take k (map string_bytes streams)) where
  -- one file more was read
  pub one_more : new ≡ old ++ one ∷ []
      → names_read (map reading_in new) ≡ take (k + 1) (map string_bytes streams)
  one_more is =
      let names = map string_bytes streams in
      let low : k < length names = omega (arith, within, length-map streams string_bytes) in
      ap (λ (l : List Closed). names_read (map reading_in l)) is
      ∙ ap names_read (map-append reading_in old (one ∷ []))
      ∙ map-append (λ reading. reading.name) (map reading_in old) (reading_in one ∷ [])
      ∙ ap₂ (λ l n. l ++ n ∷ []) are named
      ∙ sym (take_more names k (string_bytes stream) low
      ∙ ap (λ n. take k names ++ n ∷ []) (name_at streams k stream stands))

  -- or it was read, and there was no memory to note it
  pub one_noted : {X E : Type 0} (result : Result X E)
      → new ≡ (if is_ok result then old ++ one ∷ [] else old)
      → AreOfFirst (map string_bytes streams) (map reading_in new)
  one_noted (Ok x) is =
      of_first (map string_bytes streams) (k + 1) (map reading_in new) (one_more is)
  one_noted (Err error) is =
      of_first (map string_bytes streams) k (map reading_in new)
      (ap (λ (l : List Closed). names_read (map reading_in l)) is ∙ are)

-- both files of a pair were read, and the first is noted
pub both_noted : {X E : Type 0} (streams : List (String Global)) (k : ℕ)
    (old between new : List Closed) (one other : Closed) (client server : String Global)
    → k < length streams / 2 → client ≡ slice_index_or streams (2 * k) client
    → server ≡ slice_index_or streams (2 * k + 1) server
    → one.name.bytes ≡ string_bytes client → other.name.bytes ≡ string_bytes server
    → names_read (map reading_in old) ≡ take (2 * k) (map string_bytes streams)
    → between ≡ old ++ one ∷ [] → (result : Result X E)
    → new ≡ (if is_ok result then between ++ other ∷ [] else between)
    → AreOfFirst (map string_bytes streams) (map reading_in new)
both_noted streams k old between new one other client server low client_stands server_stands
    client_named server_named are first result second =
    let within : 2 * k < length streams = omega (arith, low) in
    let other_within : 2 * k + 1 < length streams = omega (arith, low) in
    one_noted streams (2 * k + 1) between new other server other_within server_stands server_named
    (one_more streams (2 * k) old between one client within client_stands client_named are first)
    result second
