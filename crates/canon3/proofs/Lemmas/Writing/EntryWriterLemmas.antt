-- What is written of the entries that a reader hands out.
use Rattle.std.proofs.Common.{⊎_elim, ◌≡◌, ◌≤◌, ◌+◌, ℕ, List, [], ◌∷◌, ◌++◌, refl, subst, sym, length, Option, None, Some, Result, Ok, Err, arith, append_assoc, append-nil}
use Rattle.std.specs.Prelude.{MatchResult}
use Rattle.canon3.proofs.Common.{Gave, Observed, IsPrefixOf, shown_of_all, Appends, Item, Entries, Error, Entry, Kind, gave_none, gave_on, AppendsFront, Appends-nil, AreFirst, IsLentAfter, IsMetBy, source_of, StandsFor, LentEntry, AreFirstReached, Reached, reached_by_machine}
use Rattle.std.specs.declared.hash.BuildHasher as BuildHasher
use Rattle.std.specs.declared.hash.Hasher as Hasher
use Rattle.capture3.specs.declared.fault.Error.TheVariants as errors
use Rattle.capture3.specs.declared.reader.entry.LentEntry.TheVariants as lent
use Rattle.capture3.specs.Handing.{HandsOutGiven}
use Rattle.capture3.specs.Kept.{IsLent, kind_of}
use Rattle.capture3.specs.Lending.{IsNextLent}
use Rattle.capture3.specs.Laws.{most_entries}
use Rattle.capture3.specs.MessageVisit.{HasHeard, Hears}
use Rattle.capture3.specs.Progress.{HasPassed}
use Rattle.capture3.specs.declared.reader.progress.Progress.{Progress}
use Rattle.capture3.specs.machinery.Stepping.{IsOfKind}
use Rattle.canon3.specs.EntryWriter.{IsNextEntry, IsStoppedBy, KeepsPrefixes, StopsWriting, WritesAllCounted, WritesGivenCounted}
use Rattle.canon3.specs.Summary.{GaveAll}
use Rattle.canon3.specs.machinery.WritingSteps.{HasGiven, HasWritten, ReaderSince, since, source_since}
use Rattle.canon3.specs.WriteErrors.{IsOfWriting}
use Rattle.canon3.proofs.Lemmas.Order.Reaching.{first_reached, reached_first}
use Rattle.canon3.proofs.Lemmas.Writing.SinkWritesLemmas.{front_of_first, whole_front}

-- a lent entry is of its kind
pub of_its_kind : (one : LentEntry) (entry : Entry) → IsLent one entry
    → IsOfKind (kind_of one) entry
of_its_kind lent.Begin entry is = is
of_its_kind (lent.Call call) entry (items, fits, asks, is) = (items, asks, is)
of_its_kind lent.Turn entry is = is
of_its_kind (lent.Reply reply) entry (items, fits, is) = (items, is)
of_its_kind lent.Close entry is = is
of_its_kind lent.End entry is = is

pub lent_kind : (one : LentEntry) (kind : Kind) (entry : Entry) → kind ≡ kind_of one
    → IsLent one entry → IsOfKind kind entry
lent_kind one kind entry is lends =
    subst (λ k. IsOfKind k entry) (sym is) (of_its_kind one entry lends)

pub comes_next : {progress : Progress} {lent : LentEntry} (entries : List Entry) (one : Entry)
    (left : ℕ) → IsLentAfter entries lent one → AreFirst (entries ++ one ∷ [])
    → length (entries ++ one ∷ []) + left ≤ most_entries → HasPassed progress entries
    → IsNextEntry progress entries lent one
comes_next entries one left is_lent first few passed =
    record { is_lent = is_lent; first = first; few = omega (arith, few); passed = passed }

-- what is written of all bytes, of which those that were given are a prefix
pub all_written : {C : Type 0} (form : List Entry → List ℕ) (AreCountsOf : List ℕ → C → Type 0)
    (bytes : List ℕ)
    (first observed : Observed) (old new : Option (List ℕ)) (result : Result C Error)
    → ((given : List ℕ) → Gave first observed given → IsPrefixOf observed given bytes)
    → WritesGivenCounted AreCountsOf form (first, observed) (old, new) result
    → WritesAllCounted AreCountsOf form bytes (old, new) result
all_written form AreCountsOf bytes first observed old new (Ok counts) prefix
    (entries, all, are, written) =
    let whole = (prefix all.given all.gave).all all.ended in
    (entries, rw whole at all.typed, rw whole at are, written)
all_written form AreCountsOf bytes first observed old new (Err (errors.Refused fault)) prefix
    (given, gave, (entries, met, written)) =
    let shown = shown_of_all observed given bytes entries fault (prefix given gave) met in
    (entries, shown.0, shown.1, written)
all_written form AreCountsOf bytes first observed old new (Err _) prefix w = tt

module _ (form : List Entry → List ℕ) (prefixes : KeepsPrefixes form) where
  cut_reached : (old new : Option (List ℕ)) (given : List ℕ) (entries : List Entry)
      → AreFirstReached given entries → AppendsFront old new (form entries)
      → (all : List Entry) × Reached given all × AppendsFront old new (form all)
  cut_reached old new given entries (more, reached) cut =
      let (rest, is) = prefixes entries more (reached_first given (entries ++ more) reached) in (
        entries ++ more,
        reached,
        front_of_first old new (form entries) rest (form (entries ++ more)) is cut,
      )

  -- the reader met an error
  pub met_stops : (error : Error) (observed : Observed) (old new : Option (List ℕ)) (given : List ℕ)
      (entries : List Entry) → IsMetBy error observed given entries → Appends old new (form entries)
      → IsStoppedBy form error observed given (old, new)
  met_stops (errors.Refused fault) observed old new given entries met written =
      (entries, met, written)
  met_stops errors.Read observed old new given entries met written = (entries, met, written)
  met_stops errors.Write observed old new given entries met written = absurd met
  met_stops errors.Memory observed old new given entries met written =
      cut_reached old new given entries met (whole_front old new (form entries) written)

  -- before any byte was read
  pub nothing_written : (observed : Observed) (old : Option (List ℕ))
      → StopsWriting form (observed, observed) (old, old) errors.Memory
  nothing_written observed old = (
    [],
    gave_none observed,
    (_, reached_by_machine [] (λ k. omega arith), ([], _, refl, Appends-nil old)),
  )

  -- an entry was handed out, and cut
  pub cut_stops : (error : Error) (observed : Observed) (old new : Option (List ℕ)) (given : List ℕ)
      (handed : List Entry) (one : Entry) → IsOfWriting error
      → AreFirstReached given (handed ++ one ∷ [])
      → AppendsFront old new (form (handed ++ one ∷ []))
      → IsStoppedBy form error observed given (old, new)
  cut_stops errors.Memory observed old new given handed one of reached cut =
      cut_reached old new given (handed ++ one ∷ []) reached cut
  cut_stops errors.Write observed old new given handed one of reached cut =
      cut_reached old new given (handed ++ one ∷ []) reached cut
  cut_stops errors.Read observed old new given handed one of reached cut =
      ⊎_elim (λ e. absurd (cc)) (λ e. absurd (cc)) of
  cut_stops (errors.Refused fault) observed old new given handed one of reached cut =
      ⊎_elim (λ e. absurd (cc)) (λ e. absurd (cc)) of

-- ---- along a reader

-- a new reader
pub fresh : {R S H : Type 0} {builds : BuildHasher.Ghosts S H} {hashes : Hasher.Ghosts H}
    (telling : R → Observed) (reader : Entries R S H builds hashes) → StandsFor telling reader [] []
    → HasGiven (since telling (telling (source_of reader)) reader) []
fresh telling reader stands =
    record { given = []; consumed = gave_none (telling (source_of reader)); stands = stands }

-- before the first entry
pub begun : {T : Type 0} {form : List Entry → List ℕ} {before : List Entry → List Item}
    {rests : T → List Item → Type 0} {going : T → Type 0} {old : Option (List ℕ)} {writer : T}
    → going writer → rests writer (before []) → form [] ≡ []
    → HasWritten form before rests going writer (old, old) []
begun {old = old} goes new empty =
    record { goes = goes; stands_for = new; written = rw empty (Appends-nil old) }

-- what a call of the reader says of what the source gave, and of the visitor
abbrev pub Hands : {R S H V : Type 0} {builds : BuildHasher.Ghosts S H} {hashes : Hasher.Ghosts H}
    (r : ReaderSince R S H builds hashes) (rests stands : V → List Item → Type 0) (was now : V)
    (handed : List Entry) → Result (Option LentEntry) Error → Type 0
Hands r rests stands was now handed (Ok (Some lent)) = (entry : Entry)
    × IsNextLent rests stands was now handed lent entry
    × AreFirst (handed ++ entry ∷ []) × HasGiven r (handed ++ entry ∷ [])
Hands r rests stands was now handed (Ok None) = GaveAll (source_since r) handed
    × HasGiven r handed
Hands r rests stands was now handed (Err error) = (given : List ℕ)
    × Gave r.start (r.telling (source_of r.reader)) given
    × IsMetBy error (r.telling (source_of r.reader)) given handed

module _ {R S H V : Type 0} {builds : BuildHasher.Ghosts S H} {hashes : Hasher.Ghosts H}
    {telling : R → Observed} {start : Observed} {old new : Entries R S H builds hashes}
    {handed : List Entry} (rests stands : V → List Item → Type 0) (was now : V) where
  pub hands : (h : HasGiven (since telling start old) handed)
      {result : Result (Option LentEntry) Error}
      → HandsOutGiven telling (IsNextLent rests stands was now) old new h.given handed result
      → Hands (since telling start new) rests stands was now handed result
  hands h {result = Ok (Some lent)} a =
      let (entry, is, reached, stands_for) = a.hands_out in (
        entry,
        is,
        first_reached (h.given ++ a.more) (handed ++ entry ∷ []) reached,
        record {
          given = h.given ++ a.more;
          consumed = gave_on start h.consumed a;
          stands = stands_for;
        },
      )
  hands h {result = Ok None} a =
      let (typed, ended, stands_for) = a.hands_out in
      let gave = gave_on start h.consumed a in (
        record { given = h.given ++ a.more; gave = gave; ended = ended; typed = typed },
        record { given = h.given ++ a.more; consumed = gave; stands = stands_for },
      )
  hands h {result = Err error} a =
      (h.given ++ a.more, gave_on start h.consumed a, a.hands_out.0)

-- the reader handed out more after these entries, and this holds of all of them
pub record IsWriting {R S H : Type 0} {builds : BuildHasher.Ghosts S H} {hashes : Hasher.Ghosts H}
    (r : ReaderSince R S H builds hashes) (Wrote : List Entry → Type 0) (handed : List Entry)
    : Type 0 where
  pub more : List Entry
  pub has_given : HasGiven r (handed ++ more)
  pub wrote : Wrote (handed ++ more)

pub no_more_yet : {R S H : Type 0} {builds : BuildHasher.Ghosts S H} {hashes : Hasher.Ghosts H}
    {r : ReaderSince R S H builds hashes} {Wrote : List Entry → Type 0} {handed : List Entry}
    → HasGiven r handed → Wrote handed → IsWriting r Wrote handed
no_more_yet {r = r} {Wrote = Wrote} {handed = handed} h wrote =
    let all = sym (append-nil handed) in
    record { more = []; has_given = subst (HasGiven r) all h; wrote = subst Wrote all wrote }

module _ {R S H T : Type 0} {builds : BuildHasher.Ghosts S H} {hashes : Hasher.Ghosts H}
    {form : List Entry → List ℕ} {before : List Entry → List Item}
    {rests : T → List Item → Type 0} {going : T → Type 0} {observed : R → Observed}
    {start : Observed} {handed : List Entry} {old between : Option (List ℕ)}
    {reader later : Entries R S H builds hashes} {was : T} {progress : Progress}
    {lent : LentEntry} (stands : T → List Item → Type 0) (heard : T)
    (u : IsWriting (since observed start reader)
    (HasWritten form before rests going was (old, between)) handed)
    (a : HandsOutGiven observed (IsNextLent rests stands was heard) reader later
    u.has_given.given (handed ++ u.more) (Ok (Some lent)))
    (passed : HasPassed progress (handed ++ u.more)) where
  -- what came of an entry
  abbrev WroteOrCut : {X : Type 0} (now : T) (old new : Option (List ℕ)) → List Entry
      → Result X Error → Type 0
  WroteOrCut now old new entries result =
      MatchResult result
      (λ _. going now × rests now (before entries) × Appends old new (form entries))
      (λ _. AppendsFront old new (form entries))

  -- what the writer promises of the one that was handed out, whose items it was passed
  abbrev WritesOne : {X : Type 0} (now : T) (new : Option (List ℕ)) → Result X Error → Type 0
  WritesOne now new result =
      (old : Option (List ℕ)) (entries : List Entry) (one : Entry)
      → IsNextEntry progress entries lent one
      → HasHeard rests stands heard (before entries) one → Appends old between (form entries)
      → WroteOrCut now old new (entries ++ one ∷ []) result

  came_of : {X : Type 0} (now : T) (new : Option (List ℕ)) (result : Result X Error)
      → WritesOne now new result
      → WroteOrCut now old new ((handed ++ u.more) ++ a.hands_out.0 ∷ []) result
  unfolding Hears
  came_of now new result wrote =
      let (one, (is, adds), reached, reads) = a.hands_out in
      let all = handed ++ u.more in
      wrote old all one
      (comes_next all one _ is
      (first_reached (u.has_given.given ++ a.more) (all ++ one ∷ []) reached) reads.few passed)
      (adds (before all) u.wrote.stands_for) u.wrote.written

  -- it was written
  pub writes_on : {X : Type 0} {now : T} {new : Option (List ℕ)} (x : X)
      → WritesOne now new (Ok x)
      → IsWriting (since observed start later) (HasWritten form before rests going now (old, new))
      handed
  writes_on {now = now} {new = new} x wrote =
      let one = a.hands_out.0 in
      let (goes, stands_for, written) = came_of now new (Ok x) wrote in
      let all : (handed ++ u.more) ++ one ∷ [] ≡ handed ++ (u.more ++ one ∷ []) =
      append_assoc handed u.more (one ∷ []) in
      record {
        more = u.more ++ one ∷ [];
        has_given =
            subst (HasGiven (since observed start later)) all (record {
              given = u.has_given.given ++ a.more;
              consumed = gave_on start u.has_given.consumed a;
              stands = a.hands_out.3;
            });
        wrote =
            subst (HasWritten form before rests going now (old, new)) all
            (record { goes = goes; stands_for = stands_for; written = written });
      }

  -- it was cut
  pub stops_at : {new : Option (List ℕ)} → KeepsPrefixes form → (error : Error)
      → IsOfWriting error → WritesOne {X = Unit {0}} heard new (Err error)
      → StopsWriting form (source_since (since observed start later)) (old, new) error
  stops_at {new = new} prefixes error of wrote = (
    u.has_given.given ++ a.more,
    gave_on start u.has_given.consumed a,
    cut_stops form prefixes error _ old new (u.has_given.given ++ a.more) (handed ++ u.more)
        a.hands_out.0 of a.hands_out.2 (came_of {X = Unit {0}} heard new (Err error) wrote),
  )
