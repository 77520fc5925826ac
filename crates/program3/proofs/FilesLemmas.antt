-- What came of a file, by what its reads and writes did.
use Rattle.program3.proofs.Common.{◌≡◌, ◌≢◌, ◌∙◌, ◌+◌, ◌-◌, ◌^◌, append-nil, inl, inr, ap, sym, refl, subst, min, ℕ, Option, None, Some, List, [], ◌∷◌, ◌++◌, Result, Ok, Err, Appends, Keeps, append_known, WritesAllCounted, IsByFailedRead, IsUnread, MayContain, FileReading, reading_under, Outcome}
use Rattle.std.proofs.lemmas.List.{append_cancel_left}
use Rattle.capture3.specs.Device.{TracedReader}
use Rattle.capture3.specs.Entries.{CountsReading}
use Rattle.capture3.specs.declared.fault.Error.{Error}
use Rattle.capture3.specs.declared.fault.Error.TheVariants as errors
use Rattle.capture3.specs.Entry.{Entry}
use Rattle.capture3.specs.Observed.{Observed, Gave, GavePrefix}
use Rattle.capture3.proofs.Lemmas.Reader.ObservedLemmas.{IsPrefixOf, prefix_of_observed}
use Rattle.canon3.specs.EntryWriter.{WritesGivenCounted}
use Rattle.canon3.specs.WriteErrors.{IsOfWriting}
use Rattle.canon3.specs.declared.summary.Summary.{Summary}
use Rattle.program3.specs.Files.{FailsToOpen, FilesRun, KeepsForm, RewritesFile, TouchesNone, WritesOut, WrittenFile}
use Rattle.program3.specs.declared.outcome.Outcome.TheVariants as outcomes

-- a source that tells what is left, and gave nothing yet, gives a prefix of that
pub gave_prefix : (old new : Observed) (given bytes : List ℕ) → old.left ≡ Some bytes
    → old.given ≡ Some [] → Gave old new given → GavePrefix old new bytes
gave_prefix old new given bytes tells fresh gave =
    by_given new.given refl
    (subst (λ (o : Option (List ℕ)). Appends o new.given given) fresh gave.1)
  where
    p : IsPrefixOf new given bytes
    p = prefix_of_observed old new given bytes tells gave

    no_rest : (xs rest : List ℕ) → (bytes ≡ xs) × (bytes ≡ xs ++ rest) → rest ≡ []
    no_rest xs rest (whole, split) =
        append_cancel_left xs rest [] (sym split ∙ whole ∙ sym (append-nil xs))

    by_given : (known : Option (List ℕ)) → new.given ≡ known → Appends (Some []) known given
        → GavePrefix old new bytes
    by_given None is appended = absurd appended
    by_given (Some all) is appended = record {
      start = [];
      given = given;
      rest = p.rest;
      was = fresh;
      now = subst (λ (l : List ℕ). new.given ≡ Some l) appended is;
      split = p.split;
      all = λ end. no_rest given p.rest (sym (p.all end), p.split);
    }

-- ---- what was read of a file

-- what a source tells that reads a file
abbrev pub observed_of : {R : Type 0} → (remaining : R → Option (List ℕ)) → TracedReader R
    → Observed
observed_of remaining source = record {
  left = remaining source.device;
  given = Some source.given;
  is_spent = source.is_spent;
}

-- a call that took some bytes of a file of which nothing was read took a prefix of all that it may
-- contain
pub prefix_of : {R : Type 0} (remaining : R → Option (List ℕ)) (whole : Option (List ℕ))
    (name : List ℕ) (was now : TracedReader R) → IsUnread remaining whole was
    → (given bytes : List ℕ) → Gave (observed_of remaining was) (observed_of remaining now) given
    → MayContain whole (reading_under name now) bytes
    → GavePrefix (observed_of remaining was) (observed_of remaining now) bytes
prefix_of remaining whole name was now unread given bytes gave (inl begins) = record {
  start = [];
  given = now.given;
  rest = begins.rest;
  was = ap Some unread.given;
  now = refl;
  split = begins.split;
  all = λ spent. begins.all spent.0;
}
prefix_of remaining whole name was now unread given bytes gave (inr is) =
    gave_prefix (observed_of remaining was) (observed_of remaining now) given bytes
    (unread.left ∙ is)
    (ap Some unread.given) gave

-- a read that failed is the only one
pub one_failed : {X : Type 0} (name : List ℕ) {R : Type 0} (was : ℕ) (now : TracedReader R)
    → was ≡ 0 → (came : Result X Error) → CountsReading was now.failures came
    → IsByFailedRead (reading_under name now) came
one_failed name was now none (Ok x) counts = tt
one_failed name was now none (Err errors.Read) counts =
    counts ∙ ap (λ n. min (n + 1) (2 ^ 64 - 1)) none
one_failed name was now none (Err (errors.Refused fault)) counts = tt
one_failed name was now none (Err errors.Write) counts = tt
one_failed name was now none (Err errors.Memory) counts = tt

-- ---- what is written through a buffer

-- what a source gave of which a form was written
pub given_of : {C : Type 0} (AreCountsOf : List ℕ → C → Type 0) (form : List Entry → List ℕ)
    (before observed : Observed) (old new : Option (List ℕ)) (came : Result C Error)
    → WritesGivenCounted AreCountsOf form (before, observed) (old, new) came
    → (given : List ℕ) × Gave before observed given
given_of AreCountsOf form before observed old new (Ok counts) (entries, all, are, appended) =
    (all.given, all.gave)
given_of AreCountsOf form before observed old new (Err error) (given, gave, stopped) = (given, gave)

appends_kept : (old mid new : Option (List ℕ)) (xs : List ℕ) → Appends old mid xs → Keeps mid new
    → Appends old new xs
appends_kept None mid new xs appended kept = tt
appends_kept (Some was) None new xs appended kept = absurd appended
appends_kept (Some was) (Some ys) None xs appended kept = absurd kept
appends_kept (Some was) (Some ys) (Some zs) xs appended kept = kept ∙ appended

pub append_none : (known : Option (List ℕ)) → append_known known [] ≡ known
append_none None = refl
append_none (Some xs) = ap Some (append-nil xs)

module _ {C : Type 0} (AreCountsOf : List ℕ → C → Type 0) (form : List Entry → List ℕ)
    (bytes : List ℕ) (old mid new : Option (List ℕ)) where
  written_on : (came : Result C Error) → WritesAllCounted AreCountsOf form bytes (old, mid) came
      → Keeps mid new → WritesAllCounted AreCountsOf form bytes (old, new) came
  written_on (Ok counts) (entries, typed, are, appended) kept =
      (entries, typed, are, appends_kept old mid new (form entries) appended kept)
  written_on (Err (errors.Refused fault)) (entries, first, reached, appended) kept =
      (entries, first, reached, appends_kept old mid new (form entries) appended kept)
  written_on (Err errors.Read) writes kept = tt
  written_on (Err errors.Write) writes kept = tt
  written_on (Err errors.Memory) writes kept = tt

  written_out_of : (came now : Result C Error)
      → WritesAllCounted AreCountsOf form bytes (old, mid) came → WritesOut came mid now new
      → WritesAllCounted AreCountsOf form bytes (old, new) now
  written_out_of came now writes (inl failed) =
      subst (WritesAllCounted AreCountsOf form bytes (old, new)) (sym failed) tt
  written_out_of came now writes (inr (is, kept)) =
      subst (WritesAllCounted AreCountsOf form bytes (old, new)) (sym is)
      (written_on came writes kept)

  -- the rest of the buffer was written, or a write has failed
  pub written_all : (came now : Result C Error)
      → WritesAllCounted AreCountsOf form bytes (old, mid) came
      → (came ≡ Err errors.Write → now ≡ came)
      → (came ≢ Err errors.Write → WritesOut came mid now new)
      → WritesAllCounted AreCountsOf form bytes (old, new) now
  written_all (Err errors.Write) now writes failed out =
      subst (WritesAllCounted AreCountsOf form bytes (old, new)) (sym (failed refl)) tt
  written_all (Ok counts) now writes failed out =
      written_out_of (Ok counts) now writes (out (λ is. absurd (cc)))
  written_all (Err (errors.Refused fault)) now writes failed out =
      written_out_of (Err (errors.Refused fault)) now writes (out (λ is. absurd (cc)))
  written_all (Err errors.Read) now writes failed out =
      written_out_of (Err errors.Read) now tt (out (λ is. absurd (cc)))
  written_all (Err errors.Memory) now writes failed out =
      written_out_of (Err errors.Memory) now tt (out (λ is. absurd (cc)))

-- a failed read is told, unless a failed write comes after it
pub failed_out : {X : Type 0} (reading : FileReading) (came now : Result X Error)
    (mid new : Option (List ℕ)) → IsByFailedRead reading came
    → (came ≡ Err errors.Write → now ≡ came)
    → (came ≢ Err errors.Write → WritesOut came mid now new)
    → IsByFailedRead reading now
failed_out {X = X} reading came now mid new failed written out =
    by_came came refl
  where
    same : now ≡ came → IsByFailedRead reading now
    same is = subst (IsByFailedRead reading) (sym is) failed

    either : WritesOut came mid now new → IsByFailedRead reading now
    either (inl is) = subst (IsByFailedRead {X = X} reading) (sym is) tt
    either (inr (is, kept)) = same is

    by_came : (c : Result X Error) → came ≡ c → IsByFailedRead reading now
    by_came (Err errors.Write) is = same (written is)
    by_came (Ok x) is = either (out (λ other. absurd (cc)))
    by_came (Err (errors.Refused fault)) is = either (out (λ other. absurd (cc)))
    by_came (Err errors.Read) is = either (out (λ other. absurd (cc)))
    by_came (Err errors.Memory) is = either (out (λ other. absurd (cc)))

-- ---- the file that is finished

module _ {C : Type 0} (AreCountsOf : List ℕ → C → Type 0) (form : List Entry → List ℕ)
    (bytes name : List ℕ) (old : List WrittenFile) where
  known : (written : Option (List ℕ)) (entries : List Entry)
      → Appends (Some []) written (form entries) → written ≡ Some (form entries)
  known None entries appended = absurd appended
  known (Some all) entries appended = ap Some appended

  -- the whole form was written, and the file has got its name
  pub keeps_whole : (counts : C) (written : Option (List ℕ)) (new : List WrittenFile)
      → WritesAllCounted AreCountsOf form bytes (Some [], written) (Ok counts)
      → new ≡ record { name = name; bytes = written } ∷ old
      → KeepsForm AreCountsOf form name bytes (old, new) (Ok counts)
  keeps_whole counts written new (entries, typed, are, appended) is = (
    entries,
    typed,
    are,
    is ∙ ap (λ b. record { name = name; bytes = b } ∷ old) (known written entries appended),
  )

  -- an error came, and no file was finished
  pub keeps_none : (error : Error) (was now : Option (List ℕ)) (new : List WrittenFile)
      → WritesAllCounted AreCountsOf form bytes (was, now) (Err error) → new ≡ old
      → KeepsForm AreCountsOf form name bytes (old, new) (Err error)
  keeps_none (errors.Refused fault) was now new (entries, first, reached, appended) same =
      (first, same)
  keeps_none errors.Read was now new writes same = (tt, same)
  keeps_none errors.Write was now new writes same = (tt, same)
  keeps_none errors.Memory was now new writes same = (tt, same)

  -- a write failed or memory ran out at the end
  pub keeps_stopped : (error : Error) (new : List WrittenFile) → IsOfWriting error → new ≡ old
      → KeepsForm AreCountsOf form name bytes (old, new) (Err error)
  keeps_stopped (errors.Refused fault) new (inl is) same = absurd (cc)
  keeps_stopped (errors.Refused fault) new (inr is) same = absurd (cc)
  keeps_stopped errors.Read new of same = (tt, same)
  keeps_stopped errors.Write new of same = (tt, same)
  keeps_stopped errors.Memory new of same = (tt, same)

module _ (IsSummaryOf : List ℕ → Summary → Type 0) (form : List Entry → List ℕ)
    (run : FilesRun) (names : List ℕ × List ℕ) (none : TouchesNone run) where
  -- nothing was read, and no file was finished
  pub rewrites_none : (outcome : Outcome) → FailsToOpen names.0 names.1 outcome
      → RewritesFile IsSummaryOf form run names outcome
  rewrites_none (outcomes.Counted came) (inl named) = absurd named
  rewrites_none (outcomes.Counted came) (inr (inl named)) = absurd named
  rewrites_none (outcomes.Counted came) (inr (inr (inl is))) = absurd (cc)
  rewrites_none (outcomes.Counted came) (inr (inr (inr is))) =
      let memory : came ≡ Err errors.Memory = cc in
      inr (none, memory)
  rewrites_none (outcomes.Masked summary told) fails = (fails, none)
  rewrites_none (outcomes.Listed came) fails = (fails, none)
  rewrites_none (outcomes.Compared came) fails = (fails, none)
  rewrites_none (outcomes.Packed came) fails = (fails, none)
  rewrites_none (outcomes.Unopened text) fails = (fails, none)
  rewrites_none outcomes.Irregular fails = (fails, none)
  rewrites_none (outcomes.Told report) fails = (fails, none)
  rewrites_none (outcomes.Line fault) fails = (fails, none)
