-- What came of files, by what was read of them.
use Rattle.nfs3canon.proofs.Common.{◌≡◌, ◌≢◌, ◌⊎◌, ℕ, List, [], ◌∷◌, Option, Some, Result, Ok, Err, IfErr, IfSome, inl, inr, refl, subst, sym, TracedReader, Gave, GavePrefix, Error, IsUnread, MayContain, reading_under, Outcome, one_failed, prefix_of, observed_of, ComparesFiles, CountsFile, ListsFile, WriterRun}
use Rattle.capture3.specs.Entries.{CountsReading}
use Rattle.capture3.specs.Observed.{Observed}
use Rattle.capture3.specs.declared.fault.Error.TheVariants as errors
use Rattle.capture3.proofs.Lemmas.Reader.ObservedLemmas.{IsPrefixOf, prefix_of_kept}
use Rattle.canon3.specs.Comparison.{CountsReadingOf, DecidesSame, of_source}
use Rattle.canon3.specs.Summary.{ConcludesAll, ConcludesGiven}
use Rattle.canon3.specs.declared.comparison.verdict.SameError.{SameError}
use Rattle.canon3.specs.declared.comparison.verdict.Verdict.{Verdict}
use Rattle.canon3.specs.declared.comparison.verdict.Which.{Which}
use Rattle.canon3.specs.declared.comparison.verdict.Which.TheVariants.{First, Second}
use Rattle.canon3.specs.declared.summary.Summary.{Summary}
use Rattle.canon3.proofs.Lemmas.Comparison.ComparisonLemmas.{decides_all}
use Rattle.program3.specs.Files.{FilesRun}
use Rattle.program3.specs.Opening.{IsOfName, ReportsUnopened}
use Rattle.program3.specs.declared.input.opening.OpenError.{OpenError}
use Rattle.program3.specs.declared.input.opening.OpenError.TheVariants as causes
use Rattle.program3.specs.declared.outcome.Outcome.TheVariants as outcomes

-- ---- a file that was not opened is told by its name, or memory ran out

module _ (run : FilesRun) (name : List ℕ) (none : run.readings ≡ []) where
  counts_none : (outcome : Outcome) → IsOfName name outcome → CountsFile run name outcome
  counts_none (outcomes.Unopened text) named = (named, none)
  counts_none outcome named = absurd named

  pub uncounted_reports : (error : OpenError) (outcome : Outcome)
      → ReportsUnopened name error (outcomes.Counted (Err errors.Memory)) outcome
      → CountsFile run name outcome
  uncounted_reports causes.Unopened outcome (inl named) = counts_none outcome named
  uncounted_reports causes.Unopened outcome (inr is) =
      subst (CountsFile run name) (sym is) (inr (none, refl))
  uncounted_reports causes.Memory outcome is =
      subst (CountsFile run name) (sym is) (inr (none, refl))

  module _ {W : Type 0} (output : WriterRun W) (same : output.after ≡ Some output.before) where
    lists_none : (outcome : Outcome) → IsOfName name outcome
        → ListsFile run output name outcome
    lists_none (outcomes.Unopened text) named = (named, none, same)
    lists_none outcome named = absurd named

    no_lines : (outcome : Outcome) → outcome ≡ outcomes.Listed (Err errors.Memory)
        → ListsFile run output name outcome
    no_lines outcome is = subst (ListsFile run output name) (sym is)
        (inr (none, refl, subst (λ back. IfSome back (λ new. new ≡ output.before)) (sym same) refl))

    pub unlisted_reports : (error : OpenError) (outcome : Outcome)
        → ReportsUnopened name error (outcomes.Listed (Err errors.Memory)) outcome
        → ListsFile run output name outcome
    unlisted_reports causes.Unopened outcome (inl named) = lists_none outcome named
    unlisted_reports causes.Unopened outcome (inr is) = no_lines outcome is
    unlisted_reports causes.Memory outcome is = no_lines outcome is

module _ (run : FilesRun) (first second : List ℕ) (none : run.readings ≡ []) (which : Which) where
  compares_none : (outcome : Outcome) → IsOfName first outcome ⊎ IsOfName second outcome
      → ComparesFiles run first second outcome
  compares_none (outcomes.Unopened text) named = (named, none)
  compares_none outcome (inl named) = absurd named
  compares_none outcome (inr named) = absurd named

  no_memory : (outcome : Outcome)
      → outcome ≡ outcomes.Compared (Err (record { which = which; error = errors.Memory }))
      → ComparesFiles run first second outcome
  no_memory outcome is =
      subst (ComparesFiles run first second) (sym is) (inr (none, (which, refl)))

  pub first_uncompared : (error : OpenError) (outcome : Outcome)
      → ReportsUnopened first error
      (outcomes.Compared (Err (record { which = which; error = errors.Memory }))) outcome
      → ComparesFiles run first second outcome
  first_uncompared causes.Unopened outcome (inl named) = compares_none outcome (inl named)
  first_uncompared causes.Unopened outcome (inr is) = no_memory outcome is
  first_uncompared causes.Memory outcome is = no_memory outcome is

  pub second_uncompared : (error : OpenError) (outcome : Outcome)
      → ReportsUnopened second error
      (outcomes.Compared (Err (record { which = which; error = errors.Memory }))) outcome
      → ComparesFiles run first second outcome
  second_uncompared causes.Unopened outcome (inl named) = compares_none outcome (inr named)
  second_uncompared causes.Unopened outcome (inr is) = no_memory outcome is
  second_uncompared causes.Memory outcome is = no_memory outcome is

-- ---- what was read

module _ {R : Type 0} (remaining : R → Option (List ℕ)) (whole : Option (List ℕ)) (name : List ℕ)
    (was now : TracedReader R) (unread : IsUnread remaining whole was) (bytes : List ℕ)
    (may : MayContain whole (reading_under name now) bytes) where
  -- what a call took of the file is a prefix of all that it may contain
  pub taken : (given : List ℕ) → Gave (observed_of remaining was) (observed_of remaining now) given
      → IsPrefixOf (observed_of remaining now) given bytes
  taken given gave =
      prefix_of_kept (observed_of remaining was) (observed_of remaining now) given bytes
      (prefix_of remaining whole name was now unread given bytes gave may) gave

given_in : (before observed : Observed) (result : Result Summary Error)
    → ConcludesGiven before observed result → (given : List ℕ) × Gave before observed given
given_in before observed (Ok summary) c = (c.0, c.1)
given_in before observed (Err (errors.Refused fault)) c = (c.given, c.gave)
given_in before observed (Err errors.Read) c = c
given_in before observed (Err errors.Write) c = c
given_in before observed (Err errors.Memory) c = c

module _ {R : Type 0} (remaining : R → Option (List ℕ)) (run : FilesRun) where
  pub counts_read : (name : List ℕ) (was now : TracedReader R)
      → IsUnread remaining (run.holds name) was → (came : Result Summary Error)
      → run.readings ≡ reading_under name now ∷ [] → CountsReading was.failures now.failures came
      → IfErr came (λ error. error ≢ errors.Write)
      → ConcludesGiven (observed_of remaining was) (observed_of remaining now) came
      → ((bytes : List ℕ) → GavePrefix (observed_of remaining was) (observed_of remaining now) bytes
      → ConcludesAll bytes came)
      → CountsFile run name (outcomes.Counted came)
  counts_read name was now unread came is counts written concludes all = inl (
    (
      reading_under name now,
      is,
      refl,
      one_failed name was.failures now unread.failures came counts,
      λ bytes may.
          let (given, gave) =
          given_in (observed_of remaining was) (observed_of remaining now) came concludes in
          all bytes (prefix_of remaining (run.holds name) name was now unread given bytes gave may),
    ),
    written,
  )

  pub compares_read : (first second : List ℕ) (was now other other_now : TracedReader R)
      → IsUnread remaining (run.holds first) was → IsUnread remaining (run.holds second) other
      → (came : Result Verdict SameError)
      → run.readings ≡ reading_under first now ∷ reading_under second other_now ∷ []
      → CountsReadingOf First was.failures now.failures came
      → CountsReadingOf Second other.failures other_now.failures came
      → IfErr came (λ error. error.error ≢ errors.Write)
      → DecidesSame (of_source (observed_of remaining was, observed_of remaining now))
      (of_source (observed_of remaining other, observed_of remaining other_now)) came
      → ComparesFiles run first second (outcomes.Compared came)
  compares_read first second was now other other_now unread other_unread came is counts other_counts
      written decides = inl (
        reading_under first now,
        reading_under second other_now,
        is,
        refl,
        refl,
        subst (λ n. CountsReadingOf First n now.failures came) unread.failures counts,
        subst (λ n. CountsReadingOf Second n other_now.failures came) other_unread.failures
            other_counts,
        written,
        λ file others may others_may.
            decides_all (observed_of remaining was, observed_of remaining now)
            (observed_of remaining other, observed_of remaining other_now) file others
            (taken remaining (run.holds first) first was now unread file may)
            (taken remaining (run.holds second) second other other_now other_unread others
            others_may)
            came decides,
      )
