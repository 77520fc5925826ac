-- What comes of a command line, from its words on.
use Rattle.std.specs.Prelude.{◌≡◌, ◌⊎◌, ℕ, Bool, false, List, [], map, Some, Err, string_bytes}
use Rattle.clap.specs.Words.{fault_of}
use Rattle.capture3.specs.declared.fault.Error.TheVariants as errors
use Rattle.canon3.specs.Canonical.{canonical_bytes}
use Rattle.canon3.specs.Summary.{IsSummary}
use Rattle.canon3.specs.declared.comparison.verdict.Which.TheVariants.{First}
use Rattle.line3.specs.Asked.{Asks, AreRefused}
use Rattle.line3.specs.Grammar.{app}
use Rattle.line3.specs.declared.asked.Job.{Job}
use Rattle.line3.specs.declared.asked.Job.TheVariants as jobs
use Rattle.line3.specs.declared.asked.LineFault.{LineFault}
use Rattle.program3.specs.Files.{FilesRun, FinishesNone, RewritesFile}
use Rattle.program3.specs.declared.outcome.Outcome.{Outcome}
use Rattle.program3.specs.declared.outcome.Outcome.TheVariants as outcomes
use Rattle.nfs3canon.specs.Files.{ComparesFiles, CountsFile, ListsFile, PacksFile, WriterRun}

-- what a run of the program was given, and what came of it
pub record ProgramRun (W : Type 0) : Type 0 where
  -- whether the system gave random bytes
  pub has_keys : Bool
  pub files : FilesRun
  pub stdout : WriterRun W

-- the outcome of a command that hashes is that of a failed read
abbrev pub AnswersUnread : Job → Outcome → Type 0
AnswersUnread (jobs.Check file) outcome = outcome ≡ outcomes.Counted (Err errors.Read)
AnswersUnread (jobs.Show file) outcome = outcome ≡ outcomes.Listed (Err errors.Read)
AnswersUnread (jobs.Canon input output) outcome = outcome ≡ outcomes.Counted (Err errors.Read)
AnswersUnread (jobs.Same first second) outcome =
    outcome ≡ outcomes.Compared (Err (record { which = First; error = errors.Read }))
AnswersUnread (jobs.Pack output streams) outcome = ⊥

module _ {W : Type 0} (run : ProgramRun W) where
  -- nothing is written to standard output
  abbrev pub PrintsNothing : Type 0
  PrintsNothing = run.stdout.after ≡ Some run.stdout.before

  -- nothing is finished either
  abbrev pub KeepsQuiet : Type 0
  KeepsQuiet = FinishesNone run.files.finished × PrintsNothing

  -- the outcome is that of what was read of the files of the job's names
  abbrev pub DoesJob : Job → Outcome → Type 0
  DoesJob (jobs.Check file) outcome = KeepsQuiet × CountsFile run.files file.now outcome
  DoesJob (jobs.Show file) outcome =
      FinishesNone run.files.finished × ListsFile run.files run.stdout file.now outcome
  DoesJob (jobs.Canon input output) outcome = PrintsNothing
      × RewritesFile IsSummary canonical_bytes run.files (input.now, output.now) outcome
  DoesJob (jobs.Same first second) outcome =
      KeepsQuiet × ComparesFiles run.files first.now second.now outcome
  DoesJob (jobs.Pack output streams) outcome =
      PrintsNothing × PacksFile run.files output.now (map string_bytes streams.now) outcome

  -- Without random bytes a command that hashes reads nothing, and answers as after a failed read.
  abbrev pub LacksKeys : Job → Outcome → Type 0
  LacksKeys job outcome = (run.has_keys ≡ false) × AnswersUnread job outcome
      × (run.files.readings ≡ []) × KeepsQuiet

  abbrev pub AnswersJob : Job → Outcome → Type 0
  AnswersJob job outcome = DoesJob job outcome ⊎ LacksKeys job outcome

  -- The words ask for a job, clap finds no fault in them, and this is its outcome; or they are
  -- refused, and nothing is read or written.
  abbrev pub AnswersLine : (words : List (List ℕ)) → Outcome → Type 0
  AnswersLine words outcome =
      ((job : Job) × Asks words job × (fault_of app words ≡ []) × AnswersJob job outcome)
      ⊎ ((fault : LineFault) × (outcome ≡ outcomes.Line fault) × AreRefused words fault
      × (run.files.readings ≡ []) × KeepsQuiet)
