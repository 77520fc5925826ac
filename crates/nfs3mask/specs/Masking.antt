-- What came of masking a capture, from the words of the command line on.
use Rattle.std.specs.Prelude.{◌≡◌, ◌⊎◌, ℕ, Bool, false, List, [], Ok, Err, string_bytes}
use Rattle.clap.specs.Words.{fault_of}
use Rattle.capture3.specs.declared.fault.Error.TheVariants as errors
use Rattle.canon3.specs.Summary.{IsSummary}
use Rattle.line3.specs.declared.asked.LineFault.{LineFault}
use Rattle.masking3.specs.Masked.{masked_bytes}
use Rattle.program3.specs.Files.{FilesRun, RewritesFile, TouchesNone}
use Rattle.program3.specs.declared.outcome.Outcome.{Outcome}
use Rattle.program3.specs.declared.outcome.Outcome.TheVariants as outcomes
use Rattle.nfs3mask.specs.Changes.{mask_text}
use Rattle.nfs3mask.specs.Grammar.{mask_app}
use Rattle.nfs3mask.specs.MaskLine.{AreMaskWordsRefused, AsksForMask}
use Rattle.nfs3mask.specs.declared.line.asked.MaskJob.{MaskJob}

module _ (run : FilesRun) where
  -- the masked form of the job's input is written to its output
  abbrev pub RewritesMasked : MaskJob → Outcome → Type 0
  RewritesMasked job outcome =
      RewritesFile IsSummary (masked_bytes job.ways) run (job.input.now, job.output.now) outcome

  -- So it is, and the words tell just the ways by which. Or no file was finished, for a reason that
  -- is told.
  abbrev pub MasksFile : MaskJob → Outcome → Type 0
  MasksFile job (outcomes.Masked summary words) = (string_bytes words ≡ mask_text job.ways)
      × RewritesMasked job (outcomes.Counted (Ok summary))
  MasksFile job (outcomes.Counted (Ok summary)) = ⊥
  MasksFile job outcome = RewritesMasked job outcome

  -- The outcome is that of masking. Where the system gave no random bytes, nothing is read, and the
  -- answer is as after a failed read.
  abbrev pub AnswersMaskJob : (has_keys : Bool) → MaskJob → Outcome → Type 0
  AnswersMaskJob has_keys job outcome = MasksFile job outcome
      ⊎ ((has_keys ≡ false) × TouchesNone run × (outcome ≡ outcomes.Counted (Err errors.Read)))

  -- The words ask for a mask, clap finds no fault in them, and this is the outcome; or they are
  -- refused, and nothing is read or written.
  abbrev pub AnswersMaskLine : (has_keys : Bool) → (words : List (List ℕ)) → Outcome → Type 0
  AnswersMaskLine has_keys words outcome =
      ((job : MaskJob) × AsksForMask words job × (fault_of mask_app words ≡ [])
      × AnswersMaskJob has_keys job outcome)
      ⊎ ((fault : LineFault) × (outcome ≡ outcomes.Line fault) × AreMaskWordsRefused words fault
      × TouchesNone run)
