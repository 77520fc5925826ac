-- What the words of a command line of nfs3streams ask for.
use Rattle.std.specs.Prelude.{◌≡◌, ◌≢◌, ◌⊎◌, ℕ, cond, nat_lt, List, [], Some, codes, unwrap_or}
use Rattle.clap.specs.Words.{Row, all_of, count_of, first_of, matches_of}
use Rattle.line3.specs.Asked.{IsRefusedBy}
use Rattle.line3.specs.declared.asked.LineFault.{LineFault}
use Rattle.line3.specs.declared.asked.LineFault.TheVariants.{Usage, SameName, Memory}
use Rattle.nfs3streams.specs.Grammar.{streams_app}
use Rattle.nfs3streams.specs.Ports.{AreAllPorts}
use Rattle.nfs3streams.specs.declared.line.asked.StreamsJob.{StreamsJob}
use Rattle.nfs3streams.specs.declared.line.asked.Wanted.{Wanted}
use Rattle.nfs3streams.specs.declared.line.asked.Wanted.TheVariants.{Capture, Index}

-- an index is wanted if the flag is given
abbrev pub wanted_in : List Row → Wanted
wanted_in found = cond (nat_lt 0 (count_of (codes "index") found)) Index Capture

-- the values of all uses of an argument
abbrev pub values_named : (argument : List ℕ) → List Row → List (List ℕ)
values_named argument found = unwrap_or (all_of argument found) []

-- the arguments are those of the job, and the recording is not the output
pub record IsJobIn (found : List Row) (job : StreamsJob) : Type 0 where
  pub recording : first_of (codes "RECORDING") found ≡ Some job.recording.now
  pub output : first_of (codes "OUT") found ≡ Some job.output.now
  pub wanted : job.wanted ≡ wanted_in found
  pub ports : AreAllPorts (values_named (codes "PORT") found) job.ports.items
  pub distinct : job.recording.now ≢ job.output.now

-- the output is the recording
pub record ConvertsItself (found : List Row) : Type 0 where
  pub name : List ℕ
  pub recording : first_of (codes "RECORDING") found ≡ Some name
  pub output : first_of (codes "OUT") found ≡ Some name

-- a usage, which cannot be if this holds; or that memory ran out for its text
abbrev pub IsUsageUnless : Type 0 → LineFault → Type 0
IsUsageUnless Holds (Usage _) = Holds → ⊥
IsUsageUnless Holds Memory = Unit {0}
IsUsageUnless Holds _ = ⊥

-- where the fault is the usage, the arguments are those of no job
abbrev pub IsRefusedIn : (found : List Row) → LineFault → Type 0
IsRefusedIn found SameName = ConvertsItself found
IsRefusedIn found fault = IsUsageUnless ((job : StreamsJob) × IsJobIn found job) fault

-- what clap finds in the words, the program's name first
unfoldable pub found_in : (words : List (List ℕ)) → List Row
found_in words = matches_of streams_app words

abbrev pub AsksForStreams : (words : List (List ℕ)) → StreamsJob → Type 0
AsksForStreams words job = IsJobIn (found_in words) job

-- clap refuses the line, or its arguments are refused
abbrev pub AreStreamsWordsRefused : List (List ℕ) → LineFault → Type 0
AreStreamsWordsRefused words fault =
    IsRefusedBy streams_app words fault ⊎ IsRefusedIn (found_in words) fault
