-- The machine for a capture file.
use Rattle.std.specs.Prelude.{ℕ, zero, suc, ◌+◌, List, [], ◌∷◌, ◌++◌, codes, length, cond, nat_lt, nat_eq, Result, Ok, Err, unwrap_or}
use Rattle.std.specs.Result.{result_ok}
use Rattle.xdr3.specs.declared.reason.Reason.TheVariants.{BadMagic, CaptureCut, BadMark, AfterEnd, TooManyConnections}
use Rattle.record_mark.specs.Machine.{Next, Goes, Ends, Run, Runs, Stops, Stopped, after, within, last_running}
use Rattle.record_mark.specs.Word.{word_next}
use Rattle.capture3.specs.declared.fault.Fault.{Fault}
use Rattle.capture3.specs.Capture.{Version, One, Two, max_connections}
use Rattle.capture3.specs.Entry.{Entry, End}
use Rattle.capture3.specs.ConnectionMachine.{Opening, Closing, Closes, Refuses, ShownFault, refusal, opening_next, opened, opening_entries}
use Rattle.capture3.specs.Sides.{file_fault}

-- the bytes with which each magic begins, and the byte after them
abbrev pub magic_front : List ℕ
magic_front = codes "NFS3CAP"

abbrev pub digit : Version → ℕ
digit One = 49
digit Two = 50

-- before a byte of the magic, before its last byte, in a connection word, in a connection, or after
-- the last word 0
pub data Spot : Type 0 where
  Magic : (due : ℕ) → (more : List ℕ) → Spot
  Digit : Spot
  Mark : (part : List ℕ) → Spot
  Inside : Opening → Spot
  Ended : Spot

-- the version, once its byte has come; where the connection word begins, or the file's bytes so
-- far; the stream bytes and the number of connections so far, and the entries of those that are
-- whole
pub record Parsing : Type 0 where
  pub version : Version
  pub at : ℕ
  pub total : ℕ
  pub number : ℕ
  pub entries : List Entry
  pub spot : Spot

-- the machine at this spot
abbrev pub parsing_in : Version → (at total number : ℕ) → List Entry → Spot → Parsing
parsing_in version at total number entries spot =
    record {
      version = version;
      at = at;
      total = total;
      number = number;
      entries = entries;
      spot = spot;
    }

-- a byte of the magic has come, and this is left of it
abbrev pub magic_left : List ℕ → Spot
magic_left [] = Digit
magic_left (due ∷ more) = Magic due more

-- a connection word has come
abbrev pub marked : Version → ℕ → ℕ → ℕ → List Entry → ℕ → Next Parsing ShownFault
marked version at total number entries zero =
    Goes (parsing_in version (at + 4) total number entries Ended)
marked version at total number entries (suc zero) =
    cond (nat_lt number max_connections)
    (Goes (parsing_in version (at + 4) total (suc number) entries
    (Inside (opened version (at + 4) total))))
    (Ends (refusal (file_fault at TooManyConnections)))
marked version at total number entries (suc (suc other)) = Ends (refusal (file_fault at BadMark))

-- a connection has ended
abbrev pub closed : Version → ℕ → List Entry → Closing → Next Parsing ShownFault
closed version number entries (Closes at total more) =
    Goes (parsing_in version at total number (entries ++ more) (Mark []))
closed version number entries (Refuses shown) = Ends shown

abbrev pub spot_step : Version → ℕ → ℕ → ℕ → List Entry → Spot → ℕ → Next Parsing ShownFault
spot_step version at total number entries (Magic due more) byte =
    cond (nat_eq byte due)
    (Goes (parsing_in version (at + 1) total number entries (magic_left more)))
    (Ends (refusal (file_fault at BadMagic)))
spot_step version at total number entries Digit byte =
    cond (nat_eq byte (digit One)) (Goes (parsing_in One (at + 1) total number entries (Mark [])))
    (cond (nat_eq byte (digit Two)) (Goes (parsing_in Two (at + 1) total number entries (Mark [])))
    (Ends (refusal (file_fault at BadMagic))))
spot_step version at total number entries (Mark part) byte =
    within (λ p. parsing_in version at total number entries (Mark p))
    (marked version at total number entries) (word_next part byte)
spot_step version at total number entries (Inside o) byte =
    within (λ p. parsing_in version at total number entries (Inside p))
    (closed version number entries) (opening_next number o byte)
spot_step version at total number entries Ended byte = Ends (refusal (file_fault at AfterEnd))

abbrev pub file_next : Parsing → ℕ → Next Parsing ShownFault
file_next s byte = spot_step s.version s.at s.total s.number s.entries s.spot byte

abbrev pub file_start : Parsing
file_start = parsing_in One 0 0 0 [] (magic_left magic_front)

-- the machine after these bytes
abbrev pub parsed : List ℕ → Run Parsing ShownFault
parsed bytes = after file_next (Runs file_start) bytes

-- the entries that are whole, without the capture's end
abbrev pub spot_entries : Spot → List Entry
spot_entries (Inside o) = opening_entries o
spot_entries _ = []

abbrev pub emitted : Parsing → List Entry
emitted s = s.entries ++ spot_entries s.spot

-- what the machine says of a whole file
abbrev pub concluded : ℕ → List Entry → Spot → Result (List Entry) Fault
concluded size entries Ended = Ok (entries ++ End ∷ [])
concluded size entries _ = Err (file_fault size CaptureCut)

abbrev pub verdict_of : ℕ → Run Parsing ShownFault → Result (List Entry) Fault
verdict_of size (Runs s) = concluded size s.entries s.spot
verdict_of size (Stops shown) = Err shown.fault
verdict_of size (Stopped shown) = Err shown.fault

-- its entries, or its first fault
abbrev pub verdict : List ℕ → Result (List Entry) Fault
verdict file = verdict_of (length file) (parsed file)

-- the entries that the byte of the fault still reaches
abbrev pub last_entries : Run Parsing ShownFault → List Entry
last_entries (Runs s) = []
last_entries (Stops shown) = shown.more
last_entries (Stopped shown) = shown.more

-- the entries that the machine emits along these bytes
abbrev pub reached : List ℕ → List Entry
reached bytes =
    unwrap_or (result_ok (verdict bytes)) (emitted (last_running file_next file_start bytes)
    ++ last_entries (parsed bytes))
