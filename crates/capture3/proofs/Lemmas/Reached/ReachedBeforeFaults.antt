-- What the bytes reach: in front of a fault, and from entries on that are whole.
use Rattle.capture3.proofs.Common.{◌≡◌, inl, ℕ, List, [], ◌∷◌, ◌++◌, length, Result, Ok, Err, refl, sym, ap, ◌∙◌, append_assoc, append-nil, AreBytes, Run, Runs, Stops, Stopped, last_running, last_running-append, Fault, ShownFault, AreFirstReached, Reached, Entry, End, Judged, Agrees, emitted_at, parsing_at, Unpacking, unwrap_or, result_ok}
use Rattle.capture3.specs.FileMachine.{Parsing, Spot, Ended, file_next, file_start, parsed, concluded, verdict, verdict_of, spot_entries, emitted, last_entries, reached}
use Rattle.capture3.proofs.Lemmas.Reached.EmittedEntries.{reached_by_machine}
use Rattle.capture3.proofs.Lemmas.Reached.Growing.{Adds, grows}
use Rattle.capture3.proofs.Lemmas.Files.Verdicts.{typed_from_verdict}

-- ---- entries that are whole

pub ended_after : (entries : List Entry) (size : ℕ) (spot : Spot) (all : List Entry)
    → concluded size entries spot ≡ Ok all → all ≡ (entries ++ spot_entries spot) ++ End ∷ []
ended_after entries size Ended all e =
    let same : entries ++ End ∷ [] ≡ all = cc in
    sym same ∙ ap (λ (l : List Entry). l ++ End ∷ []) (sym (append-nil entries))
ended_after entries size spot all e = absurd (cc)

pub last_is : (bytes : List ℕ) (s : Parsing) → parsed bytes ≡ Runs s
    → last_running file_next file_start bytes ≡ s
last_is bytes s runs =
    ap (last_running file_next file_start) (sym (append-nil bytes))
    ∙ last_running-append file_next file_start s bytes [] runs

-- the entries with which what the machine has emitted begins are the first that the bytes reach
module _ (bytes : List ℕ) (are : AreBytes bytes) (base : List Entry)
    (added : Adds base (last_running file_next file_start bytes)) where
  last_state : Parsing
  last_state = last_running file_next file_start bytes

  first_of : (all tail : List Entry) → all ≡ emitted last_state ++ tail → Reached bytes all
      → AreFirstReached bytes base
  unfolding last_state
  first_of all tail is reaches = (
    added.0 ++ tail,
    rw (← (is ∙ ap (λ (l : List Entry). l ++ tail) added.1
        ∙ append_assoc base added.0 tail)) reaches,
  )

  ended_run : (all : List Entry) (run : Run Parsing ShownFault) → parsed bytes ≡ run
      → verdict_of (length bytes) run ≡ Ok all → all ≡ emitted last_state ++ End ∷ []
  unfolding last_state
  ended_run all (Runs s) runs e =
      ended_after s.entries (length bytes) s.spot all e
      ∙ ap (λ (z : Parsing). emitted z ++ End ∷ []) (sym (last_is bytes s runs))
  ended_run all (Stops shown) runs e = absurd (cc)
  ended_run all (Stopped shown) runs e = absurd (cc)

  by_verdict : (v : Result (List Entry) Fault) → verdict bytes ≡ v → AreFirstReached bytes base
  unfolding last_state
  by_verdict (Ok all) e =
      first_of all (End ∷ []) (ended_run all (parsed bytes) refl e)
      (inl (typed_from_verdict bytes all are e))
  by_verdict (Err fault) e =
      first_of (reached bytes) (last_entries (parsed bytes))
      (ap (λ v. unwrap_or (result_ok v) (emitted last_state ++ last_entries (parsed bytes))) e)
      (reached_by_machine bytes are)

  pub first_reached : AreFirstReached bytes base
  first_reached = by_verdict (verdict bytes) refl

-- whatever bytes come after those that it has taken, what the machine has emitted are the first
-- entries that all reach
pub first_reached_at : (front back : List ℕ) (u : Unpacking) (j : Judged)
    → AreBytes (front ++ back) → Agrees u j → parsed front ≡ Runs (parsing_at u j)
    → AreFirstReached (front ++ back) (emitted_at u.opened j)
first_reached_at front back u j are agrees stands =
    let g = grows back u j agrees in
    first_reached (front ++ back) are (emitted_at u.opened j) (
      g.0,
      ap emitted (last_running-append file_next file_start (parsing_at u j) front back stands)
          ∙ g.1,
    )
