-- The entries that a prefix reaches, but for a capture's end, are the first of those that more
-- bytes reach.
use Rattle.capture3.proofs.Common.{Fault, StillReaches, parsing_in, ◌≡◌, ◌⊎◌, inl, inr, ℕ, List, [], ◌∷◌, ◌++◌, length, Result, Ok, Err, refl, sym, ap, subst, ◌∙◌, append_assoc, append-nil, Stop, Item, Between, Next, Goes, Ends, Run, Runs, Stops, Stopped, last_running, within, Client, Server, ReplyItems, ShownFault, Entry, End, judge_call, judge_reply, Two, judge_replies, after_server, after_client, AreBytes, IsWellFormed, AreFirstReached, IsLongestClean, Reached, AreWhole, Shows, Parsing, file_next, file_start, parsed, emitted, StreamEnd, Held, Faulty, stream_end, connection_entries, unpacking_with, Begin, Record, Turn, Close, Judged, parsing_at, resumed, call_judged, reply_judged, connection_begun, with_call, with_reply, turned, connection_closed, Agrees, AgreesOn}
use Rattle.std.proofs.lemmas.List.{append_cancel_right}
use Rattle.capture3.specs.declared.container.position.spot.Event.TheVariants as events
use Rattle.capture3.specs.Entries.{AreAllBeforeEnd}
use Rattle.capture3.specs.FileMachine as parsing
use Rattle.capture3.specs.FileMachine.{verdict_of}
use Rattle.capture3.specs.Typed.{Typed}
use Rattle.capture3.specs.machinery.ContainerMachine.{Mark, Unpacking, Unpacked, Has, HasStreams, Refuses, unpack_next, unpacking_start}
use Rattle.capture3.proofs.Lemmas.Files.FileMachineLemmas.{file_runs}
use Rattle.capture3.proofs.Lemmas.Files.Verdicts.{verdict_from_fault, verdict_from_typed}
use Rattle.capture3.proofs.Lemmas.Reached.Growing.{Adds, emitted_here, grows, last_after}
use Rattle.capture3.proofs.Lemmas.Reached.ReachedBeforeFaults.{ended_after, first_reached, last_is}
use Rattle.capture3.proofs.Lemmas.Reached.ReachedLemmas.{whole_stands}
use Rattle.capture3.proofs.Lemmas.Reader.FileStandingLemmas.{whole_connections, follows, agrees_on}

-- ---- what runs on agrees with what was judged

abbrev pub IsAgreed : Parsing → Type 0
IsAgreed s = (u : Unpacking) × (j : Judged) × Agrees u j × (s ≡ parsing_at u j)

abbrev pub GoesAgreed : Next Parsing ShownFault → Type 0
GoesAgreed n = elim n [ Goes t ↦ IsAgreed t | Ends x ↦ Unit {0} ]

goes_agreed : (u : Unpacking) (j : Judged) (byte : ℕ) → Agrees u j
    → GoesAgreed (file_next (parsing_at u j) byte)
goes_agreed u j byte agrees =
    subst GoesAgreed (sym (follows u j byte agrees))
    (on (unpack_next u byte) (agrees_on u j byte agrees))
  where
    on : (n : Next Unpacking Unpacked) → AgreesOn j n → GoesAgreed (resumed j n)
    on (Goes w) next = (w, j, next, refl)
    on (Ends (Has Begin body w)) next = (w, connection_begun w j, next, refl)
    on (Ends (Has (Record Client) body w)) next = by_call (judge_call j.calls body)
      where
        by_call : (r : Result (List Item) Stop) → GoesAgreed (call_judged w j r)
        by_call (Ok call) = (w, with_call j call, next.0 call, refl)
        by_call (Err stop) = tt
    on (Ends (Has (Record Server) body w)) next = by_reply (judge_reply j.calls body)
      where
        by_reply : (r : Result ReplyItems Stop) → GoesAgreed (reply_judged w j r)
        by_reply (Ok reply) = (w, with_reply j reply, next.0 reply, refl)
        by_reply (Err stop) = tt
    on (Ends (Has Turn body w)) next = (w, turned j, next, refl)
    on (Ends (Has Close body w)) next = (w, connection_closed j, next, refl)
    on (Ends (Has events.Streams body w)) next = (w, j, next, refl)
    on (Ends (HasStreams streams w)) next = by_client (stream_end judge_call streams.client)
      where
        by_server : (calls : List (List Item)) (x : StreamEnd ReplyItems)
            → GoesAgreed (within
            (λ p. parsing_in Two j.start j.before w.connections j.entries (parsing.Inside p))
            (parsing.closed Two w.connections j.entries)
            (after_server w.connections w.at w.total calls x))
        by_server calls (Held replies) = (
          unpacking_with w.at w.total w.connections 0 (Mark Two []) Between,
          whole_connections (j.entries ++ connection_entries calls replies),
          refl,
          refl,
        )
        by_server calls (Faulty replies fault) = tt

        by_client : (x : StreamEnd (List Item))
            → GoesAgreed (within
            (λ p. parsing_in Two j.start j.before w.connections j.entries (parsing.Inside p))
            (parsing.closed Two w.connections j.entries)
            (after_client w.connections w.at w.total streams.server x))
        by_client (Held calls) = by_server calls (stream_end (judge_replies calls) streams.server)
        by_client (Faulty calls fault) = tt
    on (Ends (Refuses fault)) next = tt

-- ---- along a prefix and more bytes

-- what is whole after a prefix comes first after more bytes
runs_on : (front back : List ℕ) (u : Unpacking) (j : Judged) → Agrees u j
    → Adds (emitted (last_running file_next (parsing_at u j) front))
    (last_running file_next (parsing_at u j) (front ++ back))
runs_on [] back u j agrees =
    subst (λ (base : List Entry). Adds base (last_running file_next (parsing_at u j) back))
    (sym (emitted_here u j)) (grows back u j agrees)
runs_on (byte ∷ front) back u j agrees =
    by_next (file_next (parsing_at u j) byte) (goes_agreed u j byte agrees) (runs_on front back)
  where
    by_next : (n : Next Parsing ShownFault) → GoesAgreed n
        → ((w : Unpacking) (k : Judged) → Agrees w k
        → Adds (emitted (last_running file_next (parsing_at w k) front))
        (last_running file_next (parsing_at w k) (front ++ back)))
        → Adds (emitted (last_after (parsing_at u j) front n))
        (last_after (parsing_at u j) (front ++ back) n)
    by_next (Goes t) (w, k, agreed, is) more =
        subst
        (λ (s : Parsing).
        Adds (emitted (last_running file_next s front))
        (last_running file_next s (front ++ back)))
        (sym is) (more w k agreed)
    by_next (Ends x) none more =
        ([], sym (append-nil (emitted (parsing_at u j))))

module _ (front back : List ℕ) (are : AreBytes (front ++ back)) where
  -- the prefix shows no fault
  after_state : (entries : List Entry) (s : Parsing) → parsed front ≡ Runs s
      → entries ≡ emitted s → AreFirstReached (front ++ back) entries
  after_state entries s runs is =
      first_reached (front ++ back) are entries
      (subst (λ (base : List Entry). Adds base (last_running file_next file_start (front ++ back)))
      (sym (is ∙ ap emitted (sym (last_is front s runs))))
      (runs_on front back unpacking_start (whole_connections []) refl))

  -- the prefix is a capture
  after_capture : (entries : List Entry) → Typed front (entries ++ End ∷ [])
      → AreFirstReached (front ++ back) entries
  after_capture entries typed =
      by_run (parsed front) refl (verdict_from_typed front (entries ++ End ∷ []) typed)
    where
      by_run : (run : Run Parsing ShownFault) → parsed front ≡ run
          → verdict_of (length front) run ≡ Ok (entries ++ End ∷ [])
          → AreFirstReached (front ++ back) entries
      by_run (Runs s) runs e =
          after_state entries s runs
          (append_cancel_right entries (emitted s) (End ∷ [])
          (ended_after s.entries (length front) s.spot (entries ++ End ∷ []) e))
      by_run (Stops shown) runs e = absurd (cc)
      by_run (Stopped shown) runs e = absurd (cc)

  -- the prefix shows a fault, and so do all bytes
  after_fault : (entries : List Entry) (clean rest : List ℕ) (whole more : List Entry) (byte : ℕ)
      (fault : Fault) → front ≡ clean ++ byte ∷ rest → (h : IsLongestClean front clean more)
      → h.rest ≡ byte ∷ rest → Shows (clean ++ byte ∷ []) fault
      → StillReaches (clean ++ byte ∷ []) more
      → AreWhole clean whole → entries ≡ whole ++ more → AreFirstReached (front ++ back) entries
  after_fault entries clean rest whole more byte fault split h rest-is shows still is_whole is =
      let further : front ++ back ≡ clean ++ byte ∷ (rest ++ back) =
      ap (λ (b : List ℕ). b ++ back) split ∙ append_assoc clean (byte ∷ rest) back in
      let shown_there : front ++ back ≡ (clean ++ byte ∷ []) ++ (rest ++ back) =
      further ∙ sym (append_assoc clean (byte ∷ []) (rest ++ back)) in
      let refused =
      verdict_from_fault (front ++ back) fault are
      (inl (clean ++ byte ∷ [], rest ++ back, shown_there, shows)) in (
        [],
        subst (Reached (front ++ back)) (sym (append-nil entries))
            (inr (
              λ typed. let well = verdict_from_typed (front ++ back) typed.0 typed.1 in cc,
              clean,
              whole,
              more,
              record {
                rest = byte ∷ (rest ++ back);
                split = further;
                clean = h.clean;
                longest = inr (byte, rest ++ back, fault, refl, shows, still);
              },
              is_whole,
              is,
            )),
      )

  after_reached : (entries : List Entry) → (IsWellFormed front → ⊥) → Reached front entries
      → AreFirstReached (front ++ back) entries
  after_reached entries bad (inl typed) = absurd (bad (entries, typed))
  after_reached entries bad (inr (unlike, clean, whole, more, h, is_whole, is)) = go h.longest
    where
      go : ((h.rest ≡ []) × (more ≡ []))
          ⊎ ((byte : ℕ) × (rest : List ℕ) × (fault : Fault) × (h.rest ≡ byte ∷ rest)
          × Shows (clean ++ byte ∷ []) fault × StillReaches (clean ++ byte ∷ []) more)
          → AreFirstReached (front ++ back) entries
      go (inl (none, no_more)) =
          let at = whole_stands clean whole is_whole in
          let same : front ≡ clean =
          h.split ∙ ap (λ (b : List ℕ). clean ++ b) none ∙ append-nil clean in
          after_state entries at.state (ap parsed same ∙ file_runs clean at.state at.stands)
          (is ∙ ap (λ (l : List Entry). whole ++ l) no_more ∙ append-nil whole ∙ sym at.emits)
      go (inr (byte, rest, fault, rest-is, shows, still)) =
          after_fault entries clean rest whole more byte fault
          (h.split ∙ ap (λ (b : List ℕ). clean ++ b) rest-is) h rest-is shows still is_whole is

  pub reached_in_turn : (entries : List Entry) → AreAllBeforeEnd front entries
      → AreFirstReached (front ++ back) entries
  reached_in_turn entries (inl typed) = after_capture entries typed
  reached_in_turn entries (inr (bad, reached)) = after_reached entries bad reached
