-- What the machine emits along bytes is what they reach.
use Rattle.capture3.proofs.Common.{◌≡◌, ◌⊎◌, inl, inr, ℕ, List, [], ◌∷◌, ◌++◌, refl, sym, ap, ap₂, ◌∙◌, append_assoc, append-nil, Result, Ok, Err, Next, Goes, Ends, Runs, Stops, landed, after, last_running, AreBytes, Fault, ShownFault, shown_with, EndsStreams, StillReaches, Entry, Shows, IsWellFormed, unwrap_or, result_ok, Parsing, file_next, file_start, parsed, verdict, emitted, last_entries, reached, IsLongestClean, Reached, after-append, after_stopped, runs_along, last_running-append}
use Rattle.capture3.proofs.Lemmas.Container.BytesOf.{split_bytes}
use Rattle.capture3.proofs.Lemmas.Files.FileMachineLemmas.{file_runs}
use Rattle.capture3.proofs.Lemmas.Files.FileRules.{ends_over}
use Rattle.capture3.proofs.Lemmas.Reached.ReachedLemmas.{whole_stands, stands_whole}
use Rattle.capture3.proofs.Lemmas.Files.Verdicts.{run_shows, shows_from_stops, stops_from_shows, clean_from_runs, typed_from_verdict, verdict_from_typed}

-- what the machine emits is what the bytes reach
pub landed_ends : (shown : ShownFault) (n : Next Parsing ShownFault) → landed n ≡ Stops shown
    → n ≡ Ends shown
landed_ends shown (Goes t) e = absurd (cc)
landed_ends shown (Ends x) e = cc

one_more : (front : List ℕ) (s : Parsing) (byte : ℕ) → parsed front ≡ Runs s
    → parsed (front ++ byte ∷ []) ≡ landed (file_next s byte)
one_more front s byte e =
    after-append file_next (Runs file_start) front (byte ∷ [])
    ∙ ap (λ r. after file_next r (byte ∷ [])) e

stopped_entries : (shown : ShownFault) (back : List ℕ)
    → last_entries (after file_next (Stops shown) back) ≡ shown.more
stopped_entries shown [] = refl
stopped_entries shown (byte ∷ back) = ap last_entries (after_stopped file_next shown back)

after_entries : (bytes front : List ℕ) (s : Parsing) (byte : ℕ) (back : List ℕ) (shown : ShownFault)
    → bytes ≡ front ++ byte ∷ back → parsed front ≡ Runs s → file_next s byte ≡ Ends shown
    → last_entries (parsed bytes) ≡ shown.more
after_entries bytes front s byte back shown split e ends =
    ap last_entries (ap parsed split ∙ after-append file_next (Runs file_start) front (byte ∷ back)
    ∙ ap (λ r. after file_next r (byte ∷ back)) e
    ∙ ap (λ n. after file_next (landed n) back) ends)
    ∙ stopped_entries shown back

-- ---- what the byte of a fault still reaches

ends_are : (bytes : List ℕ) (shown : ShownFault) (entries : List Entry)
    → parsed bytes ≡ Stops shown → EndsStreams bytes entries → shown.more ≡ entries
ends_are bytes shown entries e ends =
    elim (ends_over bytes entries ends) [
      | inl f ↦
          let same : shown ≡ shown_with entries ends.fault = cc in
          ap (λ (r : ShownFault). r.more) same
      | inr past ↦ let f = past.2 in absurd (cc)
    ]

-- it is what the machine stops with
pub stop_reaches : (bytes : List ℕ) (shown : ShownFault) → AreBytes bytes
    → parsed bytes ≡ Stops shown → StillReaches bytes shown.more
stop_reaches bytes shown are e =
    elim (run_shows bytes (Stops shown) are e).1 [
      | inl none ↦ inr (none, λ entries ends. sym (ends_are bytes shown entries e ends) ∙ none)
      | inr ends ↦ inl ends
    ]

-- and nothing else
still_is : (bytes : List ℕ) (shown : ShownFault) (more : List Entry) → AreBytes bytes
    → parsed bytes ≡ Stops shown → StillReaches bytes more → shown.more ≡ more
still_is bytes shown more are e (inl ends) = ends_are bytes shown more e ends
still_is bytes shown more are e (inr (none, others)) =
    elim (stop_reaches bytes shown are e) [
      | inl ends ↦ others shown.more ends ∙ sym none
      | inr empty ↦ empty.0 ∙ sym none
    ]

reached_without : (bytes : List ℕ) (v : Result (List Entry) Fault) → verdict bytes ≡ v
    → AreBytes bytes → (IsWellFormed bytes → ⊥)
    → reached bytes
    ≡ emitted (last_running file_next file_start bytes) ++ last_entries (parsed bytes)
reached_without bytes (Ok entries) e are bad =
    absurd (bad (entries, typed_from_verdict bytes entries are e))
reached_without bytes (Err fault) e are bad =
    ap
    (λ v.
    unwrap_or (result_ok v)
    (emitted (last_running file_next file_start bytes) ++ last_entries (parsed bytes)))
    e

-- after the longest clean prefix
longest_is : (bytes front : List ℕ) (s : Parsing) (more : List Entry)
    → (h : IsLongestClean bytes front more) → AreBytes bytes → parsed front ≡ Runs s
    → (last_running file_next s h.rest ≡ s) × (last_entries (parsed bytes) ≡ more)
longest_is bytes front s more h are e = go h.longest
  where
    go : ((h.rest ≡ []) × (more ≡ []))
        ⊎ ((byte : ℕ) × (back : List ℕ) × (fault : Fault) × (h.rest ≡ byte ∷ back)
        × Shows (front ++ byte ∷ []) fault × StillReaches (front ++ byte ∷ []) more)
        → (last_running file_next s h.rest ≡ s) × (last_entries (parsed bytes) ≡ more)
    go (inl l) = (
      ap (last_running file_next s) l.0,
      ap last_entries
          (ap parsed (h.split ∙ ap (λ (b : List ℕ). front ++ b) l.0 ∙ append-nil front) ∙ e)
          ∙ sym l.1,
    )
    go (inr (byte, back, fault, rest-is, shows, still)) =
        let split = h.split ∙ ap (λ (b : List ℕ). front ++ b) rest-is in
        let there =
        (split_bytes bytes (front ++ byte ∷ []) back
        (split ∙ sym (append_assoc front (byte ∷ []) back)) are).0 in
        let stop = stops_from_shows (front ++ byte ∷ []) fault there shows in
        let shown : ShownFault = shown_with stop.0 fault in
        let ends =
        landed_ends shown (file_next s byte) (sym (one_more front s byte e) ∙ stop.1) in (
          ap (last_running file_next s) rest-is
              ∙ ap (λ n. elim n [ Goes t ↦ last_running file_next t back | Ends x ↦ s ]) ends,
          after_entries bytes front s byte back shown split e ends
              ∙ still_is (front ++ byte ∷ []) shown more there stop.1 still,
        )

pub machine_reaches : (bytes : List ℕ) (entries : List Entry) → AreBytes bytes
    → Reached bytes entries → entries ≡ reached bytes
machine_reaches bytes entries are (inl h) =
    sym (ap
    (λ v.
    unwrap_or (result_ok v) (emitted (last_running file_next file_start bytes)
    ++ last_entries (parsed bytes))) (verdict_from_typed bytes entries h))
machine_reaches bytes entries are (inr h) =
    let (bad, front, whole, more, longest, is_whole, is) = h in
    let at = whole_stands front whole is_whole in
    let runs = file_runs front at.state at.stands in
    let last = longest_is bytes front at.state more longest are runs in
    is
    ∙ ap (λ l. l ++ more) (sym at.emits)
    ∙ ap₂ (λ t es. emitted t ++ es)
    (sym (ap (last_running file_next file_start) longest.split
    ∙ last_running-append file_next file_start at.state front longest.rest runs
    ∙ last.0)) (sym last.1)
    ∙ sym (reached_without bytes (verdict bytes) refl are bad)

longest_cases : (bytes front : List ℕ) (s : Parsing) (rest : List ℕ) → AreBytes bytes
    → bytes ≡ front ++ rest → parsed front ≡ Runs s
    → ((byte : ℕ) (back : List ℕ) → rest ≡ byte ∷ back
    → (x : ShownFault) × (file_next s byte ≡ Ends x))
    → ((rest ≡ []) × (last_entries (parsed bytes) ≡ []))
    ⊎ ((byte : ℕ) × (back : List ℕ) × (fault : Fault) × (rest ≡ byte ∷ back)
    × Shows (front ++ byte ∷ []) fault
    × StillReaches (front ++ byte ∷ []) (last_entries (parsed bytes)))
longest_cases bytes front s [] are split e stops =
    inl (refl, ap last_entries (ap parsed (split ∙ append-nil front) ∙ e))
longest_cases bytes front s (byte ∷ back) are split e stops =
    let stop = stops byte back refl in
    let there =
    (split_bytes bytes (front ++ byte ∷ []) back
    (split ∙ sym (append_assoc front (byte ∷ []) back)) are).0 in
    let stopped : parsed (front ++ byte ∷ []) ≡ Stops stop.0 =
    one_more front s byte e ∙ ap landed stop.1 in
    inr (
      byte,
      back,
      stop.0.fault,
      refl,
      shows_from_stops (front ++ byte ∷ []) stop.0 there stopped,
      rw (after_entries bytes front s byte back stop.0 split e stop.1)
          (stop_reaches (front ++ byte ∷ []) stop.0 there stopped),
    )

reached_cases : (bytes : List ℕ) (v : Result (List Entry) Fault) → AreBytes bytes
    → verdict bytes ≡ v
    → Reached bytes (unwrap_or (result_ok v)
    (emitted (last_running file_next file_start bytes) ++ last_entries (parsed bytes)))
reached_cases bytes (Ok entries) are e = inl (typed_from_verdict bytes entries are e)
reached_cases bytes (Err fault) are e =
    let s : Parsing = last_running file_next file_start bytes in
    let r = runs_along file_next file_start bytes in
    inr (
      (λ w. let typed = verdict_from_typed bytes w.0 w.1 in cc),
      r.front,
      emitted s,
      last_entries (parsed bytes),
      record {
        rest = r.rest;
        split = r.split;
        clean = clean_from_runs r.front s r.runs;
        longest = longest_cases bytes r.front s r.rest are r.split r.runs r.stops;
      },
      stands_whole r.front s
          (run_shows r.front (Runs s) (split_bytes bytes r.front r.rest r.split are).0 r.runs),
      refl,
    )

pub reached_by_machine : (bytes : List ℕ) → AreBytes bytes → Reached bytes (reached bytes)
reached_by_machine bytes are = reached_cases bytes (verdict bytes) are refl
