-- What the byte of a fault still reaches, in a file of version 2: the entries of the connection
-- before a record at fault.
use Rattle.capture3.proofs.Common.{lengths, ◌≡◌, ◌⊎◌, inl, inr, ℕ, suc, ◌+◌, ◌<◌, ◌≤◌, List, [], ◌∷◌, ◌++◌, length, refl, sym, ap, subst, ◌∙◌, append-nil, arith, Next, Goes, Ends, Run, Runs, landed, after, Two, total_size, max_bytes, max_connections, Position, HaveEntries, Fault, ShownFault, StreamsShow, StillReaches, Shows, AfterConnections, Mixing, MixedCloses, mixed_next, mixing_from, InMixed, Opening, opened, Version, Parsing, emitted, file_next, parsed, Streams, size, AreMixed, Tells, ran_before, tells, AreWithinLimits, AreWhole, IsLongestClean, Reached}
use Rattle.capture3.specs.Entry.{Entry, Begin}
use Rattle.capture3.proofs.Lemmas.Connections.ConnectionMachineLemmas.{in_mixed}
use Rattle.capture3.proofs.Lemmas.Files.FileRules.{inside_or, shown_mixed, streams_some}
use Rattle.capture3.proofs.Lemmas.Files.FileMachineLemmas.{AnyRefusal, Stands, AtMagic, AtMark, AtInside, AtEnd, context_at, file_runs, in_file, inside_at}
use Rattle.capture3.proofs.Lemmas.Reached.Limits.{IsAfter, after_within, streams_after, typed_within, whole_within}
use Rattle.capture3.proofs.Lemmas.Container.SidedChunksRules.{closes_over}
use Rattle.capture3.proofs.Lemmas.Container.SidedChunksMachineLemmas.{HasMixed, EndsMixed, RefusedMixed, mixed_leads, mixed_taken, nothing_gathered}
use Rattle.capture3.proofs.Lemmas.Files.EndedMachines.{Past, At, Fails, after_two, gone_more, past_inside, runs_inside, runs_not_gone}
use Rattle.capture3.proofs.Lemmas.Reached.ReachedLemmas.{StandsAt, whole_stands}

-- the last byte
split_last : (front x y : List ℕ) (byte : ℕ) → front ++ byte ∷ [] ≡ x ++ y → 0 < length y
    → (z : List ℕ) × (y ≡ z ++ byte ∷ []) × (front ≡ x ++ z)
split_last front [] y byte e some = (front, sym e, refl)
split_last [] (a ∷ x) y byte e some =
    let none : x ++ y ≡ [] = cc in
    absurd (omega (lengths, ap length none))
split_last (b ∷ front) (a ∷ x) y byte e some =
    let first : b ≡ a = cc in
    let rest : front ++ byte ∷ [] ≡ x ++ y = cc in
    let s = split_last front x y byte rest some in
    (s.0, s.1, ap (λ (n : ℕ). n ∷ front) first ∙ ap (λ (l : List ℕ). a ∷ l) s.2)

landed_past : (run : Run Parsing ShownFault) (n : Next Parsing ShownFault) → run ≡ landed n
    → Past AnyRefusal run → ⊥
landed_past run (Goes t) e past = let f = past.2 in cc
landed_past run (Ends x) e past = let f = past.2 in cc

-- in a connection, after these
inside_stands : (bytes : List ℕ) (version : Version) (at total number : ℕ) (entries : List Entry)
    (o : Opening) → Stands bytes (inside_at version at total number entries o)
    → (connections : List Streams) × HaveEntries connections entries
    × (length connections < max_connections) × (total_size connections ≤ max_bytes)
    × (total ≡ total_size connections)
inside_stands bytes version at total number entries o (AtMagic [] begins is) =
    absurd (cc (ap (λ (s : Parsing). s.spot) is))
inside_stands bytes version at total number entries o (AtMagic (due ∷ more) begins is) =
    absurd (cc (ap (λ (s : Parsing). s.spot) is))
inside_stands bytes version at total number entries o
    (AtMark v front part connections all split short opens is) =
    absurd (cc (ap (λ (s : Parsing). s.spot) is))
inside_stands bytes version at total number entries o
    (AtEnd v front last connections all split opens closes is) =
    absurd (cc (ap (λ (s : Parsing). s.spot) is))
inside_stands bytes version at total number entries o
    (AtInside v front mark rest connections all p split opens one few inside is) = (
      connections,
      rw (ap (λ (s : Parsing). s.entries) is) opens.messages,
      few,
      opens.small,
      ap (λ (s : Parsing). s.total) is,
    )

-- A prefix that the machine runs through, and a byte after it with which the streams of a
-- connection are whole.
module _ (front : List ℕ) (byte : ℕ) (state : Parsing) (whole : List Entry)
    (runs : parsed front ≡ Runs state) (stands : Stands front state) (emits : emitted state ≡ whole)
    (b : AfterConnections (front ++ byte ∷ [])) (two : b.version ≡ Two) (one : b.mark ≡ 1)
    (more : List Entry) (fault : Fault)
    (shows : StreamsShow (suc (length b.connections)) b.rest more fault) where
  at : ℕ
  at = length b.front

  total : ℕ
  total = total_size b.connections

  number : ℕ
  number = length b.connections

  context : Position
  context = context_at (suc number) (at + 4) total

  the_mixed : (streams : Streams) × AreMixed b.rest streams
  the_mixed = shown_mixed (suc (length b.connections)) b.rest more fault shows

  -- the connection's bytes without the last
  cut : (z : List ℕ) × (b.rest ≡ z ++ byte ∷ []) × (front ≡ (b.front ++ b.word) ++ z)
  cut =
      split_last front (b.front ++ b.word) b.rest byte b.split
      (streams_some (suc (length b.connections)) b.rest more fault shows)

  steps : parsed front ≡ after file_next (parsed (b.front ++ b.word)) cut.0
  unfolding cut
  steps = after_two _ _ (b.front ++ b.word) cut.0 cut.2 refl refl

  -- after the word 1 the machine is in the connection
  inside : (entries : List Entry)
      × (parsed (b.front ++ b.word)
      ≡ Runs (inside_at Two (at + 4) total (suc number) entries (opened Two (at + 4) total)))
  unfolding at total number cut steps
  inside =
      elim (inside_or (front ++ byte ∷ []) b one) [
        | At entries e ↦ (entries, rw two at e)
        | Fails gone ↦
            absurd (runs_not_gone {Bad = AnyRefusal} (parsed front) state runs
            (rw steps (gone_more file_next AnyRefusal (parsed (b.front ++ b.word)) cut.0 gone)))
      ]

  -- the chunks show no fault
  not_past : Past RefusedMixed (mixed_taken context b.rest) → ⊥
  unfolding context
  not_past past =
      let one_more : parsed (front ++ byte ∷ []) ≡ landed (file_next state byte) =
      after_two _ _ front (byte ∷ []) refl runs refl in
      let same =
      after_two _ _ (b.front ++ b.word) b.rest b.split inside.1 refl in
      landed_past (parsed (front ++ byte ∷ [])) (file_next state byte) one_more
      (rw same (past_inside (in_file Two (at + 4) total (suc number) inside.0) b.rest 0
      (opened Two (at + 4) total)
      (past_inside (in_mixed (suc number)) b.rest 0 (mixing_from (at + 4) total) past)))

  -- up to the last byte they are gathered
  gathers : (m : Mixing) × (mixed_taken context cut.0 ≡ Runs m)
  unfolding context cut
  gathers =
      elim (closes_over context b.rest the_mixed.0 the_mixed.1) [
        | inl e ↦
            ran_before mixed_next (Runs (mixing_from (at + 4) total)) cut.0 byte []
            (MixedCloses (at + 4 + length b.rest) (total + size the_mixed.0) the_mixed.0)
            (ap (mixed_taken context) (sym cut.1) ∙ e)
        | inr past ↦ absurd (not_past past)
      ]

  state_is : state ≡ inside_at Two (at + 4) total (suc number) inside.0 (InMixed gathers.0)
  unfolding context
  state_is =
      let stands_in : parsed front
      ≡ Runs (inside_at Two (at + 4) total (suc number) inside.0 (InMixed gathers.0)) =
      steps ∙ rw inside.1 (runs_inside (in_file Two (at + 4) total (suc number) inside.0) cut.0 0
      (opened Two (at + 4) total)
      (runs_inside (in_mixed (suc number)) cut.0 0 (mixing_from (at + 4) total) gathers.1)) in
      let same = sym runs ∙ stands_in in
      cc

  -- what the machine stands for
  stood : (connections : List Streams) × HaveEntries connections inside.0
      × (length connections < max_connections) × (total_size connections ≤ max_bytes)
      × (total ≡ total_size connections)
  stood =
      inside_stands front Two (at + 4) total (suc number) inside.0 (InMixed gathers.0)
      (rw state_is at stands)

  fits : (streams : Streams) → AreMixed b.rest streams
      → total_size stood.0 + size streams ≤ max_bytes
  unfolding context total
  fits streams mixed =
      let small : total_size b.connections ≤ max_bytes = omega (arith, stood.3, stood.4) in
      let observed =
      tells mixed_next (HasMixed context) (EndsMixed context) (mixed_leads context)
      (mixing_from (at + 4) (total_size b.connections)) (nothing_gathered context small) b.rest in
      elim (closes_over context b.rest streams mixed) [
        | inl e ↦
            let closes : EndsMixed context b.rest (MixedCloses (at + 4 + length b.rest)
            (total_size b.connections + size streams) streams) =
            subst (Tells (HasMixed context) (EndsMixed context) b.rest) e observed in
            omega (arith, closes.fits, stood.4)
        | inr past ↦ absurd (not_past past)
      ]

  pub is_after : IsAfter (whole ++ more)
  is_after =
      let here : whole ≡ inside.0 ++ Begin ∷ [] = sym emits ∙ ap emitted state_is in
      subst (λ (l : List Entry). IsAfter (l ++ more)) (sym here) (streams_after
      (suc (length b.connections)) stood.0 inside.0 b.rest more fault stood.1 stood.2 fits
      shows)

-- what is reached after the longest clean prefix
pub reached_more : (bytes front : List ℕ) (whole more : List Entry)
    → IsLongestClean bytes front more → AreWhole front whole → (more ≡ []) ⊎ IsAfter (whole ++ more)
reached_more bytes front whole more h is_whole = by_end h.longest
  where
    state : StandsAt front whole
    state = whole_stands front whole is_whole

    by_end : ((h.rest ≡ []) × (more ≡ []))
        ⊎ ((byte : ℕ) × (back : List ℕ) × (fault : Fault) × (h.rest ≡ byte ∷ back)
        × Shows (front ++ byte ∷ []) fault × StillReaches (front ++ byte ∷ []) more)
        → (more ≡ []) ⊎ IsAfter (whole ++ more)
    by_end (inl l) = inl l.1
    by_end (inr (byte, back, fault, is, shows, inl ends)) =
        inr (is_after front byte state.state whole (file_runs front state.state state.stands)
        state.stands state.emits ends.here ends.two ends.opens more ends.fault ends.shows)
    by_end (inr (byte, back, fault, is, shows, inr none)) = inl none.0

pub reached_within : (bytes : List ℕ) (entries : List Entry) → Reached bytes entries
    → AreWithinLimits entries
reached_within bytes entries (inl h) = typed_within bytes entries h
reached_within bytes entries (inr h) =
    let (bad, front, whole, more, longest, is_whole, is) = h in
    elim (reached_more bytes front whole more longest is_whole) [
      | inl none ↦ rw (is ∙ ap (λ (l : List Entry). whole ++ l) none ∙ append-nil whole)
          (whole_within front whole is_whole)
      | inr later ↦ subst AreWithinLimits (sym is) (after_within (whole ++ more) later)
    ]
