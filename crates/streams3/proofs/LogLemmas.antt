-- Logs of payloads.
use Rattle.std.proofs.Common.{◌≡◌, ◌<◌, ◌≤◌, ◌+◌, ◌^◌, ℕ, true, not, nat_lt, List, [], ◌∷◌, ◌++◌, zero, suc, get_or, length, take, drop, sym, ◌∙◌, inl, inr, arith}
use Rattle.std.proofs.lemmas.Bool.{and_left, cases_lt, false≢true, le-ltb}
use Rattle.streams3.specs.declared.segments.StreamSegment.{StreamSegment}
use Rattle.streams3.specs.Events.{has_payload, keeps_alive}
use Rattle.streams3.specs.declared.runs.Run.{Run}
use Rattle.streams3.specs.Runs.{HasBytes}
use Rattle.streams3.specs.Runs.{AreSound}

pub sound_last : (xs : List Run) (r : Run) → AreSound xs → HasBytes r → r.position + r.size ≤ 2 ^ 63
    → AreSound (xs ++ r ∷ [])
sound_last [] r s one small = ((one, small), tt)
sound_last (x ∷ xs) r s one small = (s.0, sound_last xs r s.1 one small)

-- a payload has a byte
pub payload_some : (s : StreamSegment) (top position : ℕ) → has_payload s top position ≡ true
    → 0 < s.size
payload_some s top position e =
    elim (cases_lt 0 s.size) [
      | inl h ↦ h
      | inr h ↦
          absurd (false≢true
          (sym (and_left (nat_lt 0 s.size) (not (keeps_alive s top position)) (le-ltb 0 s.size h))
          ∙ e))
    ]

pub sound_at : (i : ℕ) (rs : List Run) (d : Run) → AreSound rs → i < length rs
    → HasBytes (get_or rs i d) × ((get_or rs i d).position + (get_or rs i d).size ≤ 2 ^ 63)
sound_at zero [] d s lt = absurd (omega (arith, lt))
sound_at zero (r ∷ rs) d s lt = s.0
sound_at (suc i) [] d s lt = absurd (omega (arith, lt))
sound_at (suc i) (r ∷ rs) d s lt = sound_at i rs d s.1 (omega (arith, lt))

pub sound_take : (i : ℕ) (rs : List Run) → AreSound rs → AreSound (take i rs)
sound_take zero rs s = tt
sound_take (suc i) [] s = tt
sound_take (suc i) (r ∷ rs) s = (s.0, sound_take i rs s.1)

pub sound_drop : (i : ℕ) (rs : List Run) → AreSound rs → AreSound (drop i rs)
sound_drop zero rs s = s
sound_drop (suc i) [] s = tt
sound_drop (suc i) (r ∷ rs) s = sound_drop i rs s.1
