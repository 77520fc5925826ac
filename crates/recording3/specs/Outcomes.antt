-- What frames carry, counted.
use Rattle.std.specs.Prelude.{◌≡◌, ℕ, ◌+◌, ◌-◌, ◌^◌, ◌≤◌, List, [], ◌∷◌, ◌++◌, fold, Result, Ok, Err}
use Rattle.recording3.specs.Places.{Passed}
use Rattle.recording3.specs.Segments.{IsSegment, LacksSegment}
use Rattle.recording3.specs.declared.outcomes.Tally.{Tally}
use Rattle.recording3.specs.declared.parts.NoSegment.{NoSegment}
use Rattle.recording3.specs.declared.parts.NoSegment.TheVariants as reasons
use Rattle.recording3.specs.declared.parts.Segment.{Segment}

-- a frame carries a segment, or lacks one for a reason
abbrev pub IsOutcome : Passed → Result Segment NoSegment → Type 0
IsOutcome p (Ok s) = IsSegment p.head.link p.octets p.head.wire s
IsOutcome p (Err why) = LacksSegment p.head.link p.octets p.head.wire why

-- the outcome of each frame
unfoldable pub HaveOutcomes : List Passed → List (Result Segment NoSegment) → Type 0
HaveOutcomes [] outcomes = outcomes ≡ []
HaveOutcomes (p ∷ passed) outcomes = (first : Result Segment NoSegment)
    × (later : List (Result Segment NoSegment)) × (outcomes ≡ first ∷ later) × IsOutcome p first
    × HaveOutcomes passed later

abbrev pub no_outcomes : Tally
no_outcomes = record {
  segments = 0;
  unknown_link = 0;
  cut = 0;
  not_ip = 0;
  bad_ip = 0;
  fragment = 0;
  not_tcp = 0;
  bad_tcp = 0;
}

-- one more of an outcome
abbrev pub with_outcome : Tally → Result Segment NoSegment → Tally
with_outcome t (Ok s) = record t { segments = t.segments + 1 }
with_outcome t (Err reasons.UnknownLink) = record t { unknown_link = t.unknown_link + 1 }
with_outcome t (Err reasons.Cut) = record t { cut = t.cut + 1 }
with_outcome t (Err reasons.NotIp) = record t { not_ip = t.not_ip + 1 }
with_outcome t (Err reasons.BadIp) = record t { bad_ip = t.bad_ip + 1 }
with_outcome t (Err reasons.Fragment) = record t { fragment = t.fragment + 1 }
with_outcome t (Err reasons.NotTcp) = record t { not_tcp = t.not_tcp + 1 }
with_outcome t (Err reasons.BadTcp) = record t { bad_tcp = t.bad_tcp + 1 }

-- the sum of all counts
abbrev pub total : Tally → ℕ
total t = t.segments + t.bad_tcp + (t.bad_ip + t.fragment + t.not_tcp)
    + (t.unknown_link + t.cut + t.not_ip)

-- the counts are those of the outcomes of these frames
pub record Tallied (passed : List Passed) (tally : Tally) : Type 0 where
  pub outcomes : List (Result Segment NoSegment)
  pub each : HaveOutcomes passed outcomes
  pub counts : tally ≡ fold with_outcome no_outcomes outcomes

-- the last of these frames is one more than can be counted
pub record IsFullAt (passed : List Passed) (tally : Tally) : Type 0 where
  pub front : List Passed
  pub last : Passed
  pub split : passed ≡ front ++ last ∷ []
  pub tallied : Tallied front tally
  pub full : 2 ^ 64 - 1 ≤ total tally
