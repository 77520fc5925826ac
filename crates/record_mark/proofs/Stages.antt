-- The stages of a joiner, as what it has taken.
use Rattle.record_mark.proofs.Common.{◌≡◌, ℕ, zero, suc, List, [], refl, sym, ap, subst, ◌∙◌, arith, HasBody, Taking, Led, OutOfMemory, HasTaken, IsRunning, unbegun}
use Rattle.record_mark.specs.declared.join.Stage.{Stage}
use Rattle.record_mark.specs.declared.join.Stage.TheVariants.{Unbegun, Header, Fragment, Done, Refused, Starved}
use Rattle.record_mark.specs.Stage.{taking_at, IsSoundAt}
use Rattle.record_mark.specs.machinery.OpenStages.{IsOpenAt}
use Rattle.record_mark.proofs.Takings.{led_by, has_body}
use Rattle.record_mark.proofs.Outcomes.{too_long_alone}

-- a joiner that has taken nothing is at its first stage
pub is_unbegun : (stage : Stage) (body : List ℕ) → IsSoundAt stage body
    → taking_at stage body ≡ unbegun → stage ≡ Unbegun
is_unbegun Unbegun body sound e = refl
is_unbegun (Header part) body sound e = absurd (cc)
is_unbegun (Fragment zero is_last) body sound e = absurd (omega (arith, sound.0))
is_unbegun (Fragment (suc left) is_last) body sound e = absurd (cc)
is_unbegun Done body sound e = absurd (cc)
is_unbegun (Refused at) body sound e = absurd (cc)
is_unbegun Starved body sound e = absurd (cc)

took_nothing : (taking : Taking) → HasTaken taking [] → taking ≡ unbegun
took_nothing (Led run) h = ap Led (sym (led_by run [] h))
took_nothing OutOfMemory h = absurd h

pub has_taken_nothing : (taking : Taking) (bytes : List ℕ) → HasTaken taking bytes → bytes ≡ []
    → taking ≡ unbegun
has_taken_nothing taking bytes h none = took_nothing taking (subst (HasTaken taking) none h)

-- what a joiner holds as the body is the body of the bytes that it has taken
pub stage_body : (stage : Stage) (held bytes body : List ℕ) → IsSoundAt stage held
    → HasTaken (taking_at stage held) bytes → HasBody bytes body → held ≡ body
stage_body Unbegun held bytes body sound h k = sound ∙ has_body unbegun bytes body h k
stage_body (Header part) held bytes body sound h k =
    has_body (taking_at (Header part) held) bytes body h k
stage_body (Fragment zero is_last) held bytes body sound h k = absurd (omega (arith, sound.0))
stage_body (Fragment (suc left) is_last) held bytes body sound h k =
    has_body (taking_at (Fragment (suc left) is_last) held) bytes body h k
stage_body Done held bytes body sound h k = has_body (taking_at Done held) bytes body h k
stage_body (Refused at) held bytes body sound h k = absurd (too_long_alone bytes body at h k)
stage_body Starved held bytes body sound h k = absurd h

pub is_open : (stage : Stage) → (stage ≡ Done → ⊥) → ((at : ℕ) → stage ≡ Refused at → ⊥)
    → (stage ≡ Starved → ⊥) → IsOpenAt stage
is_open Unbegun done refused starved = tt
is_open (Header part) done refused starved = tt
is_open (Fragment left is_last) done refused starved = tt
is_open Done done refused starved = absurd (done refl)
is_open (Refused at) done refused starved = absurd (refused at refl)
is_open Starved done refused starved = absurd (starved refl)

pub open_runs : (stage : Stage) (body : List ℕ) → IsSoundAt stage body → IsOpenAt stage
    → IsRunning (taking_at stage body)
open_runs Unbegun body sound open_at = tt
open_runs (Header part) body sound open_at = tt
open_runs (Fragment zero is_last) body sound open_at = absurd (omega (arith, sound.0))
open_runs (Fragment (suc left) is_last) body sound open_at = tt
open_runs Done body sound open_at = absurd open_at
open_runs (Refused at) body sound open_at = absurd open_at
open_runs Starved body sound open_at = absurd open_at
