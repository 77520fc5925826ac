-- What a joiner has taken, and where that leads the machine.
use Rattle.record_mark.proofs.Common.{◌≡◌, inl, inr, ℕ, zero, suc, ◌+◌, ◌<◌, List, [], ◌++◌, take, drop, refl, sym, ap, subst, ◌∙◌, arith, take-add, Run, Runs, Stops, Stopped, after, IsUnfinished, HasBody, Joining, Between, Header, Bytes, Joined, Whole, TooLong, join_next, HasJoined, EndsRecord, Taking, Led, OutOfMemory, HasTaken, unbegun, IsWhole, IsRunning, joining_of, joined_body, body_of, led_on}
use Rattle.record_mark.specs.RecordMark.{IsOpen}
use Rattle.record_mark.proofs.Machines.{Tells, after-append}
use Rattle.record_mark.proofs.Joins.{join_tells, record_stops, too_long_stops, joining_runs}

pub led_by : (run : Run Joining Joined) (bytes : List ℕ) → HasTaken (Led run) bytes
    → after join_next (Runs Between) bytes ≡ run
led_by (Runs s) bytes h = joining_runs bytes s h
led_by (Stops (Whole body)) bytes h = record_stops bytes body h
led_by (Stops (TooLong at)) bytes h = too_long_stops bytes at h
led_by (Stopped end) bytes h = absurd h

-- nothing came after the end of the record
abbrev pub IsKnown : Run Joining Joined → Type 0
IsKnown (Runs s) = Unit {0}
IsKnown (Stops end) = Unit {0}
IsKnown (Stopped end) = ⊥

pub taken_by : (run : Run Joining Joined) (bytes : List ℕ) → IsKnown run
    → after join_next (Runs Between) bytes ≡ run → HasTaken (Led run) bytes
taken_by (Runs s) bytes known e =
    subst (λ r. Tells HasJoined EndsRecord bytes r) e (join_tells bytes)
taken_by (Stops end) bytes known e =
    subst (λ r. Tells HasJoined EndsRecord bytes r) e (join_tells bytes)
taken_by (Stopped end) bytes known e = absurd known

-- bytes more
pub led_further : (old new : Run Joining Joined) (bytes more : List ℕ) → HasTaken (Led old) bytes
    → after join_next old more ≡ new → after join_next (Runs Between) (bytes ++ more) ≡ new
led_further old new bytes more h e =
    after-append join_next (Runs Between) bytes more
    ∙ ap (λ r. after join_next r more) (led_by old bytes h) ∙ e

pub taken_further : (old new : Run Joining Joined) (bytes more : List ℕ) → HasTaken (Led old) bytes
    → IsKnown new → after join_next old more ≡ new → HasTaken (Led new) (bytes ++ more)
taken_further old new bytes more h known e =
    taken_by new (bytes ++ more) known (led_further old new bytes more h e)

-- ---- an open record: the machine is in a header, or in a fragment's bytes

-- the machine in an open record
abbrev pub IsIn : List ℕ → Joining → Type 0
IsIn body Between = ⊥
IsIn body (Header other part) = other ≡ body
IsIn body (Bytes other last left) = other ≡ body

pub opened : (bytes body : List ℕ) (j : Joining) → IsIn body j → HasJoined bytes j
    → IsOpen bytes body
opened bytes body Between is h = absurd is
opened bytes body (Header other part) is h = subst (IsOpen bytes) is h.0
opened bytes body (Bytes other last left) is h = subst (IsOpen bytes) is h.0

pub open_in : (bytes body : List ℕ) → IsOpen bytes body
    → (j : Joining) × IsIn body j × HasJoined bytes j
open_in bytes body o =
    elim o.cut [
      | inl h ↦ (Header body o.part, refl, (o, refl, h.0))
      | inr h ↦ (Bytes body h.1 h.2, refl, (o, h.0, h.3, h.4, h.5))
    ]

-- what has a body is a record, or one that is not whole
pub unfinished : (bytes : List ℕ) (s : Joining) → HasJoined bytes s
    → IsUnfinished bytes (joined_body s)
unfinished bytes Between h = inl (h, refl)
unfinished bytes (Header body part) h = inr h.0
unfinished bytes (Bytes body last left) h = inr h.0

-- where a machine stands that took what is not whole
pub record Standing (bytes body : List ℕ) : Type 0 where
  pub joining : Joining
  pub joined : HasJoined bytes joining
  pub carries : joined_body joining ≡ body

carried_in : (body : List ℕ) (j : Joining) → IsIn body j → joined_body j ≡ body
carried_in body Between h = absurd h
carried_in body (Header other part) h = h
carried_in body (Bytes other last left) h = h

pub standing : (bytes body : List ℕ) → IsUnfinished bytes body → Standing bytes body
standing bytes body (inl h) = record { joining = Between; joined = h.0; carries = sym h.1 }
standing bytes body (inr h) =
    let o = open_in bytes body h in
    record { joining = o.0; joined = o.2; carries = carried_in body o.0 o.1 }

-- the body that the machine has is that of the bytes
pub has_body : (taking : Taking) (bytes body : List ℕ) → HasTaken taking bytes → HasBody bytes body
    → body_of taking ≡ body
has_body OutOfMemory bytes body h k = absurd h
has_body (Led run) bytes body h (inl k) =
    let e = sym (led_by run bytes h) ∙ record_stops bytes body k in ap (λ r. body_of (Led r)) e
has_body (Led run) bytes body h (inr k) =
    let is = standing bytes body k in
    let e = sym (led_by run bytes h) ∙ joining_runs bytes is.joining is.joined in
    ap (λ r. body_of (Led r)) e ∙ is.carries

-- what it means to be whole, and to run
pub whole_is : (taking : Taking) → IsWhole taking
    → (body : List ℕ) × (taking ≡ Led (Stops (Whole body)))
whole_is (Led (Stops (Whole body))) h = (body, refl)
whole_is (Led (Stops (TooLong at))) h = absurd h
whole_is (Led (Runs s)) h = absurd h
whole_is (Led (Stopped end)) h = absurd h
whole_is OutOfMemory h = absurd h

pub running_is : (taking : Taking) → IsRunning taking → (s : Joining) × (taking ≡ Led (Runs s))
running_is (Led (Runs s)) h = (s, refl)
running_is (Led (Stops end)) h = absurd h
running_is (Led (Stopped end)) h = absurd h
running_is OutOfMemory h = absurd h

pub whole_known : (run : Run Joining Joined) → IsWhole (Led run) → IsKnown run
whole_known (Runs s) h = tt
whole_known (Stops end) h = tt
whole_known (Stopped end) h = absurd h

pub running_known : (run : Run Joining Joined) → IsRunning (Led run) → IsKnown run
running_known (Runs s) h = tt
running_known (Stops end) h = tt
running_known (Stopped end) h = absurd h

-- no byte more, and bytes more twice
pub led_on-nil : (taking : Taking) → led_on taking [] ≡ taking
led_on-nil (Led run) = refl
led_on-nil OutOfMemory = refl

pub led_on-append : (taking : Taking) (front back : List ℕ)
    → led_on taking (front ++ back) ≡ led_on (led_on taking front) back
led_on-append (Led run) front back = ap Led (after-append join_next run front back)
led_on-append OutOfMemory front back = refl

-- a front of the piece, and then some of the rest
pub led_on-take : (old now next : Taking) (piece : List ℕ) (n m : ℕ)
    → now ≡ led_on old (take n piece) → next ≡ led_on now (take m (drop n piece))
    → next ≡ led_on old (take (n + m) piece)
led_on-take old now next piece n m is more =
    more ∙ ap (λ t. led_on t (take m (drop n piece))) is
    ∙ sym (led_on-append old (take n piece) (take m (drop n piece)))
    ∙ ap (led_on old) (sym (take-add n m piece))

-- what runs after some bytes ran before them
pub ran_before : (old now : Taking) (piece : List ℕ) (taken : ℕ)
    → now ≡ led_on old (take taken piece) → (0 < taken → IsRunning old) → IsRunning now
    → IsRunning old
ran_before old now piece zero is moved runs = subst IsRunning (is ∙ led_on-nil old) runs
ran_before old now piece (suc n) is moved runs = moved (omega arith)

-- what runs, and stands between records, has taken nothing
pub is_between : (taking : Taking) → IsRunning taking → joining_of taking ≡ Between
    → taking ≡ unbegun
is_between taking h e =
    let is = running_is taking h in is.1 ∙ ap (λ s. Led (Runs s)) (sym (ap joining_of is.1) ∙ e)
