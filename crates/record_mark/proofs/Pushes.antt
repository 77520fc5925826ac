-- What a push comes to, by where the machine stands: it is one answer.
use Rattle.std.proofs.Common.{◌≡◌, ◌≢◌, ◌↔◌, ℕ, ◌≤◌, List, ◌++◌, length, take, drop, refl, sym, ap, ap₂, subst, ◌∙◌, arith, Result, Ok, Err, IfOk, length-take}
use Rattle.std.proofs.lemmas.List.{take-append-drop, take_all}
use Rattle.record_mark.specs.declared.join.Step.{Step}
use Rattle.record_mark.specs.declared.join.Step.TheVariants.{Record, More}
use Rattle.record_mark.specs.declared.join.JoinError.{JoinError}
use Rattle.record_mark.specs.declared.join.JoinError.TheVariants as error
use Rattle.record_mark.proofs.Common.{Run, Runs, Stops, Stopped, after, Joining, Between, Joined, Whole, TooLong, join_next, led_on}
use Rattle.record_mark.specs.Taking.{Taking, Led, OutOfMemory, HasTaken, IsWhole, IsRunning, joining_of, joined_body, body_of, EndsWithin, GoesOn, PassesWithin}
use Rattle.record_mark.specs.Pushing.{PushesHistory, PushesMachine, StaysPut}
use Rattle.record_mark.proofs.Machines.{after-append, not_runs}
use Rattle.record_mark.proofs.Joins.{record_stops, too_long_stops, joining_runs}
use Rattle.record_mark.proofs.Endings.{stops_once}
use Rattle.record_mark.proofs.Takings.{led_by, whole_is, whole_known, running_is, running_known, taken_further, unfinished, standing}

abbrev ComesTo : Taking → List ℕ → ℕ → Step → Type 0
ComesTo old piece n Record =
    (n ≤ length piece) × ((body : List ℕ) × (led_on old (take n piece) ≡ Led (Stops (Whole body))))
ComesTo old piece n More = (n ≡ length piece) × ((s : Joining) × (led_on old piece ≡ Led (Runs s)))

abbrev Comes : Taking → List ℕ → Result (ℕ × Step) JoinError → Type 0
Comes old piece (Ok r) = ComesTo old piece r.0 r.1
Comes old piece (Err (error.TooLong at)) =
    (n : ℕ) × (n ≤ length piece) × (led_on old (take n piece) ≡ Led (Stops (TooLong at)))
Comes old piece (Err error.Memory) = Unit {0}

-- the machine stops at one place of the piece, if at all
stops_at_once : (old : Run Joining Joined) (piece : List ℕ) (n m : ℕ) (x y : Joined)
    → n ≤ length piece → m ≤ length piece → led_on (Led old) (take n piece) ≡ Led (Stops x)
    → led_on (Led old) (take m piece) ≡ Led (Stops y) → (n ≡ m) × (x ≡ y)
stops_at_once old piece n m x y within within_2 e f =
    let once =
    stops_once join_next old (take n piece) (drop n piece) (take m piece) (drop m piece) x y
    (take-append-drop n piece ∙ sym (take-append-drop m piece)) (cc) (cc) in
    let sizes = ap length once.fronts in
    ((omega (arith, length-take n piece, length-take m piece, sizes)), once.ends)

-- where it stops, it does not run on
no_more : (old : Run Joining Joined) (piece : List ℕ) (n : ℕ) (x : Joined) (s : Joining)
    → led_on (Led old) (take n piece) ≡ Led (Stops x) → led_on (Led old) piece ≡ Led (Runs s) → ⊥
no_more old piece n x s e f =
    let stop : after join_next old (take n piece) ≡ Stops x = cc in
    let run : after join_next old piece ≡ Runs s = cc in
    not_runs join_next x s (drop n piece)
    (sym (ap (λ r. after join_next r (drop n piece)) stop)
    ∙ sym (after-append join_next old (take n piece) (drop n piece))
    ∙ ap (after join_next old) (take-append-drop n piece) ∙ run)

steps_once : (old : Run Joining Joined) (piece : List ℕ) (n m : ℕ) (s t : Step)
    → ComesTo (Led old) piece n s → ComesTo (Led old) piece m t → (n ≡ m) × (s ≡ t)
steps_once old piece n m Record Record h k =
    ((stops_at_once old piece n m (Whole h.1.0) (Whole k.1.0) h.0 k.0 h.1.1 k.1.1).0, refl)
steps_once old piece n m Record More h k =
    absurd (no_more old piece n (Whole h.1.0) k.1.0 h.1.1 k.1.1)
steps_once old piece n m More Record h k =
    absurd (no_more old piece m (Whole k.1.0) h.1.0 k.1.1 h.1.1)
steps_once old piece n m More More h k = (h.0 ∙ sym k.0, refl)

not_both : (old : Run Joining Joined) (piece : List ℕ) (n m : ℕ) (s : Step) (at : ℕ)
    → ComesTo (Led old) piece n s → m ≤ length piece
    → led_on (Led old) (take m piece) ≡ Led (Stops (TooLong at)) → ⊥
not_both old piece n m Record at h within e =
    let same = (stops_at_once old piece n m (Whole h.1.0) (TooLong at) h.0 within h.1.1 e).1 in cc
not_both old piece n m More at h within e = no_more old piece m (TooLong at) h.1.0 e h.1.1

comes_once : (old : Run Joining Joined) (piece : List ℕ) (r q : Result (ℕ × Step) JoinError)
    → Comes (Led old) piece r → Comes (Led old) piece q → r ≢ Err error.Memory
    → q ≢ Err error.Memory → r ≡ q
comes_once old piece (Ok r) (Ok q) h k some other =
    let same = steps_once old piece r.0 q.0 r.1 q.1 h k in ap₂ (λ n s. Ok (n, s)) same.0 same.1
comes_once old piece (Ok r) (Err (error.TooLong at)) h k some other =
    absurd (not_both old piece r.0 k.0 r.1 at h k.1 k.2)
comes_once old piece (Err (error.TooLong at)) (Ok q) h k some other =
    absurd (not_both old piece q.0 h.0 q.1 at k h.1 h.2)
comes_once old piece (Err (error.TooLong at)) (Err (error.TooLong other_at)) h k some other =
    let same =
    (stops_at_once old piece h.0 k.0 (TooLong at) (TooLong other_at) h.1 k.1 h.2 k.2).1 in
    cc
comes_once old piece (Err error.Memory) q h k some other = absurd (some refl)
comes_once old piece r (Err error.Memory) h k some other = absurd (other refl)

-- from all bytes on, as from where the machine stands
led_on_is : (old : Run Joining Joined) (bytes more : List ℕ) → HasTaken (Led old) bytes
    → led_on (Led old) more ≡ Led (after join_next (Runs Between) (bytes ++ more))
led_on_is old bytes more h =
    ap Led (sym (after-append join_next (Runs Between) bytes more
    ∙ ap (λ r. after join_next r more) (led_by old bytes h)))

ends_within : (old : Run Joining Joined) (bytes piece : List ℕ) (n : ℕ)
    → HasTaken (Led old) bytes → ComesTo (Led old) piece n Record ↔ EndsWithin bytes piece n
ends_within old bytes piece n taken = (
  (λ h. (
    h.0,
    (
      h.1.0,
      taken_further old (Stops (Whole h.1.0)) bytes (take n piece) taken tt
          (let e = h.1.1 in cc),
    ),
  )),
  (λ h. (
    h.0,
    (
      h.1.0,
      led_on_is old bytes (take n piece) taken
          ∙ ap Led (record_stops (bytes ++ take n piece) h.1.0 h.1.1),
    ),
  )),
)

goes_on : (old : Run Joining Joined) (bytes piece : List ℕ) (n : ℕ) → HasTaken (Led old) bytes
    → ComesTo (Led old) piece n More ↔ GoesOn bytes piece n
goes_on old bytes piece n taken = (
  (λ h. (
    h.0,
    (
      joined_body h.1.0,
      unfinished (bytes ++ piece) h.1.0
          (taken_further old (Runs h.1.0) bytes piece taken tt (let e = h.1.1 in cc)),
    ),
  )),
  (λ h. let is = standing (bytes ++ piece) h.1.0 h.1.1 in (
    h.0,
    (
      is.joining,
      led_on_is old bytes piece taken
          ∙ ap Led (joining_runs (bytes ++ piece) is.joining is.joined),
    ),
  )),
)

passes_within : (old : Run Joining Joined) (bytes piece : List ℕ) (at : ℕ)
    → HasTaken (Led old) bytes
    → Comes (Led old) piece (Err (error.TooLong at)) ↔ PassesWithin bytes piece at
passes_within old bytes piece at taken = (
  (λ h. (
    h.0,
    h.1,
    taken_further old (Stops (TooLong at)) bytes (take h.0 piece) taken tt
        (let e = h.2 in cc),
  )),
  (λ h. (
    h.0,
    h.1,
    led_on_is old bytes (take h.0 piece) taken
        ∙ ap Led (too_long_stops (bytes ++ take h.0 piece) at h.2),
  )),
)

-- what a push says of the machine, from where bytes that were taken led it
record LeadsOn (old new : Taking) (piece : List ℕ) (result : Result (ℕ × Step) JoinError) : Type
    0 where
  pub led : IfOk result (λ r. new ≡ led_on old (take r.0 piece))
  pub too_long : (at : ℕ) → result ≡ Err (error.TooLong at)
      → (n : ℕ) × (n ≤ length piece) × (led_on old (take n piece) ≡ Led (Stops (TooLong at)))

leads : (s : Joining) (new : Taking) (bytes : List ℕ) (step : Step)
    → (step ≡ More → after join_next (Runs s) bytes ≡ Runs (joining_of new))
    → (step ≡ Record → after join_next (Runs s) bytes ≡ Stops (Whole (body_of new)))
    → (step ≡ Record → IsWhole new) → (step ≡ More → IsRunning new)
    → new ≡ led_on (Led (Runs s)) bytes
leads s new bytes Record runs stops whole running =
    let is = whole_is new (whole refl) in
    is.1 ∙ ap (λ t. Led (Stops (Whole (body_of t)))) (sym is.1) ∙ ap Led (sym (stops refl))
leads s new bytes More runs stops whole running =
    let is = running_is new (running refl) in
    is.1 ∙ ap (λ t. Led (Runs (joining_of t))) (sym is.1) ∙ ap Led (sym (runs refl))

leads_on : (old new : Taking) (piece : List ℕ) (result : Result (ℕ × Step) JoinError)
    (bytes : List ℕ) → HasTaken old bytes → PushesMachine old new piece result
    → StaysPut old new piece result → LeadsOn old new piece result
leads_on (Led (Runs s)) new piece (Ok r) bytes taken m stays = record {
  led =
      leads s new (take r.0 piece) r.1 (m.runs tt) (m.stops tt) m.whole.0 m.running.0;
  too_long = λ at e. absurd (cc);
}
leads_on (Led (Runs s)) new piece (Err e) bytes taken m stays = record {
  led = tt;
  too_long =
      λ at is. let r = m.refuses at tt is in (r.0, r.1, ap Led r.2);
}
leads_on (Led (Stops (Whole body))) new piece result bytes taken m stays =
    let same = stays.whole tt in
    rw (same.0, same.1) (record { led = refl; too_long = λ at e. absurd (cc) })
leads_on (Led (Stops (TooLong before))) new piece result bytes taken m stays =
    let same = stays.refused before refl in
    rw (same.0, same.1) (record {
      led = tt;
      too_long = λ at e. (0, omega arith, (cc));
    })
leads_on (Led (Stopped end)) new piece result bytes taken m stays = absurd taken
leads_on OutOfMemory new piece result bytes taken m stays = absurd taken

comes_to : (old new : Taking) (piece : List ℕ) (n : ℕ) (s : Step) → n ≤ length piece
    → new ≡ led_on old (take n piece) → (s ≡ Record → IsWhole new) → (s ≡ More → IsRunning new)
    → (s ≡ More → n ≡ length piece) → ComesTo old piece n s
comes_to old new piece n Record within led whole running used_up =
    let is = whole_is new (whole refl) in (within, (is.0, sym led ∙ is.1))
comes_to old new piece n More within led whole running used_up =
    let is = running_is new (running refl) in
    let all : take n piece ≡ piece = take_all n piece (omega (arith, used_up refl)) in
    (used_up refl, (is.0, ap (led_on old) (sym all) ∙ sym led ∙ is.1))

comes : (old new : Taking) (piece : List ℕ) (result : Result (ℕ × Step) JoinError)
    → IfOk result (λ r. r.0 ≤ length piece) → LeadsOn old new piece result
    → PushesMachine old new piece result → Comes old piece result
comes old new piece (Ok r) within leads m =
    comes_to old new piece r.0 r.1 within leads.led m.whole.0 m.running.0 m.used_up
comes old new piece (Err (error.TooLong at)) within leads m = leads.too_long at refl
comes old new piece (Err error.Memory) within leads m = tt

-- the clauses for all bytes taken before
record_exactly : (old : Taking) (piece : List ℕ) (result : Result (ℕ × Step) JoinError)
    → Comes old piece result → (bytes : List ℕ) (n : ℕ) → HasTaken old bytes
    → result ≢ Err error.Memory → (result ≡ Ok (n, Record)) ↔ EndsWithin bytes piece n
record_exactly (Led old) piece result h bytes n taken some =
    let same = ends_within old bytes piece n taken in (
      (λ e. same.0 (subst (Comes (Led old) piece) e h)),
      (λ k. comes_once old piece result (Ok (n, Record)) h (same.1 k) some (λ e. cc)),
    )
record_exactly OutOfMemory piece result h bytes n taken some = absurd taken

more_exactly : (old : Taking) (piece : List ℕ) (result : Result (ℕ × Step) JoinError)
    → Comes old piece result → (bytes : List ℕ) (n : ℕ) → HasTaken old bytes
    → result ≢ Err error.Memory → (result ≡ Ok (n, More)) ↔ GoesOn bytes piece n
more_exactly (Led old) piece result h bytes n taken some =
    let same = goes_on old bytes piece n taken in (
      (λ e. same.0 (subst (Comes (Led old) piece) e h)),
      (λ k. comes_once old piece result (Ok (n, More)) h (same.1 k) some (λ e. cc)),
    )
more_exactly OutOfMemory piece result h bytes n taken some = absurd taken

too_long_exactly : (old : Taking) (piece : List ℕ) (result : Result (ℕ × Step) JoinError)
    → Comes old piece result → (bytes : List ℕ) (at : ℕ) → HasTaken old bytes
    → result ≢ Err error.Memory → (result ≡ Err (error.TooLong at)) ↔ PassesWithin bytes piece at
too_long_exactly (Led old) piece result h bytes at taken some =
    let same = passes_within old bytes piece at taken in (
      (λ e. same.0 (subst (Comes (Led old) piece) e h)),
      (λ k. comes_once old piece result (Err (error.TooLong at)) h (same.1 k) some (λ e. cc)),
    )
too_long_exactly OutOfMemory piece result h bytes at taken some = absurd taken

stands_for : (old new : Taking) (bytes more : List ℕ) (s : Step) → HasTaken old bytes
    → new ≡ led_on old more → (s ≡ Record → IsWhole new) → (s ≡ More → IsRunning new)
    → HasTaken new (bytes ++ more)
stands_for OutOfMemory new bytes more s taken led whole running = absurd taken
stands_for (Led old) OutOfMemory bytes more s taken led whole running = absurd (cc)
stands_for (Led old) (Led new) bytes more Record taken led whole running =
    taken_further old new bytes more taken (whole_known new (whole refl)) (cc)
stands_for (Led old) (Led new) bytes more More taken led whole running =
    taken_further old new bytes more taken (running_known new (running refl)) (cc)

takes : (old new : Taking) (piece : List ℕ) (result : Result (ℕ × Step) JoinError) (bytes : List ℕ)
    → HasTaken old bytes → LeadsOn old new piece result → PushesMachine old new piece result
    → IfOk result (λ r. HasTaken new (bytes ++ take r.0 piece))
takes old new piece (Ok r) bytes taken leads m =
    stands_for old new bytes (take r.0 piece) r.1 taken leads.led m.whole.0 m.running.0
takes old new piece (Err e) bytes taken leads m = tt

-- what the machine says is so of all bytes taken before
pub pushes_history : (old new : Taking) (piece : List ℕ) (result : Result (ℕ × Step) JoinError)
    → IfOk result (λ r. r.0 ≤ length piece) → PushesMachine old new piece result
    → StaysPut old new piece result → PushesHistory old new piece result
pushes_history old new piece result within m stays =
    let leads = λ (bytes : List ℕ) (taken : HasTaken old bytes).
    leads_on old new piece result bytes taken m stays in
    let comes_after = λ (bytes : List ℕ) (taken : HasTaken old bytes).
    comes old new piece result within (leads bytes taken) m in
    record {
      taken = λ bytes taken. takes old new piece result bytes taken (leads bytes taken) m;
      whole =
          λ bytes n taken. record_exactly old piece result (comes_after bytes taken) bytes n taken;
      more =
          λ bytes n taken. more_exactly old piece result (comes_after bytes taken) bytes n taken;
      too_long =
          λ bytes at taken.
          too_long_exactly old piece result (comes_after bytes taken) bytes at taken;
    }
