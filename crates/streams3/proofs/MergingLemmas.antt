-- Two lists of runs in order that become one, in which the first list counts.
use Rattle.std.proofs.Common.{◌≡◌, ◌≤◌, ◌<◌, ℕ, suc, ◌+◌, ◌^◌, List, [], ◌∷◌, ◌++◌, None, Some, length, max, take, drop, sym, ◌∙◌, ap, ap₂, subst, add-one, arith, inl, inr, ◌⊎◌}
use Rattle.std.proofs.lemmas.Bool.{cases_lt}
use Rattle.std.proofs.lemmas.List.{take_all}
use Rattle.streams3.specs.declared.runs.Run.{Run}
use Rattle.streams3.specs.Runs.{HasBytes, Lie, spot_in, or_else, spot_of}
use Rattle.streams3.specs.machinery.Log.{nth_run, end_at, part_of, no_run}
use Rattle.streams3.proofs.RunsLemmas.{gap_none, has_before, has_it, lie_append, lie_at, lie_ends, lie_high, lie_next, lie_rest, lie_sound, lie_upto, none_above, or_none, spot_at, spot_last}

-- all before a position is merged, of which the first i runs of one list end before it, and the
-- first j of the other
pub record Merging (out first second : List Run) (i j end : ℕ) : Type 0 where
  pub order : Lie 0 end out
  pub first_within : i ≤ length first
  pub second_within : j ≤ length second
  pub small : end ≤ 2 ^ 63
  pub first_before : Lie 0 end (take i first)
  pub first_after : Lie end (2 ^ 63) (drop i first)
  pub second_before : Lie 0 end (take j second)
  pub same : (p : ℕ) → p < end → spot_of out p ≡ or_else (spot_of first p) (spot_of second p)

-- nothing but one more run lies between the end so far and the next
pub step : (out first second : List Run) (r : Run) (end p : ℕ) → Lie 0 end out → end ≤ r.position
    → (p < end → spot_of out p ≡ or_else (spot_of first p) (spot_of second p))
    → (end ≤ p → spot_in r p ≡ or_else (spot_of first p) (spot_of second p))
    → spot_of (out ++ r ∷ []) p ≡ or_else (spot_of first p) (spot_of second p)
step out first second r end p order from before after =
    spot_last out r p ∙ elim (cases_lt p end) [
      | inl h ↦
          ap (or_else (spot_of out p)) (has_before r p (omega (arith, h, from)))
          ∙ or_none (spot_of out p) ∙ before h
      | inr h ↦
          ap (λ o. or_else o (spot_in r p)) (none_above out p 0 end order h) ∙ after h
    ]

-- the next run of the first list
pub step_first : (out first second : List Run) (i j end : ℕ) → Merging out first second i j end
    → Lie 0 (2 ^ 63) first → i < length first
    → ((p : ℕ) → end ≤ p → p < (nth_run first i).position → spot_of second p ≡ None)
    → Merging (out ++ nth_run first i ∷ []) first second (i + 1) j (end_at first i)
step_first out first second i j end m order lt none =
    let r = nth_run first i in
    let from : end ≤ r.position = lie_at i first no_run end (2 ^ 63) m.first_after lt in
    let sound : HasBytes r = lie_sound i first no_run 0 (2 ^ 63) order lt in
    let low : r.position ≤ 2 ^ 63 = omega (arith, lie_ends i first no_run 0 (2 ^ 63) order lt) in
    record {
      order = lie_append out (r ∷ []) 0 end (end_at first i) m.order (from, (sound, omega arith));
      first_within = omega (arith, lt);
      second_within = m.second_within;
      small = lie_ends i first no_run 0 (2 ^ 63) order lt;
      first_before = rw add-one (lie_upto i first no_run 0 (2 ^ 63) order lt);
      first_after = rw add-one (lie_next i first no_run end (2 ^ 63) m.first_after lt);
      second_before =
          lie_high (take j second) 0 end (end_at first i) (omega (arith, from)) m.second_before;
      same = λ p below.
          step out first second r end p m.order from (m.same p)
          (λ le.
          elim (cases_lt p r.position) [
            | inl h ↦
                has_before r p h
                ∙ sym (ap₂ or_else
                (gap_none first i no_run end r.position 0 (2 ^ 63) p order m.first_before low
                (λ _. omega arith) le h) (none p le h))
            | inr h ↦
                has_it r p h below
                ∙ ap (λ o. or_else o (spot_of second p))
                (sym (spot_at i first no_run p 0 (2 ^ 63) order lt h below))
          ]);
    }

-- what is next of a run of the second list, before the next run of the first
pub record IsRest (first second : List Run) (i j end start stop : ℕ) : Type 0 where
  pub there : j < length second
  pub from : end ≤ start
  pub begins : end < start → start ≡ (nth_run second j).position
  pub at : (nth_run second j).position ≤ start
  pub some : start < stop
  pub within : stop ≤ end_at second j
  pub gives : i < length first → stop ≤ (nth_run first i).position

pub is_rest : (first second : List Run) (i j end start stop : ℕ) → Lie 0 (2 ^ 63) second
    → j < length second → end < end_at second j → start ≡ max end (nth_run second j).position
    → ((i < length first) × ((nth_run first i).position ≤ start) → ⊥) → stop ≤ end_at second j
    → (i < length first → stop ≤ (nth_run first i).position)
    → (stop < end_at second j → (i < length first) × (stop ≡ (nth_run first i).position))
    → IsRest first second i j end start stop
is_rest first second i j end start stop order lt below is not within gives cut =
    let sound : HasBytes (nth_run second j) = lie_sound j second no_run 0 (2 ^ 63) order lt in
    let inside : start < end_at second j = omega (arith, is, below, sound.0) in
    record {
      there = lt;
      from = omega (arith, is);
      begins = λ h. omega (arith, is, h);
      at = omega (arith, is);
      some =
          elim (cases_lt stop (end_at second j)) [
            | inl h ↦
                let k = cut h in
                elim (cases_lt start stop) [
                  | inl lt2 ↦ lt2
                  | inr le2 ↦ absurd (not (k.0, omega (arith, k.1, le2)))
                ]
            | inr h ↦ omega (arith, h, inside)
          ];
      within = within;
      gives = gives;
    }

-- a part of the next run of the second list, before that of the first
pub step_second : (out first second : List Run) (i j end start stop : ℕ)
    → Merging out first second i j end → Lie 0 (2 ^ 63) first → Lie 0 (2 ^ 63) second
    → IsRest first second i j end start stop
    → Merging (out ++ part_of (nth_run second j) start stop ∷ []) first second i j stop
step_second out first second i j end start stop m order order2 rest =
    let lt = rest.there in
    let from = rest.from in
    let begins = rest.begins in
    let at = rest.at in
    let some = rest.some in
    let within = rest.within in
    let gives = rest.gives in
    let r = nth_run second j in
    let part = part_of r start stop in
    let sound : HasBytes r = lie_sound j second no_run 0 (2 ^ 63) order2 lt in
    let high : end_at second j ≤ 2 ^ 63 = lie_ends j second no_run 0 (2 ^ 63) order2 lt in
    let small : stop ≤ 2 ^ 63 = omega arith in
    let has : HasBytes part = (omega (arith, some), omega (arith, sound.1, some, within, at)) in
    record {
      order = lie_append out (part ∷ []) 0 end stop m.order (from, (has, omega (arith, some)));
      first_within = m.first_within;
      second_within = m.second_within;
      small = small;
      first_before = lie_high (take i first) 0 end stop (omega (arith, from, some)) m.first_before;
      first_after = lie_rest i first no_run stop 0 (2 ^ 63) order small gives;
      second_before =
          lie_high (take j second) 0 end stop (omega (arith, from, some)) m.second_before;
      same = λ p below.
          step out first second part end p m.order from (m.same p)
          (λ le.
          let none : spot_of first p ≡ None =
          gap_none first i no_run end stop 0 (2 ^ 63) p order m.first_before small gives le below in
          elim (cases_lt p start) [
            | inl h ↦
                has_before part p h
                ∙ sym (ap₂ or_else none
                (gap_none second j no_run end start 0 (2 ^ 63) p order2 m.second_before
                (omega (arith, small, some)) (λ _. omega (arith, begins (omega (arith, le, h)))) le
                h))
            | inr h ↦
                has_it part p h (omega (arith, h, below))
                ∙ ap (λ a. Some (a, r.frame)) (omega (arith, at, h))
                ∙ sym (ap₂ or_else none
                (spot_at j second no_run p 0 (2 ^ 63) order2 lt (omega (arith, at, h))
                (omega (arith, below, within))))
          ]);
    }

-- a run of the second list that ends before the end so far
pub step_known : (out first second : List Run) (i j end : ℕ) → Merging out first second i j end
    → Lie 0 (2 ^ 63) second → j < length second → end_at second j ≤ end
    → Merging out first second i (j + 1) end
step_known out first second i j end m order lt le = record {
  order = m.order;
  first_within = m.first_within;
  second_within = omega (arith, lt);
  small = m.small;
  first_before = m.first_before;
  first_after = m.first_after;
  second_before =
      rw add-one
      (lie_high (take (suc j) second) 0 (end_at second j) end le
      (lie_upto j second no_run 0 (2 ^ 63) order lt));
  same = m.same;
}

-- nothing is left
pub step_last : (out first second : List Run) (i j end : ℕ) → Merging out first second i j end
    → length first ≤ i → length second ≤ j → (p : ℕ)
    → spot_of out p ≡ or_else (spot_of first p) (spot_of second p)
step_last out first second i j end m none none2 p =
    elim (cases_lt p end) [
      | inl h ↦ m.same p h
      | inr h ↦
          none_above out p 0 end m.order h
          ∙ sym (ap₂ or_else
          (none_above first p 0 end (subst (Lie 0 end) (take_all i first none) m.first_before) h)
          (none_above second p 0 end (subst (Lie 0 end) (take_all j second none2) m.second_before)
          h))
    ]

-- if the next run is none of the first list, there is one of the second
pub second_left : (first second : List Run) (i j start : ℕ) → Lie 0 (2 ^ 63) first
    → (i < length first) ⊎ (j < length second)
    → ((i < length first) × ((nth_run first i).position ≤ start) → ⊥)
    → (length second ≤ j → 2 ^ 63 ≤ start) → j < length second
second_left first second i j start order some not high =
    elim (cases_lt j (length second)) [
      | inl h ↦ h
      | inr h ↦ elim some [
        | inl lt ↦
            absurd (not (lt, omega (arith, high h, lie_ends i first no_run 0 (2 ^ 63) order lt)))
        | inr lt ↦ absurd (omega (arith, lt, h))
      ]
    ]
