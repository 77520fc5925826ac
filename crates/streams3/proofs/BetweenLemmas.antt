-- The bytes between two positions.
use Rattle.std.proofs.Common.{◌≡◌, ◌≤◌, ◌<◌, ℕ, ◌+◌, ◌^◌, Bool, cond, ◌&&◌, nat_le, nat_lt, max, min, List, [], ◌∷◌, ◌++◌, Option, None, length, take, drop, sym, ◌∙◌, ap, ap₂, add-one, arith, take-append-drop, inl, inr}
use Rattle.std.proofs.lemmas.Bool.{and_from, and_left, and_right, cases_lt, le-leb, le-ltb, lt-leb, lt-ltb}
use Rattle.std.proofs.Math.Seq.{take-suc}
use Rattle.streams3.specs.declared.runs.Run.{Run}
use Rattle.streams3.specs.Order.{AreBetween}
use Rattle.streams3.specs.Runs.{HasBytes, Lie, or_else, spot_in, spot_of}
use Rattle.streams3.specs.machinery.Log.{end_at, no_run, part_of, nth_run}
use Rattle.streams3.proofs.RunsLemmas.{beyond_next, follows, has_after, has_before, lie_append, lie_ends, lie_high, lie_rest, lie_sound, none_above, none_below, or_none, part_spot, spot_append, spot_last}

-- a byte between two positions, or not
abbrev pub within : (from to p : ℕ) → Option (ℕ × ℕ) → Option (ℕ × ℕ)
within from to p o = cond (nat_le from p && nat_lt p to) o None

pub in_it : (from to p : ℕ) (o : Option (ℕ × ℕ)) → from ≤ p → p < to → within from to p o ≡ o
in_it from to p o low high =
    ap (λ (b : Bool). cond b o None)
    (and_from (nat_le from p) (nat_lt p to) (le-leb from p low) (lt-ltb p to high))

pub below_it : (from to p : ℕ) (o : Option (ℕ × ℕ)) → p < from → within from to p o ≡ None
below_it from to p o lt =
    ap (λ (b : Bool). cond b o None) (and_left (nat_le from p) (nat_lt p to) (lt-leb from p lt))

pub above_it : (from to p : ℕ) (o : Option (ℕ × ℕ)) → to ≤ p → within from to p o ≡ None
above_it from to p o le =
    ap (λ (b : Bool). cond b o None) (and_right (nat_le from p) (nat_lt p to) (le-ltb p to le))

-- the parts of the first i runs
pub record Between (runs : List Run) (from to : ℕ) (parts : List Run) (i : ℕ) : Type 0 where
  pub index : i ≤ length runs
  pub bound : ℕ
  pub order : Lie 0 bound parts
  pub small : bound ≤ 2 ^ 63
  pub next : i < length runs → bound ≤ (nth_run runs i).position
  pub beyond : i < length runs → from < end_at runs i
  pub same : (p : ℕ) → spot_of parts p ≡ within from to p (spot_of (take i runs) p)

pub between_none : (runs : List Run) (from to i : ℕ) → i ≤ length runs → Lie 0 from (take i runs)
    → (i < length runs → from < end_at runs i) → Between runs from to [] i
between_none runs from to i index before beyond = record {
  index = index;
  bound = 0;
  order = omega arith;
  small = omega arith;
  next = λ _. omega arith;
  beyond = beyond;
  same = λ p.
      sym (elim (cases_lt p from) [
        | inl h ↦ below_it from to p (spot_of (take i runs) p) h
        | inr h ↦ elim (cases_lt p to) [
          | inl k ↦
              in_it from to p (spot_of (take i runs) p) h k
              ∙ none_above (take i runs) p 0 from before h
          | inr k ↦ above_it from to p (spot_of (take i runs) p) k
        ]
      ]);
}

-- a part of a run has those of its bytes that lie between two positions
part_within : (r : Run) (from to start stop p : ℕ) (o : Option (ℕ × ℕ))
    → start ≡ max r.position from → stop ≡ min (r.position + r.size) to → start < stop
    → or_else (within from to p o) (spot_in (part_of r start stop) p)
    ≡ within from to p (or_else o (spot_in r p))
part_within r from to start stop p o begins ends some =
    let part = part_of r start stop in
    let both = or_else o (spot_in r p) in
    elim (cases_lt p from) [
      | inl h ↦
          ap₂ or_else (below_it from to p o h) (has_before part p (omega (arith, h, begins)))
          ∙ sym (below_it from to p both h)
      | inr h ↦ elim (cases_lt p to) [
        | inl k ↦
            ap₂ or_else (in_it from to p o h k)
            (elim (cases_lt p r.position) [
              | inl x ↦ has_before part p (omega (arith, x, begins)) ∙ sym (has_before r p x)
              | inr x ↦ elim (cases_lt p (r.position + r.size)) [
                | inl y ↦
                    part_spot r start stop p (omega (arith, begins)) (omega (arith, ends))
                    (omega (arith, begins, x, h)) (omega (arith, ends, y, k))
                | inr y ↦
                    has_after part p (omega (arith, y, ends, some)) ∙ sym (has_after r p y)
              ]
            ])
            ∙ sym (in_it from to p both h k)
        | inr k ↦
            ap₂ or_else (above_it from to p o k) (has_after part p (omega (arith, k, ends, some)))
            ∙ sym (above_it from to p both k)
      ]
    ]

pub between_more : (runs : List Run) (from to : ℕ) (parts : List Run) (i start stop : ℕ)
    → Lie 0 (2 ^ 63) runs → Between runs from to parts i → i < length runs
    → start ≡ max (nth_run runs i).position from → stop ≡ min (end_at runs i) to → start < stop
    → Between runs from to (parts ++ part_of (nth_run runs i) start stop ∷ []) (i + 1)
between_more runs from to parts i start stop order b lt begins ends some =
    let r = nth_run runs i in
    let part = part_of r start stop in
    let sound : HasBytes r = lie_sound i runs no_run 0 (2 ^ 63) order lt in
    let high : end_at runs i ≤ 2 ^ 63 = lie_ends i runs no_run 0 (2 ^ 63) order lt in
    let bound : b.bound ≤ r.position = b.next lt in
    let low : r.position ≤ start = omega (arith, begins) in
    let has : HasBytes part = (omega (arith, some), omega (arith, sound.1, some, ends, low)) in
    record {
      index = omega (arith, lt);
      bound = stop;
      order =
          lie_append parts (part ∷ []) 0 b.bound stop b.order
          (omega (arith, bound, low), (has, omega (arith, some)));
      small = omega (arith, ends, high);
      next = λ k.
          let f : end_at runs i ≤ (nth_run runs (i + 1)).position =
          rw add-one (follows i runs no_run 0 (2 ^ 63) order (omega (arith, k))) in
          omega (arith, f, ends);
      beyond = λ k. beyond_next runs i from order k (b.beyond lt);
      same = λ p.
          spot_last parts part p
          ∙ ap (λ o. or_else o (spot_in part p)) (b.same p)
          ∙ part_within r from to start stop p (spot_of (take i runs) p) begins ends some
          ∙ ap (within from to p)
          (sym (ap (λ (xs : List Run). spot_of xs p) (rw add-one (take-suc runs i no_run lt))
          ∙ spot_last (take i runs) r p));
    }

pub between_all : (runs : List Run) (from to : ℕ) (parts : List Run) (i : ℕ) → Lie 0 (2 ^ 63) runs
    → Between runs from to parts i
    → (from < to → i < length runs → to ≤ (nth_run runs i).position) → AreBetween runs from to parts
between_all runs from to parts i order b no_more = record {
  order = lie_high parts 0 b.bound (2 ^ 63) b.small b.order;
  same = λ p.
      b.same p
      ∙ elim (cases_lt p from) [
        | inl h ↦
            below_it from to p (spot_of (take i runs) p) h
            ∙ sym (below_it from to p (spot_of runs p) h)
        | inr h ↦ elim (cases_lt p to) [
          | inl k ↦
              let high = 2 ^ 63 + to in
              let all : Lie 0 high runs =
              lie_high runs 0 (2 ^ 63) high (omega arith) order in
              let rest : Lie to high (drop i runs) =
              lie_rest i runs no_run to 0 high all (omega arith)
              (no_more (omega (arith, h, k))) in
              ap (within from to p)
              (sym (ap (λ (xs : List Run). spot_of xs p) (sym (take-append-drop i runs))
              ∙ spot_append (take i runs) (drop i runs) p
              ∙ ap (or_else (spot_of (take i runs) p)) (none_below (drop i runs) p to high rest k)
              ∙ or_none (spot_of (take i runs) p)))
          | inr k ↦
              above_it from to p (spot_of (take i runs) p) k
              ∙ sym (above_it from to p (spot_of runs p) k)
        ]
      ];
}

pub between_nothing : (runs : List Run) (from to : ℕ) → to ≤ from → AreBetween runs from to []
between_nothing runs from to le = record {
  order = omega arith;
  same = λ p.
      sym (elim (cases_lt p from) [
        | inl h ↦ below_it from to p (spot_of runs p) h
        | inr h ↦ above_it from to p (spot_of runs p) (omega (arith, le, h))
      ]);
}
