-- Payloads parted into those that begin behind all before them, and the others.
use Rattle.std.proofs.Common.{◌≡◌, ◌≤◌, ℕ, ◌+◌, ◌^◌, max, List, [], ◌∷◌, ◌++◌, None, refl, sym, ◌∙◌, ap, ap₂, subst, arith, ◌⊎◌, inl, inr}
use Rattle.std.proofs.lemmas.Bool.{cases_lt}
use Rattle.streams3.specs.declared.runs.Run.{Run}
use Rattle.streams3.specs.Repeats.{Has}
use Rattle.streams3.specs.Runs.{AreInOrder, HasBytes, Lie, or_else, spot_in, spot_of}
use Rattle.streams3.specs.Runs.{AreSound}
use Rattle.streams3.specs.machinery.Parting.{AreParted, IsOneOf}
use Rattle.streams3.proofs.LogLemmas.{sound_last}
use Rattle.streams3.proofs.RepeatsLemmas.{one_cases, one_last, one_left}
use Rattle.streams3.proofs.RunsLemmas.{has_after, has_before, has_it, lie_append, lie_high, none_above, or_or, or_swap, spot_last}

-- the first payloads, whose bytes end at a position
pub record Parting (log ahead late : List Run) (top : ℕ) : Type 0 where
  pub order : Lie 0 top ahead
  pub small : top ≤ 2 ^ 63
  pub sound : AreSound late
  pub after : (p : ℕ) → top ≤ p → spot_of late p ≡ None
  pub same : (p : ℕ) → spot_of log p ≡ or_else (spot_of ahead p) (spot_of late p)
  pub in_log : (run : Run) → IsOneOf late run → IsOneOf log run
  pub of_log : (run : Run) → IsOneOf log run
      → IsOneOf late run ⊎ ((p : ℕ) → Has run p → spot_in run p ≡ spot_of log p)

pub parting_none : Parting [] [] [] 0
parting_none = record {
  order = omega arith;
  small = omega arith;
  sound = tt;
  after = λ p le. refl;
  same = λ p. refl;
  in_log = λ run h. h;
  of_log = λ run h. absurd h;
}

-- what is first stays first
kept : (run : Run) (xs : List Run) (r : Run) (p : ℕ) → Has run p → spot_in run p ≡ spot_of xs p
    → spot_in run p ≡ spot_of (xs ++ r ∷ []) p
kept run xs r p has e =
    let it = has_it run p has.0 has.1 in
    it ∙ sym (spot_last xs r p ∙ ap (λ o. or_else o (spot_in r p)) (sym e ∙ it))

none_of : (log ahead late : List Run) (top p : ℕ) → Parting log ahead late top → top ≤ p
    → spot_of log p ≡ None
none_of log ahead late top p h le =
    h.same p ∙ ap₂ or_else (none_above ahead p 0 top h.order le) (h.after p le)

pub parting_ahead : (log ahead late : List Run) (top : ℕ) (r : Run) → Parting log ahead late top
    → HasBytes r → r.position + r.size ≤ 2 ^ 63 → top ≤ r.position
    → Parting (log ++ r ∷ []) (ahead ++ r ∷ []) late (r.position + r.size)
parting_ahead log ahead late top r h sound small le = record {
  order = lie_append ahead (r ∷ []) 0 top (r.position + r.size) h.order (le, (sound, omega arith));
  small = small;
  sound = h.sound;
  after = λ p high. h.after p (omega (arith, le, high));
  same = λ p.
      let apart : (spot_of late p ≡ None) ⊎ (spot_in r p ≡ None) =
      elim (cases_lt p r.position) [
        | inl lt ↦ inr (has_before r p lt)
        | inr ge ↦ inl (h.after p (omega (arith, le, ge)))
      ] in
      spot_last log r p
      ∙ ap (λ o. or_else o (spot_in r p)) (h.same p)
      ∙ or_or (spot_of ahead p) (spot_of late p) (spot_in r p)
      ∙ or_swap (spot_of ahead p) (spot_of late p) (spot_in r p) apart
      ∙ ap (λ o. or_else o (spot_of late p)) (sym (spot_last ahead r p));
  in_log = λ run one. one_left log (r ∷ []) run (h.in_log run one);
  of_log = λ run one.
      elim (one_cases log r run one) [
        | inl old ↦ elim (h.of_log run old) [
          | inl is_late ↦ inl is_late
          | inr first ↦ inr (λ p has. kept run log r p has (first p has))
        ]
        | inr e ↦ inr (λ p has.
            let own : Has r p = subst (λ x. Has x p) (sym e) has in
            ap (λ (x : Run). spot_in x p) (sym e)
            ∙ sym (spot_last log r p
            ∙ ap (λ o. or_else o (spot_in r p))
            (none_of log ahead late top p h (omega (arith, le, own.0)))))
      ];
}

pub parting_late : (log ahead late : List Run) (top new : ℕ) (r : Run) → Parting log ahead late top
    → HasBytes r → r.position + r.size ≤ 2 ^ 63 → new ≡ max top (r.position + r.size)
    → Parting (log ++ r ∷ []) ahead (late ++ r ∷ []) new
parting_late log ahead late top new r h sound small is = record {
  order = lie_high ahead 0 top new (omega (arith, is)) h.order;
  small = omega (arith, is, small, h.small);
  sound = sound_last late r h.sound sound small;
  after = λ p high.
      spot_last late r p
      ∙ ap₂ or_else (h.after p (omega (arith, is, high))) (has_after r p (omega (arith, is, high)));
  same = λ p.
      spot_last log r p
      ∙ ap (λ o. or_else o (spot_in r p)) (h.same p)
      ∙ or_or (spot_of ahead p) (spot_of late p) (spot_in r p)
      ∙ ap (or_else (spot_of ahead p)) (sym (spot_last late r p));
  in_log = λ run one.
      elim (one_cases late r run one) [
        | inl old ↦ one_left log (r ∷ []) run (h.in_log run old)
        | inr e ↦ subst (IsOneOf (log ++ r ∷ [])) e (one_last log r)
      ];
  of_log = λ run one.
      elim (one_cases log r run one) [
        | inl old ↦ elim (h.of_log run old) [
          | inl is_late ↦ inl (one_left late (r ∷ []) run is_late)
          | inr first ↦ inr (λ p has. kept run log r p has (first p has))
        ]
        | inr e ↦ inl (subst (IsOneOf (late ++ r ∷ [])) e (one_last late r))
      ];
}

pub parting_all : (log ahead late : List Run) (top : ℕ) → Parting log ahead late top
    → AreParted log ahead late
parting_all log ahead late top h = record {
  order = lie_high ahead 0 top (2 ^ 63) h.small h.order;
  sound = h.sound;
  same = h.same;
  in_log = h.in_log;
  of_log = h.of_log;
}

-- both put in order
pub order_of_both : (log ahead late others runs : List Run) → AreParted log ahead late
    → AreInOrder late others → Lie 0 (2 ^ 63) runs
    → ((p : ℕ) → spot_of runs p ≡ or_else (spot_of ahead p) (spot_of others p))
    → AreInOrder log runs
order_of_both log ahead late others runs parted order lie same = record {
  order = lie;
  same = λ p.
      same p ∙ ap (or_else (spot_of ahead p)) (order.same p) ∙ sym (parted.same p);
}
