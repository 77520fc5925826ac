use Rattle.std.proofs.Common.{◌≡◌, ◌≤◌, ◌<◌, ◌/◌, ◌^◌, ◌++◌, ℕ, IsTrue, false, List, Result, Ok, Err, IfOk, length, sym, ◌∙◌, subst, ap, ap₂, inl, inr, arith}
use Rattle.std.proofs.lemmas.Bool.{cases_lt, false≢true}
use Rattle.streams3.specs.declared.runs.Run.{Run}
use Rattle.streams3.specs.Runs.{AreInOrder, Lie, or_else, spot_of}
use Rattle.streams3.specs.Runs.{AreSound}
use Rattle.streams3.proofs.LogLemmas.{sound_take, sound_drop}
use Rattle.streams3.proofs.RunsLemmas.{spot_append}
use Rattle.streams3.proofs.merging.+ordered.Goals as goal

if_both : {T E : Type 0} {P Q : T → Type 0} (R : T → Type 0) (r : Result T E) → IfOk r P → IfOk r Q
    → ((x : T) → P x → Q x → R x) → IfOk r R
if_both R (Ok x) p q f = f x p q
if_both R (Err e) p q f = tt

-- halves in order, merged
halves : (log front back first second runs : List Run) → log ≡ front ++ back
    → AreInOrder front first
    → AreInOrder back second → Lie 0 (2 ^ 63) runs
    → ((p : ℕ) → spot_of runs p ≡ or_else (spot_of first p) (spot_of second p))
    → AreInOrder log runs
halves log front back first second runs e a b order same = record {
  order = order;
  same = λ p.
      same p
      ∙ ap₂ or_else (a.same p) (b.same p)
      ∙ sym (spot_append front back p)
      ∙ ap (λ (xs : List Run). spot_of xs p) (sym e);
}

-- what is not in order has two runs
long : (n : ℕ) → (n < 2 → IsTrue false) → 2 ≤ n
long n few =
    elim (cases_lt n 2) [
      | inl h ↦ absurd (false≢true (few h))
      | inr h ↦ h
    ]

pub ordered-requires : goal.ordered-requires
ordered-requires t c =
    let log = c.args.log.now in
    let more = long (length log) c.if-are_in_order.ensures.few in
    let s = c.split_at.ensures in (
      omega (arith, c.decreases, more, s.front_len),
      subst AreSound (sym s.front) (sound_take (length log / 2) log c.requires),
    )

pub ordered-requires-2 : goal.ordered-requires-2
ordered-requires-2 t c =
    let log = c.args.log.now in
    let more = long (length log) c.if-are_in_order.ensures.few in
    let s = c.split_at.ensures in (
      omega (arith, c.decreases, more, s.back_len),
      subst AreSound (sym s.back) (sound_drop (length log / 2) log c.requires),
    )

pub returns : goal.returns
returns t c =
    let log = c.args.log.now in
    let s = c.split_at.ensures in
    if_both (λ runs. AreInOrder log runs.items) c.merged.result c.merged.ensures.order
    c.merged.ensures.same
    (λ runs order same.
    halves log c.split_at.result.0.now c.split_at.result.1.now c.in_ok-first.first.items
    c.in_ok-second.second.items runs.items s.by_index.0 c.in_ok-first.ensures c.in_ok-second.ensures
    order
    (λ p.
    same p
    ∙ ap₂ (λ (a b : List Run). or_else (spot_of a p) (spot_of b p)) c.deref.ensures.value
    c.deref-2.ensures.value))
