use Rattle.std.proofs.Common.{◌≡◌, ◌++◌, ℕ, [], ◌∷◌, List, Vec, Global, max, take, sym, ◌∙◌, ap, subst, add-one, arith}
use Rattle.std.proofs.Math.Seq.{take-suc}
use Rattle.std.proofs.lemmas.List.{take_all}
use Rattle.streams3.specs.declared.runs.Run.{Run}
use Rattle.streams3.specs.machinery.Log.{end_at, no_run, nth_run}
use Rattle.streams3.proofs.LogLemmas.{sound_at}
use Rattle.streams3.proofs.PartingLemmas.{Parting, parting_ahead, parting_all, parting_late}
use Rattle.streams3.proofs.merging.parted.Goals as goal
use Rattle.streams3.proofs.merging.parted.Goals.{then-run-top+in_ok-push, else-run-top+in_ok-push-2}

pub overflow_add-end : goal.overflow_add-end
overflow_add-end c =
    omega (
      arith,
      (sound_at c.loop-run.run-index c.args.log.now no_run c.requires c.loop-run-test.true).1,
    )

abbrev items_of : Vec Run Global → List Run
items_of v = v.items

-- equal lists are parted alike
alike : (log a a2 l l2 : List Run) (t t2 : ℕ) → a2 ≡ a → l2 ≡ l → t2 ≡ t → Parting log a l t
    → Parting log a2 l2 t2
alike log a a2 l l2 t t2 ea el et h =
    subst (λ n. Parting log a2 l2 n) (sym et)
    (subst (λ (xs : List Run). Parting log a2 xs t) (sym el)
    (subst (λ (xs : List Run). Parting log xs l t) (sym ea) h))

pub loop-run-preserved : goal.loop-run-preserved
loop-run-preserved c =
    let log = c.args.log.now in
    let i = c.loop-run.run-index in
    let r = nth_run log i in
    let ahead = c.loop-run.ahead.items in
    let late = c.loop-run.late.items in
    let top = c.loop-run.top in
    let new = c.if-run-top in
    let s = sound_at i log no_run c.requires c.loop-run-test.true in
    subst (λ (xs : List Run). Parting xs new.ahead.items new.late.items new.top)
    (sym (rw add-one (take-suc log i no_run c.loop-run-test.true)))
    (elim c.if-run-top.branch [
      | then-run-top+in_ok-push w ↦
          alike (take i log ++ r ∷ []) ahead new.ahead.items (late ++ r ∷ []) new.late.items
          (max top (end_at log i)) new.top (ap items_of w.ahead-is)
          (ap items_of w.late-is ∙ w.in_ok-push.ensures.items) (w.top-is ∙ w.max-top.ensures)
          (parting_late (take i log) ahead late top (max top (end_at log i)) r c.loop-run.invariant
          s.0
          s.1 (omega arith))
      | else-run-top+in_ok-push-2 w ↦
          alike (take i log ++ r ∷ []) (ahead ++ r ∷ []) new.ahead.items late new.late.items
          (end_at log i) new.top (ap items_of w.ahead-is ∙ w.in_ok-push-2.ensures.items)
          (ap items_of w.late-is) w.top-is
          (parting_ahead (take i log) ahead late top r c.loop-run.invariant s.0 s.1
          w.if-run-top.false)
    ])

pub returns : goal.returns
returns c =
    let log = c.args.log.now in
    let ahead = c.loop-run.ahead.items in
    let late = c.loop-run.late.items in
    parting_all log ahead late c.loop-run.top
    (subst (λ (xs : List Run). Parting xs ahead late c.loop-run.top)
    (take_all c.loop-run.run-index log c.loop-run-test.false) c.loop-run.invariant)
