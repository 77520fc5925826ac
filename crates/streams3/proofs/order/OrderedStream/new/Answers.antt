use Rattle.std.proofs.Common.{◌^◌, ◌∙◌, List, refl, sym, subst, ap, ap₂}
use Rattle.streams3.specs.declared.runs.Pair.{Pair}
use Rattle.streams3.specs.declared.runs.Run.{Run}
use Rattle.streams3.specs.Repeats.{AreRepeats}
use Rattle.streams3.specs.Runs.{AreInOrder, Lie, or_else, spot_of}
use Rattle.streams3.specs.machinery.Parting.{AreParted}
use Rattle.streams3.specs.machinery.Repeating.{AreAgain}
use Rattle.streams3.proofs.PartingLemmas.{order_of_both}
use Rattle.streams3.proofs.RepeatsLemmas.{late_again, none_again}
use Rattle.streams3.proofs.order.OrderedStream.new.Goals as goal

pub returns-then-are_in_order : goal.returns-then-are_in_order
returns-then-are_in_order c =
    let log = c.into_parts-log.result.0.items in
    let e = c.into_parts-log.ensures.log in
    let order : Lie 0 (2 ^ 63) log =
    subst (Lie 0 (2 ^ 63)) c.deref.ensures.value (c.if-are_in_order.ensures.order refl) in
    record {
      marks = c.into_parts-log.ensures.marks;
      runs = record {
        order = order;
        same = λ p. ap (λ (xs : List Run). spot_of xs p) e;
      };
      pairs =
          subst (λ (xs : List Run). AreRepeats xs c.new.result.items) e
          (subst (λ (ps : List Pair). AreRepeats log ps) (sym c.new.ensures.items)
          (none_again log order));
    }

pub returns : goal.returns
returns c =
    let log = c.into_parts-log.result.0.items in
    let ahead = c.in_ok-ahead.ahead.items in
    let late = c.in_ok-ahead.late.items in
    let others = c.in_ok-ordered.field-0.items in
    let runs = c.in_ok-runs.runs.items in
    let pairs = c.in_ok-pairs.pairs.items in
    let e = c.into_parts-log.ensures.log in
    let parted : AreParted log ahead late =
    subst (λ (xs : List Run). AreParted xs ahead late) c.deref-2.ensures.value c.in_ok-ahead.ensures
    in
    let part : AreInOrder late others =
    subst (λ (xs : List Run). AreInOrder xs others) c.deref-4.ensures.value c.in_ok-ordered.ensures
    in
    let order : AreInOrder log runs =
    order_of_both log ahead late others runs parted part c.in_ok-runs.ensures.order
    (λ p.
    c.in_ok-runs.ensures.same p
    ∙ ap₂ (λ (xs ys : List Run). or_else (spot_of xs p) (spot_of ys p)) c.deref-3.ensures.value
    c.deref-5.ensures.value) in
    let again : AreAgain late runs pairs =
    subst (λ (ys : List Run). AreAgain late ys pairs) c.deref-7.ensures.value
    (subst (λ (xs : List Run). AreAgain xs c.deref-7.result.now pairs) c.deref-6.ensures.value
    c.in_ok-pairs.ensures) in
    let repeats : AreRepeats log pairs =
    late_again log ahead late runs pairs parted order.same again in
    record {
      marks = c.into_parts-log.ensures.marks;
      runs = subst (λ (xs : List Run). AreInOrder xs runs) e order;
      pairs = subst (λ (xs : List Run). AreRepeats xs pairs) e repeats;
    }
