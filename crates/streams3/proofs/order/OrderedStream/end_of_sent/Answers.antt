use Rattle.std.proofs.Common.{◌∙◌, sym, ap}
use Rattle.streams3.specs.Order.{Ordered}
use Rattle.streams3.proofs.OrderLemmas.{IsLast, is_last, sent_acknowledged, sent_last}
use Rattle.streams3.proofs.order.OrderedStream.end_of_sent.Goals as goal

pub returns-in-None-Some : goal.returns-in-None-Some
returns-in-None-Some c = λ p none.
    let stream = c.args.self.now in
    let e = c.end_of_last-last.ensures in
    let last : IsLast stream c.end_of_last-last.result =
    is_last stream c.deref.result.now c.end_of_last-last.result
    (c.deref.ensures.value ∙ ap (λ (s : Ordered). s.runs) c.self.view_is) e.before e.last in
    sent_acknowledged stream c.in-None-Some.acknowledged c.end_of_last-last.result c.max.result p
    (sym (ap (λ (s : Ordered). s.marks.end) c.self.view_is) ∙ c.in-None-Some.is-0)
    (sym (ap (λ (s : Ordered). s.marks.acknowledged) c.self.view_is) ∙ c.in-None-Some.is-1) last
    c.max.ensures none

pub returns-in-None-None : goal.returns-in-None-None
returns-in-None-None c = λ p none.
    let stream = c.args.self.now in
    let e = c.end_of_last-last.ensures in
    let last : IsLast stream c.end_of_last-last.result =
    is_last stream c.deref.result.now c.end_of_last-last.result
    (c.deref.ensures.value ∙ ap (λ (s : Ordered). s.runs) c.self.view_is) e.before e.last in
    sent_last stream c.end_of_last-last.result p
    (sym (ap (λ (s : Ordered). s.marks.end) c.self.view_is) ∙ c.in-None-None.is-0)
    (sym (ap (λ (s : Ordered). s.marks.acknowledged) c.self.view_is) ∙ c.in-None-None.is-1) last
    none
