use Rattle.std.proofs.Common.{◌∙◌, ◌+◌, ◌^◌, ap, sym, subst, arith, inl, inr}
use Rattle.std.proofs.lemmas.Bool.{cases_lt, false≢true}
use Rattle.streams3.specs.declared.segments.Marks.{Marks}
use Rattle.streams3.specs.Content.{AreIn}
use Rattle.streams3.specs.Order.{AreBetween, HasNoGap, IsGap}
use Rattle.conversion3.specs.machinery.Heads.{HasCallWords}
use Rattle.conversion3.proofs.ChoiceLemmas.{HasHead, begins, between_most, gap_there, has_call, has_gap, no_gap, too_far}
use Rattle.conversion3.proofs.choice.begins_with_call.Goals as goal

pub returns-in_default-checked_add-clause-call : goal.returns-in_default-checked_add-clause-call
returns-in_default-checked_add-clause-call g c = λ file shown allows order. (
  λ yes. absurd (false≢true yes),
  λ call.
      let begin = c.in-Some.begin in
      absurd (elim (cases_lt (begin.position + 16) (2 ^ 64)) [
        | inl lt ↦ c.in_default-checked_add.ensures lt
        | inr far ↦
            too_far file shown c.args.stream.now begin order
            (sym (ap (λ (m : Marks). m.begin) c.marks.ensures) ∙ c.in-Some.is) far call
      ]),
)

pub returns-then-is_some-clause-call : goal.returns-then-is_some-clause-call
returns-then-is_some-clause-call g c = λ file shown allows order. (
  λ yes. absurd (false≢true yes),
  λ call.
      let begin = c.in-Some.begin in
      let runs = c.args.stream.now.runs in
      let gap = gap_there c.gap.result _ _ c.if-is_some.ensures c.gap.ensures in
      absurd (has_gap file shown c.args.stream.now begin gap.0.begin gap.0.end order
      (sym (ap (λ (m : Marks). m.begin) c.marks.ensures) ∙ c.in-Some.is)
      (subst (λ end. IsGap runs begin.position end gap.0.begin gap.0.end)
      c.in-Some-checked_add.ensures.1 gap.1) call),
)

pub returns-in-Ok-clause-call : goal.returns-in-Ok-clause-call
returns-in-Ok-clause-call g c = λ file shown allows order.
    let stream = c.args.stream.now in
    let begin = c.in-Some.begin in
    let parts = c.in_ok-runs.runs.items in
    let end = c.in-Some-checked_add.ensures.1 in
    let between : AreBetween stream.runs begin.position (begin.position + 16) parts =
    subst (λ n. AreBetween stream.runs begin.position n parts) end c.in_ok-runs.ensures in
    let few = between_most file stream.runs parts begin.position (begin.position + 16) between in
    let within : AreIn file parts =
    subst (AreIn file) c.deref.ensures.value
    (c.in-Ok.ensures.within file allows (rw c.deref.ensures.value (omega (arith, few)))) in
    let head : HasHead file shown stream begin parts =
    record {
      order = order;
      is = sym (ap (λ (m : Marks). m.begin) c.marks.ensures) ∙ c.in-Some.is;
      full =
          subst (λ n. HasNoGap stream.runs begin.position n) end
          (no_gap c.gap.result _ _ c.if-is_some.ensures c.gap.ensures);
      between = between;
      within = within;
    } in
    let call = c.in-Ok.ensures.call file allows in (
      λ yes.
          begins file shown stream begin parts head
          (subst (HasCallWords file) c.deref.ensures.value (call.0 yes)),
      λ has.
          call.1 (subst (HasCallWords file) (sym c.deref.ensures.value)
          (has_call file shown stream begin parts head has)),
    )
