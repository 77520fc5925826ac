use Rattle.capture3.specs.Entries.{failure_in}
use Rattle.capture3.specs.MessageVisit.{Hears}
use Rattle.capture3.proofs.Common.{ap, ap₂, arith, drop, entries_left, length-drop, length-take, refl, sym, End, ◌≡◌, ◌∙◌, ◌+◌}
use Rattle.capture3.proofs.Lemmas.Reader.EntriesLemmas.{answers_again, answers_error, answers_kind, answers_over, can_go_on, end_on, judged_piece, none_on, piece_failed, read_on, too_long, turned}
use Rattle.capture3.proofs.Lemmas.Reader.WholeFiles.{not_some}
use Rattle.capture3.specs.machinery.Container.{room_in}
use Rattle.capture3.specs.machinery.EntriesHistory.{entries_left_in}
use Rattle.std.proofs.Common.{◌-◌}
use Rattle.capture3.proofs.Lemmas.Reader.Lending.{lies_in_block}
use Rattle.capture3.proofs.reader.entries.Entries.step.Goals as goal

pub returns-in-Ok-clause-answers : goal.returns-in-Ok-clause-answers
unfolding Hears
returns-in-Ok-clause-answers g c given handed s =
    let Passed =
    Hears g.V.MessageVisit.rests g.V.Visit.stands c.args.visitor.now c.loop-self.visitor
    in
    let ends = c.in-Ok.ensures in
    let told : Passed End = rw c.loop-self.invariant.unmoved (λ before r. r) in
    answers_kind g.R.Source.observed Passed c.args.self.now c.finish.new.self given handed
    (rw ends.last refl) (ap (λ stage. failure_in stage c.finish.new.self.pairing.error) ends.over)
    (turned g.R.Source.observed Passed _ _ _ _ given handed
    (c.loop-self.invariant.has_read given handed s) c.refill.ensures.has_read
    (λ so_far out at.
    end_on g.R.Source.observed Passed c.finish.new.self so_far out told ends.last
    (ends.ok so_far out at)) (ap (λ s. s.now) ends.device.0))

pub returns-in-Err-finish-clause-answers : goal.returns-in-Err-finish-clause-answers
returns-in-Err-finish-clause-answers g c given handed s =
    let Passed =
    Hears g.V.MessageVisit.rests g.V.Visit.stands c.args.visitor.now c.loop-self.visitor
    in
    let ends = c.in-Err-finish.ensures in
    answers_error g.R.Source.observed Passed _ c.args.self.now c.finish.new.self given handed
    ends.failure.failed ends.failure.unlent
    (turned g.R.Source.observed Passed _ _ _ _ given handed
    (c.loop-self.invariant.has_read given handed s) c.refill.ensures.has_read
    (λ so_far out at.
    none_on g.R.Source.observed Passed c.finish.new.self so_far out ends.failure.unlent
    (ends.err so_far out at)) (ap (λ s. s.now) ends.device.0))

pub returns-in-Err-clause-answers : goal.returns-in-Err-clause-answers
returns-in-Err-clause-answers g c given handed s =
    let Passed =
    Hears g.V.MessageVisit.rests g.V.Visit.stands c.args.visitor.now c.loop-self.visitor
    in
    let failure = c.in-Err.ensures.failure in
    answers_error g.R.Source.observed Passed _ c.args.self.now c.refill.new.self given handed
    failure.failed failure.unlent
    (turned g.R.Source.observed Passed _ _ _ _ given handed
    (c.loop-self.invariant.has_read given handed s) c.refill.ensures.has_read
    (λ so_far out at.
    none_on g.R.Source.observed Passed c.refill.new.self so_far out failure.unlent at) refl)

pub next-requires : goal.next-requires
next-requires g c =
    let self = c.refill.new.self in
    record {
      ready =
          can_go_on self.pairing.container.cursor _ self.pairing.container
          (self.ready c.in-Ok-true.ensures.stays.2);
      some =
          λ none. omega (
            arith,
            length-take (self.end - self.start)
                (drop self.start c.deref.result.now),
            length-drop self.start c.deref.result.now,
            c.deref.ensures.len,
            self.within,
            c.in-Ok-true.ensures.more.some c.in-Ok-true.field-0-test none,
          );
    }

pub returns-in-Err-next-clause-answers : goal.returns-in-Err-next-clause-answers
returns-in-Err-next-clause-answers g c given handed s =
    let Passed = Hears g.V.MessageVisit.rests g.V.Visit.stands c.args.visitor.now c.next.new.visitor
    in
    let self = c.refill.new.self in
    answers_error g.R.Source.observed Passed _ c.args.self.now _ given handed refl refl
    (turned g.R.Source.observed Passed _ _ _ _ given handed
    (c.loop-self.invariant.has_read given handed s) c.refill.ensures.has_read
    (λ so_far out at.
    none_on g.R.Source.observed Passed _ so_far out refl
    (piece_failed g.R.Source.observed self _ c.deref.result.now so_far out
    c.deref.ensures.value c.in-Ok-true.ensures.stays.2 refl refl refl at
    (λ judged h. c.in-Err-next.ensures.fault.fault judged out h))) refl)

pub returns-then-is_some-clause-answers : goal.returns-then-is_some-clause-answers
returns-then-is_some-clause-answers g c given handed s =
    let Passed = Hears g.V.MessageVisit.rests g.V.Visit.stands c.args.visitor.now c.next.new.visitor
    in
    let self = c.refill.new.self in
    let is = c.in-Ok-true.ensures.stays.2 in
    let next = c.in-Ok-next.ensures in
    answers_kind g.R.Source.observed Passed c.args.self.now _ given handed
    (sym c.is_some.ensures ∙ c.if-is_some.true)
    (ap (λ stage. failure_in stage c.next.new.self.error) is)
    (turned g.R.Source.observed Passed _ _ _ _ given handed
    (c.loop-self.invariant.has_read given handed s) c.refill.ensures.has_read
    (λ so_far out at.
    judged_piece g.R.Source.observed Passed self _ c.in-Ok-next.count c.deref.result.now so_far out
    c.next.new.self.last c.deref.ensures.value c.deref.ensures.len is is refl refl refl refl
    next.ok.taken.within next.ok.room at
    (λ judged h. rw c.loop-self.invariant.unmoved at (next.machine judged out h)) next.ok.counted)
    refl)

pub returns-clause-answers : goal.returns-clause-answers
returns-clause-answers g c given handed s =
    let Passed =
    Hears g.V.MessageVisit.rests g.V.Visit.stands c.args.visitor.now c.loop-self.visitor
    in
    answers_error g.R.Source.observed Passed _ c.args.self.now _ given handed refl refl
    (too_long g.R.Source.observed Passed c.args.self.now c.loop-self.self _ given handed
    (c.loop-self.invariant.has_read given handed s) c.loop-self.invariant.reading
    (omega (arith, c.loop-self-test.false)))

pub loop-self-preserved : goal.loop-self-preserved
loop-self-preserved g c =
    let Passed =
    Hears g.V.MessageVisit.rests g.V.Visit.stands c.loop-self.visitor c.next.new.visitor
    in
    let invariant = c.loop-self.invariant in
    let self = c.refill.new.self in
    let filled = c.in-Ok-true.ensures in
    let next = c.in-Ok-next.ensures in
    let none = not_some _ _ c.is_some.ensures c.if-is_some.false in
    let same : entries_left self ≡ entries_left c.loop-self.self =
    ap₂ entries_left_in (filled.stays.2 ∙ sym invariant.reading)
    filled.stays.0 in
    let here : entries_left self ≡ room_in self.pairing.container + 1 =
    ap (λ stage. entries_left_in stage self.pairing.container) filled.stays.2 in
    let left : entries_left_in self.stage c.next.new.self.container
    ≡ room_in c.next.new.self.container + 1 =
    ap (λ stage. entries_left_in stage c.next.new.self.container) filled.stays.2 in
    record {
      reading = filled.stays.2;
      has_read =
          λ given handed s.
          read_on g.R.Source.observed Passed c.args.self.now _ given handed none
          (turned g.R.Source.observed Passed _ _ _ _ given handed
          (invariant.has_read given handed s) filled.has_read
          (λ so_far out at.
          judged_piece g.R.Source.observed Passed self _ c.in-Ok-next.count c.deref.result.now
          so_far
          out
          c.next.new.self.last c.deref.ensures.value c.deref.ensures.len filled.stays.2
          filled.stays.2 refl refl refl refl next.ok.taken.within next.ok.room at
          (λ judged h. next.machine judged out h) next.ok.counted) refl);
      unmoved = next.ok.unmoved none ∙ invariant.unmoved;
      fewer = omega (arith, next.ok.room, here, left, same, invariant.fewer);
      read = filled.device.read ∙ invariant.read;
      same_block = filled.device.same_block ∙ invariant.same_block;
      same_reference = filled.device.same_reference ∙ invariant.same_reference;
    }

pub returns-in-Failed-clause-answers : goal.returns-in-Failed-clause-answers
returns-in-Failed-clause-answers g c given handed s =
    answers_again g.R.Source.observed _ c.args.self.now given handed c.in-Failed.is s

pub returns-in-Over-clause-answers : goal.returns-in-Over-clause-answers
returns-in-Over-clause-answers g c given handed s =
    answers_over g.R.Source.observed _ c.args.self.now given handed c.in-Over.is s

pub invariant_of-self-clause-lies : goal.invariant_of-self-clause-lies
invariant_of-self-clause-lies g c =
    let self = c.refill.new.self in
    ∣ lies_in_block c.next.new.self.last c.next.new.self.container.joiner self.block.items
    self.start c.in-Ok-next.count (self.end - self.start)
    (rw c.deref.ensures.value at c.in-Ok-next.ensures.ok.taken.within)
    (rw c.deref.ensures.value at c.in-Ok-next.ensures.ok.lies) ∣₁
