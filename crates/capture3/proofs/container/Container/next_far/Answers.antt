use Rattle.capture3.proofs.Common.{FirstKept, InFirstKept, InNextKept, NextKept, arith, refl}
use Rattle.capture3.proofs.Lemmas.Container.ContainerLemmas.{recalled_next}
use Rattle.capture3.proofs.container.Container.next_far.Goals as goal

pub returns-in-Ok-clause-ok : goal.returns-in-Ok-clause-ok
returns-in-Ok-clause-ok c =
    let recalled = c.in-Ok.ensures in
    recalled_next c.args.self.now c.recall.new.self c.args.piece.now 0 c.in-Some.cursor _ _
    c.in-Ok.event recalled.recalled (omega arith) (λ some. refl)
    (NextKept c.in-Some.cursor c.in-Ok.event c.in-Some.is refl refl recalled.recalled)
    recalled.joiner recalled.copied recalled.ready recalled.room

pub returns-in-Err-clause-fault : goal.returns-in-Err-clause-fault
returns-in-Err-clause-fault c = InNextKept c.in-Some.cursor c.in-Some.is c.in-Err.ensures.fault

pub returns-in-Ok-recall_first-clause-ok : goal.returns-in-Ok-recall_first-clause-ok
returns-in-Ok-recall_first-clause-ok c =
    let came = c.in-Ok-default-Some-Streams in
    let mid = c.advance.new.self in
    let reaches = rw (came.field-0-1-is, came.field-0-1-0-is) at came.ensures.reaches in
    let recalled = c.in-Ok-recall_first.ensures in
    recalled_next c.args.self.now c.recall_first.new.self c.args.piece.now came.count _ _ _
    c.in-Ok-recall_first.event recalled.recalled came.ensures.taken.within
    (λ some. absurd (some c.in-None.is))
    (FirstKept mid c.in-Ok-recall_first.event c.in-None.is reaches.machine reaches.stored refl
    recalled.recalled) recalled.joiner recalled.copied recalled.ready
    (omega (arith, recalled.room, reaches.room))

pub returns-in-Err-recall_first-clause-fault : goal.returns-in-Err-recall_first-clause-fault
returns-in-Err-recall_first-clause-fault c =
    let came = c.in-Ok-default-Some-Streams in
    let mid = c.advance.new.self in
    let reaches = rw (came.field-0-1-is, came.field-0-1-0-is) at came.ensures.reaches in
    InFirstKept mid came.count c.in-None.is reaches.machine c.in-Err-recall_first.ensures.fault
