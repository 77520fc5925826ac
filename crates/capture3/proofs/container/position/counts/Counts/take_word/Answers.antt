use Rattle.std.proofs.lemmas.Result.{IfOk-weaker}
use Rattle.capture3.proofs.Common.{unpacking_at, word_read}
use Rattle.capture3.specs.declared.container.position.spot.Spot.TheVariants.{Word}
use Rattle.capture3.specs.machinery.PositionState.{standing_at}
use Rattle.capture3.proofs.Lemmas.Container.PositionLemmas.{lands_moves, word_part, word_whole}
use Rattle.capture3.proofs.container.position.counts.Counts.take_word.Goals as goal

pub returns-in-Part-clause-machine : goal.returns-in-Part-clause-machine
returns-in-Part-clause-machine c joining body streams stored =
    rw c.after_bytes.ensures (word_part c.args.self streams joining c.args.word c.args.part
    c.in-Part.part c.args.rest.now _ (rw c.in-Part.is at c.take-count.ensures.word))

pub returns-in-Whole-clause-machine : goal.returns-in-Whole-clause-machine
returns-in-Whole-clause-machine c joining body streams stored =
    lands_moves
    (unpacking_at (standing_at c.args.self (Word c.args.word c.args.part)) streams joining)
    c.args.rest.now streams joining c.take-count.result.0
    (word_read c.args.word c.args.self streams joining c.in-Whole.n) _ c.take-count.ensures.within
    (word_whole c.args.self streams joining c.args.word c.args.part c.args.rest.now _ c.in-Whole.n
    (rw c.in-Whole.is at c.take-count.ensures.word))
    c.after_word.ensures.count (c.after_word.ensures.machine streams joining stored body)

pub returns-in-Whole-clause-steps : goal.returns-in-Whole-clause-steps
returns-in-Whole-clause-steps c =
    IfOk-weaker c.after_word.result _ _ (λ taken steps. steps c.args.part)
    c.after_word.ensures.steps
