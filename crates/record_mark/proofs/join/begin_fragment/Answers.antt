use Rattle.record_mark.proofs.Common.{sym, ap, refl, ◌∙◌, arith, is_last, length_of, landed, Led}
use Rattle.record_mark.proofs.Steps.{headed_passes, headed_goes_on}
use Rattle.record_mark.proofs.join.begin_fragment.Goals as goal

pub returns-then-len-so_far-clause-state : goal.returns-then-len-so_far-clause-state
unfolding length_of
returns-then-len-so_far-clause-state c =
    ap (λ n. Led (landed n)) (sym (headed_passes c.args.body.now c.args.word (omega arith)))

pub returns-clause-state : goal.returns-clause-state
unfolding length_of is_last
returns-clause-state c =
    c.within_fragment.ensures.state _ ∙ ap (λ n. Led (landed n))
    (sym (headed_goes_on c.args.body.now c.args.word _ _ refl refl (omega arith)))
