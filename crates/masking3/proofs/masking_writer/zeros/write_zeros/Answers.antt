use Rattle.masking3.proofs.Common.{arith, ap, ◌≡◌, ◌∙◌, ◌+◌, ◌-◌, ◌++◌, ℕ, List, [], append_assoc, on_ok_weaker}
use Rattle.masking3.proofs.Lemmas.Writing.RunLemmas.{appends_rest, some_zeros, zeros, zeros_joined}
use Rattle.masking3.proofs.masking_writer.zeros.write_zeros.Goals as goal

pub loop-left-preserved : goal.loop-left-preserved
loop-left-preserved c =
    let written = c.loop-left.writer in
    let left = c.loop-left.left - 256 in
    let joined : 256 + left ≡ c.loop-left.left = omega (arith, c.loop-left-test.true) in
    ap (λ (l : List ℕ). l ++ zeros left)
    (appends_rest written c.rest.new.self [] (zeros 256) c.in_ok-rest.ensures.ok)
    ∙ append_assoc written (zeros 256) (zeros left)
    ∙ ap (λ (l : List ℕ). written ++ l) (zeros_joined 256 left ∙ ap zeros joined)
    ∙ c.loop-left.invariant

pub returns : goal.returns
returns c =
    on_ok_weaker c.rest-2.result
    (λ adds.
    appends_rest c.loop-left.writer c.rest-2.new.self [] _ adds
    ∙ ap (λ (l : List ℕ). c.loop-left.writer ++ l)
    (some_zeros 256 c.loop-left.left c.loop-left-test.false) ∙ c.loop-left.invariant)
    c.rest-2.ensures.ok
