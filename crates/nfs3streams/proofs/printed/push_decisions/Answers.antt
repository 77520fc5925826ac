use Rattle.std.proofs.Common.{◌<◌, ◌+◌, ◌++◌, ◌∙◌, append_assoc, ap, arith, get_or, length, string_bytes, sym, take}
use Rattle.conversion3.specs.declared.decisions.Decision.TheVariants.{NotChosen}
use Rattle.nfs3streams.specs.Printed.{decision_text, decisions_text}
use Rattle.nfs3streams.proofs.PrintedLemmas.{all_lines, line_at, next_is, pair_length}
use Rattle.nfs3streams.proofs.printed.push_decisions.Goals as goal

pub loop-index-preserved : goal.loop-index-preserved
loop-index-preserved c = λ shown ordered.
    let k = c.loop-index.index in
    let one = c.index-connections-index.result in
    let ds = c.args.decisions.now in
    let text = string_bytes c.args.text.now in
    let low : k < length c.args.connections.now =
    omega (arith, c.loop-index-test.true, c.min-index-end.ensures) in
    let less : k < length ds = omega (arith, c.loop-index-test.true, c.min-index-end.ensures) in
    let (at, is, line) =
    line_at 1 shown c.args.connections.now ds k one NotChosen ordered
    c.index-connections-index.is low less in
    let d = get_or ds k NotChosen in
    c.in_ok-push_decision.ensures at is
    ∙ ap (λ l. l ++ decision_text (k + 1) at d) (c.loop-index.invariant shown ordered)
    ∙ append_assoc text (decisions_text 1 (take k shown) (take k ds)) (decision_text (k + 1) at d)
    ∙ ap (λ l. text ++ l)
    (sym line ∙ ap (λ n. decisions_text 1 (take n shown) (take n ds)) (sym (next_is k)))

pub returns : goal.returns
returns c = λ shown ordered.
    c.loop-index.invariant shown ordered
    ∙ ap (λ l. string_bytes c.args.text.now ++ l)
    (all_lines 1 shown c.args.decisions.now c.loop-index.index
    (omega (
      arith,
      c.loop-index-test.false,
      c.min-index-end.ensures,
      pair_length shown c.args.connections.now ordered,
    )))
