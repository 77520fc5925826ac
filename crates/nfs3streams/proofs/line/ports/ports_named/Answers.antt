use Rattle.std.proofs.Common.{map, subst, sym, take, ◌+◌}
use Rattle.std.proofs.lemmas.Result.{err_from_is_err_and}
use Rattle.nfs3streams.proofs.PortsLemmas.{usage_still, word_named, words_more}
use Rattle.nfs3streams.specs.Ports.{AreAllPorts}
use Rattle.nfs3streams.proofs.line.ports.ports_named.Goals as goal

pub loop-word-preserved : goal.loop-word-preserved
loop-word-preserved c =
    let (named, are, all) = c.in_ok-push_ports.ensures.ok in
    subst
    (AreAllPorts (map (λ s. s.now) (take (c.loop-word.word-index + 1) c.args.words.now))) (sym all)
    (words_more c.args.words.now c.loop-word.word-index _ c.loop-word-test.true
    c.loop-word.ports.items named c.loop-word.invariant are)

pub returns-in_err-push_ports-clause-err : goal.returns-in_err-push_ports-clause-err
returns-in_err-push_ports-clause-err c =
    let p = err_from_is_err_and c.from_residual.result c.from_residual.ensures.1 in
    rw (p.1, p.2)
    (usage_still _ _ c.in_err-push_ports.field-0.0
    (word_named c.args.words.now c.loop-word.word-index _ c.loop-word-test.true)
    c.in_err-push_ports.ensures.err)
