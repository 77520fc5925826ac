use Rattle.std.proofs.Common.{◌++◌, ◌∷◌, ◌∙◌, [], append-nil, append_assoc, ap, arith, refl, rules, sym}
use Rattle.std.proofs.lemmas.Result.{err_from_is_err_and}
use Rattle.nfs3streams.proofs.PortsLemmas.{cut_first, cut_none, err_still, named_all, named_more, ok_then, part_named, usage_still}
use Rattle.nfs3streams.proofs.line.ports.push_ports.Goals as goal

pub loop-first-init : goal.loop-first-init
loop-first-init c = (
  c.utf8.word,
  (
    [],
    record { front = []; are = tt; split = refl },
    sym (append-nil c.args.ports.now.items),
  ),
)

pub loop-first-preserved : goal.loop-first-preserved
loop-first-preserved c =
    let (named, before, all) = c.loop-first.invariant.1 in
    let cut = c.in-Some.ensures.byte (omega arith) (λ w o found. found) in
    let (port, is, more) = c.in_ok-push_port.ensures.ok in (
      search rules,
      (
        named ++ port ∷ [],
        named_more c.args.word.now c.loop-first.rest.now c.in-Some.first.now
            c.in-Some.behind.now named port before
            (cut_first c.loop-first.rest.now c.in-Some.first.now c.in-Some.behind.now cut.0 cut.1
            cut.2) is,
        more ∙ ap (λ l. l ++ port ∷ []) all
            ∙ append_assoc c.args.ports.now.items named (port ∷ []),
      ),
    )

pub returns-in_err-push_port-clause-err : goal.returns-in_err-push_port-clause-err
returns-in_err-push_port-clause-err c =
    let (named, before, all) = c.loop-first.invariant.1 in
    let cut = c.in-Some.ensures.byte (omega arith) (λ w o found. found) in
    let p = err_from_is_err_and c.from_residual.result c.from_residual.ensures.1 in
    rw (p.1, p.2)
    (usage_still _ _ c.in_err-push_port.field-0.0
    (part_named c.args.word.now c.loop-first.rest.now c.in-Some.first.now named _ before
    (cut_first c.loop-first.rest.now c.in-Some.first.now c.in-Some.behind.now cut.0 cut.1
    cut.2)) c.in_err-push_port.ensures.err)

pub returns-clause-ok : goal.returns-clause-ok
returns-clause-ok c =
    let (named, before, all) = c.loop-first.invariant.1 in
    let h = c.split_once.ensures.byte (omega arith) (λ w o found. found) in
    let none = rw c.in_default.is at h in
    ok_then _ _ c.push_port-2.result
    (λ last. (
      named ++ last.0 ∷ [],
      named_all c.args.word.now c.loop-first.rest.now named last.0 before
          (cut_none c.loop-first.rest.now none) last.1,
      last.2 ∙ ap (λ l. l ++ last.0 ∷ []) all
          ∙ append_assoc c.args.ports.now.items named (last.0 ∷ []),
    )) c.push_port-2.ensures.ok

pub returns-clause-err : goal.returns-clause-err
returns-clause-err c =
    let (named, before, all) = c.loop-first.invariant.1 in
    let h = c.split_once.ensures.byte (omega arith) (λ w o found. found) in
    let none = rw c.in_default.is at h in
    err_still _ _ c.push_port-2.result
    (part_named c.args.word.now c.loop-first.rest.now c.loop-first.rest.now named [] before
    (cut_none c.loop-first.rest.now none)) c.push_port-2.ensures.err
