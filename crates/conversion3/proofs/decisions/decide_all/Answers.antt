use Rattle.std.proofs.Common.{◌≡◌, ◌∙◌, ◌+◌, ◌++◌, List, [], ◌∷◌, take, sym, ap, subst}
use Rattle.std.specs.List.{AllZip}
use Rattle.std.proofs.lemmas.List.{take_all, take_more}
use Rattle.std.proofs.lemmas.Slice.Zip.{all_zipped_more}
use Rattle.conversion3.specs.declared.decisions.Decision.{Decision}
use Rattle.conversion3.specs.declared.ordered_connections.OrderedConnection.{OrderedConnection}
use Rattle.conversion3.proofs.DecisionLemmas.{IsDecidedIn, all_decided}
use Rattle.conversion3.proofs.decisions.decide_all.Goals as goal

pub returns-in_err-decide-clause-more : goal.returns-in_err-decide-clause-more
returns-in_err-decide-clause-more g c = λ file allows.
    c.loop-connection.invariant.more file (c.decide.ensures.more file allows)

pub returns-in_err-push-clause-more : goal.returns-in_err-push-clause-more
returns-in_err-push-clause-more g c = λ file allows.
    c.loop-connection.invariant.more file (c.decide.ensures.more file allows)

pub loop-connection-preserved : goal.loop-connection-preserved
loop-connection-preserved g c =
    let all = c.args.connections.now in
    let i = c.loop-connection.connection-index in
    let one = c.connection-item.result in
    let decisions = c.loop-connection.decisions.items in
    let said = c.in_ok-decide.field-0 in
    let taken : take (i + 1) all ≡ take i all ++ one ∷ [] =
    take_more all i one c.loop-connection-test.true
    ∙ ap (λ (o : OrderedConnection). take i all ++ o ∷ []) (sym c.connection-item.is) in
    record {
      more = λ file allows.
          c.loop-connection.invariant.more file (c.decide.ensures.more file allows);
      failures = c.in_ok-decide.ensures.count ∙ c.loop-connection.invariant.failures;
      decided = λ file allows.
          let Said = IsDecidedIn file c.args.ports.now in
          subst (λ (l : List OrderedConnection). AllZip Said l c.push.new.self.items) (sym taken)
          (subst (λ (l : List Decision). AllZip Said (take i all ++ one ∷ []) l)
          (sym c.in_ok-push.ensures.items)
          (all_zipped_more Said (take i all) decisions one said
          (c.loop-connection.invariant.decided file (c.decide.ensures.more file allows))
          (λ connection order.
          c.in_ok-decide.ensures.decided file connection allows order)));
    }

pub returns-clause-decided : goal.returns-clause-decided
returns-clause-decided g c = λ file allows.
    let all = c.args.connections.now in
    let decisions = c.loop-connection.decisions.items in
    all_decided file c.args.ports.now all decisions
    (subst
    (λ (l : List OrderedConnection). AllZip (IsDecidedIn file c.args.ports.now) l decisions)
    (take_all c.loop-connection.connection-index all c.loop-connection-test.false)
    (c.loop-connection.invariant.decided file allows))
