use Rattle.capture3.proofs.Common.{ap, ◌∙◌, refl, List, arith, NumberedCall}
use Rattle.capture3.proofs.Lemmas.Connections.LineLemmas.{filled, home_at, puts_last, puts_set}
use Rattle.capture3.proofs.message.counted_calls.CountedCalls.place.Goals as goal

pub returns-then-home-len-clause-puts : goal.returns-then-home-len-clause-puts
returns-then-home-len-clause-puts g c true_is =
    puts_set c.args.self.now.counting c.args.self.now.line.items c.home-home.result c.args.xid
    c.args.call (omega arith) c.requires.numbered c.home-home.ensures (omega arith)

pub returns-clause-puts : goal.returns-clause-puts
returns-clause-puts g c true_is =
    let counting = c.args.self.now.counting in
    let line = c.args.self.now.line.items in
    rw c.in_ok-push.ensures.items (puts_last counting line c.resize.new.self.items c.args.xid
    c.args.call (omega arith) c.requires.numbered
    (λ i.
    ap (λ (l : List NumberedCall). home_at l i) c.in_ok-resize.ensures.items
    ∙ filled line c.home-home.result _ _ (omega arith) refl i) (omega
    (arith, c.resize.new.self.ok.0, c.in_ok-resize.ensures.len, c.home-home.ensures)))
