use Rattle.capture3.proofs.Common.{◌∙◌, refl, arith, NumberedCall, Puts, lined, in_list, known_of}
use Rattle.capture3.proofs.Lemmas.Connections.LineLemmas.{nothing_past, puts_last}
use Rattle.capture3.proofs.Lemmas.Connections.KnownLemmas.{known_anew, over_none, puts_in_line}
use Rattle.capture3.proofs.message.counted_calls.CountedCallsCallTable.admit.Goals as goal

pub returns-then-home-self : goal.returns-then-home-self
returns-then-home-self g c =
    let counting = c.args.self.now.counting in
    let line = c.args.self.now.line.items in
    let others = c.args.self.now.others.entries in
    let call : NumberedCall = record { number = c.saturating_add-number.result; id = c.args.id } in
    let puts : Puts (lined counting line) c.args.xid call (lined counting c.push.new.self.items) =
    rw c.in_ok-push.ensures.items
    (puts_last counting line line c.args.xid call (omega arith) (omega arith) (λ i. refl)
    (omega (arith, c.home-home.ensures))) in
    known_anew (known_of c.args.self.now) _ c.args.xid call
    (over_none (lined counting line c.args.xid) (in_list others c.args.xid)
    (nothing_past line _ (omega (arith, c.home-home.ensures)))
    ∙ c.args.self.now.above c.args.xid (omega arith) (omega (arith, c.home-home.ensures)))
    (omega arith)
    (puts_in_line (lined counting line) _ (in_list others) c.args.xid call puts) refl
