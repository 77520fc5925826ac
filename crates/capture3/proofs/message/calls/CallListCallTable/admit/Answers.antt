use Rattle.capture3.proofs.Common.{◌∷◌, [], ap, sym, ◌∙◌, ℕ, List, arith, length, length-append, NumberedCall, Puts, known_in_list, in_list, min, number_limit}
use Rattle.capture3.proofs.Lemmas.Connections.KnownLemmas.{known_anew, puts_listed}
use Rattle.capture3.proofs.message.calls.CallListCallTable.admit.Goals as goal

pub returns : goal.returns
returns c =
    let pairs = c.args.self.now.calls.items in
    let call : NumberedCall = record { number = c.number_after-number.result; id = c.args.id } in
    let puts : Puts (in_list pairs) c.args.xid call (in_list c.push.new.self.items) =
    rw c.in_ok-push.ensures.items
    (puts_listed pairs c.args.xid call (sym c.find.ensures ∙ c.in_default.is)) in
    known_anew (known_in_list pairs) (known_in_list c.push.new.self.items) c.args.xid call
    (sym c.find.ensures ∙ c.in_default.is)
    (omega (arith, c.number_after-number.ensures, c.args.self.now.calls.ok.0))
    puts
    (ap (λ (l : List (ℕ × NumberedCall)). min (length l) number_limit) c.in_ok-push.ensures.items
    ∙ omega (arith, c.number_after-number.ensures, length-append pairs ((c.args.xid, call) ∷ [])))
