use Rattle.capture3.proofs.Common.{◌≡◌, drop, in_list}
use Rattle.capture3.proofs.message.calls.CallList.find.Given as goal

abbrev pub invariant-loop-pair : goal.invariant-loop-pair
invariant-loop-pair l =
    in_list l.self.calls.items l.xid ≡ in_list (drop l.pair-index l.self.calls.items) l.xid
