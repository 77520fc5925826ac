use Rattle.capture3.proofs.Common.{◌≡◌, ℕ, ◌+◌, ◌-◌, ◌%◌, Bool, if◌then◌else◌, ap, sym, ◌∙◌, w32, swap_bytes, home_of}
use Rattle.capture3.proofs.message.counting.XidCounting.home.Goals as goal
use Rattle.capture3.proofs.message.counting.XidCounting.home.Goals.{then-self, else-self}

pub returns : goal.returns
unfolding home_of
returns c =
    let chosen = λ (s : Bool). if s then swap_bytes w32 c.args.xid else c.args.xid in
    let number_is : c.if-self.number ≡ chosen c.args.self.swapped =
    elim c.if-self.branch [
      | then-self w ↦ w.number-is ∙ w.swap_bytes-number.ensures ∙ sym (ap chosen w.if-self.true)
      | else-self w ↦ w.number-is ∙ sym (ap chosen w.if-self.false)
    ] in
    ap (λ (n : ℕ). (n + (4294967296 - c.args.self.first)) % 4294967296) number_is
