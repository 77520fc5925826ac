use Rattle.capture3.proofs.Common.{◌≡◌, ℕ, ◌+◌, ◌-◌, ◌%◌, ◌<◌, Bool, if◌then◌else◌, ap, ◌∙◌, arith, w32, swap_bytes, home_of}
use Rattle.capture3.proofs.Lemmas.Connections.LineLemmas.{swapped_twice}
use Rattle.capture3.proofs.message.counting.XidCounting.first_xid.Goals as goal

at_zero : (n first : ℕ) → n ≡ first → first < 4294967296
    → (n + (4294967296 - first)) % 4294967296 ≡ 0
at_zero n first same below = omega arith

pub returns-then-self : goal.returns-then-self
unfolding home_of
returns-then-self c =
    at_zero _ c.args.self.first
    (ap (λ (s : Bool). if s then swap_bytes w32 c.swap_bytes.result else c.swap_bytes.result)
    c.if-self.true ∙ ap (swap_bytes w32) c.swap_bytes.ensures
    ∙ swapped_twice c.args.self.first (omega arith)) (omega arith)

pub returns-else-self : goal.returns-else-self
unfolding home_of
returns-else-self c =
    at_zero _ c.args.self.first
    (ap (λ (s : Bool). if s then swap_bytes w32 c.args.self.first else c.args.self.first)
    c.if-self.false) (omega arith)
