use Rattle.capture3.proofs.Common.{◌≡◌, ℕ, ◌+◌, ◌-◌, ◌%◌, ◌<◌, Bool, if◌then◌else◌, ap, sym, ◌∙◌, arith, w32, swap_bytes, home_of}
use Rattle.capture3.proofs.message.counting.XidCounting.from.Goals as goal

from_itself : (n first : ℕ) → n ≡ first → first < 4294967296
    → (n + (4294967296 - first)) % 4294967296 ≡ 0
from_itself n first same below = omega arith

pub returns-then-swapped : goal.returns-then-swapped
unfolding home_of
returns-then-swapped c =
    from_itself _ c.swap_bytes-first.result
    (ap (λ (s : Bool). if s then swap_bytes w32 c.args.xid else c.args.xid) c.if-swapped.true
    ∙ sym c.swap_bytes-first.ensures) (omega arith)

pub returns-else-swapped : goal.returns-else-swapped
unfolding home_of
returns-else-swapped c =
    from_itself _ c.args.xid
    (ap (λ (s : Bool). if s then swap_bytes w32 c.args.xid else c.args.xid) c.if-swapped.false)
    (omega arith)
