-- The options of an interface tell one clock.
use Rattle.std.proofs.Common.{◌≡◌, ℕ, zero, suc, ◌∙◌, sym, inl, inr, List, arith}
use Rattle.recording3.specs.Clocks.{HasOptions, Options, clock_with, past_option}
use Rattle.recording3.specs.declared.pcap.Order.{Order}
use Rattle.recording3.specs.declared.pcapng.Clock.{Clock}

pub same_options : (order : Order) (body : List ℕ) (m n at : ℕ) (old a b : Clock)
    → Options order body m at old a → Options order body n at old b → a ≡ b
same_options order body zero zero at old a b h g = h.0 ∙ sym g.0
same_options order body zero (suc n) at old a b (e, inl l) g = absurd (let m = g.0 in omega arith)
same_options order body zero (suc n) at old a b (e, inr l) g = absurd (g.1 l.1)
same_options order body (suc m) zero at old a b h (e, inl l) = absurd (let n = h.0 in omega arith)
same_options order body (suc m) zero at old a b h (e, inr l) = absurd (h.1 l.1)
same_options order body (suc m) (suc n) at old a b h g =
    same_options order body m n (past_option order body at) (clock_with order body at old) a b h.2
    g.2

pub same_clock : (order : Order) (body : List ℕ) (a b : Clock) → HasOptions order body a
    → HasOptions order body b → a ≡ b
same_clock order body a b h g = same_options order body h.0 g.0 16 _ a b h.1 g.1
