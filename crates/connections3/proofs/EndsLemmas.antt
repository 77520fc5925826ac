-- The order of ends, which is that of their types.
use Rattle.std.proofs.Common.{◌≡◌, ◌≢◌, ℕ, true, false, cond, List, refl, sym, ◌∙◌, ap, arith}
use Rattle.std.proofs.lemmas.Bool.Decides.{nat_tests}
use Rattle.std.proofs.lemmas.Slice.Eq.{bytes_eq-Decides}
use Rattle.std.specs.Cmp.Lexicographic.{slice_cmp, texts_ties}
use Rattle.std.specs.Ordering.{is_eq, is_gt, nat_cmp, ordering_reverse, ordering_then}
use Rattle.std.specs.declared.cmp.Ordering.{Ordering}
use Rattle.std.specs.declared.cmp.Ordering.TheVariants.{Less, Equal, Greater}
use Rattle.connections3.specs.Ends.{address_order, end_order, ends_between, other_end, pair_order, same_ends, same_one, sender_between}
use Rattle.recording3.specs.contracts.parts.EndOrd.TheImpl as end_ord
use Rattle.connections3.specs.contracts.ends.EndPairOrd.TheImpl as pair_ord
use Rattle.recording3.specs.contracts.parts.EndOrd.TheImpl.Laws.{total-law}
use Rattle.recording3.specs.declared.parts.Address.{Address}
use Rattle.recording3.specs.declared.parts.Address.TheVariants.{V4, V6}
use Rattle.recording3.specs.declared.parts.End.{End}
use Rattle.connections3.specs.declared.ends.EndPair.{EndPair}
use Rattle.connections3.specs.declared.ends.OneEnd.{OneEnd}
use Rattle.connections3.specs.declared.ends.OneEnd.TheVariants.{Lower, Higher}

by_address : (a b : Address) (p q : End)
    → end_order (record { address = a; port = p.port }) (record { address = b; port = q.port })
    ≡ end_ord.ghosts.cmp (record { address = a; port = p.port })
    (record { address = b; port = q.port })
by_address (V4 a) (V4 b) p q = refl
by_address (V4 a) (V6 b) p q = refl
by_address (V6 a) (V4 b) p q = refl
by_address (V6 a) (V6 b) p q = refl

pub end_order_is : (a b : End) → end_order a b ≡ end_ord.ghosts.cmp a b
end_order_is a b = by_address a.address b.address a b

pair_order_at : (a b : EndPair) → pair_order a b ≡ pair_ord.ghosts.cmp a b
pair_order_at a b =
    ap (λ (o : Ordering). ordering_then o (end_order a.higher b.higher))
    (end_order_is a.lower b.lower)
    ∙ ap (λ (o : Ordering). ordering_then (end_ord.ghosts.cmp a.lower b.lower) o)
    (end_order_is a.higher b.higher)

pub pair_order_is : pair_order ≡ pair_ord.ghosts.cmp
pair_order_is = λ i a b. pair_order_at a b i

pub same_ends_is : (a b : EndPair) → same_ends a b ≡ is_eq (pair_ord.ghosts.cmp a b)
same_ends_is a b = ap is_eq (pair_order_at a b)

pub same_one_self : (end : OneEnd) → same_one end end ≡ true
same_one_self Lower = refl
same_one_self Higher = refl

pub same_one_other : (end : OneEnd) → same_one end (other_end end) ≡ false
same_one_other Lower = refl
same_one_other Higher = refl

same_octets : (xs ys : List ℕ) → slice_cmp nat_cmp xs ys ≡ Equal → xs ≡ ys
same_octets xs ys e = (bytes_eq-Decides xs ys).0 (texts_ties xs ys ∙ ap is_eq e)

same_address : (a b : Address) → address_order a b ≡ Equal → a ≡ b
same_address (V4 a) (V4 b) e = ap (λ (xs : List ℕ). V4 xs) (same_octets a b e)
same_address (V4 a) (V6 b) e = cc
same_address (V6 a) (V4 b) e = cc
same_address (V6 a) (V6 b) e = ap (λ (xs : List ℕ). V6 xs) (same_octets a b e)

then_equal : (a b : Ordering) → ordering_then a b ≡ Equal → (a ≡ Equal) × (b ≡ Equal)
then_equal Less b e = cc
then_equal Equal b e = (refl, e)
then_equal Greater b e = cc

same_number : (a b : ℕ) → nat_cmp a b ≡ Equal → a ≡ b
same_number a b e = grind (arith, nat_tests)

abbrev end_at : Address → ℕ → End
end_at address port = record { address = address; port = port }

same_end : (a b : End) → end_order a b ≡ Equal → a ≡ b
same_end a b e =
    let both = then_equal (address_order a.address b.address) (nat_cmp a.port b.port) e in
    let address : a.address ≡ b.address = same_address a.address b.address both.0 in
    let port : a.port ≡ b.port = same_number a.port b.port both.1 in
    ap (λ (x : Address). end_at x a.port) address ∙ ap (λ (n : ℕ). end_at b.address n) port

turned : (a b : End) → end_order a b ≡ ordering_reverse (end_order b a)
turned a b =
    end_order_is a b ∙ (total-law.antisymm a b ∙ ap ordering_reverse (sym (end_order_is b a)))

abbrev pair_of : (lower higher : End) → EndPair
pair_of lower higher = record { lower = lower; higher = higher }

ends_by : (o : Ordering) (a b : End) → (o ≡ Equal → b ≡ a)
    → cond (is_gt (ordering_reverse o)) (pair_of b a) (pair_of a b)
    ≡ cond (is_gt o) (pair_of a b) (pair_of b a)
ends_by Less a b f = refl
ends_by Equal a b f =
    ap (λ (x : End). pair_of a x) (f refl) ∙ ap (λ (x : End). pair_of x a) (sym (f refl))
ends_by Greater a b f = refl

pub ends_turned : (a b : End) → ends_between a b ≡ ends_between b a
ends_turned a b =
    ap (λ (o : Ordering). cond (is_gt o) (pair_of b a) (pair_of a b)) (turned a b)
    ∙ ends_by (end_order b a) a b (same_end b a)

sender_by : (o : Ordering) → (o ≡ Equal → ⊥)
    → cond (is_gt (ordering_reverse o)) Higher Lower ≡ other_end (cond (is_gt o) Higher Lower)
sender_by Less f = refl
sender_by Equal f = absurd (f refl)
sender_by Greater f = refl

pub sender_turned : (a b : End) → a ≢ b
    → sender_between a b ≡ other_end (sender_between b a)
sender_turned a b apart =
    ap (λ (o : Ordering). cond (is_gt o) Higher Lower) (turned a b)
    ∙ sender_by (end_order b a) (λ e. apart (sym (same_end b a e)))
