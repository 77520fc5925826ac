-- Extension headers of IPv6.
use Rattle.std.proofs.Common.{◌≡◌, ℕ, zero, suc, ◌+◌, ◌*◌, ◌≤◌, ◌<◌, ◌∙◌, List, true, false, length, sym, ap, arith}
use Rattle.recording3.specs.Ip.{Headers, IsHeaders, NoHeaders, is_extension}
use Rattle.recording3.specs.Octets.{octet}

-- one more header, behind the others
pub one_more : (frame : List ℕ) (n kind at last end : ℕ) → Headers frame n kind at last end
    → is_extension last ≡ true → end + 2 ≤ length frame
    → Headers frame (suc n) kind at (octet frame end) (end + 8 * (octet frame (end + 1) + 1))
one_more frame zero kind at last end h e w = (
  rw h.0 at e,
  rw h.1 at w,
  (ap (octet frame) h.1, ap (λ i. i + 8 * (octet frame (i + 1) + 1)) h.1),
)
one_more frame (suc n) kind at last end h e w =
    (h.0, h.1, one_more frame n _ _ last end h.2 e w)

-- two chains that end behind the last extension header are one
same : (frame : List ℕ) (m n kind at a b c d : ℕ) → Headers frame m kind at a b
    → is_extension a ≡ false
    → Headers frame n kind at c d → is_extension c ≡ false → (a ≡ c) × (b ≡ d)
same frame zero zero kind at a b c d h e g f = (h.0 ∙ sym g.0, h.1 ∙ sym g.1)
same frame zero (suc n) kind at a b c d h e g f =
    absurd (let k : is_extension kind ≡ false = rw h.0 at e in let t = g.0 in cc)
same frame (suc m) zero kind at a b c d h e g f =
    absurd (let k : is_extension kind ≡ false = rw g.0 at f in let t = h.0 in cc)
same frame (suc m) (suc n) kind at a b c d h e g f = same frame m n _ _ a b c d h.2 e g.2 f

-- a chain that ends behind the last extension header is not cut short
not_cut : (frame : List ℕ) (m n kind at a b c d : ℕ) → Headers frame m kind at a b
    → is_extension a ≡ false
    → Headers frame n kind at c d → is_extension c ≡ true → length frame < d + 2 → ⊥
not_cut frame zero zero kind at a b c d h e g f w =
    let k : is_extension kind ≡ false = rw h.0 at e in
    let t : is_extension kind ≡ true = rw g.0 at f in cc
not_cut frame zero (suc n) kind at a b c d h e g f w =
    let k : is_extension kind ≡ false = rw h.0 at e in let t = g.0 in cc
not_cut frame (suc m) zero kind at a b c d h e g f w = let l = h.1 in let i = g.1 in omega arith
not_cut frame (suc m) (suc n) kind at a b c d h e g f w =
    not_cut frame m n _ _ a b c d h.2 e g.2 f w

pub same_headers : (frame : List ℕ) (kind at a b c d : ℕ) → IsHeaders frame kind at a b
    → IsHeaders frame kind at c d → (a ≡ c) × (b ≡ d)
same_headers frame kind at a b c d h g = same frame h.0 g.0 kind at a b c d h.1 h.2 g.1 g.2

pub headers_whole : (frame : List ℕ) (kind at a b : ℕ) → IsHeaders frame kind at a b
    → NoHeaders frame kind at → ⊥
headers_whole frame kind at a b h g =
    not_cut frame h.0 g.0 kind at a b g.1 g.2 h.1 h.2 g.3 g.4 g.5
