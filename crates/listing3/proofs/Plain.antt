-- Bytes that stand for themselves.
use Rattle.listing3.proofs.Common.{◌≡◌, ℕ, zero, suc, ◌+◌, ◌-◌, ◌≤◌, Bool, true, false, List, [], ◌∷◌, ◌++◌, length, take, drop, ap, ap₂, sym, ◌∙◌, arith, flat_map, flat_map-append, encode_lower, if◌then◌else◌, length-append, take-append-drop, is_plain, quoted_byte, drop-drop}

-- the text of a byte, by whether it stands for itself
abbrev text : Bool → ℕ → List ℕ
text plain b = if plain then b ∷ [] else 92 ∷ 120 ∷ encode_lower (b ∷ [])

one_or_more : (plain : Bool) (b : ℕ) (more : List ℕ) (n : ℕ) → n ≤ length more
    → n + 1 ≤ length (text plain b ++ more)
one_or_more true b more n l = omega (arith, l)
one_or_more false b more n l = omega (arith, l, length-append (encode_lower (b ∷ [])) more)

-- text has no fewer bytes
no_fewer : (bytes : List ℕ) → length bytes ≤ length (flat_map quoted_byte bytes)
no_fewer [] = omega arith
no_fewer (b ∷ bytes) =
    omega (
      arith,
      one_or_more (is_plain b) b (flat_map quoted_byte bytes) (length bytes) (no_fewer bytes),
    )

tail_plain : (plain : Bool) (b : ℕ) (more rest : List ℕ) → length rest ≤ length more
    → text plain b ++ more ≡ b ∷ rest → more ≡ rest
tail_plain true b more rest l e = cc
tail_plain false b more rest l e =
    absurd (omega (arith, l, ap length e, length-append (encode_lower (b ∷ [])) more))

-- the last ones of such bytes
last_plain : (k : ℕ) (bytes : List ℕ) → flat_map quoted_byte bytes ≡ bytes
    → flat_map quoted_byte (drop k bytes) ≡ drop k bytes
last_plain zero bytes e = e
last_plain (suc k) [] e = e
last_plain (suc k) (b ∷ bytes) e =
    last_plain k bytes
    (tail_plain (is_plain b) b (flat_map quoted_byte bytes) bytes (no_fewer bytes) e)

-- the first ones and the last ones, which may overlap, are all of them
pub plain_by_ends : (size last : ℕ) (bytes : List ℕ) → last + size ≡ length bytes → last ≤ size
    → flat_map quoted_byte (take size bytes) ≡ take size bytes
    → flat_map quoted_byte (drop last bytes) ≡ drop last bytes → flat_map quoted_byte bytes ≡ bytes
plain_by_ends size last bytes is few first ends =
    let rest : drop (size - last) (drop last bytes) ≡ drop size bytes =
    drop-drop (size - last) last bytes ∙ ap (λ n. drop n bytes) (omega (arith, few)) in
    let after : flat_map quoted_byte (drop size bytes) ≡ drop size bytes =
    ap (flat_map quoted_byte) (sym rest) ∙ last_plain (size - last) (drop last bytes) ends ∙ rest in
    ap (flat_map quoted_byte) (sym (take-append-drop size bytes))
    ∙ flat_map-append quoted_byte (take size bytes) (drop size bytes)
    ∙ ap₂ (λ (a b : List ℕ). a ++ b) first after ∙ take-append-drop size bytes
