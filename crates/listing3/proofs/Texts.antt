-- What the text of items tells: two lists of items with one text are one.
use Rattle.listing3.proofs.Common.{◌≡◌, ◌≢◌, ◌≤◌, ◌<◌, ◌^◌, ◌⊎◌, inl, inr, ⊎_elim, ℕ, zero, suc, ◌+◌, ◌/◌, ◌%◌, true, false, List, [], ◌∷◌, ◌++◌, length, slice_index, refl, sym, ap, ap₂, ◌∙◌, subst, append_assoc, arith, Result, Ok, ◌==◌, not, decimal, AllByRecursion, flat_map, list_all, and_parts, cases_Bool, decimal_by_steps, decimal_injective, decode_of, encode_lower, encode_with, lower_digits, AreBytes, Item, Word, Hyper, Fixed, WriteVerf, Opaque, Rest, Var, Text, Handle, Spells, SpellsItem, is_plain, item_name, opening, quoted, quoted_byte, shown_item, shown_items, value_of}
use Rattle.hex.proofs.HexLemmas.{decode_of-encode_lower}
use Rattle.procs3.proofs.ProtocolParts.{is_name, kind_of}
use Rattle.canon3.proofs.Lemmas.WellFormed.Items.{all_append}
use Rattle.listing3.proofs.NamedItems.{AreNamed, IsNamed, kind_in}

-- ---- the longest front of some kind of byte

abbrev pub Stops : (ℕ → Type 0) → List ℕ → Type 0
Stops In [] = ⊥
Stops In (c ∷ rest) = In c → ⊥

pub same_runs : (In : ℕ → Type 0) (x y t u : List ℕ) → AllByRecursion In x → AllByRecursion In y
    → Stops In t → Stops In u → x ++ t ≡ y ++ u → (x ≡ y) × (t ≡ u)
same_runs In [] [] t u h k s r e = (refl, e)
same_runs In [] (d ∷ y) [] u h k s r e = absurd s
same_runs In [] (d ∷ y) (c ∷ t) u h k s r e =
    let head : c ≡ d = cc in
    absurd (s (subst In (sym head) k.0))
same_runs In (c ∷ x) [] t [] h k s r e = absurd r
same_runs In (c ∷ x) [] t (d ∷ u) h k s r e =
    let head : c ≡ d = cc in
    absurd (r (subst In head h.0))
same_runs In (c ∷ x) (d ∷ y) t u h k s r e =
    let head : c ≡ d = cc in
    let tail : x ++ t ≡ y ++ u = cc in
    let more = same_runs In x y t u h.1 k.1 s r tail in
    (ap₂ (λ (w : ℕ) (l : List ℕ). w ∷ l) head more.0, more.1)

-- what follows an item: a space or a newline
abbrev pub Ends : List ℕ → Type 0
Ends [] = ⊥
Ends (c ∷ rest) = c ≤ 32

abbrev IsDigit : ℕ → Type 0
IsDigit c = 48 ≤ c

ends_digits : (t : List ℕ) → Ends t → Stops IsDigit t
ends_digits [] s = s
ends_digits (c ∷ t) s = λ d. absurd (omega arith)

pub same_digits : (x y t u : List ℕ) → AllByRecursion IsDigit x → AllByRecursion IsDigit y → Ends t
    → Ends u → x ++ t ≡ y ++ u → (x ≡ y) × (t ≡ u)
same_digits x y t u h k s r e = same_runs IsDigit x y t u h k (ends_digits t s) (ends_digits u r) e

-- ---- numbers and hexadecimal digits

pub decimal_digits : (n : ℕ) → n < 2 ^ 64 → AllByRecursion IsDigit (decimal n)
decimal_digits =
    decimal_by_steps (λ m ds. AllByRecursion IsDigit ds) (λ m l. (omega arith, tt))
    (λ m ds l h. all_append IsDigit ds ((48 + m % 10) ∷ []) h (omega arith, tt))

digit_at : (l : List ℕ) (d : ℕ) → AllByRecursion IsDigit l → d < length l
    → IsDigit (slice_index l d)
digit_at [] d h b = absurd (omega arith)
digit_at (c ∷ l) zero h b = h.0
digit_at (c ∷ l) (suc d) h b = digit_at l d h.1 (omega arith)

table_digits : AllByRecursion IsDigit lower_digits
table_digits = (
  omega arith,
  (
    omega arith,
    (
      omega arith,
      (
        omega arith,
        (
          omega arith,
          (
            omega arith,
            (
              omega arith,
              (
                omega arith,
                (
                  omega arith,
                  (
                    omega arith,
                    (
                      omega arith,
                      (
                        omega arith,
                        (omega arith, (omega arith, (omega arith, (omega arith, tt)))),
                      ),
                    ),
                  ),
                ),
              ),
            ),
          ),
        ),
      ),
    ),
  ),
)

hex_digits : (bytes : List ℕ) → AreBytes bytes → AllByRecursion IsDigit (encode_lower bytes)
unfolding encode_with
hex_digits [] h = tt
hex_digits (b ∷ bytes) h =
    let small : b < 256 = h zero in (
      digit_at lower_digits (b / 16) table_digits (omega arith),
      (
        digit_at lower_digits (b % 16)
            table_digits (omega arith),
        hex_digits bytes (λ i. h (suc i)),
      ),
    )

same_ok : {T E : Type 0} (r : Result T E) (a b : T) → r ≡ Ok a → r ≡ Ok b → a ≡ b
same_ok r a b p q = cc

hex_injective : (a b : List ℕ) → AreBytes a → AreBytes b → encode_lower a ≡ encode_lower b → a ≡ b
hex_injective a b h k e =
    same_ok (decode_of (encode_lower a)) a b (decode_of-encode_lower a h)
    (ap decode_of e ∙ decode_of-encode_lower b k)

-- ---- text

abbrev IsInside : ℕ → Type 0
IsInside c = c ≢ 34

plain_inside : (b : ℕ) → is_plain b ≡ true → IsInside b
plain_inside b h e =
    let no : is_plain 34 ≡ true = subst (λ c. is_plain c ≡ true) e h in
    absurd cc

plain_no_escape : (b : ℕ) → is_plain b ≡ true → b ≢ 92
plain_no_escape b h e =
    let no : is_plain 92 ≡ true = subst (λ c. is_plain c ≡ true) e h in
    absurd cc

digits_inside : (l : List ℕ) → AllByRecursion IsDigit l → AllByRecursion IsInside l
digits_inside [] h = tt
digits_inside (c ∷ l) h = ((λ e. absurd (omega (arith, h.0, e))), digits_inside l h.1)

abbrev escape : ℕ → List ℕ
escape b = 92 ∷ 120 ∷ encode_lower (b ∷ [])

-- a byte is plain, or has an escape
byte_cases : (b : ℕ) → ((is_plain b ≡ true) × (quoted_byte b ≡ b ∷ [])) ⊎ (quoted_byte b ≡ escape b)
byte_cases b =
    ⊎_elim (λ (e : is_plain b ≡ true). inl (e, rw e refl))
    (λ (e : is_plain b ≡ false). inr (rw e refl)) (cases_Bool (is_plain b))

one_byte : (b : ℕ) → b < 256 → AreBytes (b ∷ [])
one_byte b small zero = small
one_byte b small (suc i) = omega arith

byte_inside : (b : ℕ) → b < 256 → AllByRecursion IsInside (quoted_byte b)
byte_inside b small =
    ⊎_elim (λ (p : (is_plain b ≡ true) × (quoted_byte b ≡ b ∷ [])).
    subst (AllByRecursion IsInside) (sym p.1) (plain_inside b p.0, tt))
    (λ (e : quoted_byte b ≡ escape b).
    subst (AllByRecursion IsInside) (sym e) (
      (λ n. absurd (omega (arith, n))),
      (
        (λ n. absurd (omega (arith, n))),
        digits_inside (encode_lower (b ∷ []))
            (hex_digits (b ∷ []) (one_byte b small)),
      ),
    ))
    (byte_cases b)

text_inside : (bytes : List ℕ) → AreBytes bytes
    → AllByRecursion IsInside (flat_map quoted_byte bytes)
text_inside [] h = tt
text_inside (b ∷ bytes) h =
    all_append IsInside (quoted_byte b) (flat_map quoted_byte bytes) (byte_inside b (h zero))
    (text_inside bytes (λ i. h (suc i)))

escapes_same : (x y : ℕ) (t u : List ℕ) → x < 256 → y < 256 → escape x ++ t ≡ escape y ++ u
    → (x ≡ y) × (t ≡ u)
unfolding encode_with
escapes_same x y t u h k e =
    let high : slice_index lower_digits (x / 16) ≡ slice_index lower_digits (y / 16) = cc in
    let low : slice_index lower_digits (x % 16) ≡ slice_index lower_digits (y % 16) = cc in
    let tail : t ≡ u = cc in
    let both : encode_lower (x ∷ []) ≡ encode_lower (y ∷ []) =
    ap₂ (λ (a b : ℕ). a ∷ b ∷ []) high low in
    let one : x ∷ [] ≡ y ∷ [] =
    hex_injective (x ∷ []) (y ∷ []) (one_byte x h) (one_byte y k) both in
    let same : x ≡ y = cc in
    (same, tail)

plain_ahead : (x y : ℕ) (t u : List ℕ) → is_plain x ≡ true → x ∷ t ≡ escape y ++ u → ⊥
plain_ahead x y t u h e =
    let head : x ≡ 92 = cc in
    plain_no_escape x h head

bytes_same : (x y : ℕ) (t u : List ℕ) → x < 256 → y < 256 → quoted_byte x ++ t ≡ quoted_byte y ++ u
    → (x ≡ y) × (t ≡ u)
bytes_same x y t u h k e =
    ⊎_elim (λ (p : (is_plain x ≡ true) × (quoted_byte x ≡ x ∷ [])).
    let e1 : x ∷ t ≡ quoted_byte y ++ u = ap (λ (l : List ℕ). l ++ t) (sym p.1) ∙ e in
    ⊎_elim (λ (q : (is_plain y ≡ true) × (quoted_byte y ≡ y ∷ [])).
    let e2 : x ∷ t ≡ y ∷ u = e1 ∙ ap (λ (l : List ℕ). l ++ u) q.1 in
    let head : x ≡ y = cc in
    let tail : t ≡ u = cc in
    (head, tail))
    (λ (q : quoted_byte y ≡ escape y).
    absurd (plain_ahead x y t u p.0 (e1 ∙ ap (λ (l : List ℕ). l ++ u) q))) (byte_cases y))
    (λ (p : quoted_byte x ≡ escape x).
    let e1 : escape x ++ t ≡ quoted_byte y ++ u = ap (λ (l : List ℕ). l ++ t) (sym p) ∙ e in
    ⊎_elim (λ (q : (is_plain y ≡ true) × (quoted_byte y ≡ y ∷ [])).
    absurd (plain_ahead y x u t q.0 (sym (e1 ∙ ap (λ (l : List ℕ). l ++ u) q.1))))
    (λ (q : quoted_byte y ≡ escape y).
    escapes_same x y t u h k (e1 ∙ ap (λ (l : List ℕ). l ++ u) q)) (byte_cases y))
    (byte_cases x)

some_byte : (b : ℕ) (t : List ℕ) → [] ≡ quoted_byte b ++ t → ⊥
some_byte b t e =
    ⊎_elim (λ (p : (is_plain b ≡ true) × (quoted_byte b ≡ b ∷ [])).
    let no : [] ≡ b ∷ t = e ∙ ap (λ (l : List ℕ). l ++ t) p.1 in
    absurd cc)
    (λ (p : quoted_byte b ≡ escape b).
    let no : [] ≡ escape b ++ t = e ∙ ap (λ (l : List ℕ). l ++ t) p in
    absurd cc) (byte_cases b)

text_injective : (a b : List ℕ) → AreBytes a → AreBytes b
    → flat_map quoted_byte a ≡ flat_map quoted_byte b → a ≡ b
text_injective [] [] h k e = refl
text_injective [] (y ∷ b) h k e = absurd (some_byte y (flat_map quoted_byte b) e)
text_injective (x ∷ a) [] h k e = absurd (some_byte x (flat_map quoted_byte a) (sym e))
text_injective (x ∷ a) (y ∷ b) h k e =
    let p = bytes_same x y (flat_map quoted_byte a) (flat_map quoted_byte b) (h zero) (k zero) e in
    ap₂ (λ (w : ℕ) (l : List ℕ). w ∷ l) p.0
    (text_injective a b (λ i. h (suc i)) (λ i. k (suc i)) p.1)

quoted_same : (a b t u : List ℕ) → AreBytes a → AreBytes b → quoted a ++ t ≡ quoted b ++ u
    → (a ≡ b) × (t ≡ u)
quoted_same a b t u h k e =
    let x = flat_map quoted_byte a in
    let y = flat_map quoted_byte b in
    let inside : (x ++ 34 ∷ []) ++ t ≡ (y ++ 34 ∷ []) ++ u = cc in
    let e1 : x ++ (34 ∷ t) ≡ y ++ (34 ∷ u) =
    sym (append_assoc x (34 ∷ []) t) ∙ (inside ∙ append_assoc y (34 ∷ []) u) in
    let p =
    same_runs IsInside x y (34 ∷ t) (34 ∷ u) (text_inside a h) (text_inside b k) (λ n. n refl)
    (λ n. n refl) e1 in
    let q : 34 ∷ t ≡ 34 ∷ u = p.1 in
    let tail : t ≡ u = cc in
    (text_injective a b h k p.0, tail)

hex_same : (a b t u : List ℕ) → AreBytes a → AreBytes b → Ends t → Ends u
    → encode_lower a ++ t ≡ encode_lower b ++ u → (a ≡ b) × (t ≡ u)
hex_same a b t u h k s r e =
    let p =
    same_digits (encode_lower a) (encode_lower b) t u (hex_digits a h) (hex_digits b k) s r e in
    (hex_injective a b h k p.0, p.1)

decimal_same : (n m : ℕ) (t u : List ℕ) → n < 2 ^ 64 → m < 2 ^ 64 → Ends t → Ends u
    → decimal n ++ t ≡ decimal m ++ u → (n ≡ m) × (t ≡ u)
decimal_same n m t u h k s r e =
    let p =
    same_digits (decimal n) (decimal m) t u (decimal_digits n h) (decimal_digits m k) s r e in
    (decimal_injective n m h k p.0, p.1)

-- ---- items

-- its numbers and bytes are within their limits
abbrev pub IsSpellable : Item → Type 0
IsSpellable (Word name n) = n < 2 ^ 64
IsSpellable (Hyper name n) = n < 2 ^ 64
IsSpellable (Fixed name bytes) = AreBytes bytes
IsSpellable (WriteVerf name bytes) = AreBytes bytes
IsSpellable (Opaque kind name bytes) = AreBytes bytes
IsSpellable (Rest name bytes) = AreBytes bytes

spellable_item : (i : Item) (bytes : List ℕ) → SpellsItem i bytes → IsSpellable i
spellable_item (Word name n) bytes p = omega (arith, p.0)
spellable_item (Hyper name n) bytes p = p.0
spellable_item (Fixed name b) bytes p = p.1
spellable_item (WriteVerf name b) bytes p = p.1
spellable_item (Opaque kind name b) bytes p = p.2
spellable_item (Rest name b) bytes p = p.0

pub spellable : (items : List Item) (bytes : List ℕ) → Spells items bytes
    → AllByRecursion IsSpellable items
spellable [] bytes p = tt
spellable (i ∷ items) bytes p = (spellable_item i p.0 p.2, spellable items p.1 p.3)

same_value : (i j : Item) (t u : List ℕ) → kind_in i ≡ kind_in j → item_name i ≡ item_name j
    → IsSpellable i → IsSpellable j → Ends t → Ends u → value_of i ++ t ≡ value_of j ++ u
    → (i ≡ j) × (t ≡ u)
same_value (Word a n) (Word b m) t u kind name h k s r e =
    let p = decimal_same n m t u h k s r e in (ap₂ (λ (x : List ℕ) (y : ℕ). Word x y) name p.0, p.1)
same_value (Hyper a n) (Hyper b m) t u kind name h k s r e =
    let p = decimal_same n m t u h k s r e in
    (ap₂ (λ (x : List ℕ) (y : ℕ). Hyper x y) name p.0, p.1)
same_value (Fixed a n) (Fixed b m) t u kind name h k s r e =
    let p = hex_same n m t u h k s r e in (ap₂ (λ (x y : List ℕ). Fixed x y) name p.0, p.1)
same_value (WriteVerf a n) (WriteVerf b m) t u kind name h k s r e =
    let p = hex_same n m t u h k s r e in (ap₂ (λ (x y : List ℕ). WriteVerf x y) name p.0, p.1)
same_value (Opaque Var a n) (Opaque Var b m) t u kind name h k s r e =
    let p = hex_same n m t u h k s r e in (ap₂ (λ (x y : List ℕ). Opaque Var x y) name p.0, p.1)
same_value (Opaque Text a n) (Opaque Text b m) t u kind name h k s r e =
    let p = quoted_same n m t u h k e in (ap₂ (λ (x y : List ℕ). Opaque Text x y) name p.0, p.1)
same_value (Opaque Handle a n) (Opaque Handle b m) t u kind name h k s r e =
    let p = hex_same n m t u h k s r e in (ap₂ (λ (x y : List ℕ). Opaque Handle x y) name p.0, p.1)
same_value (Rest a n) (Rest b m) t u kind name h k s r e =
    let p = hex_same n m t u h k s r e in (ap₂ (λ (x y : List ℕ). Rest x y) name p.0, p.1)
same_value _ _ t u kind name h k s r e = absurd cc

abbrev IsInName : ℕ → Type 0
IsInName c = c ≢ 61

name_run : (l : List ℕ) → is_name l ≡ true → AllByRecursion IsInName l
name_run [] h = tt
name_run (c ∷ l) h =
    let p = and_parts (not (c == 61)) (list_all (λ d. not (d == 61)) l) h in (
      (λ e. let no : not (61 == 61) ≡ true = subst (λ d. not (d == 61) ≡ true) e p.0 in absurd cc),
      name_run l p.1,
    )

item_text : (i : Item) (t : List ℕ)
    → shown_item i ++ t ≡ 32 ∷ (item_name i ++ (61 ∷ (value_of i ++ t)))
item_text i t =
    append_assoc (opening (item_name i)) (value_of i) t
    ∙ ap (λ (l : List ℕ). 32 ∷ l) (append_assoc (item_name i) (61 ∷ []) (value_of i ++ t))

pub same_item : (i j : Item) (t u : List ℕ) → IsNamed i → IsNamed j → IsSpellable i → IsSpellable j
    → Ends t → Ends u → shown_item i ++ t ≡ shown_item j ++ u → (i ≡ j) × (t ≡ u)
same_item i j t u named other h k s r e =
    let whole : 32 ∷ (item_name i ++ (61 ∷ (value_of i ++ t)))
    ≡ 32 ∷ (item_name j ++ (61 ∷ (value_of j ++ u))) =
    sym (item_text i t) ∙ (e ∙ item_text j u) in
    let e1 : item_name i ++ (61 ∷ (value_of i ++ t)) ≡ item_name j ++ (61 ∷ (value_of j ++ u)) =
    cc in
    let p =
    same_runs IsInName (item_name i) (item_name j) (61 ∷ (value_of i ++ t)) (61 ∷ (value_of j ++ u))
    (name_run (item_name i) named.1) (name_run (item_name j) other.1) (λ n. n refl)
    (λ n. n refl) e1 in
    let q : 61 ∷ (value_of i ++ t) ≡ 61 ∷ (value_of j ++ u) = p.1 in
    let values : value_of i ++ t ≡ value_of j ++ u = cc in
    same_value i j t u (sym named.0 ∙ (ap kind_of p.0 ∙ other.0)) p.0 h k s r values

pub items_end : (items : List Item) (t : List ℕ) → Ends (shown_items items ++ (10 ∷ t))
items_end [] t = omega arith
items_end (i ∷ items) t = omega arith

pub same_items : (a b : List Item) (t u : List ℕ) → AreNamed a → AreNamed b
    → AllByRecursion IsSpellable a → AllByRecursion IsSpellable b
    → shown_items a ++ (10 ∷ t) ≡ shown_items b ++ (10 ∷ u) → (a ≡ b) × (t ≡ u)
same_items [] [] t u named other h k e =
    let tail : t ≡ u = cc in
    (refl, tail)
same_items [] (j ∷ b) t u named other h k e = absurd cc
same_items (i ∷ a) [] t u named other h k e = absurd cc
same_items (i ∷ a) (j ∷ b) t u named other h k e =
    let e1 : shown_item i ++ (shown_items a ++ (10 ∷ t))
    ≡ shown_item j ++ (shown_items b ++ (10 ∷ u)) =
    sym (append_assoc (shown_item i) (shown_items a) (10 ∷ t))
    ∙ (e ∙ append_assoc (shown_item j) (shown_items b) (10 ∷ u)) in
    let p =
    same_item i j (shown_items a ++ (10 ∷ t)) (shown_items b ++ (10 ∷ u)) named.0 other.0 h.0 k.0
    (items_end a t) (items_end b u) e1 in
    let q = same_items a b t u named.1 other.1 h.1 k.1 p.1 in
    (ap₂ (λ (x : Item) (l : List Item). x ∷ l) p.0 q.0, q.1)
