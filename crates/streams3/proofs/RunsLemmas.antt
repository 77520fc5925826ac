-- Runs: where they have bytes, and those in order.
use Rattle.std.proofs.Common.{◌≡◌, ◌≢◌, ◌≤◌, ◌<◌, ℕ, zero, suc, ◌+◌, ◌-◌, ◌^◌, Bool, cond, nat_le, nat_lt, List, [], ◌∷◌, ◌++◌, Option, None, Some, length, get_or, take, drop, refl, sym, ◌∙◌, ap, ap₂, subst, add-one, arith, take-append-drop, ◌⊎◌, inl, inr}
use Rattle.std.proofs.lemmas.Bool.{cases_lt, le-leb, lt-ltb, lt-leb, le-ltb, and_left, and_right, and_from}
use Rattle.streams3.specs.declared.runs.Run.{Run}
use Rattle.streams3.specs.Repeats.{Has}
use Rattle.streams3.specs.Runs.{HasBytes, Lie, spot_in, or_else, spot_of}
use Rattle.streams3.specs.Runs.{AreSound}
use Rattle.streams3.specs.machinery.Log.{end_at, no_run, part_of, nth_run}

-- ---- where a byte lies

pub has_it : (r : Run) (p : ℕ) → r.position ≤ p → p < r.position + r.size
    → spot_in r p ≡ Some (r.at + (p - r.position), r.frame)
has_it r p low high =
    ap (λ (b : Bool). cond b (Some (r.at + (p - r.position), r.frame)) None)
    (and_from (nat_le r.position p) (nat_lt p (r.position + r.size)) (le-leb r.position p low)
    (lt-ltb p (r.position + r.size) high))

pub has_before : (r : Run) (p : ℕ) → p < r.position → spot_in r p ≡ None
has_before r p lt =
    ap (λ (b : Bool). cond b (Some (r.at + (p - r.position), r.frame)) None)
    (and_left (nat_le r.position p) (nat_lt p (r.position + r.size)) (lt-leb r.position p lt))

pub has_after : (r : Run) (p : ℕ) → r.position + r.size ≤ p → spot_in r p ≡ None
has_after r p le =
    ap (λ (b : Bool). cond b (Some (r.at + (p - r.position), r.frame)) None)
    (and_right (nat_le r.position p) (nat_lt p (r.position + r.size))
    (le-ltb p (r.position + r.size) le))

-- a byte is in a run, or not
pub cases_has : (r : Run) (p : ℕ) → Has r p ⊎ (spot_in r p ≡ None)
cases_has r p =
    elim (cases_lt p r.position) [
      | inl h ↦ inr (has_before r p h)
      | inr h ↦ elim (cases_lt p (r.position + r.size)) [
        | inl k ↦ inl (h, k)
        | inr k ↦ inr (has_after r p k)
      ]
    ]

pub or_none : (o : Option (ℕ × ℕ)) → or_else o None ≡ o
or_none None = refl
or_none (Some x) = refl

pub or_none_right : (a b : Option (ℕ × ℕ)) → or_else a b ≡ None → b ≡ None
or_none_right None b e = e
or_none_right (Some x) b e = cc

pub or_none_left : (a b : Option (ℕ × ℕ)) → or_else a b ≡ None → a ≡ None
or_none_left None b e = refl
or_none_left (Some x) b e = cc

pub or_or : (a b c : Option (ℕ × ℕ)) → or_else (or_else a b) c ≡ or_else a (or_else b c)
or_or None b c = refl
or_or (Some x) b c = refl

-- what is there counts, whatever comes after
pub or_kept : (a b c : Option (ℕ × ℕ)) → a ≢ None → or_else a b ≡ or_else a c
or_kept None b c n = absurd (n refl)
or_kept (Some x) b c n = refl

pub spot_append : (xs ys : List Run) (p : ℕ)
    → spot_of (xs ++ ys) p ≡ or_else (spot_of xs p) (spot_of ys p)
spot_append [] ys p = refl
spot_append (r ∷ xs) ys p =
    ap (or_else (spot_in r p)) (spot_append xs ys p)
    ∙ sym (or_or (spot_in r p) (spot_of xs p) (spot_of ys p))

pub spot_last : (xs : List Run) (r : Run) (p : ℕ)
    → spot_of (xs ++ r ∷ []) p ≡ or_else (spot_of xs p) (spot_in r p)
spot_last xs r p =
    spot_append xs (r ∷ []) p ∙ ap (or_else (spot_of xs p)) (or_none (spot_in r p))

abbrev is_there : Option (ℕ × ℕ) → Type 0
is_there None = ⊥
is_there (Some x) = Unit {0}

-- a run that is there shows its bytes
pub some_none : (x : ℕ × ℕ) → Some x ≢ None
some_none x e = absurd (subst is_there e tt)

pub shown : (rs : List Run) (i : ℕ) (d : Run) (p : ℕ) → i < length rs
    → (get_or rs i d).position ≤ p → p < (get_or rs i d).position + (get_or rs i d).size
    → spot_of rs p ≢ None
shown [] zero d p lt low high = absurd (omega (arith, lt))
shown [] (suc i) d p lt low high = absurd (omega (arith, lt))
shown (r ∷ rs) zero d p lt low high = λ e.
    some_none (r.at + (p - r.position), r.frame)
    (sym (has_it r p low high) ∙ or_none_left (spot_in r p) (spot_of rs p) e)
shown (r ∷ rs) (suc i) d p lt low high = λ e.
    shown rs i d p (omega (arith, lt)) low high (or_none_right (spot_in r p) (spot_of rs p) e)

-- two of which one is nothing may change places
pub or_swap : (a b c : Option (ℕ × ℕ)) → (b ≡ None) ⊎ (c ≡ None)
    → or_else a (or_else b c) ≡ or_else (or_else a c) b
or_swap a None c h = sym (or_none (or_else a c))
or_swap a (Some x) None h = ap (λ (o : Option (ℕ × ℕ)). or_else o (Some x)) (sym (or_none a))
or_swap a (Some x) (Some y) h = elim h [ inl e ↦ cc | inr e ↦ cc ]

-- ---- runs in order

pub lie_le : (rs : List Run) (low high : ℕ) → Lie low high rs → low ≤ high
lie_le [] low high l = l
lie_le (r ∷ rs) low high l =
    let h : r.position + r.size ≤ high = lie_le rs (r.position + r.size) high l.1.1 in
    omega (arith, h, l.0)

pub lie_low : (rs : List Run) (other low high : ℕ) → other ≤ low → Lie low high rs
    → Lie other high rs
lie_low [] other low high le l = omega (arith, l)
lie_low (r ∷ rs) other low high le l = (omega (arith, l.0), l.1)

pub lie_high : (rs : List Run) (low high other : ℕ) → high ≤ other → Lie low high rs
    → Lie low other rs
lie_high [] low high other le l = omega (arith, l)
lie_high (r ∷ rs) low high other le l =
    (l.0, (l.1.0, lie_high rs (r.position + r.size) high other le l.1.1))

pub lie_append : (xs ys : List Run) (low mid high : ℕ) → Lie low mid xs → Lie mid high ys
    → Lie low high (xs ++ ys)
lie_append [] ys low mid high l m = lie_low ys low mid high l m
lie_append (r ∷ xs) ys low mid high l m =
    (l.0, (l.1.0, lie_append xs ys (r.position + r.size) mid high l.1.1 m))

-- the rest lies after what stands before it
pub lie_take : (i : ℕ) (rs : List Run) (low high : ℕ) → Lie low high rs → Lie low high (take i rs)
lie_take zero rs low high l = lie_le rs low high l
lie_take (suc i) [] low high l = l
lie_take (suc i) (r ∷ rs) low high l =
    (l.0, (l.1.0, lie_take i rs (r.position + r.size) high l.1.1))

pub lie_drop : (i : ℕ) (rs : List Run) (low high : ℕ) → Lie low high rs → Lie low high (drop i rs)
lie_drop zero rs low high l = l
lie_drop (suc i) [] low high l = l
lie_drop (suc i) (r ∷ rs) low high l =
    let h = lie_drop i rs (r.position + r.size) high l.1.1 in
    lie_low (drop i rs) low (r.position + r.size) high (omega (arith, l.0)) h

-- and where a run stands first, from there on
pub lie_rest : (i : ℕ) (rs : List Run) (d : Run) (g low high : ℕ) → Lie low high rs → g ≤ high
    → (i < length rs → g ≤ (get_or rs i d).position) → Lie g high (drop i rs)
lie_rest zero [] d g low high l le at = le
lie_rest zero (r ∷ rs) d g low high l le at = (at (omega arith), l.1)
lie_rest (suc i) [] d g low high l le at = le
lie_rest (suc i) (r ∷ rs) d g low high l le at =
    lie_rest i rs d g (r.position + r.size) high l.1.1 le (λ h. at (omega (arith, h)))

-- a run that is there ends before the others begin, and what stands before it ends before it
pub lie_upto : (i : ℕ) (rs : List Run) (d : Run) (low high : ℕ) → Lie low high rs → i < length rs
    → Lie low ((get_or rs i d).position + (get_or rs i d).size) (take (suc i) rs)
lie_upto zero [] d low high l lt = absurd (omega (arith, lt))
lie_upto zero (r ∷ rs) d low high l lt = (l.0, (l.1.0, omega arith))
lie_upto (suc i) [] d low high l lt = absurd (omega (arith, lt))
lie_upto (suc i) (r ∷ rs) d low high l lt =
    (l.0, (l.1.0, lie_upto i rs d (r.position + r.size) high l.1.1 (omega (arith, lt))))

pub lie_ends : (i : ℕ) (rs : List Run) (d : Run) (low high : ℕ) → Lie low high rs → i < length rs
    → (get_or rs i d).position + (get_or rs i d).size ≤ high
lie_ends zero [] d low high l lt = absurd (omega (arith, lt))
lie_ends zero (r ∷ rs) d low high l lt = lie_le rs (r.position + r.size) high l.1.1
lie_ends (suc i) [] d low high l lt = absurd (omega (arith, lt))
lie_ends (suc i) (r ∷ rs) d low high l lt =
    lie_ends i rs d (r.position + r.size) high l.1.1 (omega (arith, lt))

pub lie_sound : (i : ℕ) (rs : List Run) (d : Run) (low high : ℕ) → Lie low high rs → i < length rs
    → HasBytes (get_or rs i d)
lie_sound zero [] d low high l lt = absurd (omega (arith, lt))
lie_sound zero (r ∷ rs) d low high l lt = l.1.0
lie_sound (suc i) [] d low high l lt = absurd (omega (arith, lt))
lie_sound (suc i) (r ∷ rs) d low high l lt =
    lie_sound i rs d (r.position + r.size) high l.1.1 (omega (arith, lt))

-- a run that is there begins at the low end or after it
pub lie_get : (i : ℕ) (rs : List Run) (d : Run) (low high : ℕ) → Lie low high rs → i < length rs
    → low ≤ (get_or rs i d).position
lie_get zero [] d low high l lt = absurd (omega (arith, lt))
lie_get zero (r ∷ rs) d low high l lt = l.0
lie_get (suc i) [] d low high l lt = absurd (omega (arith, lt))
lie_get (suc i) (r ∷ rs) d low high l lt =
    let h = lie_get i rs d (r.position + r.size) high l.1.1 (omega (arith, lt)) in
    omega (arith, h, l.0)

pub none_below : (rs : List Run) (p low high : ℕ) → Lie low high rs → p < low → spot_of rs p ≡ None
none_below [] p low high l lt = refl
none_below (r ∷ rs) p low high l lt =
    ap₂ or_else (has_before r p (omega (arith, l.0)))
    (none_below rs p (r.position + r.size) high l.1.1 (omega (arith, l.0)))

pub none_above : (rs : List Run) (p low high : ℕ) → Lie low high rs → high ≤ p → spot_of rs p ≡ None
none_above [] p low high l le = refl
none_above (r ∷ rs) p low high l le =
    let h : r.position + r.size ≤ high = lie_le rs (r.position + r.size) high l.1.1 in
    ap₂ or_else (has_after r p (omega (arith, h)))
    (none_above rs p (r.position + r.size) high l.1.1 le)

-- a byte lies where the run that has it has it
pub spot_at : (i : ℕ) (rs : List Run) (d : Run) (p low high : ℕ) → Lie low high rs → i < length rs
    → (get_or rs i d).position ≤ p → p < (get_or rs i d).position + (get_or rs i d).size
    → spot_of rs p
    ≡ Some ((get_or rs i d).at + (p - (get_or rs i d).position), (get_or rs i d).frame)
spot_at zero [] d p low high l lt from below = absurd (omega (arith, lt))
spot_at zero (r ∷ rs) d p low high l lt from below =
    ap (λ (o : Option (ℕ × ℕ)). or_else o (spot_of rs p)) (has_it r p from below)
spot_at (suc i) [] d p low high l lt from below = absurd (omega (arith, lt))
spot_at (suc i) (r ∷ rs) d p low high l lt from below =
    let h = lie_get i rs d (r.position + r.size) high l.1.1 (omega (arith, lt)) in
    ap (λ (o : Option (ℕ × ℕ)). or_else o (spot_of rs p)) (has_after r p (omega (arith, h, from)))
    ∙ spot_at i rs d p (r.position + r.size) high l.1.1 (omega (arith, lt)) from below

-- nothing is there between what lies before a place and what lies after it
pub gap_none : (rs : List Run) (i : ℕ) (d : Run) (c g low high p : ℕ) → Lie low high rs
    → Lie low c (take i rs) → g ≤ high → (i < length rs → g ≤ (get_or rs i d).position) → c ≤ p
    → p < g
    → spot_of rs p ≡ None
gap_none rs i d c g low high p l before le at from lt =
    ap (λ (xs : List Run). spot_of xs p) (sym (take-append-drop i rs))
    ∙ (spot_append (take i rs) (drop i rs) p
    ∙ ap₂ or_else (none_above (take i rs) p low c before from)
    (none_below (drop i rs) p g high (lie_rest i rs d g low high l le at) lt))

-- a run that stands in the rest begins at its low end or after it
pub lie_at : (i : ℕ) (rs : List Run) (d : Run) (low high : ℕ) → Lie low high (drop i rs)
    → i < length rs → low ≤ (get_or rs i d).position
lie_at zero [] d low high l lt = absurd (omega (arith, lt))
lie_at zero (r ∷ rs) d low high l lt = l.0
lie_at (suc i) [] d low high l lt = absurd (omega (arith, lt))
lie_at (suc i) (r ∷ rs) d low high l lt = lie_at i rs d low high l (omega (arith, lt))

-- and the rest without it lies after it
pub lie_next : (i : ℕ) (rs : List Run) (d : Run) (low high : ℕ) → Lie low high (drop i rs)
    → i < length rs
    → Lie ((get_or rs i d).position + (get_or rs i d).size) high (drop (suc i) rs)
lie_next zero [] d low high l lt = absurd (omega (arith, lt))
lie_next zero (r ∷ rs) d low high l lt = l.1.1
lie_next (suc i) [] d low high l lt = absurd (omega (arith, lt))
lie_next (suc i) (r ∷ rs) d low high l lt = lie_next i rs d low high l (omega (arith, lt))

-- a run that follows others
pub lie_more : (i : ℕ) (rs : List Run) (d : Run) (low high : ℕ) → Lie low high (take i rs)
    → i < length rs → high ≤ (get_or rs i d).position → HasBytes (get_or rs i d)
    → Lie low ((get_or rs i d).position + (get_or rs i d).size) (take (suc i) rs)
lie_more zero [] d low high l lt le sound = absurd (omega (arith, lt))
lie_more zero (r ∷ rs) d low high l lt le sound = (omega (arith, l, le), (sound, omega arith))
lie_more (suc i) [] d low high l lt le sound = absurd (omega (arith, lt))
lie_more (suc i) (r ∷ rs) d low high l lt le sound =
    (l.0, (l.1.0, lie_more i rs d (r.position + r.size) high l.1.1 (omega (arith, lt)) le sound))

-- runs that are sound end where positions do
pub order_within : (rs : List Run) (low high : ℕ) → low ≤ 2 ^ 63 → Lie low high rs → AreSound rs
    → Lie low (2 ^ 63) rs
order_within [] low high small l s = small
order_within (r ∷ rs) low high small l s =
    (l.0, (l.1.0, order_within rs (r.position + r.size) high s.0.1 l.1.1 s.1))

-- what begins later lies later
pub later : (i j : ℕ) (rs : List Run) (d : Run) (low high : ℕ) → Lie low high rs → i ≤ j
    → j < length rs → (get_or rs i d).position ≤ (get_or rs j d).position
later i j [] d low high l le lt = absurd (omega (arith, lt))
later zero zero (r ∷ rs) d low high l le lt = omega arith
later zero (suc j) (r ∷ rs) d low high l le lt =
    omega (arith, lie_get j rs d (r.position + r.size) high l.1.1 (omega (arith, lt)))
later (suc i) zero (r ∷ rs) d low high l le lt = absurd (omega (arith, le))
later (suc i) (suc j) (r ∷ rs) d low high l le lt =
    later i j rs d (r.position + r.size) high l.1.1 (omega (arith, le)) (omega (arith, lt))

-- the first runs end before what they lie before
pub earlier : (i j : ℕ) (rs : List Run) (d : Run) (low high : ℕ) → Lie low high (take i rs) → j < i
    → j < length rs → (get_or rs j d).position + (get_or rs j d).size ≤ high
earlier i j [] d low high l le lt = absurd (omega (arith, lt))
earlier zero j (r ∷ rs) d low high l le lt = absurd (omega (arith, le))
earlier (suc i) zero (r ∷ rs) d low high l le lt =
    lie_le (take i rs) (r.position + r.size) high l.1.1
earlier (suc i) (suc j) (r ∷ rs) d low high l le lt =
    earlier i j rs d (r.position + r.size) high l.1.1 (omega (arith, le)) (omega (arith, lt))

-- a run ends before the next begins
pub follows : (i : ℕ) (rs : List Run) (d : Run) (low high : ℕ) → Lie low high rs → suc i < length rs
    → (get_or rs i d).position + (get_or rs i d).size ≤ (get_or rs (suc i) d).position
follows zero [] d low high l lt = absurd (omega (arith, lt))
follows zero (r ∷ []) d low high l lt = absurd (omega (arith, lt))
follows zero (r ∷ s ∷ rs) d low high l lt = l.1.1.0
follows (suc i) [] d low high l lt = absurd (omega (arith, lt))
follows (suc i) (r ∷ rs) d low high l lt =
    follows i rs d (r.position + r.size) high l.1.1 (omega (arith, lt))

pub beyond_next : (rs : List Run) (i at : ℕ) → Lie 0 (2 ^ 63) rs → i + 1 < length rs
    → at < end_at rs i
    → at < end_at rs (i + 1)
beyond_next rs i at l lt below =
    let le : end_at rs i ≤ (nth_run rs (i + 1)).position =
    rw add-one (follows i rs no_run 0 (2 ^ 63) l (omega (arith, lt))) in
    omega (arith, le, below)

pub ends_later : (rs : List Run) (i : ℕ) → Lie 0 (2 ^ 63) rs → i + 1 < length rs
    → end_at rs i < end_at rs (i + 1)
ends_later rs i l lt =
    let le : end_at rs i ≤ (nth_run rs (i + 1)).position =
    rw add-one (follows i rs no_run 0 (2 ^ 63) l (omega (arith, lt))) in
    let sound : HasBytes (nth_run rs (i + 1)) = lie_sound (i + 1) rs no_run 0 (2 ^ 63) l lt in
    omega (arith, le, sound.0)

-- a part of a run has the same bytes
pub part_spot : (r : Run) (start stop p : ℕ) → r.position ≤ start → stop ≤ r.position + r.size
    → start ≤ p → p < stop → spot_in (part_of r start stop) p ≡ spot_in r p
part_spot r start stop p low high le lt =
    has_it (part_of r start stop) p le (omega (arith, le, lt))
    ∙ ap (λ a. Some (a, r.frame)) (omega (arith, low, le))
    ∙ sym (has_it r p (omega (arith, low, le)) (omega (arith, high, lt)))
