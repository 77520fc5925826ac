-- Items that a reader took from a body, and what is refused after them.
use Rattle.xdr3.proofs.Common.{◌≡◌, ℕ, ◌+◌, ◌≤◌, List, [], ◌∷◌, ◌++◌, length, drop, replicate, refl, sym, ap, subst, ◌∙◌, append_assoc, arith, length-append, length-replicate, append-nil, Stop, Item, Word, Hyper, Fixed, WriteVerf, Opaque, Rest, word_bytes, residue, SpellsItem, Spells, zero_spelling_of, zero_spelling, Refusal, Then}
use Rattle.xdr3.proofs.Lemmas.Reading.Bytes.{drop_front, front_ends}

-- ---- spellings

pub Spells-append : (xs ys : List Item) (f g : List ℕ) → Spells xs f → Spells ys g
    → Spells (xs ++ ys) (f ++ g)
Spells-append [] ys f g p q = subst (λ (x : List ℕ). Spells ys (x ++ g)) (sym p) q
Spells-append (x ∷ xs) ys f g p q = (
  p.0,
  p.1 ++ g,
  p.2,
  Spells-append xs ys p.1 g p.3 q,
  ap (λ (b : List ℕ). b ++ g) p.4 ∙ append_assoc p.0 p.1 g,
)

pub Spells-split : (xs ys : List Item) (f : List ℕ) → Spells (xs ++ ys) f
    → (a : List ℕ) × (b : List ℕ) × Spells xs a × Spells ys b × (f ≡ a ++ b)
Spells-split [] ys f p = ([], f, refl, p, refl)
Spells-split (x ∷ xs) ys f p =
    let rest = Spells-split xs ys p.1 p.3 in (
      p.0 ++ rest.0,
      rest.1,
      (p.0, rest.0, p.2, rest.2, refl),
      rest.3,
      p.4 ∙ ap (λ (b : List ℕ). p.0 ++ b) rest.4 ∙ sym (append_assoc p.0 rest.0 rest.1),
    )

pub Spells-one : (x : Item) (f : List ℕ) → SpellsItem x f → Spells (x ∷ []) f
Spells-one x f p = (f, [], p, refl, sym (append-nil f))

pub Spells-single : (x : Item) (f : List ℕ) → Spells (x ∷ []) f → SpellsItem x f
Spells-single x f p =
    let e : f ≡ p.0 = p.4 ∙ ap (λ (b : List ℕ). p.0 ++ b) p.3 ∙ append-nil p.0 in
    subst (SpellsItem x) (sym e) p.2

length_of_one : (x : Item) (f : List ℕ) → SpellsItem x f → length f ≡ length (zero_spelling_of x)
length_of_one (Word name n) f p = ap length p.1
length_of_one (Hyper name n) f p = ap length p.1
length_of_one (Fixed name b) f p = ap length p.2
length_of_one (WriteVerf name b) f p = ap length p.2
length_of_one (Opaque kind name b) f p =
    omega (
      arith,
      ap length p.5,
      p.3,
      length-append (word_bytes (length b)) (b ++ p.0),
      length-append b p.0,
      length-append (word_bytes (length b)) (b ++ replicate (residue (length b)) 0),
      length-append b (replicate (residue (length b)) 0),
      length-replicate {A = ℕ} (residue (length b)) 0,
    )
length_of_one (Rest name b) f p = ap length p.1

-- all spellings of some items have one length
pub length_of_spelling : (xs : List Item) (f : List ℕ) → Spells xs f
    → length f ≡ length (zero_spelling xs)
length_of_spelling [] f p = ap length p
length_of_spelling (x ∷ xs) f p =
    omega (
      arith,
      ap length p.4,
      length-append p.0 p.1,
      length_of_one x p.0 p.2,
      length_of_spelling xs p.1 p.3,
      length-append (zero_spelling_of x) (zero_spelling xs),
    )

-- ---- items that were read

pub record Takes (items : List Item) (body : List ℕ) (at to : ℕ) : Type 0 where
  pub front : List ℕ
  pub spells : Spells items front
  pub is : drop at body ≡ front ++ drop to body
  pub to_is : to ≡ at + length front
  pub within : to ≤ length body

pub Takes-nothing : (body : List ℕ) (at : ℕ) → at ≤ length body → Takes [] body at at
Takes-nothing body at h =
    record { front = []; spells = refl; is = refl; to_is = omega arith; within = h }

pub Takes-then : (xs ys : List Item) (body : List ℕ) (a b c : ℕ) → Takes xs body a b
    → Takes ys body b c → Takes (xs ++ ys) body a c
Takes-then xs ys body a b c p q = record {
  front = p.front ++ q.front;
  spells = Spells-append xs ys p.front q.front p.spells q.spells;
  is =
      p.is ∙ ap (λ (t : List ℕ). p.front ++ t) q.is
      ∙ sym (append_assoc p.front q.front (drop c body));
  to_is = omega (arith, p.to_is, q.to_is, length-append p.front q.front);
  within = q.within;
}

-- what a front and the items after it are
pub Takes-front : (xs : List Item) (body front left : List ℕ) (at : ℕ) → at ≤ length body
    → Spells xs front → drop at body ≡ front ++ left → Takes xs body at (at + length front)
Takes-front xs body front left at h s e = record {
  front = front;
  spells = s;
  is = e ∙ ap (λ (t : List ℕ). front ++ t) (sym (drop_front body front left at e));
  to_is = refl;
  within = front_ends body front left at h e;
}

-- ---- refusals after items that were read

pub record Refused (R : Refusal) (body : List ℕ) (at : ℕ) (stop : Stop) : Type 0 where
  pub after : ℕ
  pub refuses : R (drop at body) after stop.reason
  pub at_is : stop.at ≡ at + after

pub Refused-weaker : (R S : Refusal) (body : List ℕ) (at : ℕ) (stop : Stop)
    → ((after : ℕ) → R (drop at body) after stop.reason → S (drop at body) after stop.reason)
    → Refused R body at stop → Refused S body at stop
Refused-weaker R S body at stop f r =
    record { after = r.after; refuses = f r.after r.refuses; at_is = r.at_is }

pub Refused-then : (Front : List Item → Type 0) (R : Refusal) (items : List Item) (body : List ℕ)
    (at to : ℕ) (stop : Stop) → Front items → Takes items body at to → Refused R body to stop
    → Refused (Then Front R) body at stop
Refused-then Front R items body at to stop fits t r = record {
  after = length t.front + r.after;
  refuses = (items, t.front, drop to body, r.after, fits, t.spells, t.is, r.refuses, refl);
  at_is = omega (arith, r.at_is, t.to_is);
}

-- more items before those that a refusal stands after
pub Refused-after : (F G : List Item → Type 0) (R : Refusal) (items : List Item) (body : List ℕ)
    (at to : ℕ) (stop : Stop) → Takes items body at to
    → ((more : List Item) → F more → G (items ++ more)) → Refused (Then F R) body to stop
    → Refused (Then G R) body at stop
Refused-after F G R items body at to stop t f r =
    let b = r.refuses in
    let rest = b.0 in
    record {
      after = length t.front + r.after;
      refuses = (
        items ++ rest,
        t.front ++ b.1,
        b.2,
        b.3,
        f rest b.4,
        Spells-append items rest t.front b.1 t.spells b.5,
        t.is ∙ ap (λ (x : List ℕ). t.front ++ x) b.6 ∙ sym (append_assoc t.front b.1 b.2),
        b.7,
        omega (arith, b.8, length-append t.front b.1),
      );
      at_is = omega (arith, r.at_is, t.to_is);
    }
