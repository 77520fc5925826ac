-- The laws, from both directions.
use Rattle.xdr3.proofs.Common.{◌≡◌, ℕ, ◌+◌, ◌≤◌, ◌<◌, List, [], ◌∷◌, ◌++◌, length, drop, replicate, get_or, Result, Ok, Err, refl, sym, ap, subst, ◌∙◌, arith, inl, inr, ◌⊎◌, cases_lt, Reason, Stop, GetError, View, Item, Word, Hyper, Fixed, WriteVerf, Opaque, Rest, AreBytes, residue, SpellsItem, Spells, zero_spelling_of, zero_spelling, Shape, Refusal, Reads, Refuses, Outcome, refused, reading, Gives, IsRead}
use Rattle.std.proofs.lemmas.List.{drop_at, length-append, length-drop, length-replicate, get_or-replicate, get_or_past}
use Rattle.xdr3.specs.declared.reason.GetError.TheVariants as errors
use Rattle.xdr3.specs.Laws.{Read, IsDecided, ReadsTo, RefusesFrom, Decides}
use Rattle.xdr3.proofs.Lemmas.Reading.Bytes.{done, failed, pair_is, err_is}
use Rattle.xdr3.proofs.Lemmas.Reading.Sound.{sound}
use Rattle.xdr3.proofs.Lemmas.Reading.Complete.{complete}

-- ---- shapes

read_from : (shape : Shape) (body : List ℕ) (at to : ℕ) (items : List Item) → at ≤ length body
    → ReadsTo (Reads shape) body at items to → reading shape body at ≡ Ok (items, to)
read_from shape body at to items h r =
    let p = r.reads in
    let place : to ≡ at + length p.front =
    omega (
      arith,
      ap length p.whole,
      length-append p.front (drop to body),
      length-drop at body,
      length-drop to body,
      r.forward,
      r.within,
    ) in
    (complete shape).reads body at items p.front (drop to body) h p.fits p.spells p.whole
    ∙ ap (λ (k : ℕ). Ok (items, k)) (sym place)

refused_from : (shape : Shape) (body : List ℕ) (at : ℕ) (stop : Stop) → at ≤ length body
    → RefusesFrom (Refuses shape) body at stop → reading shape body at ≡ Err stop
refused_from shape body at stop h r =
    (complete shape).stops body at r.0 stop.reason h r.1
    ∙ ap (λ (k : ℕ). refused k stop.reason) (sym r.2)

pub both_ways : (shape : Shape) (body : List ℕ) (at : ℕ) → AreBytes body → at ≤ length body
    → Decides (reading shape) (Reads shape) (Refuses shape) body at
both_ways shape body at fits h = record {
  reads = λ items to. (
    (λ e.
        let t = (sound shape).takes body at to items fits h e in
        record {
          reads =
              record { front = t.1.front; fits = t.0; spells = t.1.spells; whole = t.1.is };
          forward = omega (arith, t.1.to_is);
          within = t.1.within;
        }),
    (λ r. read_from shape body at to items h r),
  );
  refuses = λ stop. (
    (λ e. let r = (sound shape).refuses body at stop fits h e in (r.after, r.refuses, r.at_is)),
    (λ r. refused_from shape body at stop h r),
  );
}

-- ---- what is decided by a function is so in one way

-- what is left after items stands at a place
pub record IsPlace (bytes left : List ℕ) (to : ℕ) : Type 0 where
  pub is : left ≡ drop to bytes
  pub within : to ≤ length bytes

abbrev pub LeavesAnEnd : Read → List ℕ → Type 0
LeavesAnEnd R bytes =
    (items : List Item) (left : List ℕ) → R bytes items left → (to : ℕ) × IsPlace bytes left to

pub in_one_way : (read : List ℕ → ℕ → Outcome (List Item)) (R : Read) (S : Refusal) (bytes : List ℕ)
    → Decides read R S bytes 0 → LeavesAnEnd R bytes → IsDecided R S bytes
in_one_way read R S bytes d ends = record {
  one = one (read bytes 0) refl;
  not_both = λ items left at reason r s.
      let p = place items left r in
      apart (items, p.0) (record { at = at; reason = reason }) (sym p.1 ∙ stopped at reason s);
  same_items = λ items others left later r s.
      let p = place items left r in
      let q = place others later s in
      let e = pair_is items others p.0 q.0 (sym p.1 ∙ q.1) in
      (e.0, p.2.is ∙ ap (λ (k : ℕ). drop k bytes) e.1 ∙ sym q.2.is);
  same_fault = λ at place reason why r s.
      let e =
      err_is {A = List Item × ℕ} (record { at = at; reason = reason })
      (record { at = place; reason = why }) (sym (stopped at reason r) ∙ stopped place why s) in
      (ap (λ (s : Stop). s.at) e, ap (λ (s : Stop). s.reason) e);
}
  where
    apart : (x : List Item × ℕ) (stop : Stop) → done x ≡ failed stop → ⊥
    apart x stop e = cc

    place : (items : List Item) (left : List ℕ) → R bytes items left
        → (to : ℕ) × (read bytes 0 ≡ Ok (items, to)) × IsPlace bytes left to
    place items left r =
        let p = ends items left r in (
          p.0,
          (d.reads items p.0).1 (record {
            reads = subst (R bytes items) p.1.is r;
            forward = omega arith;
            within = p.1.within;
          }),
          p.1,
        )

    stopped : (at : ℕ) (reason : Reason) → S bytes at reason → read bytes 0 ≡ refused at reason
    stopped at reason s = (d.refuses (record { at = at; reason = reason })).1 (at, s, omega arith)

    one : (r : Outcome (List Item)) → read bytes 0 ≡ r
        → ((items : List Item) × (left : List ℕ) × R bytes items left)
        ⊎ ((at : ℕ) × (reason : Reason) × S bytes at reason)
    one (Ok x) e = inl (x.0, drop x.1 bytes, ((d.reads x.0 x.1).0 e).reads)
    one (Err stop) e = let r = (d.refuses stop).0 e in inr (r.0, stop.reason, r.1)

pub front_place : (bytes front left : List ℕ) → bytes ≡ front ++ left
    → IsPlace bytes left (length front)
front_place bytes front left e =
    record {
      is = sym (ap (drop (length front)) e ∙ drop_at front left (length front) refl);
      within = omega (arith, ap length e, length-append front left);
    }

pub is_decided : (shape : Shape) (bytes : List ℕ) → AreBytes bytes
    → IsDecided (Reads shape) (Refuses shape) bytes
is_decided shape bytes fits =
    in_one_way (reading shape) (Reads shape) (Refuses shape) bytes
    (both_ways shape bytes 0 fits (omega arith))
    (λ items left r. (length r.front, front_place bytes r.front left r.whole))

-- ---- the zero spelling

zeros_are_bytes : (n i : ℕ) → get_or (replicate n 0) i 0 < 256
zeros_are_bytes n i =
    elim (cases_lt i n) [
      | inl lt ↦ rw (get_or-replicate {A = ℕ} n i 0 0 lt) (omega arith)
      | inr le ↦
          rw (get_or_past {X = ℕ} (replicate n 0) i 0 (omega (arith, length-replicate {A = ℕ} n 0)))
          (omega arith)
    ]

zero_spelled_item : (x : Item) (f : List ℕ) → SpellsItem x f → SpellsItem x (zero_spelling_of x)
zero_spelled_item (Word name n) f p = (p.0, refl)
zero_spelled_item (Hyper name n) f p = (p.0, refl)
zero_spelled_item (Fixed name b) f p = (p.0, p.1, refl)
zero_spelled_item (WriteVerf name b) f p = (p.0, p.1, refl)
zero_spelled_item (Opaque kind name b) f p = (
  replicate (residue (length b)) 0,
  p.1,
  p.2,
  length-replicate {A = ℕ} (residue (length b)) 0,
  zeros_are_bytes (residue (length b)),
  refl,
)
zero_spelled_item (Rest name b) f p = (p.0, refl)

pub zero_spelled_all : (items : List Item) (bytes : List ℕ) → Spells items bytes
    → Spells items (zero_spelling items)
zero_spelled_all [] bytes p = refl
zero_spelled_all (x ∷ xs) bytes p = (
  zero_spelling_of x,
  zero_spelling xs,
  zero_spelled_item x p.0 p.2,
  zero_spelled_all xs p.1 p.3,
  refl,
)

-- ---- what an exact answer means

-- an answer that a function gives is one that the relations allow
pub is_read : {X : Type 0} (read : List ℕ → ℕ → Outcome (List Item)) (R : Read) (S : Refusal)
    (items : X → List Item) (old new : View) (r : Result X GetError)
    → Decides read R S old.body old.at → Gives items r new.at (read old.body old.at)
    → IsRead (R, S) items old r new
is_read read R S items old new (Ok x) d g = (d.reads (items x) new.at).0 g
is_read read R S items old new (Err (errors.Stop stop)) d g = (d.refuses stop).0 (g stop refl)
is_read read R S items old new (Err errors.Memory) d g = tt

-- the same of a shape
pub shape_is_read : {X : Type 0} (shape : Shape) (items : X → List Item) (old new : View)
    (r : Result X GetError) → AreBytes old.body → old.at ≤ length old.body
    → Gives items r new.at (reading shape old.body old.at)
    → IsRead (Reads shape, Refuses shape) items old r new
shape_is_read shape items old new r fits h g =
    is_read (reading shape) (Reads shape) (Refuses shape) items old new r
    (both_ways shape old.body old.at fits h) g
