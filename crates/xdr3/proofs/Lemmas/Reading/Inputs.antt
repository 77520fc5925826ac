-- What `Input` answers, by the relations of shapes.
use Rattle.xdr3.proofs.Common.{◌≡◌, ℕ, ◌≤◌, List, [], ◌∷◌, length, Ok, Err, refl, sym, ap, ◌∙◌, Stop, Item, Word, Hyper, Fixed, Opaque, AreBytes, Outcome, ◌>>=◌, number_at, word_at, run_at, opaque_at, reading}
use Rattle.xdr3.specs.Laws.{DecidesItem, InputDecides}
use Rattle.xdr3.specs.Shape.{Shape, choose, hyper, fixed, opaque, nothing, word_named}
use Rattle.xdr3.proofs.Lemmas.Reading.Bytes.{pair_is, never}
use Rattle.xdr3.proofs.Lemmas.Reading.Decided.{both_ways}

-- the one item of a value
abbrev one_item : {A : Type 0} → (A → Item) → Outcome A → Outcome (List Item)
one_item item r = r >>= λ x. Ok (item x.0 ∷ [], x.1)

abbrev TellsApart : {A : Type 0} → (A → Item) → Type 0
TellsApart {A} item = (x y : A) → item x ∷ [] ≡ item y ∷ [] → x ≡ y

one_ok : {A : Type 0} (item : A → Item) → TellsApart item → (r : Outcome A) (x : A) (to : ℕ)
    → one_item item r ≡ Ok (item x ∷ [], to) → r ≡ Ok (x, to)
one_ok item apart (Ok y) x to e =
    let p = pair_is (item y.0 ∷ []) (item x ∷ []) y.1 to e in
    ap (λ (z : _). Ok (z, y.1)) (apart y.0 x p.0) ∙ ap (λ (k : ℕ). Ok (x, k)) p.1
one_ok item apart (Err stop) x to e = absurd cc

one_err : {A : Type 0} (item : A → Item) (r : Outcome A) (stop : Stop) → one_item item r ≡ Err stop
    → r ≡ Err stop
one_err item (Ok y) stop e = absurd (never (item y.0 ∷ [], y.1) stop e)
one_err item (Err d) stop e = ap (λ (s : Stop). Err s) (let same : d ≡ stop = cc in same)

same_step : {A : Type 0} (r : Outcome A) → (r >>= λ x. Ok x) ≡ r
same_step (Ok x) = refl
same_step (Err stop) = refl

item_decides : {A : Type 0} (read : List ℕ → ℕ → Outcome A) (shape : Shape) (item : A → Item)
    (body : List ℕ) (at : ℕ) → AreBytes body → at ≤ length body → TellsApart item
    → reading shape body at ≡ one_item item (read body at) → DecidesItem read shape item body at
item_decides read shape item body at fits h apart is =
    let d = both_ways shape body at fits h in
    record {
      reads = λ x to. (
        (λ e. (d.reads (item x ∷ []) to).0 (is ∙ ap (one_item item) e)),
        (λ r. one_ok item apart (read body at) x to (sym is ∙ (d.reads (item x ∷ []) to).1 r)),
      );
      refuses = λ stop. (
        (λ e. (d.refuses stop).0 (is ∙ ap (one_item item) e)),
        (λ r. one_err item (read body at) stop (sym is ∙ (d.refuses stop).1 r)),
      );
    }

pub input_decides : (name body : List ℕ) (at : ℕ) → AreBytes body → at ≤ length body
    → InputDecides name body at
unfolding reading
input_decides name body at fits h = record {
  word =
      item_decides (number_at 4) (word_named name) (Word name) body at fits h (λ x y e. cc)
      (ap (one_item (Word name)) (same_step (number_at 4 body at)));
  accepted =
      λ accepted other.
      item_decides (word_at accepted other) (choose name accepted other (λ n. nothing))
      (Word name) body at fits h (λ x y e. cc) refl;
  hyper = item_decides (number_at 8) (hyper name) (Hyper name) body at fits h (λ x y e. cc) refl;
  fixed = item_decides (run_at 8) (fixed name) (Fixed name) body at fits h (λ x y e. cc) refl;
  opaque =
      λ kind max.
      item_decides (opaque_at max) (opaque kind name max) (Opaque kind name) body at fits h
      (λ x y e. cc) refl;
}
