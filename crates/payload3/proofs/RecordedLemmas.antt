-- Bytes at two offsets, piece by piece.
use Rattle.std.proofs.Common.{◌≡◌, ℕ, zero, suc, ◌+◌, ◌-◌, ◌≤◌, List, [], ◌∷◌, ◌++◌, length, take, drop, refl, sym, subst, ap, ap₂, ◌∙◌, arith}
use Rattle.std.proofs.Math.Seq.{take-nil}
use Rattle.std.proofs.lemmas.List.{drop-drop, drop-take, length-take}
use Rattle.payload3.specs.Readings.{Allow, HasBytesRead, OffsetRead, bytes_at}
use Rattle.payload3.proofs.PartsLemmas.{allow_both}

pub take_both : (a b : ℕ) (xs : List ℕ) → take (a + b) xs ≡ take a xs ++ take b (drop a xs)
take_both zero b xs = let e : zero + b ≡ b = omega arith in rw e refl
take_both (suc a) b [] =
    take-nil (suc a + b) ∙ sym (take-nil b)
take_both (suc a) b (x ∷ xs) =
    let e : suc a + b ≡ suc (a + b) = omega arith in
    rw e (ap (λ (l : List ℕ). x ∷ l) (take_both a b xs))

-- the first are the same, and so are those after them
pub same_more : (file : List ℕ) (one other done n : ℕ)
    → bytes_at file one done ≡ bytes_at file other done
    → bytes_at file (one + done) n ≡ bytes_at file (other + done) n
    → bytes_at file one (done + n) ≡ bytes_at file other (done + n)
same_more file one other done n first next =
    let later : drop done (drop one file) ≡ drop (one + done) file = drop-drop done one file in
    let other_later : drop done (drop other file) ≡ drop (other + done) file =
    drop-drop done other file in
    take_both done n (drop one file)
    ∙ ap₂ (λ (l r : List ℕ). l ++ r) first
    (ap (take n) later ∙ next ∙ ap (take n) (sym other_later))
    ∙ sym (take_both done n (drop other file))

take_fewer : (a b : ℕ) (xs : List ℕ) → a ≤ b → take a (take b xs) ≡ take a xs
take_fewer zero b xs h = refl
take_fewer (suc a) zero xs h = absurd (omega arith)
take_fewer (suc a) (suc b) [] h = refl
take_fewer (suc a) (suc b) (x ∷ xs) h =
    ap (λ (l : List ℕ). x ∷ l) (take_fewer a b xs (omega arith))

-- bytes that are the same are so from a place on
same_from : (file : List ℕ) (at done n size : ℕ) → done + n ≤ size
    → take n (drop done (bytes_at file at size)) ≡ bytes_at file (at + done) n
same_from file at done n size h =
    let e : size ≡ done + (n + (size - done - n)) = omega arith in
    ap (λ (k : ℕ). take n (drop done (take k (drop at file)))) e
    ∙ ap (take n) (drop-take done (n + (size - done - n)) (drop at file))
    ∙ take_fewer n (n + (size - done - n)) (drop done (drop at file)) (omega arith)
    ∙ ap (take n) (drop-drop done at file)

pub differ_later : (file : List ℕ) (one other done n size : ℕ) → done + n ≤ size
    → (bytes_at file (one + done) n ≡ bytes_at file (other + done) n → ⊥)
    → bytes_at file one size ≡ bytes_at file other size → ⊥
differ_later file one other done n size h differ same =
    differ (sym (same_from file one done n size h)
    ∙ ap (λ (l : List ℕ). take n (drop done l)) same
    ∙ same_from file other done n size h)

-- a read gave the first of these bytes, and of them the first n stand in the file
pub stands_there : (file xs : List ℕ) (at count n : ℕ) → n ≤ count → count ≤ length xs
    → HasBytesRead file (record { at = at; bytes = take count xs }) → bytes_at file at n ≡ take n xs
stands_there file xs at count n few within holds =
    let size : length (take count xs) ≡ count = omega (arith, length-take count xs) in
    let all : take count (drop at file) ≡ take count xs =
    subst (λ (k : ℕ). bytes_at file at k ≡ take count xs) size holds in
    sym (take_fewer n count (drop at file) few) ∙ ap (take n) all ∙ take_fewer n count xs few

-- what two reads gave, one after the other
pub record BothRead (old : List OffsetRead) (file xs ys : List ℕ) (one other n : ℕ) : Type 0 where
  pub before : Allow old file
  pub first : bytes_at file one n ≡ take n xs
  pub second : bytes_at file other n ≡ take n ys

pub both_read : (file : List ℕ) (old middle new : List OffsetRead) (xs ys : List ℕ)
    (one other count n : ℕ)
    → middle ≡ old ++ record { at = one; bytes = take count xs } ∷ []
    → new ≡ middle ++ record { at = other; bytes = take n ys } ∷ []
    → n ≤ count → count ≤ length xs → n ≤ length ys → Allow new file
    → BothRead old file xs ys one other n
both_read file old middle new xs ys one other count n m e few within within' allows =
    let last =
    allow_both file middle (record { at = other; bytes = take n ys })
    (subst (λ (l : List OffsetRead). Allow l file) e allows) in
    let first =
    allow_both file old (record { at = one; bytes = take count xs })
    (subst (λ (l : List OffsetRead). Allow l file) m last.0) in
    record {
      before = first.0;
      first = stands_there file xs one count n few within first.1;
      second = stands_there file ys other n n (omega arith) within' last.1;
    }
