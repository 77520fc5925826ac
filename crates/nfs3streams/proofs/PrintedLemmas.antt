-- What is printed, line by line.
use Rattle.std.proofs.Common.{◌≡◌, ◌<◌, ◌≤◌, ◌+◌, ◌∙◌, ◌++◌, ℕ, zero, suc, List, [], ◌∷◌, length, get_or, take, min, refl, sym, ap, subst, arith, append-nil, append_assoc, Result, Ok, Err, OnOk, if◌then◌else◌, is_ok}
use Rattle.connections3.specs.declared.connection.Connection.{Connection}
use Rattle.conversion3.specs.OrderedConnections.{AreOrdered, IsOrderedConnection}
use Rattle.conversion3.specs.declared.decisions.Decision.{Decision}
use Rattle.conversion3.specs.declared.ordered_connections.OrderedConnection.{OrderedConnection}
use Rattle.nfs3streams.specs.Printed.{decision_text, decisions_text}

pub pair_length : (cs : List Connection) (os : List OrderedConnection) → AreOrdered cs os
    → length cs ≡ length os
pair_length [] [] pairs = refl
pair_length [] (o ∷ os) pairs = absurd pairs
pair_length (c ∷ cs) [] pairs = absurd pairs
pair_length (c ∷ cs) (o ∷ os) pairs = ap suc (pair_length cs os pairs.1)

pub next_is : (k : ℕ) → k + 1 ≡ suc k
next_is k = omega arith

-- the line of one more connection
pub line_at : (n : ℕ) (cs : List Connection) (os : List OrderedConnection) (ds : List Decision)
    (k : ℕ) (one : OrderedConnection) (d : Decision) → AreOrdered cs os
    → one ≡ get_or os k one → k < length os → k < length ds
    → (c : Connection) × IsOrderedConnection c one
    × (decisions_text n (take (suc k) cs) (take (suc k) ds)
    ≡ decisions_text n (take k cs) (take k ds) ++ decision_text (k + n) c (get_or ds k d))
line_at n [] [] ds k one d pairs e low less = absurd (omega (arith, low))
line_at n [] (o ∷ os) ds k one d pairs e low less = absurd pairs
line_at n (c ∷ cs) [] ds k one d pairs e low less = absurd (omega (arith, low))
line_at n (c ∷ cs) (o ∷ os) [] k one d pairs e low less = absurd (omega (arith, less))
line_at n (c ∷ cs) (o ∷ os) (x ∷ ds) zero one d pairs e low less =
    let same : n ≡ 0 + n = omega arith in (
      c,
      subst (λ o. IsOrderedConnection c o) (sym e) pairs.0,
      append-nil (decision_text n c x) ∙ ap (λ m. decision_text m c x) same,
    )
line_at n (c ∷ cs) (o ∷ os) (x ∷ ds) (suc k) one d pairs e low less =
    let (at, ordered, line) =
    line_at (n + 1) cs os ds k one d pairs.1 e (omega (arith, low)) (omega (arith, less)) in
    let same : k + (n + 1) ≡ suc k + n = omega arith in (
      at,
      ordered,
      ap (λ l. decision_text n c x ++ l) line
          ∙ sym (append_assoc (decision_text n c x)
          (decisions_text (n + 1) (take k cs) (take k ds))
          (decision_text (k + (n + 1)) at (get_or ds k d)))
          ∙ ap (λ m. (decision_text n c x ++ decisions_text (n + 1) (take k cs) (take k ds))
          ++ decision_text m at (get_or ds k d)) same,
    )

-- the lines of all
pub all_lines : (n : ℕ) (cs : List Connection) (ds : List Decision) (k : ℕ)
    → min (length cs) (length ds) ≤ k
    → decisions_text n (take k cs) (take k ds) ≡ decisions_text n cs ds
all_lines n [] ds zero enough = refl
all_lines n [] ds (suc k) enough = refl
all_lines n (x ∷ cs) [] zero enough = refl
all_lines n (x ∷ cs) [] (suc k) enough = refl
all_lines n (x ∷ cs) (y ∷ ds) zero enough = absurd (omega (arith, enough))
all_lines n (x ∷ cs) (y ∷ ds) (suc k) enough =
    ap (λ l. decision_text n x y ++ l) (all_lines (n + 1) cs ds k (omega (arith, enough)))

-- what was appended, if there was memory for it
pub pushed : {T E : Type 0} (new more old : List ℕ) (r : Result T E)
    → new ≡ (if is_ok r then more else old) → OnOk r (new ≡ more)
pushed new more old (Ok x) is = is
pushed new more old (Err e) is = tt
