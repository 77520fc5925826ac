-- Connections of which nothing was sent, and connections side by side.
use Rattle.std.proofs.Common.{◌≡◌, ◌^◌, ◌↔◌, ℕ, Bool, IsTrue, List, [], ◌∷◌, Option, None, Some, refl, sym, ◌∙◌, subst, arith}
use Rattle.std.specs.List.{AllZip}
use Rattle.connections3.specs.declared.connection.Connection.{Connection}
use Rattle.connections3.specs.declared.connection.Flow.{Flow}
use Rattle.streams3.specs.declared.runs.Run.{Run}
use Rattle.streams3.specs.declared.segments.Marks.{Marks}
use Rattle.streams3.specs.Order.{IsMissing, IsOrderOf, Ordered}
use Rattle.streams3.specs.Runs.{Lie, spot_of}
use Rattle.streams3.specs.Streams.{Shown}
use Rattle.streams3.proofs.RunsLemmas.{shown}
use Rattle.conversion3.specs.Decisions.{AreDecidedIn, HasDecision, IsEmptyFlow, IsEmptyStream}
use Rattle.conversion3.specs.OrderedConnections.{IsOrderedConnection, IsOrderedFlow}
use Rattle.conversion3.specs.Whole.{recorded_of}
use Rattle.conversion3.specs.declared.decisions.Decision.{Decision}
use Rattle.conversion3.specs.declared.ordered_connections.OrderedConnection.{OrderedConnection}
use Rattle.conversion3.specs.declared.ordered_connections.OrderedFlow.{OrderedFlow}
use Rattle.conversion3.proofs.OrderedLemmas.{alike_of, is_missing, turned}

-- ---- streams without bytes

no_runs : (runs : List Run) (low high : ℕ) → Lie low high runs
    → ((p : ℕ) → spot_of runs p ≡ None) → runs ≡ []
no_runs [] low high l none = refl
no_runs (run ∷ runs) low high l none =
    absurd (shown (run ∷ runs) 0 run run.position (omega arith) (omega arith)
    (omega (arith, l.1.0.0)) (none run.position))

pub is_empty : (shown : Shown) (ordered : Ordered) → IsOrderOf shown ordered → ordered.runs ≡ []
    → ((p : ℕ) → IsMissing ordered p → ⊥) → ordered.marks.strays ≡ 0
    → IsEmptyStream (recorded_of shown)
is_empty shown ordered order none full fits = record {
  none = λ p.
      sym (order.runs.same p) ∙ subst (λ (runs : List Run). spot_of runs p ≡ None) (sym none) refl;
  full = λ p missing.
      full p
      (is_missing (recorded_of shown) ordered p
      (turned ordered (recorded_of shown) (alike_of shown ordered order)) missing);
  fits = subst (λ (m : Marks). m.strays ≡ 0) order.marks fits;
}

-- what is known of a stream of which nothing was sent, in order
pub record IsEmptyInOrder (ordered : Ordered) : Type 0 where
  pub none : ordered.runs ≡ []
  pub full : (p : ℕ) → IsMissing ordered p → ⊥
  pub fits : ordered.marks.strays ≡ 0

pub empty_is : (shown : Shown) (ordered : Ordered) → IsOrderOf shown ordered
    → IsEmptyStream (recorded_of shown) → IsEmptyInOrder ordered
empty_is shown ordered order empty = record {
  none =
      no_runs ordered.runs 0 (2 ^ 63) order.runs.order (λ p. order.runs.same p ∙ empty.none p);
  full = λ p missing.
      empty.full p
      (is_missing ordered (recorded_of shown) p (alike_of shown ordered order) missing);
  fits = subst (λ (m : Marks). m.strays ≡ 0) (sym order.marks) empty.fits;
}

-- ---- lists side by side

pub linked : {A B C : Type 0} (R : A → B → Type 0) (S : B → C → Type 0) (U : A → C → Type 0)
    → ((x : A) (y : B) (z : C) → R x y → S y z → U x z) → (xs : List A) (ys : List B) (zs : List C)
    → AllZip R xs ys → AllZip S ys zs → AllZip U xs zs
linked R S U f [] [] [] r s = tt
linked R S U f [] [] (z ∷ zs) r s = absurd s
linked R S U f [] (y ∷ ys) zs r s = absurd r
linked R S U f (x ∷ xs) [] zs r s = absurd r
linked R S U f (x ∷ xs) (y ∷ ys) [] r s = absurd s
linked R S U f (x ∷ xs) (y ∷ ys) (z ∷ zs) r s =
    (f x y z r.0 s.0, linked R S U f xs ys zs r.1 s.1)

-- the decision is that of any connection that this is in order
abbrev pub IsDecidedIn : (file ports : List ℕ) → OrderedConnection → Decision → Type 0
IsDecidedIn file ports ordered decision =
    (c : Connection) → IsOrderedConnection c ordered → HasDecision file ports c decision

pub all_decided : (file ports : List ℕ) (ordered : List OrderedConnection)
    (decisions : List Decision) → AllZip (IsDecidedIn file ports) ordered decisions
    → AreDecidedIn file ports ordered decisions
all_decided file ports ordered decisions decided connections order =
    linked IsOrderedConnection (IsDecidedIn file ports) (HasDecision file ports)
    (λ c o d is said. said c is) connections ordered decisions order decided

-- ---- an end

pub flow_is_empty : (shown : Option Flow) (sent : OrderedFlow) (result : Bool)
    → IsOrderedFlow shown (Some sent)
    → ((s : Shown) → IsOrderOf s sent.stream → IsTrue result ↔ IsEmptyStream (recorded_of s))
    → IsTrue result ↔ IsEmptyFlow shown
flow_is_empty None sent result order empty = absurd order
flow_is_empty (Some flow) sent result order empty = empty flow.stream order.0
