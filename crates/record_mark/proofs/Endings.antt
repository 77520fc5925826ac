-- A machine ends once, so that a stream has one list of bodies.
use Rattle.record_mark.proofs.Common.{◌≡◌, ℕ, List, [], ◌∷◌, ◌++◌, refl, sym, ap, ap₂, subst, ◌∙◌, Next, Run, Runs, Stops, step, after, Between, Whole, join_next}
use Rattle.record_mark.specs.RecordMark.{IsRecord, Marks}
use Rattle.record_mark.proofs.Machines.{after_stopped}
use Rattle.record_mark.proofs.Joins.{record_stops}

-- two fronts of the same bytes are one, and so is what they end with
pub record IsOneEnding {X : Type 0} (front back other rest : List ℕ) (x y : X) : Type 0 where
  pub fronts : front ≡ other
  pub backs : back ≡ rest
  pub ends : x ≡ y

pub stops_once : {S X : Type 0} (next : S → ℕ → Next S X) (run : Run S X)
    (front back other rest : List ℕ) (x y : X) → front ++ back ≡ other ++ rest
    → after next run front ≡ Stops x → after next run other ≡ Stops y
    → IsOneEnding front back other rest x y
stops_once next run [] back [] rest x y split e f =
    record { fronts = refl; backs = split; ends = cc }
stops_once next run [] back (b ∷ other) rest x y split e f =
    let stays = ap (λ r. after next r (b ∷ other)) e ∙ after_stopped next x other in absurd (cc)
stops_once next run (a ∷ front) back [] rest x y split e f =
    let stays = ap (λ r. after next r (a ∷ front)) f ∙ after_stopped next y front in absurd (cc)
stops_once next run (a ∷ front) back (b ∷ other) rest x y split e f =
    let head : a ≡ b = cc in
    let once =
    stops_once next (step next run a) front back other rest x y (cc) e
    (ap (λ c. after next (step next run c) other) head ∙ f) in
    let fronts : a ∷ front ≡ b ∷ other = ap₂ (λ c (l : List ℕ). c ∷ l) head once.fronts in
    record { fronts = fronts; backs = once.backs; ends = once.ends }

-- a record has bytes
record_has_bytes : (bytes body : List ℕ) → bytes ≡ [] → IsRecord bytes body → ⊥
record_has_bytes bytes body none h =
    let stops = ap (after join_next (Runs Between)) (sym none) ∙ record_stops bytes body h in cc

no_bytes : (front rest : List ℕ) → [] ≡ front ++ rest → front ≡ []
no_bytes [] rest e = refl
no_bytes (b ∷ front) rest e = absurd (cc)

pub one_list : (stream : List ℕ) (bodies others : List (List ℕ)) → Marks stream bodies
    → Marks stream others → bodies ≡ others
one_list stream [] [] h k = refl
one_list stream [] (other ∷ others) h k =
    absurd (record_has_bytes k.0 other (no_bytes k.0 k.1 (sym h ∙ k.2)) k.3)
one_list stream (body ∷ bodies) [] h k =
    absurd (record_has_bytes h.0 body (no_bytes h.0 h.1 (sym k ∙ h.2)) h.3)
one_list stream (body ∷ bodies) (other ∷ others) h k =
    let once =
    stops_once join_next (Runs Between) h.0 h.1 k.0 k.1 (Whole body) (Whole other) (sym h.2 ∙ k.2)
    (record_stops h.0 body h.3) (record_stops k.0 other k.3) in
    let same = once.ends in
    let first : body ≡ other = cc in
    ap₂ (λ (b : List ℕ) (l : List (List ℕ)). b ∷ l) first (one_list h.1 bodies others h.4
    (subst (λ (s : List ℕ). Marks s others) (sym once.backs) k.4))
