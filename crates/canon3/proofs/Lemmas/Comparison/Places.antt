-- Where two captures part there is a place.
use Rattle.canon3.proofs.Common.{◌≡◌, ◌⊎◌, ℕ, zero, suc, List, Some, take, refl, subst, inl, inr, ⊤, slice_get, Entry, Pairs, Renames, ended, begins, calls, turns, replies, closes, ends, Same, Client, Server, Place, IsPlaceOf, first_message, second_message, first_ends, second_ends}
use Rattle.canon3.proofs.Lemmas.Order.Order.{Stage, Between, InCalls, InReplies, Over, Steps, begin, call, turn, reply, close, end, Runs, stays, steps, IsWellFormed}

abbrev pub AreAlike : Stage → Stage → Type 0
AreAlike Between Between = ⊤
AreAlike (InCalls xs) (InCalls ys) = ⊤
AreAlike (InReplies xs) (InReplies ys) = ⊤
AreAlike Over Over = ⊤
AreAlike _ _ = ⊥

pub stages_alike : {ps vs : Pairs (List ℕ)} {xs : Pairs ℕ} {xss : List (Pairs ℕ)} {a b : List Entry}
    → Renames ps vs xs xss a b → (s t u v : Stage) → Runs s a u → Runs t b v → AreAlike s t
    → AreAlike u v
stages_alike ended s t u v stays stays k = k
stages_alike (begins r) s t u v (steps begin p) (steps begin q) k = stages_alike r _ _ u v p q tt
stages_alike (calls m r) s t u v (steps (call i f) p) (steps (call j g) q) k =
    stages_alike r _ _ u v p q tt
stages_alike (turns r) s t u v (steps turn p) (steps turn q) k = stages_alike r _ _ u v p q tt
stages_alike (replies m r) s t u v (steps (reply i f) p) (steps (reply j g) q) k =
    stages_alike r _ _ u v p q tt
stages_alike (closes r) s t u v (steps close p) (steps close q) k = stages_alike r _ _ u v p q tt
stages_alike (ends r) s t u v (steps end p) (steps end q) k = stages_alike r _ _ u v p q tt

abbrev PlaceOf : List Entry → Entry → Entry → Type 0
PlaceOf before e f = (place : Place) × IsPlaceOf before (Some e) (Some f) place

-- two entries that may come at one stage
place_of : (before : List Entry) (s t : Stage) (e f : Entry) (u v : Stage) → Steps s e u
    → Steps t f v → AreAlike s t → (e ≡ f) ⊎ PlaceOf before e f
place_of before s t e f u v (call i g) q k = inr (_, first_message Client tt)
place_of before s t e f u v (reply i g) q k = inr (_, first_message Server tt)
place_of before s t e f u v p (call i g) k = inr (_, second_message Client tt)
place_of before s t e f u v p (reply i g) k = inr (_, second_message Server tt)
place_of before s t e f u v begin begin k = inl refl
place_of before s t e f u v begin end k = inr (_, second_ends)
place_of before s t e f u v end begin k = inr (_, first_ends)
place_of before s t e f u v end end k = inl refl
place_of before s t e f u v turn turn k = inl refl
place_of before s t e f u v close close k = inl refl
place_of before s t e f u v p q k = absurd k

pub record At (s : Stage) (es : List Entry) (i : ℕ) (e : Entry) : Type 0 where
  pub here_stage : Stage
  pub next_stage : Stage
  pub front : Runs s (take i es) here_stage
  pub step : Steps here_stage e next_stage

pub stage_at : {s t : Stage} {es : List Entry} → Runs s es t → (i : ℕ) (e : Entry)
    → slice_get es i ≡ Some e → At s es i e
stage_at stays i e h = absurd cc
stage_at {s = s} (steps {t = t} p r) zero e h =
    record { here_stage = s; next_stage = t; front = stays; step = subst (λ x. Steps s x t) (cc) p }
stage_at (steps p r) (suc i) e h =
    let a = stage_at r i e h in
    record { here_stage = _; next_stage = _; front = steps p a.front; step = a.step }

pub place_from_parting : (a b : List Entry) (i : ℕ) (e f : Entry) → IsWellFormed a → IsWellFormed b
    → Same (take i a) (take i b) → slice_get a i ≡ Some e → slice_get b i ≡ Some f
    → (e ≡ f) ⊎ PlaceOf (take i a) e f
place_from_parting a b i e f v w s g h =
    let p = stage_at v.run i e g in
    let q = stage_at w.run i f h in
    place_of (take i a) p.here_stage q.here_stage e f p.next_stage q.next_stage p.step q.step
    (stages_alike s.renames Between Between p.here_stage q.here_stage p.front q.front tt)
