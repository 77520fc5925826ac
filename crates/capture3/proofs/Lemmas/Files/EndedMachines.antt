-- Machines inside others, and machines that are over: at the last byte, or before it.
use Rattle.capture3.proofs.Common.{lengths, ◌≡◌, ◌⊎◌, inl, inr, ℕ, suc, ◌+◌, ◌<◌, List, [], ◌∷◌, ◌++◌, length, refl, ap, subst, ◌∙◌, arith, Next, Goes, Ends, Run, Runs, Stops, Stopped, landed, after, within, Leads, Tells, tells, after-append, after_stopped, counted_runs, counted_stops, nested_runs, nested_stops, IsWord, number, word_next, word_runs, word_stops, Earlier}

-- bytes in two parts, by where the first leads
pub after_two : {S X : Type 0} (next : S → ℕ → Next S X) (run : Run S X) {bytes : List ℕ}
    (front back : List ℕ) → bytes ≡ front ++ back → {here there : Run S X}
    → after next run front ≡ here → after next here back ≡ there → after next run bytes ≡ there
after_two next run front back split e f = rw (split, after-append, e) f

-- it stopped with a bad outcome
abbrev pub Gone : {S X : Type 0} → (X → Type 0) → Run S X → Type 0
Gone {S} {X} Bad run = (y : X) × Bad y × ((run ≡ Stops y) ⊎ (run ≡ Stopped y))

-- it had stopped with a bad outcome before the last byte
abbrev pub Past : {S X : Type 0} → (X → Type 0) → Run S X → Type 0
Past {S} {X} Bad run = (y : X) × Bad y × (run ≡ Stopped y)

-- it stopped with this outcome, or had stopped with a bad one
abbrev pub Over : {S X : Type 0} → (X → Type 0) → Run S X → X → Type 0
Over Bad run x = (run ≡ Stops x) ⊎ Past Bad run

-- it comes to one of these, or it stopped with a bad outcome
pub data Comes {A S X : Type 0} (Bad : X → Type 0) (there : A → Run S X) (run : Run S X) : Type
    0 where
  At : (a : A) → run ≡ there a → Comes Bad there run
  Fails : Gone Bad run → Comes Bad there run

-- where it runs, it has not stopped
pub runs_not_gone : {S X : Type 0} {Bad : X → Type 0} (run : Run S X) (s : S) → run ≡ Runs s
    → Gone Bad run → ⊥
runs_not_gone run s e gone = elim gone.2 [ inl f ↦ cc | inr f ↦ cc ]

pub gone_past : {S X : Type 0} (next : S → ℕ → Next S X) (Bad : X → Type 0) (run : Run S X)
    (bytes : List ℕ) → 0 < length bytes → Gone Bad run → Past Bad (after next run bytes)
gone_past next Bad run [] some h = absurd (omega arith)
gone_past next Bad run (byte ∷ bytes) some h =
    let stays = after_stopped next h.0 bytes in
    (h.0, h.1, elim h.2 [ inl e ↦ rw e stays | inr e ↦ rw e stays ])

pub gone_more : {S X : Type 0} (next : S → ℕ → Next S X) (Bad : X → Type 0) (run : Run S X)
    (bytes : List ℕ) → Gone Bad run → Gone Bad (after next run bytes)
gone_more next Bad run [] h = h
gone_more next Bad run (byte ∷ bytes) h =
    let p = gone_past next Bad run (byte ∷ bytes) (omega arith) h in (p.0, p.1, inr p.2)

-- bytes in two parts, by what the machine comes to after the first
module _ {A S X : Type 0} {Bad : X → Type 0} {here : A → Run S X} (next : S → ℕ → Next S X)
    (run : Run S X) {bytes : List ℕ} (front back : List ℕ) (split : bytes ≡ front ++ back)
    (comes : Comes Bad here (after next run front)) where
  pub comes_on : {B : Type 0} {there : B → Run S X}
      → ((a : A) → Comes Bad there (after next (here a) back))
      → Comes Bad there (after next run bytes)
  comes_on on =
      rw (split, after-append) (elim comes [
        | At a e ↦ rw e (on a)
        | Fails gone ↦ Fails (gone_more next Bad (after next run front) back gone)
      ])

  pub over_on : {x : X} → 0 < length back → ((a : A) → Over Bad (after next (here a) back) x)
      → Over Bad (after next run bytes) x
  over_on some on =
      rw (split, after-append) (elim comes [
        | At a e ↦ rw e (on a)
        | Fails gone ↦ inr (gone_past next Bad (after next run front) back some gone)
      ])

-- where it had stopped, it stopped at an earlier byte
pub stopped_at : {S X : Type 0} (next : S → ℕ → Next S X) (bytes : List ℕ) (s : S) (x : X)
    → after next (Runs s) bytes ≡ Stopped x
    → Earlier X (λ front y. after next (Runs s) front ≡ Stops y) bytes x
stopped_at {S} {X} next bytes s x e =
    subst (Tells Standing Ending bytes) e (tells next Standing Ending
    (λ front t byte h.
    landed_leads (front ++ byte ∷ []) (next t byte)
    (after_two next (Runs s) front (byte ∷ []) refl h refl)) s refl bytes)
  where
    Standing : List ℕ → S → Type 0
    Standing front t = after next (Runs s) front ≡ Runs t

    Ending : List ℕ → X → Type 0
    Ending front y = after next (Runs s) front ≡ Stops y

    landed_leads : (front : List ℕ) (n : Next S X) → after next (Runs s) front ≡ landed n
        → Leads Standing Ending front n
    landed_leads front (Goes t) h = h
    landed_leads front (Ends y) h = h

-- ---- machines inside others

-- A machine inside another, which may count the bytes that are left. A bad outcome is one outside.
pub record Nested {S X T Y : Type 0} (inner : S → ℕ → Next S X) (outer : T → ℕ → Next T Y)
    (inside : ℕ → S → T) (closing : ℕ → X → Next T Y) (Bad : X → Type 0) (Worse : Y → Type 0) :
    Type 0 where
  pub commutes : (n : ℕ) (s : S) (byte : ℕ)
      → outer (inside (suc n) s) byte ≡ within (inside n) (closing n) (inner s byte)
  pub ends : (n : ℕ) (x : X) → Bad x → (y : Y) × Worse y × (closing n x ≡ Ends y)

module _ {S X T Y : Type 0} {inner : S → ℕ → Next S X} {outer : T → ℕ → Next T Y}
    {inside : ℕ → S → T} {closing : ℕ → X → Next T Y} {Bad : X → Type 0} {Worse : Y → Type 0}
    (n : Nested inner outer inside closing Bad Worse) (bytes : List ℕ) (left : ℕ) (s : S) where
  pub runs_inside : {t : S} → after inner (Runs s) bytes ≡ Runs t
      → after outer (Runs (inside (length bytes + left) s)) bytes ≡ Runs (inside left t)
  runs_inside {t} =
      counted_runs inner outer inside closing n.commutes bytes (length bytes + left) left s t refl

  pub stops_inside : {x : X} → after inner (Runs s) bytes ≡ Stops x
      → after outer (Runs (inside (length bytes + left) s)) bytes ≡ landed (closing left x)
  stops_inside {x} =
      counted_stops inner outer inside closing n.commutes bytes (length bytes + left) left s x refl

  pub past_inside : Past Bad (after inner (Runs s) bytes)
      → Past Worse (after outer (Runs (inside (length bytes + left) s)) bytes)
  past_inside h =
      let at = stopped_at inner bytes s h.0 h.2 in
      let rest : ℕ = length (at.byte ∷ at.back) + left in
      let y = n.ends rest h.0 h.1 in
      let size : length bytes + left ≡ length at.front + rest =
      omega (lengths, ap length at.split) in
      let stops =
      counted_stops inner outer inside closing n.commutes at.front (length bytes + left) rest s h.0
      size at.ending in (
        y.0,
        y.1,
        after_two _ _ at.front (at.byte ∷ at.back) at.split (stops ∙ ap landed y.2)
            (after_stopped outer y.0 at.back),
      )

  pub gone_inside : Gone Bad (after inner (Runs s) bytes)
      → Gone Worse (after outer (Runs (inside (length bytes + left) s)) bytes)
  gone_inside h =
      elim h.2 [
        | inl e ↦
            let y = n.ends left h.0 h.1 in (y.0, y.1, inl (stops_inside e ∙ ap landed y.2))
        | inr e ↦ let p = past_inside (h.0, h.1, e) in (p.0, p.1, inr p.2)
      ]

  pub over_inside : {x : X} {y : Y} → closing left x ≡ Ends y
      → Over Bad (after inner (Runs s) bytes) x
      → Over Worse (after outer (Runs (inside (length bytes + left) s)) bytes) y
  over_inside is (inl e) = inl (stops_inside e ∙ ap landed is)
  over_inside is (inr p) = inr (past_inside p)

  -- where it stops, the outer machine closes it
  pub comes_inside : {A B : Type 0} {x : A → X} {there : B → Run T Y}
      → Comes Bad (λ a. Stops (x a)) (after inner (Runs s) bytes)
      → ((a : A) → Comes Worse there (landed (closing left (x a))))
      → Comes Worse there (after outer (Runs (inside (length bytes + left) s)) bytes)
  comes_inside (At a e) on = rw (stops_inside e) (on a)
  comes_inside (Fails gone) on = Fails (gone_inside gone)

-- ---- words

module _ {T Y : Type 0} (outer : T → ℕ → Next T Y) (inside : List ℕ → T) (closing : ℕ → Next T Y)
    (commutes : (s : List ℕ) (byte : ℕ)
    → outer (inside s) byte ≡ within inside closing (word_next s byte)) where
  -- a word that is whole, inside another machine
  pub word_ends : {n : ℕ} (word : List ℕ) → IsWord word n
      → after outer (Runs (inside [])) word ≡ landed (closing n)
  word_ends word is =
      nested_stops word_next outer inside closing commutes word [] (number word)
      (word_stops word is.0) ∙ ap (λ n. landed (closing n)) is.1

  -- and one that is not
  pub word_goes : (part : List ℕ) → length part < 4
      → after outer (Runs (inside [])) part ≡ Runs (inside part)
  word_goes part short =
      nested_runs word_next outer inside closing commutes part [] part (word_runs part short)
