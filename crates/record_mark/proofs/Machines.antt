-- Laws of every machine over bytes.
use Rattle.std.proofs.Common.{zero-add, ◌≡◌, ◌≢◌, ℕ, suc, ◌+◌, ap₂, List, [], ◌∷◌, ◌++◌, length, refl, sym, ap, subst, ◌∙◌, append_assoc, append-nil, arith}
use Rattle.record_mark.specs.Machine.{Next, Goes, Ends, Run, Runs, Stops, Stopped, landed, step, after, within, last_running}

-- it does not matter how the bytes are cut
pub after-append : {S X : Type 0} (next : S → ℕ → Next S X) (run : Run S X) (front back : List ℕ)
    → after next run (front ++ back) ≡ after next (after next run front) back
after-append next run [] back = refl
after-append next run (byte ∷ bytes) back = after-append next (step next run byte) bytes back

pub after_stopped : {S X : Type 0} (next : S → ℕ → Next S X) (x : X) (bytes : List ℕ)
    → after next (Stopped x) bytes ≡ Stopped x
after_stopped next x [] = refl
after_stopped next x (byte ∷ bytes) = after_stopped next x bytes

-- bytes, and what an outcome was shown by
pub record Earlier (X : Type 0) (Ending : List ℕ → X → Type 0) (bytes : List ℕ) (x : X) : Type
    0 where
  pub front : List ℕ
  pub byte : ℕ
  pub back : List ℕ
  pub split : bytes ≡ front ++ byte ∷ back
  pub ending : Ending front x

-- what a run tells of the bytes that it took
abbrev pub Tells : {S X : Type 0} → (List ℕ → S → Type 0) → (List ℕ → X → Type 0) → List ℕ → Run S X
    → Type 0
Tells Standing Ending bytes (Runs s) = Standing bytes s
Tells Standing Ending bytes (Stops x) = Ending bytes x
Tells {S} {X} Standing Ending bytes (Stopped x) = Earlier X Ending bytes x

-- what one byte leads to, told of the bytes with it
abbrev pub Leads : {S X : Type 0} → (List ℕ → S → Type 0) → (List ℕ → X → Type 0) → List ℕ
    → Next S X → Type 0
Leads Standing Ending bytes (Goes s) = Standing bytes s
Leads Standing Ending bytes (Ends x) = Ending bytes x

tells_landed : {S X : Type 0} (Standing : List ℕ → S → Type 0) (Ending : List ℕ → X → Type 0)
    (bytes : List ℕ) (n : Next S X) → Leads Standing Ending bytes n
    → Tells Standing Ending bytes (landed n)
tells_landed Standing Ending bytes (Goes s) h = h
tells_landed Standing Ending bytes (Ends x) h = h

tells_step : {S X : Type 0} (next : S → ℕ → Next S X) (Standing : List ℕ → S → Type 0)
    (Ending : List ℕ → X → Type 0)
    → ((bytes : List ℕ) (s : S) (byte : ℕ) → Standing bytes s
    → Leads Standing Ending (bytes ++ byte ∷ []) (next s byte))
    → (bytes : List ℕ) (run : Run S X) (byte : ℕ) → Tells Standing Ending bytes run
    → Tells Standing Ending (bytes ++ byte ∷ []) (step next run byte)
tells_step next Standing Ending leads bytes (Runs s) byte h =
    tells_landed Standing Ending (bytes ++ byte ∷ []) (next s byte) (leads bytes s byte h)
tells_step next Standing Ending leads bytes (Stops x) byte h =
    record { front = bytes; byte = byte; back = []; split = refl; ending = h }
tells_step next Standing Ending leads bytes (Stopped x) byte h =
    record {
      front = h.front;
      byte = h.byte;
      back = h.back ++ byte ∷ [];
      split =
          ap (λ (b : List ℕ). b ++ byte ∷ []) h.split
          ∙ append_assoc h.front (h.byte ∷ h.back) (byte ∷ []);
      ending = h.ending;
    }

tells_more : {S X : Type 0} (next : S → ℕ → Next S X) (Standing : List ℕ → S → Type 0)
    (Ending : List ℕ → X → Type 0)
    → ((bytes : List ℕ) (s : S) (byte : ℕ) → Standing bytes s
    → Leads Standing Ending (bytes ++ byte ∷ []) (next s byte))
    → (taken : List ℕ) (run : Run S X) (bytes : List ℕ) → Tells Standing Ending taken run
    → Tells Standing Ending (taken ++ bytes) (after next run bytes)
tells_more next Standing Ending leads taken run [] h =
    subst (λ (b : List ℕ). Tells Standing Ending b run) (sym (append-nil taken)) h
tells_more next Standing Ending leads taken run (byte ∷ bytes) h =
    subst (λ (b : List ℕ). Tells Standing Ending b (after next (step next run byte) bytes))
    (append_assoc taken (byte ∷ []) bytes)
    (tells_more next Standing Ending leads (taken ++ byte ∷ []) (step next run byte) bytes
    (tells_step next Standing Ending leads taken run byte h))

-- what a step keeps, a whole run tells
pub tells : {S X : Type 0} (next : S → ℕ → Next S X) (Standing : List ℕ → S → Type 0)
    (Ending : List ℕ → X → Type 0)
    → ((bytes : List ℕ) (s : S) (byte : ℕ) → Standing bytes s
    → Leads Standing Ending (bytes ++ byte ∷ []) (next s byte))
    → (start : S) → Standing [] start → (bytes : List ℕ)
    → Tells Standing Ending bytes (after next (Runs start) bytes)
tells next Standing Ending leads start h bytes =
    tells_more next Standing Ending leads [] (Runs start) bytes h

-- a machine inside another
pub leads_within : {S X T Y : Type 0} (Standing : List ℕ → S → Type 0)
    (Ending : List ℕ → X → Type 0) (Outer : List ℕ → T → Type 0) (Outcome : List ℕ → Y → Type 0)
    (inside : S → T) (closing : X → Next T Y) (inner outer : List ℕ)
    → ((s : S) → Standing inner s → Outer outer (inside s))
    → ((x : X) → Ending inner x → Leads Outer Outcome outer (closing x))
    → (n : Next S X) → Leads Standing Ending inner n
    → Leads Outer Outcome outer (within inside closing n)
leads_within Standing Ending Outer Outcome inside closing inner outer goes ends (Goes s) h =
    goes s h
leads_within Standing Ending Outer Outcome inside closing inner outer goes ends (Ends x) h =
    ends x h

pub not_runs : {S X : Type 0} (next : S → ℕ → Next S X) (x : X) (s : S) (bytes : List ℕ)
    → after next (Stops x) bytes ≢ Runs s
not_runs next x s [] e = cc
not_runs next x s (byte ∷ bytes) e = let same = after_stopped next x bytes in cc

pub only_stops : {S X : Type 0} (next : S → ℕ → Next S X) (x y : X) (bytes : List ℕ)
    → after next (Stops x) bytes ≡ Stops y → (bytes ≡ []) × (x ≡ y)
only_stops next x y [] e = (refl, cc)
only_stops next x y (byte ∷ bytes) e = let same = after_stopped next x bytes in absurd (cc)

-- The outer machine runs as the inner one does. Its state may count the bytes that are left.
runs_on : {S X T Y : Type 0} (inner : S → ℕ → Next S X) (outer : T → ℕ → Next T Y) (inside : S → T)
    (closing : X → Next T Y) (bytes : List ℕ) (t : S) (end : T)
    → ((s : S) → after inner (Runs s) bytes ≡ Runs t
    → after outer (Runs (inside s)) bytes ≡ Runs end)
    → (n : Next S X) → after inner (landed n) bytes ≡ Runs t
    → after outer (landed (within inside closing n)) bytes ≡ Runs end
runs_on inner outer inside closing bytes t end on (Goes s) e = on s e
runs_on inner outer inside closing bytes t end on (Ends x) e = absurd (not_runs inner x t bytes e)

pub counted_runs : {S X T Y : Type 0} (inner : S → ℕ → Next S X) (outer : T → ℕ → Next T Y)
    (inside : ℕ → S → T) (closing : ℕ → X → Next T Y)
    → ((n : ℕ) (s : S) (byte : ℕ)
    → outer (inside (suc n) s) byte ≡ within (inside n) (closing n) (inner s byte))
    → (bytes : List ℕ) (n m : ℕ) (s t : S) → n ≡ length bytes + m
    → after inner (Runs s) bytes ≡ Runs t
    → after outer (Runs (inside n s)) bytes ≡ Runs (inside m t)
counted_runs inner outer inside closing commutes [] n m s t size e =
    let same : s ≡ t = cc in
    let left : n ≡ m = omega arith in
    ap₂ (λ k x. Runs (inside k x)) left same
counted_runs inner outer inside closing commutes (byte ∷ bytes) n m s t size e =
    let more : n ≡ suc (length bytes + m) = omega arith in
    ap (λ k. after outer (Runs (inside k s)) (byte ∷ bytes)) more
    ∙ ap (λ next. after outer (landed next) bytes) (commutes (length bytes + m) s byte)
    ∙ runs_on inner outer (inside (length bytes + m)) (closing (length bytes + m)) bytes t
    (inside m t)
    (λ u. counted_runs inner outer inside closing commutes bytes (length bytes + m) m u t refl)
    (inner s byte) e

-- where the inner machine stops, the outer one closes it
stops_on : {S X T Y : Type 0} (inner : S → ℕ → Next S X) (outer : T → ℕ → Next T Y) (inside : S → T)
    (closing : ℕ → X → Next T Y) (bytes : List ℕ) (m : ℕ) (x : X)
    → ((s : S) → after inner (Runs s) bytes ≡ Stops x
    → after outer (Runs (inside s)) bytes ≡ landed (closing m x))
    → (n : Next S X) → after inner (landed n) bytes ≡ Stops x
    → after outer (landed (within inside (closing (length bytes + m)) n)) bytes
    ≡ landed (closing m x)
stops_on inner outer inside closing bytes m x on (Goes s) e = on s e
stops_on inner outer inside closing bytes m x on (Ends y) e =
    let (none, same) = only_stops inner y x bytes e in
    let size : length bytes + m ≡ m = ap (λ b. length b + m) none ∙ zero-add m in
    ap (λ b. after outer (landed (closing (length bytes + m) y)) b) none
    ∙ ap (λ k. landed (closing k y)) size ∙ ap (λ z. landed (closing m z)) same

-- What closes may count the bytes that are left, too.
pub counted_stops : {S X T Y : Type 0} (inner : S → ℕ → Next S X) (outer : T → ℕ → Next T Y)
    (inside : ℕ → S → T) (closing : ℕ → X → Next T Y)
    → ((n : ℕ) (s : S) (byte : ℕ)
    → outer (inside (suc n) s) byte ≡ within (inside n) (closing n) (inner s byte))
    → (bytes : List ℕ) (n m : ℕ) (s : S) (x : X) → n ≡ length bytes + m
    → after inner (Runs s) bytes ≡ Stops x
    → after outer (Runs (inside n s)) bytes ≡ landed (closing m x)
counted_stops inner outer inside closing commutes [] n m s x size e = cc
counted_stops inner outer inside closing commutes (byte ∷ bytes) n m s x size e =
    let more : n ≡ suc (length bytes + m) = omega arith in
    ap (λ k. after outer (Runs (inside k s)) (byte ∷ bytes)) more
    ∙ ap (λ next. after outer (landed next) bytes) (commutes (length bytes + m) s byte)
    ∙ stops_on inner outer (inside (length bytes + m)) closing bytes m x
    (λ u. counted_stops inner outer inside closing commutes bytes (length bytes + m) m u x refl)
    (inner s byte) e

pub nested_runs : {S X T Y : Type 0} (inner : S → ℕ → Next S X) (outer : T → ℕ → Next T Y)
    (inside : S → T) (closing : X → Next T Y)
    → ((s : S) (byte : ℕ) → outer (inside s) byte ≡ within inside closing (inner s byte))
    → (bytes : List ℕ) (s t : S) → after inner (Runs s) bytes ≡ Runs t
    → after outer (Runs (inside s)) bytes ≡ Runs (inside t)
nested_runs inner outer inside closing commutes bytes s t =
    let size : length bytes + 0 ≡ length bytes + 0 = refl in
    counted_runs inner outer (λ _. inside) (λ _. closing) (λ _. commutes) bytes (length bytes + 0) 0
    s t size

pub nested_stops : {S X T Y : Type 0} (inner : S → ℕ → Next S X) (outer : T → ℕ → Next T Y)
    (inside : S → T) (closing : X → Next T Y)
    → ((s : S) (byte : ℕ) → outer (inside s) byte ≡ within inside closing (inner s byte))
    → (bytes : List ℕ) (s : S) (x : X) → after inner (Runs s) bytes ≡ Stops x
    → after outer (Runs (inside s)) bytes ≡ landed (closing x)
nested_stops inner outer inside closing commutes bytes s x =
    counted_stops inner outer (λ _. inside) (λ _. closing) (λ _. commutes) bytes (length bytes + 0)
    0 s x refl

-- before the last byte it ran
ran : {S X : Type 0} (next : S → ℕ → Next S X) (run : Run S X) (byte : ℕ) (bytes : List ℕ) (x : X)
    → after next run (byte ∷ bytes) ≡ Stops x → (s : S) × (run ≡ Runs s)
ran next (Runs s) byte bytes x e = (s, refl)
ran next (Stops y) byte bytes x e = let same = after_stopped next y bytes in absurd (cc)
ran next (Stopped y) byte bytes x e = let same = after_stopped next y bytes in absurd (cc)

pub ran_before : {S X : Type 0} (next : S → ℕ → Next S X) (run : Run S X) (front : List ℕ)
    (byte : ℕ) (bytes : List ℕ) (x : X) → after next run (front ++ byte ∷ bytes) ≡ Stops x
    → (s : S) × (after next run front ≡ Runs s)
ran_before next run front byte bytes x e =
    ran next (after next run front) byte bytes x
    (sym (after-append next run front (byte ∷ bytes)) ∙ e)

-- where it runs in the end, it ran before
ran_on : {S X : Type 0} (next : S → ℕ → Next S X) (run : Run S X) (bytes : List ℕ) (t : S)
    → after next run bytes ≡ Runs t → (s : S) × (run ≡ Runs s)
ran_on next (Runs s) bytes t e = (s, refl)
ran_on next (Stops y) bytes t e = absurd (not_runs next y t bytes e)
ran_on next (Stopped y) bytes t e = let same = after_stopped next y bytes in absurd (cc)

pub ran_to : {S X : Type 0} (next : S → ℕ → Next S X) (run : Run S X) (front back : List ℕ) (t : S)
    → after next run (front ++ back) ≡ Runs t → (s : S) × (after next run front ≡ Runs s)
ran_to next run front back t e =
    ran_on next (after next run front) back t (sym (after-append next run front back) ∙ e)

-- the last state in which it runs is the one after the longest front that it takes
pub record RunsAlong {S X : Type 0} (next : S → ℕ → Next S X) (s : S) (bytes : List ℕ) (t : S) :
    Type 0 where
  pub front : List ℕ
  pub rest : List ℕ
  pub split : bytes ≡ front ++ rest
  pub runs : after next (Runs s) front ≡ Runs t
  pub stops : (byte : ℕ) (more : List ℕ) → rest ≡ byte ∷ more → (x : X) × (next t byte ≡ Ends x)

pub runs_along : {S X : Type 0} (next : S → ℕ → Next S X) (s : S) (bytes : List ℕ)
    → RunsAlong next s bytes (last_running next s bytes)
runs_along next s [] =
    record { front = []; rest = []; split = refl; runs = refl; stops = λ byte more e. cc }
runs_along {S} {X} next s (byte ∷ bytes) = go (next s byte) refl (λ t. runs_along next t bytes)
  where
    go : (n : Next S X) → next s byte ≡ n
        → ((t : S) → RunsAlong next t bytes (last_running next t bytes))
        → RunsAlong next s (byte ∷ bytes)
        (elim n [ Goes t ↦ last_running next t bytes | Ends x ↦ s ])
    go (Goes t) e rest =
        let r = rest t in
        record {
          front = byte ∷ r.front;
          rest = r.rest;
          split = ap (λ (b : List ℕ). byte ∷ b) r.split;
          runs = ap (λ n. after next (landed n) r.front) e ∙ r.runs;
          stops = r.stops;
        }
    go (Ends x) e rest =
        record {
          front = [];
          rest = byte ∷ bytes;
          split = refl;
          runs = refl;
          stops = λ other more same.
              (x, (let first : other ≡ byte = cc in ap (next s) first ∙ e));
        }

last_on : {S X : Type 0} (next : S → ℕ → Next S X) (front rest : List ℕ) (s : S)
    → ((t : S) → after next (Runs t) front ≡ Runs s
    → last_running next t (front ++ rest) ≡ last_running next s rest)
    → (old : S) (n : Next S X) → after next (landed n) front ≡ Runs s
    → elim n [ Goes t ↦ last_running next t (front ++ rest) | Ends x ↦ old ]
    ≡ last_running next s rest
last_on next front rest s on old (Goes t) e = on t e
last_on next front rest s on old (Ends x) e = absurd (not_runs next x s front e)

pub last_running-append : {S X : Type 0} (next : S → ℕ → Next S X) (start s : S)
    (front rest : List ℕ) → after next (Runs start) front ≡ Runs s
    → last_running next start (front ++ rest) ≡ last_running next s rest
last_running-append next start s [] rest e =
    let same : start ≡ s = cc in ap (λ t. last_running next t rest) same
last_running-append next start s (byte ∷ front) rest e =
    last_on next front rest s (λ t. last_running-append next t s front rest) start (next start byte)
    e

-- where the next byte ends it, it is the last
pub last_running_here : {S X : Type 0} (next : S → ℕ → Next S X) (s : S) (rest : List ℕ)
    → ((byte : ℕ) (more : List ℕ) → rest ≡ byte ∷ more → (x : X) × (next s byte ≡ Ends x))
    → last_running next s rest ≡ s
last_running_here next s [] h = refl
last_running_here next s (byte ∷ more) h =
    let e = h byte more refl in
    ap (λ n. elim n [ Goes t ↦ last_running next t more | Ends x ↦ s ]) e.1

-- what comes after the end changes nothing
last_stopped_on : {S X : Type 0} (next : S → ℕ → Next S X) (front rest : List ℕ) (x : X)
    → ((t : S) → after next (Runs t) front ≡ Stops x
    → last_running next t (front ++ rest) ≡ last_running next t front)
    → (old : S) (n : Next S X) → after next (landed n) front ≡ Stops x
    → ◌≡◌ {A = S} (elim n [ Goes t ↦ last_running next t (front ++ rest) | Ends y ↦ old ])
    (elim n [ Goes t ↦ last_running next t front | Ends y ↦ old ])
last_stopped_on next front rest x on old (Goes t) e = on t e
last_stopped_on next front rest x on old (Ends y) e = refl

pub last_stopped : {S X : Type 0} (next : S → ℕ → Next S X) (s : S) (front rest : List ℕ) (x : X)
    → after next (Runs s) front ≡ Stops x
    → last_running next s (front ++ rest) ≡ last_running next s front
last_stopped next s [] rest x e = absurd (cc)
last_stopped next s (byte ∷ front) rest x e =
    last_stopped_on next front rest x (λ t. last_stopped next t front rest x) s (next s byte) e

-- the last state of the outer machine is that of the inner one
nested_last_on : {S X T Y : Type 0} (inner : S → ℕ → Next S X) (outer : T → ℕ → Next T Y)
    (inside : S → T) (closing : X → Next T Y) (bytes : List ℕ) (x : X) (y : Y)
    → closing x ≡ Ends y
    → ((t : S) → after inner (Runs t) bytes ≡ Stops x
    → last_running outer (inside t) bytes ≡ inside (last_running inner t bytes))
    → (old : S) (n : Next S X) → after inner (landed n) bytes ≡ Stops x
    → elim (within inside closing n) [ Goes t ↦ last_running outer t bytes | Ends z ↦ inside old ]
    ≡ inside (elim n [ Goes t ↦ last_running inner t bytes | Ends z ↦ old ])
nested_last_on inner outer inside closing bytes x y ends on old (Goes t) e = on t e
nested_last_on inner outer inside closing bytes x y ends on old (Ends z) e =
    let (none, same) = only_stops inner z x bytes e in
    ap (λ n. elim n [ Goes t ↦ last_running outer t bytes | Ends w ↦ inside old ])
    (ap closing same ∙ ends)

pub nested_last : {S X T Y : Type 0} (inner : S → ℕ → Next S X) (outer : T → ℕ → Next T Y)
    (inside : S → T) (closing : X → Next T Y)
    → ((s : S) (byte : ℕ) → outer (inside s) byte ≡ within inside closing (inner s byte))
    → (bytes : List ℕ) (s : S) (x : X) (y : Y) → closing x ≡ Ends y
    → after inner (Runs s) bytes ≡ Stops x
    → last_running outer (inside s) bytes ≡ inside (last_running inner s bytes)
nested_last inner outer inside closing commutes [] s x y ends e = absurd (cc)
nested_last inner outer inside closing commutes (byte ∷ bytes) s x y ends e =
    ap (λ n. elim n [ Goes t ↦ last_running outer t bytes | Ends z ↦ inside s ]) (commutes s byte)
    ∙ nested_last_on inner outer inside closing bytes x y ends
    (λ t. nested_last inner outer inside closing commutes bytes t x y ends) s (inner s byte) e
