-- A machine over bytes tells what it is shown to tell, where they are bytes.
use Rattle.capture3.proofs.Common.{ℕ, List, [], ◌∷◌, ◌++◌, refl, AreBytes, Next, Goes, Ends, Run, Runs, Stops, Stopped, after, Leads, Tells, tells}
use Rattle.capture3.proofs.Lemmas.Container.BytesOf.{split_bytes}

-- so far as these are bytes
abbrev WhereBytes : {X : Type 0} → (List ℕ → X → Type 0) → List ℕ → X → Type 0
WhereBytes Holds bytes x = AreBytes bytes → Holds bytes x

leads_bytes : {S X : Type 0} (Standing : List ℕ → S → Type 0) (Ending : List ℕ → X → Type 0)
    (bytes : List ℕ) (n : Next S X) → (AreBytes bytes → Leads Standing Ending bytes n)
    → Leads (WhereBytes Standing) (WhereBytes Ending) bytes n
leads_bytes Standing Ending bytes (Goes s) h = h
leads_bytes Standing Ending bytes (Ends x) h = h

told_bytes : {S X : Type 0} (Standing : List ℕ → S → Type 0) (Ending : List ℕ → X → Type 0)
    (bytes : List ℕ) (run : Run S X) → AreBytes bytes
    → Tells (WhereBytes Standing) (WhereBytes Ending) bytes run → Tells Standing Ending bytes run
told_bytes Standing Ending bytes (Runs s) are h = h are
told_bytes Standing Ending bytes (Stops x) are h = h are
told_bytes Standing Ending bytes (Stopped x) are h =
    record {
      front = h.front;
      byte = h.byte;
      back = h.back;
      split = h.split;
      ending = h.ending (split_bytes bytes h.front (h.byte ∷ h.back) h.split are).0;
    }

pub tells_bytes : {S X : Type 0} (next : S → ℕ → Next S X) (Standing : List ℕ → S → Type 0)
    (Ending : List ℕ → X → Type 0)
    → ((bytes : List ℕ) (s : S) (byte : ℕ) → AreBytes (bytes ++ byte ∷ []) → Standing bytes s
    → Leads Standing Ending (bytes ++ byte ∷ []) (next s byte))
    → (start : S) → Standing [] start → (bytes : List ℕ) → AreBytes bytes
    → Tells Standing Ending bytes (after next (Runs start) bytes)
tells_bytes next Standing Ending leads start h bytes are =
    told_bytes Standing Ending bytes (after next (Runs start) bytes) are
    (tells next (WhereBytes Standing) (WhereBytes Ending)
    (λ b s byte standing.
    leads_bytes Standing Ending (b ++ byte ∷ []) (next s byte) (λ all.
    leads b s byte all
    (standing (split_bytes (b ++ byte ∷ []) b (byte ∷ []) refl all).0)))
    start (λ none. h) bytes)
