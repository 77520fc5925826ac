-- Words, and pieces joined.
use Rattle.record_mark.proofs.Common.{◌≡◌, ℕ, ◌<◌, List, [], ◌∷◌, ◌++◌, length, refl, sym, ap, ◌∙◌, append_assoc, append-nil, arith, concat, Runs, Stops, after, IsWord, Joins, number, word_next}
use Rattle.record_mark.proofs.Machines.{Leads}

-- what has come of a word
abbrev pub IsPart : List ℕ → List ℕ → Type 0
IsPart bytes part = (bytes ≡ part) × (length part < 4)

pub word_leads : (part : List ℕ) (byte : ℕ) → length part < 4
    → Leads IsPart IsWord (part ++ byte ∷ []) (word_next part byte)
word_leads [] byte h = (refl, omega arith)
word_leads (a ∷ []) byte h = (refl, omega arith)
word_leads (a ∷ b ∷ []) byte h = (refl, omega arith)
word_leads (a ∷ b ∷ c ∷ []) byte h = (refl, refl)
word_leads (a ∷ b ∷ c ∷ d ∷ more) byte h = absurd (omega arith)

pub word_runs : (part : List ℕ) → length part < 4 → after word_next (Runs []) part ≡ Runs part
word_runs [] h = refl
word_runs (a ∷ []) h = refl
word_runs (a ∷ b ∷ []) h = refl
word_runs (a ∷ b ∷ c ∷ []) h = refl
word_runs (a ∷ b ∷ c ∷ d ∷ more) h = absurd (omega arith)

pub word_stops : (word : List ℕ) → length word ≡ 4
    → after word_next (Runs []) word ≡ Stops (number word)
word_stops [] h = absurd (omega arith)
word_stops (a ∷ []) h = absurd (omega arith)
word_stops (a ∷ b ∷ []) h = absurd (omega arith)
word_stops (a ∷ b ∷ c ∷ []) h = absurd (omega arith)
word_stops (a ∷ b ∷ c ∷ d ∷ []) h = refl
word_stops (a ∷ b ∷ c ∷ d ∷ e ∷ more) h = absurd (omega arith)

-- one piece more at the end
pub Joins-snoc : {X : Type 0} (Spells : List ℕ → X → Type 0) (xs : List X) (bytes piece : List ℕ)
    (x : X) → Joins Spells bytes xs → Spells piece x
    → Joins Spells (bytes ++ piece) (xs ++ x ∷ [])
Joins-snoc Spells [] bytes piece x h s =
    (piece, [], ap (λ (b : List ℕ). b ++ piece) h ∙ sym (append-nil piece), s, refl)
Joins-snoc Spells (y ∷ ys) bytes piece x h s = (
  h.0,
  h.1 ++ piece,
  ap (λ (b : List ℕ). b ++ piece) h.2 ∙ append_assoc h.0 h.1 piece,
  h.3,
  Joins-snoc Spells ys h.1 piece x h.4 s,
)

pub concat-snoc : (parts : List (List ℕ)) (part : List ℕ)
    → concat (parts ++ part ∷ []) ≡ concat parts ++ part
concat-snoc [] part = append-nil part
concat-snoc (p ∷ parts) part =
    ap (λ (b : List ℕ). p ++ b) (concat-snoc parts part) ∙ sym (append_assoc p (concat parts) part)
