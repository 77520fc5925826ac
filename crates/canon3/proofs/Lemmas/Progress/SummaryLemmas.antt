-- From what was handed out to what a capture has.
use Rattle.std.proofs.Common.{◌≡◌, ℕ, min, Result, Ok, Err, List, [], ◌∷◌, ◌++◌, length, refl, subst, sym, append-nil, arith, inl, inr, ◌⊎◌}
use Rattle.canon3.proofs.Common.{bytes_eq, Gave, Observed, IsPrefixOf, flat_map-append, Error, Entry, items_of, Typed, distinct, number_limit, handles, Summary}
use Rattle.std.specs.Cmp.Lexicographic.{nat_list_eq_equiv}
use Rattle.capture3.specs.declared.fault.Error.TheVariants as errors
use Rattle.capture3.specs.declared.fault.Fault.{Fault}
use Rattle.capture3.specs.Entries.{IsShownBy}
use Rattle.capture3.specs.FirstFault.{FirstFault}
use Rattle.capture3.specs.Observed.{IsSpent}
use Rattle.std.specs.Prelude.{IfErr, Option, ◌≢◌}
use Rattle.canon3.specs.EntryWriter.{WritesGiven}
use Rattle.canon3.specs.HandleTable.{all_items, nothing}
use Rattle.canon3.specs.WriteErrors.{CountsWriting}
use Rattle.canon3.specs.Summary.{ConcludesAll, ConcludesGiven}
use Rattle.canon3.proofs.Lemmas.Order.InOrder.{typed_in_order}
use Rattle.capture3.proofs.Lemmas.Connections.RankLemmas.{length-with_keys}

pub items_with_last : (front : List Entry) (last : Entry)
    → all_items (front ++ last ∷ []) ≡ all_items front ++ items_of last
items_with_last front last = simp (flat_map-append, append-nil)

-- there are few enough handles to be counted
pub few_distinct : (bytes : List ℕ) (entries : List Entry) → Typed bytes entries
    → min (length (distinct bytes_eq (handles entries))) number_limit
    ≡ length (distinct bytes_eq (handles entries))
few_distinct bytes entries typed =
    omega (
      arith,
      (typed_in_order bytes entries typed).few_handles,
      length-with_keys bytes_eq nat_list_eq_equiv (handles entries) [],
    )

-- the bytes given show this fault
abbrev IsFirstGiven : (observed : Observed) (given : List ℕ) → Fault → Type 0
IsFirstGiven observed given fault = ((rest : List ℕ) → FirstFault (given ++ rest) fault)
    ⊎ (IsSpent observed × FirstFault given fault)

-- what was handed out is left out
pub first_given : (observed : Observed) (given : List ℕ) (handed : List Entry) (fault : Fault)
    → IsShownBy observed given handed fault → IsFirstGiven observed given fault
first_given observed given handed fault (inl whatever) = inl (λ rest. (whatever rest).0)
first_given observed given handed fault (inr (ended, first, reached)) = inr (ended, first)

-- of all bytes, of which those that were given are a prefix
pub first_of_all : (observed : Observed) (given bytes : List ℕ) (fault : Fault)
    → IsPrefixOf observed given bytes → IsFirstGiven observed given fault → FirstFault bytes fault
first_of_all observed given bytes fault p (inl whatever) =
    subst (λ (b : List ℕ). FirstFault b fault) (sym p.split) (whatever p.rest)
first_of_all observed given bytes fault p (inr (ended, first)) =
    subst (λ (b : List ℕ). FirstFault b fault) (p.all ended) first

pub concluded : (bytes : List ℕ) (old new : Observed) (result : Result Summary Error)
    → ((given : List ℕ) → Gave old new given → IsPrefixOf new given bytes)
    → ConcludesGiven old new result → ConcludesAll bytes result
concluded bytes old new (Ok summary) prefix (given, gave, ended, is) =
    (rw ((prefix given gave).all ended) at is, tt)
concluded bytes old new (Err (errors.Refused fault)) prefix shown =
    (tt, first_of_all new shown.given bytes fault (prefix shown.given shown.gave) shown.first)
concluded bytes old new (Err _) prefix c = (tt, tt)

-- what is concluded where nothing was written
pub concludes : (old new : Observed) (result : Result Summary Error) (written : Option (List ℕ))
    → IfErr result (λ error. error ≢ errors.Write)
    → WritesGiven nothing (old, new) (written, written) result → ConcludesGiven old new result
concludes old new (Ok summary) written never (entries, all, is, appends) =
    (all.given, all.gave, all.ended, is)
concludes old new (Err (errors.Refused fault)) written never
    (given, gave, (entries, shown, appends)) =
    record { given = given; gave = gave; first = first_given new given entries fault shown }
concludes old new (Err errors.Read) written never (given, gave, met) = (given, gave)
concludes old new (Err errors.Write) written never w = absurd (never refl)
concludes old new (Err errors.Memory) written never (given, gave, met) = (given, gave)

-- where no write failed
pub no_write : {X : Type 0} (result : Result X Error) → CountsWriting 0 0 result
    → IfErr result (λ error. error ≢ errors.Write)
no_write (Ok x) counts = tt
no_write (Err (errors.Refused fault)) counts = λ e. absurd (cc)
no_write (Err errors.Read) counts = λ e. absurd (cc)
no_write (Err errors.Memory) counts = λ e. absurd (cc)
no_write (Err errors.Write) counts = absurd (omega (arith, counts))
