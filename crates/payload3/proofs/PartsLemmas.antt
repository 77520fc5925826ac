-- The bytes of runs, run by run.
use Rattle.std.proofs.Common.{◌≡◌, ℕ, zero, suc, ◌+◌, ◌-◌, ◌<◌, ◌≤◌, List, [], ◌∷◌, ◌++◌, length, take, drop, slice_index_or, refl, sym, subst, ap, ap₂, ◌∙◌, Bool, false, append_assoc, arith, inl, inr}
use Rattle.std.proofs.lemmas.Bool.{cases_lt, iff_false}
use Rattle.std.proofs.lemmas.List.{drop-drop, drop_all, length-drop, length-take, take-append-drop, take_all, take_more}
use Rattle.std.proofs.Math.Seq.{take-append-add}
use Rattle.streams3.specs.declared.runs.Run.{Run}
use Rattle.streams3.specs.Content.{AreIn, content_of}
use Rattle.payload3.specs.declared.parts.RunPart.{RunPart}
use Rattle.payload3.specs.Readings.{Allow, HasBytesRead, OffsetRead}
use Rattle.payload3.specs.Standing.{AreInSoFar, StandsInRuns, payload_left}

next_run : (i : ℕ) (runs : List Run) (none : Run) → i < length runs
    → drop i runs ≡ slice_index_or runs i none ∷ drop (suc i) runs
next_run i [] none h = absurd (omega arith)
next_run zero (run ∷ runs) none h = refl
next_run (suc i) (run ∷ runs) none h = next_run i runs none (omega arith)

-- a run is begun, after which as much is left
pub begins_run : (file : List ℕ) (runs : List Run) (part : RunPart) (none : Run) → part.left ≡ 0
    → part.begun < length runs
    → payload_left file runs (record {
      begun = part.begun + 1;
      at = (slice_index_or runs part.begun none).at;
      left = (slice_index_or runs part.begun none).size;
    })
    ≡ payload_left file runs part
begins_run file runs part none empty more =
    let run = slice_index_or runs part.begun none in
    let next : suc part.begun ≡ part.begun + 1 = omega arith in
    let all : drop part.begun runs ≡ run ∷ drop (part.begun + 1) runs =
    next_run part.begun runs none more
    ∙ ap (λ (k : ℕ). run ∷ drop k runs) next in
    sym (rw (empty, all) refl)

-- ---- runs that lie in the file

are_in_more : (file : List ℕ) (runs : List Run) (run : Run) → AreIn file runs
    → (0 < run.size → run.at + run.size ≤ length file) → AreIn file (runs ++ run ∷ [])
are_in_more file [] run within last = (last, tt)
are_in_more file (one ∷ runs) run within last =
    (within.0, are_in_more file runs run within.1 last)

-- a run is begun
pub begins_within : (file : List ℕ) (runs : List Run) (part : RunPart) (none : Run)
    → part.left ≡ 0 → part.begun < length runs → AreInSoFar file runs part
    → AreInSoFar file runs (record {
      begun = part.begun + 1;
      at = (slice_index_or runs part.begun none).at;
      left = (slice_index_or runs part.begun none).size;
    })
begins_within file runs part none empty more within last =
    subst (AreIn file) (sym (take_more runs part.begun none more))
    (are_in_more file (take part.begun runs) (slice_index_or runs part.begun none)
    (within (λ some. absurd (omega (arith, some, empty)))) last)

-- some bytes of it were read
read_within : (file bytes : List ℕ) (runs : List Run) (part : RunPart) (n : ℕ)
    → take (length bytes) (drop part.at file) ≡ bytes → length bytes ≡ n → 0 < n
    → AreInSoFar file runs part
    → AreInSoFar file runs (record {
      begun = part.begun;
      at = part.at + n;
      left = part.left - n;
    })
read_within file bytes runs part n are size some within last =
    within (λ left.
    elim (cases_lt n part.left) [
      | inl fewer ↦
          let end : part.at + n + (part.left - n) ≤ length file = last (omega (arith, fewer)) in
          omega (arith, end, fewer)
      | inr all ↦
          omega (
            arith,
            all,
            some,
            size,
            ap length are,
            length-take (length bytes) (drop part.at file),
            length-drop part.at file,
          )
    ])

-- all runs were begun, and nothing is left
pub all_within : (file : List ℕ) (runs : List Run) (part : RunPart) → part.left ≡ 0
    → length runs ≤ part.begun → AreInSoFar file runs part → AreIn file runs
all_within file runs part empty all within =
    subst (AreIn file) (take_all part.begun runs all)
    (within (λ some. absurd (omega (arith, some, empty))))

-- nothing is left after the last run
pub nothing_left : (file : List ℕ) (runs : List Run) (part : RunPart) → part.left ≡ 0
    → length runs ≤ part.begun → payload_left file runs part ≡ []
nothing_left file runs part empty all = rw (empty, drop_all part.begun runs all) refl

-- bytes of a run were given, after which fewer are left
pub gives_more : (file given bytes : List ℕ) (runs : List Run) (old part : RunPart)
    → content_of file runs ≡ given ++ payload_left file runs old
    → payload_left file runs part ≡ payload_left file runs old
    → take (length bytes) (drop part.at file) ≡ bytes → length bytes ≤ part.left
    → content_of file runs ≡ (given ++ bytes) ++ payload_left file runs (record {
      begun = part.begun;
      at = part.at + length bytes;
      left = part.left - length bytes;
    })
gives_more file given bytes runs old part all same are few =
    let n = length bytes in
    let rest = take (part.left - n) (drop (part.at + n) file) in
    let more = content_of file (drop part.begun runs) in
    let size : part.left ≡ n + (part.left - n) = omega (arith, few) in
    let later : drop n (drop part.at file) ≡ drop (part.at + n) file = drop-drop n part.at file in
    let whole : drop part.at file ≡ bytes ++ drop (part.at + n) file =
    sym (take-append-drop n (drop part.at file))
    ∙ ap₂ (λ (l r : List ℕ). l ++ r) are later in
    let split : take part.left (drop part.at file) ≡ bytes ++ rest =
    ap (λ (k : ℕ). take k (drop part.at file)) size
    ∙ ap (take (n + (part.left - n))) whole
    ∙ take-append-add bytes (drop (part.at + n) file) (part.left - n) in
    all
    ∙ ap (λ (l : List ℕ). given ++ l) (sym same ∙ ap (λ (l : List ℕ). l ++ more) split
    ∙ append_assoc bytes rest more)
    ∙ sym (append_assoc given bytes (rest ++ more))

pub allow_both : (file : List ℕ) (readings : List OffsetRead) (reading : OffsetRead)
    → Allow (readings ++ reading ∷ []) file → Allow readings file × HasBytesRead file reading
allow_both file [] reading h = (tt, h.0)
allow_both file (one ∷ readings) reading h =
    let both = allow_both file readings reading h.1 in ((h.0, both.0), both.1)

-- so many bytes of a run were read, and given
pub stands_more : (runs : List Run) (before after : List OffsetRead) (given more bytes : List ℕ)
    (failures n : ℕ) (is_spent : Bool) (old part : RunPart)
    → StandsInRuns (record {
      runs = runs;
      readings = before;
      given = given;
      failures = failures;
      is_spent = is_spent;
    }) old
    → ((file : List ℕ) → payload_left file runs part ≡ payload_left file runs old)
    → ((file : List ℕ) → AreInSoFar file runs old → AreInSoFar file runs part)
    → after ≡ before ++ record { at = part.at; bytes = bytes } ∷ [] → more ≡ given ++ bytes
    → length bytes ≡ n → 0 < n → n ≤ part.left
    → StandsInRuns (record {
      runs = runs;
      readings = after;
      given = more;
      failures = failures;
      is_spent = false;
    }) (record { begun = part.begun; at = part.at + n; left = part.left - n })
stands_more runs before after given more bytes failures n is_spent old part stands same further
    noted all size some few = record {
      first = λ file allows.
          let both =
          allow_both file before (record { at = part.at; bytes = bytes })
          (subst (λ (readings : List OffsetRead). Allow readings file) noted allows) in
          let step =
          gives_more file given bytes runs old part (stands.first file both.0) (same file) both.1
          (omega (arith, size, few)) in
          subst
          (λ (k : ℕ). content_of file runs ≡ more ++ payload_left file runs (record {
            begun = part.begun;
            at = part.at + k;
            left = part.left - k;
          })) size
          (subst
          (λ (l : List ℕ). content_of file runs ≡ l ++ payload_left file runs (record {
            begun = part.begun;
            at = part.at + length bytes;
            left = part.left - length bytes;
          })) (sym all) step);
      within = λ file allows.
          let both =
          allow_both file before (record { at = part.at; bytes = bytes })
          (subst (λ (readings : List OffsetRead). Allow readings file) noted allows) in
          read_within file bytes runs part n both.1 size some
          (further file (stands.within file both.0));
      spent = λ is. absurd (iff_false {b = false} ((λ e. e), (λ e. e)) refl is);
    }
