-- The listing grows after the entries so far.
use Rattle.listing3.proofs.Common.{◌≡◌, ℕ, ◌+◌, List, [], ◌∷◌, ◌++◌, sym, ap, ap₂, ◌∙◌, append_assoc, append-nil, arith, Entry, entry_line, lines_after, shown, connections, records_after}
use Rattle.canon3.specs.EntryWriter.{KeepsPrefixes}
use Rattle.canon3.proofs.Lemmas.Progress.ProgressLemmas.{connections-append, records-append}

pub lines-append : (begun records : ℕ) (a b : List Entry)
    → lines_after begun records (a ++ b)
    ≡ lines_after begun records a
    ++ lines_after (begun + connections a) (records_after records a) b
lines-append begun records [] b = ap (λ n. lines_after n records b) (omega arith)
lines-append begun records (e ∷ a) b =
    let more : ℕ = begun + connections (e ∷ []) in
    let next : ℕ = records_after records (e ∷ []) in
    let sum : more + connections a ≡ begun + connections (e ∷ a) =
    omega (arith, connections-append (e ∷ []) a) in
    let last : records_after next a ≡ records_after records (e ∷ a) =
    sym (records-append records (e ∷ []) a) in
    ap (λ (l : List ℕ). entry_line begun records e ++ l) (lines-append more next a b
    ∙ ap₂ (λ n m. lines_after more next a ++ lines_after n m b) sum last)
    ∙ sym (append_assoc (entry_line begun records e) (lines_after more next a)
    (lines_after (begun + connections (e ∷ a)) (records_after records (e ∷ a)) b))

-- what the first entries have is a front of what all have
pub shown_fronts : KeepsPrefixes shown
shown_fronts entries more first = (
  lines_after (0 + connections entries) (records_after 0 entries)
      more,
  lines-append 0 0 entries more,
)

-- one entry more
pub shown_push : (entries : List Entry) (one : Entry) (begun records : ℕ)
    → begun ≡ connections entries → records ≡ records_after 0 entries
    → shown (entries ++ one ∷ []) ≡ shown entries ++ entry_line begun records one
shown_push entries one begun records is are =
    let sum : 0 + connections entries ≡ begun = omega (arith, is) in
    lines-append 0 0 entries (one ∷ [])
    ∙ ap₂ (λ n m. shown entries ++ lines_after n m (one ∷ [])) sum (sym are)
    ∙ ap (λ (l : List ℕ). shown entries ++ l) (append-nil (entry_line begun records one))
