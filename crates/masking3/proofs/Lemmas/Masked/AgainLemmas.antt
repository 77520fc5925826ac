-- Masking again changes nothing.
use Rattle.masking3.proofs.Common.{◌≡◌, List, sym, ap, ◌∙◌, Entry, Ways, masked, masked_values, values, names_by, HasRoomForNumbers, KeepsAll, StaysMasked}
use Rattle.masking3.proofs.Lemmas.Masked.SameButLemmas.{masked_alike, number_pairs, numbers_agree, own_masked, values_kept}
use Rattle.masking3.proofs.Lemmas.Unnamed.UnnamedLemmas.{names_again, names_kept, values_of_named}

-- the masked values are a change, which leaves the masked form
pub again : (ways : Ways) (entries : List Entry) → HasRoomForNumbers entries
    → StaysMasked ways entries
again ways entries room =
    ap (names_by ways) (values_of_named ways ways (masked_values ways entries))
    ∙ names_again ways (masked_values ways (masked_values ways entries))
    ∙ ap (names_by ways) (sym (masked_alike ways (number_pairs (values entries))
    (numbers_agree entries) (own_masked ways entries (λ c n. room c))))

pub all_kept : (ways : Ways) → KeepsAll ways → (entries : List Entry)
    → masked ways entries ≡ entries
all_kept ways keeps entries =
    names_kept ways keeps (masked_values ways entries)
    ∙ values_kept ways keeps entries
