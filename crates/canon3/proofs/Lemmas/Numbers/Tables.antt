-- Numbers of keys by what they hold.
use Rattle.canon3.proofs.Common.{◌≡◌, ℕ, List, [], ◌∷◌, ◌++◌, map, ap, ap₂, ◌∙◌, min, Result, Ok, Err, map-append, number_limit, rank, HoldsDistinct, handle_bytes, HoldsHandles, same_handle}
use Rattle.std.specs.Prelude.{bytes_eq, IfOk}
use Rattle.nfs3_types.specs.declared.values.handle.Handle as declared
use Rattle.canon3.proofs.Lemmas.Numbers.RankLemmas.{rank_mapped}

mapped_more : (given : List declared.Handle) (handle : declared.Handle) (hs : List (List ℕ))
    (bytes : List ℕ) → map handle_bytes given ≡ hs → handle_bytes handle ≡ bytes
    → map handle_bytes (given ++ handle ∷ []) ≡ hs ++ bytes ∷ []
mapped_more given handle hs bytes are is = simp (map-append, are, is)

-- the rank among handles is the rank among their bytes
pub rank_of_handle : (given : List declared.Handle) (handle : declared.Handle) (hs : List (List ℕ))
    (bytes : List ℕ) → map handle_bytes given ≡ hs → handle_bytes handle ≡ bytes
    → rank same_handle handle (given ++ handle ∷ []) ≡ rank bytes_eq bytes (hs ++ bytes ∷ [])
rank_of_handle given handle hs bytes are is =
    rank_mapped bytes_eq handle_bytes handle (given ++ handle ∷ [])
    ∙ ap₂ (λ (b : List ℕ) (l : List (List ℕ)). rank bytes_eq b l) is
    (mapped_more given handle hs bytes are is)

pub number_by_bytes : {E : Type 0} (r : Result ℕ E) (given : List declared.Handle)
    (handle : declared.Handle) (hs : List (List ℕ)) (bytes : List ℕ)
    → map handle_bytes given ≡ hs → handle_bytes handle ≡ bytes
    → IfOk r (λ n. n ≡ min (rank same_handle handle (given ++ handle ∷ [])) number_limit)
    → IfOk r (λ n. n ≡ min (rank bytes_eq bytes (hs ++ bytes ∷ [])) number_limit)
number_by_bytes (Ok n) given handle hs bytes are is p =
    p ∙ ap (λ m. min m number_limit) (rank_of_handle given handle hs bytes are is)
number_by_bytes (Err e) given handle hs bytes are is p = tt

pub holds_more : (new given : List declared.Handle) (handle : declared.Handle) (hs : List (List ℕ))
    (bytes : List ℕ) → map handle_bytes given ≡ hs → handle_bytes handle ≡ bytes
    → HoldsDistinct same_handle new (given ++ handle ∷ []) → HoldsHandles new (hs ++ bytes ∷ [])
holds_more new given handle hs bytes are is stands =
    (given ++ handle ∷ [], stands, mapped_more given handle hs bytes are is)
