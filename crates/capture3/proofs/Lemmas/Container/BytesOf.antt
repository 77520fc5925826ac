-- What is made of bytes is bytes.
use Rattle.capture3.proofs.Common.{◌≡◌, ℕ, zero, suc, ◌<◌, List, [], ◌∷◌, ◌++◌, refl, sym, ap, subst, ◌∙◌, arith, Bool, true, false, cond, nat_lt, ltb-true, concat, AreBytes, Joins, Side, Client, Server, IsChunk, AreChunks, Streams, SidedChunk, IsSidedChunk, of_side, carried_by, AreMixed, IsFragment, IsRecord}

pub AreBytes-nil : AreBytes []
AreBytes-nil i = omega arith

AreBytes-tail : (b : ℕ) (bytes : List ℕ) → AreBytes (b ∷ bytes) → AreBytes bytes
AreBytes-tail b bytes h i = h (suc i)

AreBytes-cons : (b : ℕ) (bytes : List ℕ) → b < 256 → AreBytes bytes → AreBytes (b ∷ bytes)
AreBytes-cons b bytes first more zero = first
AreBytes-cons b bytes first more (suc i) = more i

pub AreBytes-front : (front back : List ℕ) → AreBytes (front ++ back) → AreBytes front
AreBytes-front [] back h = AreBytes-nil
AreBytes-front (b ∷ front) back h =
    AreBytes-cons b front (h 0) (AreBytes-front front back (AreBytes-tail b (front ++ back) h))

pub AreBytes-back : (front back : List ℕ) → AreBytes (front ++ back) → AreBytes back
AreBytes-back [] back h = h
AreBytes-back (b ∷ front) back h = AreBytes-back front back (AreBytes-tail b (front ++ back) h)

pub AreBytes-append : (front back : List ℕ) → AreBytes front → AreBytes back
    → AreBytes (front ++ back)
AreBytes-append [] back h more = more
AreBytes-append (b ∷ front) back h more =
    AreBytes-cons b (front ++ back) (h 0)
    (AreBytes-append front back (AreBytes-tail b front h) more)

-- the parts of bytes that are joined
pub split_bytes : (bytes front back : List ℕ) → bytes ≡ front ++ back → AreBytes bytes
    → AreBytes front × AreBytes back
split_bytes bytes front back e h =
    let parts : AreBytes (front ++ back) = subst AreBytes e h in
    (AreBytes-front front back parts, AreBytes-back front back parts)

joined_bytes : (Carries : List ℕ → List ℕ → Type 0)
    → ((bytes carried : List ℕ) → Carries bytes carried → AreBytes bytes → AreBytes carried)
    → (parts : List (List ℕ)) (bytes : List ℕ) → Joins Carries bytes parts → AreBytes bytes
    → AreBytes (concat parts)
joined_bytes Carries one [] bytes h are = AreBytes-nil
joined_bytes Carries one (part ∷ parts) bytes h are =
    let s = split_bytes bytes h.0 h.1 h.2 are in
    AreBytes-append part (concat parts) (one h.0 part h.3 s.0)
    (joined_bytes Carries one parts h.1 h.4 s.1)

pub chunk_bytes : (bytes stream : List ℕ) → AreChunks bytes stream → AreBytes bytes
    → AreBytes stream
chunk_bytes bytes stream h are =
    subst AreBytes (sym h.carried) (joined_bytes IsChunk
    (λ b chunk c all. (split_bytes b c.header chunk c.split all).1) h.chunks bytes h.joined
    are)

of_side_bytes : (a b : Side) (bytes : List ℕ) → AreBytes bytes → AreBytes (of_side a b bytes)
of_side_bytes Client Client bytes h = h
of_side_bytes Server Server bytes h = h
of_side_bytes Client Server bytes h = AreBytes-nil
of_side_bytes Server Client bytes h = AreBytes-nil

carried_bytes : (side : Side) (chunks : List SidedChunk) (bytes : List ℕ)
    → Joins IsSidedChunk bytes chunks → AreBytes bytes → AreBytes (carried_by side chunks)
carried_bytes side [] bytes h are = AreBytes-nil
carried_bytes side (chunk ∷ chunks) bytes h are =
    let s = split_bytes bytes h.0 h.1 h.2 are in
    let c = split_bytes h.0 h.3.word h.3.rest h.3.split s.0 in
    let one = split_bytes h.3.rest h.3.chunked.header chunk.bytes h.3.chunked.split c.1 in
    AreBytes-append (of_side side chunk.side chunk.bytes) (carried_by side chunks)
    (of_side_bytes side chunk.side chunk.bytes one.1) (carried_bytes side chunks h.1 h.4 s.1)

pub mixed_bytes : (bytes : List ℕ) (streams : Streams) → AreMixed bytes streams → AreBytes bytes
    → AreBytes streams.client × AreBytes streams.server
mixed_bytes bytes streams h are =
    let front = (split_bytes bytes h.front h.last h.split are).0 in (
      rw (← (ap (λ (s : Streams). s.client) (sym h.carried)))
          (carried_bytes Client h.chunks h.front h.joined front),
      rw (← (ap (λ (s : Streams). s.server) (sym h.carried)))
          (carried_bytes Server h.chunks h.front h.joined front),
    )

pub record_bytes : (bytes body : List ℕ) → IsRecord bytes body → AreBytes bytes → AreBytes body
record_bytes bytes body h are =
    let parts = split_bytes bytes h.front h.back h.split are in
    rw h.carried (AreBytes-append (concat h.fragments) h.last
    (joined_bytes (IsFragment false)
    (λ b carried f all. (split_bytes b f.0 carried f.1 all).1) h.fragments h.front
    h.joined parts.0) (split_bytes h.back h.closes.0 h.last h.closes.1 parts.1).1)

-- a list of numerals is checked by computing
unfoldable pub all_bytes : List ℕ → Bool
all_bytes [] = true
all_bytes (b ∷ bytes) = cond (nat_lt b 256) (all_bytes bytes) false

pub checked : (bytes : List ℕ) → all_bytes bytes ≡ true → AreBytes bytes
unfolding all_bytes
checked [] e = AreBytes-nil
checked (b ∷ bytes) e = go (nat_lt b 256) refl (checked bytes)
  where
    go : (t : Bool) → nat_lt b 256 ≡ t → (all_bytes bytes ≡ true → AreBytes bytes)
        → AreBytes (b ∷ bytes)
    go true below more =
        AreBytes-cons b bytes (ltb-true b 256 below)
        (more (ap (λ (t : Bool). cond t (all_bytes bytes) false) (sym below) ∙ e))
    go false below more =
        let f = ap (λ (t : Bool). cond t (all_bytes bytes) false) (sym below) ∙ e in absurd (cc)
