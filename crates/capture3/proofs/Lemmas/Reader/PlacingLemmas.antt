-- The connections and the records that were counted are those of the entries.
use Rattle.capture3.proofs.Common.{◌≡◌, ℕ, zero, suc, ◌+◌, Bool, true, false, cond, nat_eq, nat_lt, List, [], ◌∷◌, ◌++◌, refl, sym, ap, subst, ◌∙◌, arith, Joining, Between, Header, Bytes, Joined, Whole, TooLong, join_next, Next, Goes, Ends, Runs, Stops, after, landed, within, word_next, not_runs, only_stops, Side, Client, Server, Version, One, Two, Mixing, MixedEnd, MixedCloses, MixedRefuses, mixed_step, unpacking_with, Entry, begins}
use Rattle.capture3.specs.Entry as entries
use Rattle.std.proofs.Common.{◌<◌, ◌≤◌, length, Some}
use Rattle.capture3.specs.declared.reader.entry.Kind.{Kind}
use Rattle.capture3.specs.declared.reader.entry.Kind.TheVariants as kinds
use Rattle.capture3.specs.machinery.Stepping.{IsOfKind}
use Rattle.capture3.specs.Progress.{AreCounted, calls_in, records_after, replies_in}
use Rattle.capture3.specs.Rank.{number_limit}
use Rattle.capture3.specs.machinery.ContainerMachine.{Opened, Magic, Digit, Mark, Length, Chunk, Mixed, Ended, Unpacking, Unpacked, chunk_counted, connection_marked, in_chunk, mixed_at, mixed_ended, open_step, record_joined, unpack_next}
use Rattle.capture3.specs.machinery.Pairing.{CountsMessages, IsAt, PlacesNext}
use Rattle.capture3.proofs.Lemmas.Reached.Limits.{begins-append}

-- ---- one byte

choice : {X : Type 0} (P : X → Type 0) (b : Bool) (x y : X) → P x → P y → P (cond b x y)
choice P b x y p q = elim b as (λ t. P (cond t x y)) [ true ↦ p | false ↦ q ]

module _ (at total c r : ℕ) (joining : Joining) where
  mark_places : (version : Version) (n : Next (List ℕ) ℕ)
      → PlacesNext c r (within (λ p. unpacking_with at total c r (Mark version p) joining)
      (connection_marked version at total c r joining) n)
  mark_places version (Goes p) = (refl, refl)
  mark_places version (Ends zero) = (refl, refl)
  mark_places One (Ends (suc zero)) =
      choice (PlacesNext c r) (nat_lt c 65535) _ _ (refl, refl) tt
  mark_places Two (Ends (suc zero)) =
      choice (PlacesNext c r) (nat_lt c 65535) _ _ (refl, refl) tt
  mark_places version (Ends (suc (suc w))) = tt

  chunk_places : (side : Side) (left : ℕ) (n : Next Joining Joined)
      → PlacesNext c r (within (in_chunk at total c r side left)
      (record_joined at total c r side left) n)
  chunk_places side left (Goes s) = (refl, refl)
  chunk_places side left (Ends (Whole body)) = (refl, refl)
  chunk_places side left (Ends (TooLong byte)) = tt

  mixed_places : (n : Next Mixing MixedEnd)
      → PlacesNext c r (within (mixed_at c r joining) (mixed_ended c joining) n)
  mixed_places (Goes m) = (refl, refl)
  mixed_places (Ends (MixedCloses at total streams)) = (refl, refl)
  mixed_places (Ends (MixedRefuses fault)) = tt

length_places : (at total c r : ℕ) (joining : Joining) (side : Side) (n : Next (List ℕ) ℕ)
    → PlacesNext c r (within (λ p. unpacking_with at total c r (Length side p) joining)
    (chunk_counted at total c r side joining) n)
length_places at total c r joining side (Goes p) = (refl, refl)
length_places at total c r Between Client (Ends zero) = (refl, refl)
length_places at total c r Between Server (Ends zero) = (refl, refl)
length_places at total c r (Header body part) side (Ends zero) = tt
length_places at total c r (Bytes body last left) side (Ends zero) = tt
length_places at total c r joining side (Ends (suc left)) =
    choice (PlacesNext c r) (nat_lt 1073741824 (total + suc left)) _ _ tt (refl, refl)

byte_places : (at total c r : ℕ) (joining : Joining) (opened : Opened) (byte : ℕ)
    → PlacesNext c r (open_step at total c r joining opened byte)
byte_places at total c r joining (Magic due more) byte =
    choice (PlacesNext c r) (nat_eq byte due) _ _ (refl, refl) tt
byte_places at total c r joining Digit byte =
    choice (PlacesNext c r) (nat_eq byte 49) _ _ (refl, refl)
    (choice (PlacesNext c r) (nat_eq byte 50) _ _ (refl, refl) tt)
byte_places at total c r joining (Mark version part) byte =
    mark_places at total c r joining version (word_next part byte)
byte_places at total c r joining (Length side part) byte =
    length_places at total c r joining side (word_next part byte)
byte_places at total c r joining (Chunk side left) byte =
    chunk_places at total c r joining side left (join_next joining byte)
byte_places at total c r joining (Mixed streams point) byte =
    mixed_places at total c r joining (mixed_step at total streams point byte)
byte_places at total c r joining (Ended version) byte = tt

places : (u : Unpacking) (byte : ℕ) → PlacesNext u.connections u.records (unpack_next u byte)
places u byte = byte_places u.at u.total u.connections u.records u.joining u.opened byte

-- ---- lists of bytes

-- where it runs
pub runs_placed : (bytes : List ℕ) (u v : Unpacking) → after unpack_next (Runs u) bytes ≡ Runs v
    → IsAt u.connections u.records v
runs_placed [] u v e =
    let same : v ≡ u = cc in
    (ap (λ (w : Unpacking). w.connections) same, ap (λ (w : Unpacking). w.records) same)
runs_placed (byte ∷ bytes) u v e =
    on (unpack_next u byte) (places u byte) e (λ w. runs_placed bytes w v)
  where
    on : (n : Next Unpacking Unpacked) → PlacesNext u.connections u.records n
        → after unpack_next (landed n) bytes ≡ Runs v
        → ((w : Unpacking) → after unpack_next (Runs w) bytes ≡ Runs v
        → IsAt w.connections w.records v) → IsAt u.connections u.records v
    on (Goes w) next e more =
        let rest = more w e in
        (rest.0 ∙ next.0, rest.1 ∙ next.1)
    on (Ends x) next e more = absurd (not_runs unpack_next x v bytes e)

-- where it stops
pub stops_placed : (bytes : List ℕ) (u : Unpacking) (x : Unpacked)
    → after unpack_next (Runs u) bytes ≡ Stops x → PlacesNext u.connections u.records (Ends x)
stops_placed [] u x e = absurd (cc)
stops_placed (byte ∷ bytes) u x e =
    on (unpack_next u byte) (places u byte) e (λ w. stops_placed bytes w x)
  where
    on : (n : Next Unpacking Unpacked) → PlacesNext u.connections u.records n
        → after unpack_next (landed n) bytes ≡ Stops x
        → ((w : Unpacking) → after unpack_next (Runs w) bytes ≡ Stops x
        → PlacesNext w.connections w.records (Ends x))
        → PlacesNext u.connections u.records (Ends x)
    on (Goes w) next e more =
        subst (λ c. PlacesNext c u.records (Ends x)) next.0
        (subst (λ r. PlacesNext w.connections r (Ends x)) next.1 (more w e))
    on (Ends y) next e more =
        let (none, equal) = only_stops unpack_next y x bytes e in
        subst (λ z. PlacesNext u.connections u.records (Ends z)) equal next

-- ---- one entry more

pub records-append : (n : ℕ) (a b : List Entry)
    → records_after n (a ++ b) ≡ records_after (records_after n a) b
records-append n [] b = refl
records-append n (entries.Begin ∷ a) b = records-append 0 a b
records-append n (_ ∷ a) b = records-append _ a b

pub counted_more : (connections records : ℕ) (before : List Entry) (one : Entry)
    → connections ≡ begins before + begins (one ∷ [])
    → records ≡ records_after (records_after 0 before) (one ∷ [])
    → AreCounted connections records (before ++ one ∷ [])
counted_more connections records before one more is = record {
  connections_are = more ∙ sym (begins-append before (one ∷ []));
  records_are = is ∙ sym (records-append 0 before (one ∷ []));
}

-- the same after entries that were counted
pub counted_on : (connections records now number : ℕ) (before : List Entry) (one : Entry)
    → AreCounted connections records before → now ≡ connections + begins (one ∷ [])
    → number ≡ records_after records (one ∷ []) → AreCounted now number (before ++ one ∷ [])
counted_on connections records now number before one b more is =
    counted_more now number before one (omega (arith, more, b.connections_are))
    (is ∙ ap (λ n. records_after n (one ∷ [])) b.records_are)

-- ---- calls and replies

calls-append : (a b : List Entry) → calls_in (a ++ b) ≡ calls_in a + calls_in b
calls-append [] b = omega arith
calls-append (entries.Call items ∷ a) b = omega (arith, calls-append a b)
calls-append (_ ∷ a) b = calls-append a b

replies-append : (a b : List Entry) → replies_in (a ++ b) ≡ replies_in a + replies_in b
replies-append [] b = omega arith
replies-append (entries.Reply id items ∷ a) b = omega (arith, replies-append a b)
replies-append (_ ∷ a) b = replies-append a b

calls_within : (a : List Entry) → calls_in a ≤ length a
calls_within [] = omega arith
calls_within (entries.Call items ∷ a) = omega (arith, calls_within a)
calls_within (_ ∷ a) = omega (arith, calls_within a)

replies_within : (a : List Entry) → replies_in a ≤ length a
replies_within [] = omega arith
replies_within (entries.Reply id items ∷ a) = omega (arith, replies_within a)
replies_within (_ ∷ a) = omega (arith, replies_within a)

pub none_more : (c r d s : ℕ) (before : List Entry) (one : Entry) → calls_in (one ∷ []) ≡ 0
    → replies_in (one ∷ []) ≡ 0 → d ≡ c → s ≡ r → c ≡ calls_in before → r ≡ replies_in before
    → (d ≡ calls_in (before ++ one ∷ [])) × (s ≡ replies_in (before ++ one ∷ []))
none_more c r d s before one no_call no_reply same still calls replies = (
  omega (arith, same, calls, no_call, calls-append before (one ∷ [])),
  omega (arith, still, replies, no_reply, replies-append before (one ∷ [])),
)

pub messages_more : (kind : Kind) (c r d s : ℕ) (before : List Entry) (one : Entry)
    → IsOfKind kind one → CountsMessages (Some kind) c r d s → length before < number_limit
    → c ≡ calls_in before → r ≡ replies_in before
    → (d ≡ calls_in (before ++ one ∷ [])) × (s ≡ replies_in (before ++ one ∷ []))
messages_more (kinds.Call id) c r d s before one (items, asks, is) (more, same) few calls replies =
    let last : calls_in (one ∷ []) ≡ 1 = rw is refl in
    let none : replies_in (one ∷ []) ≡ 0 = rw is refl in (
      omega (arith, more, few, calls, last, calls_within before, calls-append before (one ∷ [])),
      omega (arith, same, replies, none, replies-append before (one ∷ [])),
    )
messages_more (kinds.Reply id) c r d s before one (items, is) (same, more) few calls replies =
    let last : replies_in (one ∷ []) ≡ 1 = rw is refl in
    let none : calls_in (one ∷ []) ≡ 0 = rw is refl in (
      omega (arith, same, calls, none, calls-append before (one ∷ [])),
      omega (
        arith,
        more,
        few,
        replies,
        last,
        replies_within before,
        replies-append before (one ∷ []),
      ),
    )
messages_more kind c r d s before one is (same, still) few calls replies =
    none_more c r d s before one (rw is refl) (rw is refl) same still calls replies
