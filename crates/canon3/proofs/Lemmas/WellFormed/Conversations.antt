-- The messages of connections, apart from the streams that carry them.
use Rattle.canon3.proofs.Common.{◌≡◌, ℕ, ◌+◌, ◌≤◌, ◌^◌, List, [], ◌∷◌, ◌++◌, length, map, refl, ap, ◌∙◌, subst, arith, length-append, map-append, Item, Spells, word_bytes, zero_spelling, length_of_spelling, ReplyItems, IsCall, IsReply, Streams, record_bytes, chunk_bytes, message_bytes, Joins, IsRecordOf, IsIn, HaveOneProcedure, AnswerCalls}
use Rattle.std.specs.List.{AllByRecursion, flat_map, concat}
use Rattle.record_mark.specs.RecordMark.{max_body, IsRecord}
use Rattle.record_mark.proofs.Steps.{IsWord-big_bytes, heads, one_fragment}
use Rattle.capture3.specs.Chunks.{IsChunk, IsStream}
use Rattle.capture3.proofs.Lemmas.Reached.Limits.{record_size}

-- ---- lists

pub in_later : {A : Type 0} (y : A) (l : List A) (x : A) → IsIn x l → IsIn x (y ∷ l)
in_later y l x p = (y ∷ p.0, p.1, ap (λ k. y ∷ k) p.2)

pub all_in : {A : Type 0} (P : A → Type 0) (l : List A) → ((x : A) → IsIn x l → P x)
    → AllByRecursion P l
all_in P [] f = tt
all_in P (x ∷ l) f = (f x ([], l, refl), all_in P l (λ y p. f y (in_later x l y p)))

in_front : {A : Type 0} (P : A → Type 0) (front back : List A) (x : A)
    → AllByRecursion P (front ++ x ∷ back) → P x
in_front P [] back x h = h.0
in_front P (y ∷ front) back x h = in_front P front back x h.1

pub of_all : {A : Type 0} (P : A → Type 0) (l : List A) (x : A) → AllByRecursion P l → IsIn x l
    → P x
of_all P l x h p = in_front P p.0 p.1 x (subst (AllByRecursion P) p.2 h)

pub in_map : {A B : Type 0} (f : A → B) (l : List A) (y : B) (front back : List B)
    → map f l ≡ front ++ y ∷ back → (x : A) × IsIn x l × (y ≡ f x)
in_map f [] y [] back e = absurd cc
in_map f [] y (z ∷ front) back e = absurd cc
in_map f (x ∷ l) y [] back e = (x, ([], l, refl), cc)
in_map f (x ∷ l) y (z ∷ front) back e =
    let tail : map f l ≡ front ++ y ∷ back = cc in
    let r = in_map f l y front back tail in
    (r.0, in_later x l r.0 r.1, r.2)

pub map_in : {A B : Type 0} (f : A → B) (l : List A) (x : A) → IsIn x l → IsIn (f x) (map f l)
map_in f l x p = (map f p.0, map f p.1, ap (map f) p.2 ∙ map-append f p.0 (x ∷ p.1))

-- ---- a stream of records of one fragment each, and its chunks

abbrev pub stream_of : List (List Item) → List ℕ
stream_of messages = flat_map (λ m. record_bytes (zero_spelling m)) messages

abbrev pub chunks_of : List (List Item) → List ℕ
chunks_of messages = flat_map message_bytes messages

abbrev pub IsSmall : List Item → Type 0
IsSmall message = length (zero_spelling message) ≤ max_body

pub length_of_record : (body : List ℕ) → length (record_bytes body) ≡ 4 + length body
length_of_record body = omega arith

is_record : (body : List ℕ) → length body ≤ max_body → IsRecord (record_bytes body) body
is_record body fits =
    one_fragment (word_bytes (2 ^ 31 + length body)) body (length body) (heads (length body) fits)
    refl fits

abbrev records_of : List (List Item) → List (List ℕ)
records_of messages = map (λ m. record_bytes (zero_spelling m)) messages

carried_of : (messages : List (List Item)) → stream_of messages ≡ concat (records_of messages)
carried_of [] = refl
carried_of (m ∷ messages) =
    ap (λ (l : List ℕ). record_bytes (zero_spelling m) ++ l) (carried_of messages)

is_chunk : (body : List ℕ) → length body ≤ max_body
    → IsChunk (chunk_bytes (record_bytes body)) (record_bytes body)
is_chunk body fits = record {
  header = word_bytes (length (record_bytes body));
  split = refl;
  word = IsWord-big_bytes (length (record_bytes body)) (omega arith);
  some = omega arith;
}

chunks_joined : (messages : List (List Item)) → AllByRecursion IsSmall messages
    → Joins IsChunk (chunks_of messages) (records_of messages)
chunks_joined [] h = refl
chunks_joined (m ∷ messages) h =
    (_, _, refl, is_chunk (zero_spelling m) h.0, chunks_joined messages h.1)

pub is_stream : (messages : List (List Item)) → AllByRecursion IsSmall messages
    → IsStream (chunks_of messages ++ word_bytes 0) (stream_of messages)
is_stream messages h = record {
  front = chunks_of messages;
  last = word_bytes 0;
  split = refl;
  chunks =
      record {
        chunks = records_of messages;
        joined = chunks_joined messages h;
        carried = carried_of messages;
      };
  closes = IsWord-big_bytes 0 (omega arith);
}

-- ---- messages and their bodies

module _ {M : Type 0} (items : M → List Item) (Is : List ℕ → M → Type 0)
    (spelled : (body : List ℕ) (m : M) → Is body m → Spells (items m) body) where
  -- a body that it is, which is small
  abbrev pub HasBody : M → Type 0
  HasBody m = (body : List ℕ) × Is body m × (length body ≤ max_body)

  pub each_has_body : (ms : List M) (stream : List ℕ) → Joins (IsRecordOf Is) stream ms
      → AllByRecursion HasBody ms
  each_has_body [] stream h = tt
  each_has_body (m ∷ ms) stream (front, rest, split, (body, whole, is), more) =
      ((body, is, whole.fits), each_has_body ms rest more)

  pub each_size : (ms : List M) (stream : List ℕ) → Joins (IsRecordOf Is) stream ms
      → length (stream_of (map items ms)) ≤ length stream
  each_size [] stream h = omega arith
  each_size (m ∷ ms) stream (front, rest, split, (body, whole, is), more) =
      rw split (simp length-append (omega (
        arith,
        length_of_spelling (items m) body (spelled body m is),
        record_size front body whole,
        each_size ms rest more,
      )))

  -- the message's zero spelling is a small body of it
  abbrev pub IsSpelled : M → Type 0
  IsSpelled m = Is (zero_spelling (items m)) m × IsSmall (items m)

  pub each_from : (ms : List M) → AllByRecursion IsSpelled ms
      → Joins (IsRecordOf Is) (stream_of (map items ms)) ms
  each_from [] h = refl
  each_from (m ∷ ms) h = (
    _,
    _,
    refl,
    (zero_spelling (items m), is_record (zero_spelling (items m)) h.0.1, h.0.0),
    each_from ms h.1,
  )

-- ---- the messages of a connection

pub record Conversation : Type 0 where
  pub calls : List (List Item)
  pub replies : List ReplyItems

abbrev pub items_of_reply : ReplyItems → List Item
items_of_reply reply = reply.items

abbrev pub reply_items : List ReplyItems → List (List Item)
reply_items replies = map items_of_reply replies

abbrev pub itself : List Item → List Item
itself items = items

-- its zero spelling is a small body of it
abbrev pub IsSpelledCall : List Item → Type 0
IsSpelledCall m = IsCall (zero_spelling m) m × IsSmall m

abbrev pub IsSpelledReply : ReplyItems → Type 0
IsSpelledReply r = IsReply (zero_spelling r.items) r × IsSmall r.items

pub record AreConversing (c : Conversation) : Type 0 where
  pub calls_are : AllByRecursion IsSpelledCall c.calls
  pub replies_are : AllByRecursion IsSpelledReply c.replies
  pub one_procedure : HaveOneProcedure c.calls
  pub answers : AnswerCalls c.calls c.replies

abbrev pub weight : Conversation → ℕ
weight c = length (stream_of c.calls) + length (stream_of (reply_items c.replies))

-- their streams
abbrev pub streams_of : Conversation → Streams
streams_of c = record { client = stream_of c.calls; server = stream_of (reply_items c.replies) }
