-- The first entries of a capture are told apart by their bytes: words 0 make a file of them.
use Rattle.canon3.proofs.Common.{◌≡◌, ◌⊎◌, inl, inr, ℕ, zero, suc, ◌+◌, ◌^◌, ◌<◌, ◌≤◌, List, [], ◌∷◌, ◌++◌, length, map, refl, sym, ap, ap₂, ◌∙◌, subst, arith, length-append, append_assoc, AllByRecursion, flat_map, cases_lt, ReplyItems, One, magic, Entry, Begin, Call, Turn, Close, End, IsIn, reply_entry, Typed, record_bytes, message_bytes, entry_bytes, bytes_of, Item, AreBytes, word_bytes, zero_spelling}
use Rattle.std.proofs.lemmas.List.{map-append, append_cancel_right}
use Rattle.std.proofs.lemmas.List.Concat.{flat_map-append}
use Rattle.capture3.proofs.Lemmas.Container.BytesOf.{AreBytes-nil, AreBytes-append, AreBytes-front, all_bytes, checked}
use Rattle.capture3.proofs.Lemmas.Files.Verdicts.{verdict_from_typed, verdict_from_fault, is_cut_short}
use Rattle.canon3.proofs.Lemmas.WellFormed.Items.{are_bytes_of_number, spellings_are_bytes}
use Rattle.canon3.proofs.Lemmas.WellFormed.Conversations.{stream_of, Conversation, reply_items, items_of_reply, IsSpelledCall, IsSpelledReply, AreConversing}
use Rattle.canon3.proofs.Lemmas.WellFormed.Files.{all_of, total_weight, AreCapture, all_entries, all_regrouped, typed_anew}

-- ---- fronts of joined lists

module _ {A : Type 0} where
  -- a front of two joined lists ends in the first, or goes on into the second
  abbrev Splits : (x t p more : List A) → Type 0
  Splits x t p more = ((rest : List A) × (x ≡ p ++ rest))
      ⊎ ((y : A) × (back : List A) × (p ≡ x ++ y ∷ back)
      × (t ≡ y ∷ (back ++ more)))

  splits : (x t p more : List A) → x ++ t ≡ p ++ more → Splits x t p more
  splits x t [] more e = inl (x, refl)
  splits [] t (y ∷ p) more e = inr (y, p, refl, e)
  splits (z ∷ x) t (y ∷ p) more e =
      let first : z ≡ y = cc in
      let tail : x ++ t ≡ p ++ more = cc in
      elim (splits x t p more tail) [
        | inl s ↦ inl (s.0, ap₂ (λ (w : A) (l : List A). w ∷ l) first s.1)
        | inr s ↦ inr (s.0, s.1, ap₂ (λ (w : A) (l : List A). w ∷ l) (sym first) s.2, s.3)
      ]

  pub all_front : (P : A → Type 0) (l m : List A) → AllByRecursion P (l ++ m) → AllByRecursion P l
  all_front P [] m h = tt
  all_front P (x ∷ l) m h = (h.0, all_front P l m h.1)

  in_joined : (l m : List A) (x : A) → IsIn x l → IsIn x (l ++ m)
  in_joined l m x p =
      (p.0, p.1 ++ m, ap (λ (k : List A). k ++ m) p.2 ∙ append_assoc p.0 (x ∷ p.1) m)

  in_none : (x : A) (front back : List A) → [] ≡ front ++ x ∷ back → ⊥
  in_none x [] back e = absurd cc
  in_none x (y ∷ front) back e = absurd cc

map_splits : {A B : Type 0} (f : A → B) (l : List A) (p rest : List B) → map f l ≡ p ++ rest
    → (front back : List A) × (l ≡ front ++ back) × (p ≡ map f front)
map_splits f l [] rest e = ([], l, refl, refl)
map_splits f [] (y ∷ p) rest e = absurd cc
map_splits {B = B} f (x ∷ l) (y ∷ p) rest e =
    let first : f x ≡ y = cc in
    let tail : map f l ≡ p ++ rest = cc in
    let r = map_splits f l p rest tail in
    (x ∷ r.0, r.1, ap (λ k. x ∷ k) r.2, ap₂ (λ (w : B) (k : List B). w ∷ k) (sym first) r.3)

-- ---- fewer messages

module _ (c : Conversation) (h : AreConversing c) where
  fewer_calls : (calls more : List (List Item)) → c.calls ≡ calls ++ more
      → AreConversing (record { calls = calls; replies = [] })
  fewer_calls calls more e = record {
    calls_are = all_front IsSpelledCall calls more (rw e at h.calls_are);
    replies_are = tt;
    one_procedure =
        λ a b i j.
        h.one_procedure a b (rw e (in_joined calls more a i)) (rw e (in_joined calls more b j));
    answers = λ r i. absurd (in_none r i.0 i.1 i.2);
  }

  fewer_replies : (replies more : List ReplyItems) → c.replies ≡ replies ++ more
      → AreConversing (record { calls = c.calls; replies = replies })
  fewer_replies replies more e = record {
    calls_are = h.calls_are;
    replies_are = all_front IsSpelledReply replies more (rw e at h.replies_are);
    one_procedure = h.one_procedure;
    answers = λ r i. h.answers r (rw e (in_joined replies more r i));
  }

stream_front : (l m : List (List Item)) → length (stream_of l) ≤ length (stream_of (l ++ m))
stream_front l m = simp (flat_map-append, length-append) (omega arith)

-- ---- words 0 after the first entries

-- what makes a capture of the first entries: the ends of its streams and of its connections
abbrev closers : ℕ → List Entry
closers zero = []
closers (suc zero) = End ∷ []
closers (suc (suc zero)) = Close ∷ End ∷ []
closers (suc (suc (suc k))) = Turn ∷ Close ∷ End ∷ []

pub record Closed (p : List Entry) (cs : List Conversation) : Type 0 where
  pub count : ℕ
  pub most : count ≤ 3
  pub ds : List Conversation
  pub is : p ++ closers count ≡ all_of ds
  pub converse : AllByRecursion AreConversing ds
  pub few : length ds ≤ length cs
  pub light : total_weight ds ≤ total_weight cs

closed_none : (cs : List Conversation) → Closed [] cs
closed_none cs =
    record {
      count = 1;
      most = omega arith;
      ds = [];
      is = refl;
      converse = tt;
      few = omega arith;
      light = omega arith;
    }

module _ (c : Conversation) (cs : List Conversation) (h : AreConversing c) where
  closed_calls : (p rest : List Entry) → map Call c.calls ≡ p ++ rest → Closed (Begin ∷ p) (c ∷ cs)
  closed_calls p rest e =
      let r = map_splits Call c.calls p rest e in
      record {
        count = 3;
        most = omega arith;
        ds = record { calls = r.0; replies = [] } ∷ [];
        is =
            ap (λ (l : List Entry). Begin ∷ (l ++ (Turn ∷ Close ∷ End ∷ []))) r.3
            ∙ simp append_assoc;
        converse = (fewer_calls c h r.0 r.1 r.2, tt);
        few = omega arith;
        light = omega (arith, stream_front r.0 r.1, ap (λ l. length (stream_of l)) r.2);
      }

  closed_replies : (p rest : List Entry) → map reply_entry c.replies ≡ p ++ rest
      → Closed (Begin ∷ (map Call c.calls ++ (Turn ∷ p))) (c ∷ cs)
  closed_replies p rest e =
      let r = map_splits reply_entry c.replies p rest e in
      record {
        count = 2;
        most = omega arith;
        ds = record { calls = c.calls; replies = r.0 } ∷ [];
        is =
            ap
            (λ (l : List Entry).
            (Begin ∷ (map Call c.calls ++ (Turn ∷ l))) ++ (Close ∷ End ∷ [])) r.3
            ∙ simp append_assoc;
        converse = (fewer_replies c h r.0 r.1 r.2, tt);
        few = omega arith;
        light =
            omega (
              arith,
              stream_front (reply_items r.0) (reply_items r.1),
              ap (λ l. length (stream_of (reply_items l))) r.2,
              ap (λ l. length (stream_of l)) (map-append items_of_reply r.0 r.1),
            );
      }

  closed_later : (p : List Entry) → Closed p cs
      → Closed (Begin ∷ (map Call c.calls ++ (Turn ∷ (map reply_entry c.replies ++ (Close ∷ p)))))
      (c ∷ cs)
  closed_later p k = record {
    count = k.count;
    most = k.most;
    ds = c ∷ k.ds;
    is = simp (append_assoc, k.is);
    converse = (h, k.converse);
    few = omega (arith, k.few);
    light = omega (arith, k.light);
  }

pub closed : (cs : List Conversation) (p more : List Entry) → AllByRecursion AreConversing cs
    → all_of cs ≡ p ++ more → Closed p cs
closed cs [] more h e = closed_none cs
closed [] (y ∷ p) more h e = last y p more e
  where
    last : (y : Entry) (p more : List Entry) → End ∷ [] ≡ y ∷ (p ++ more) → Closed (y ∷ p) []
    last y [] more e =
        let same : End ≡ y = cc in
        record {
          count = 0;
          most = omega arith;
          ds = [];
          is = ap (λ k. k ∷ []) (sym same);
          converse = tt;
          few = omega arith;
          light = omega arith;
        }
    last y (z ∷ p) more e = absurd cc
closed (c ∷ cs) (y ∷ p) more h e =
    let whole = sym (all_regrouped c cs) ∙ e in
    let first : Begin ≡ y = cc in
    let tail : map Call c.calls ++ (Turn ∷ (map reply_entry c.replies ++ (Close ∷ all_of cs)))
    ≡ p ++ more = cc in
    rw (← first) (elim (splits (map Call c.calls) _ p more tail) [
      | inl s ↦ closed_calls c cs h.0 p s.0 s.1
      | inr s ↦ let turn : Turn ≡ s.0 = cc in
          let rest : map reply_entry c.replies ++ (Close ∷ all_of cs) ≡ s.1 ++ more = cc in
          rw (s.2, ← turn) (elim (splits (map reply_entry c.replies) _ s.1 more rest) [
            | inl t ↦ closed_replies c cs h.0 s.1 t.0 t.1
            | inr t ↦ let close : Close ≡ t.0 = cc in
                let later : all_of cs ≡ t.1 ++ more = cc in
                rw (t.2, ← close) (closed_later c cs h.0 t.1 (closed cs t.1 more h.1 later))
          ])
    ])

-- ---- the bytes of a capture are bytes

abbrev HasBytes : Entry → Type 0
HasBytes e = AreBytes (entry_bytes e)

word_are_bytes : (n : ℕ) → AreBytes (word_bytes n)
word_are_bytes n = are_bytes_of_number 4 n

message_are_bytes : (m : List Item) → AreBytes (zero_spelling m) → AreBytes (message_bytes m)
message_are_bytes m h =
    let body = zero_spelling m in
    AreBytes-append (word_bytes (length (record_bytes body))) (record_bytes body)
    (word_are_bytes (length (record_bytes body)))
    (AreBytes-append (word_bytes (2 ^ 31 + length body)) body
    (word_are_bytes (2 ^ 31 + length body))
    h)

call_bytes : (m : List Item) → IsSpelledCall m → HasBytes (Call m)
call_bytes m s = message_are_bytes m (spellings_are_bytes m (zero_spelling m) s.0.1)

reply_bytes : (r : ReplyItems) → IsSpelledReply r → HasBytes (reply_entry r)
reply_bytes r s =
    message_are_bytes r.items (spellings_are_bytes r.items (zero_spelling r.items) s.0.1)

entries_have_bytes : (cs : List Conversation) → AllByRecursion AreConversing cs
    → AllByRecursion HasBytes (all_of cs)
entries_have_bytes =
    all_entries HasBytes call_bytes reply_bytes (word_are_bytes 1) (word_are_bytes 0)
    (word_are_bytes 0) (word_are_bytes 0)

joined_are_bytes : (es : List Entry) → AllByRecursion HasBytes es
    → AreBytes (flat_map entry_bytes es)
joined_are_bytes [] h = AreBytes-nil
joined_are_bytes (e ∷ es) h =
    AreBytes-append (entry_bytes e) (flat_map entry_bytes es) h.0 (joined_are_bytes es h.1)

magic_are_bytes : AreBytes (magic One)
unfolding all_bytes
magic_are_bytes = checked (magic One) refl

bytes_of_are_bytes : (es : List Entry) → AllByRecursion HasBytes es → AreBytes (bytes_of es)
bytes_of_are_bytes [] h = AreBytes-nil
bytes_of_are_bytes (e ∷ es) h =
    AreBytes-append (magic One) (flat_map entry_bytes (e ∷ es)) magic_are_bytes
    (joined_are_bytes (e ∷ es) h)

-- ---- files

-- a file has one list of entries
pub one_list : (file : List ℕ) (a b : List Entry) → Typed file a → Typed file b → a ≡ b
one_list file a b p q =
    let e = sym (verdict_from_typed file a p) ∙ verdict_from_typed file b q in
    cc

-- a file with more bytes after it is none
no_longer : (file : List ℕ) (a b : List Entry) (byte : ℕ) (more : List ℕ)
    → AreBytes (file ++ byte ∷ more) → AreBytes file → Typed file a → Typed (file ++ byte ∷ more) b
    → ⊥
no_longer file a b byte more whole are p q =
    let cut = is_cut_short (file ++ byte ∷ more) whole b file more byte q refl in
    let e = verdict_from_fault file _ are cut in
    let f = verdict_from_typed file a p in
    cc

-- ---- first entries, closed

abbrev zeros : ℕ → List ℕ
zeros zero = []
zeros (suc k) = word_bytes 0 ++ zeros k

closer_bytes : (k : ℕ) → k ≤ 3 → flat_map entry_bytes (closers k) ≡ zeros k
closer_bytes zero h = refl
closer_bytes (suc zero) h = refl
closer_bytes (suc (suc zero)) h = refl
closer_bytes (suc (suc (suc zero))) h = refl
closer_bytes (suc (suc (suc (suc k)))) h = absurd (omega arith)

bytes_closed : (e : Entry) (p : List Entry) (k : ℕ) → k ≤ 3
    → bytes_of ((e ∷ p) ++ closers k) ≡ bytes_of (e ∷ p) ++ zeros k
bytes_closed e p k h =
    rw (flat_map-append entry_bytes (e ∷ p) (closers k), closer_bytes k h) (simp append_assoc)

zeros_more : (m n : ℕ) → m < n → (rest : List ℕ) × (zeros n ≡ zeros m ++ 0 ∷ rest)
zeros_more m zero lt = absurd (omega arith)
zeros_more zero (suc n) lt = (_, refl)
zeros_more (suc m) (suc n) lt =
    let r = zeros_more m n (omega arith) in (r.0, ap (λ (l : List ℕ). word_bytes 0 ++ l) r.1)

fewer_zeros : (base : List ℕ) (m n : ℕ) (a b : List Entry) → m < n → AreBytes (base ++ zeros n)
    → Typed (base ++ zeros m) a → Typed (base ++ zeros n) b → ⊥
fewer_zeros base m n a b lt are p q =
    let r = zeros_more m n lt in
    let e : base ++ zeros n ≡ (base ++ zeros m) ++ 0 ∷ r.0 = rw (r.1, append_assoc) refl in
    let whole = rw e at are in
    no_longer (base ++ zeros m) a b 0 r.0 whole (AreBytes-front (base ++ zeros m) (0 ∷ r.0) whole) p
    (rw e at q)

-- the first entries of a capture
pub record IsFront (es : List Entry) : Type 0 where
  pub cs : List Conversation
  pub more : List Entry
  pub split : all_of cs ≡ es ++ more
  pub are : AreCapture cs

-- their bytes and some words 0 are a file
record IsMade (e : Entry) (p : List Entry) : Type 0 where
  count : ℕ
  typed : Typed (bytes_of (e ∷ p) ++ zeros count) ((e ∷ p) ++ closers count)
  are : AreBytes (bytes_of (e ∷ p) ++ zeros count)

made : (e : Entry) (p : List Entry) → IsFront (e ∷ p) → IsMade e p
made e p f =
    let c = closed f.cs (e ∷ p) f.more f.are.converse f.split in
    let capture : AreCapture c.ds =
    record {
      converse = c.converse;
      few = omega (arith, c.few, f.are.few);
      small = omega (arith, c.light, f.are.small);
    } in
    let bytes : bytes_of (all_of c.ds) ≡ bytes_of (e ∷ p) ++ zeros c.count =
    ap bytes_of (sym c.is) ∙ bytes_closed e p c.count c.most in
    record {
      count = c.count;
      typed =
          subst (λ l. Typed l ((e ∷ p) ++ closers c.count)) bytes
          (subst (λ l. Typed (bytes_of (all_of c.ds)) l) (sym c.is) (typed_anew c.ds capture));
      are =
          subst AreBytes bytes
          (bytes_of_are_bytes (all_of c.ds) (entries_have_bytes c.ds c.converse));
    }

one_count : (base : List ℕ) (m n : ℕ) (a b : List Entry) → AreBytes (base ++ zeros m)
    → AreBytes (base ++ zeros n) → Typed (base ++ zeros m) a → Typed (base ++ zeros n) b → m ≡ n
one_count base m n a b p q h k =
    elim (cases_lt m n) [
      | inl lt ↦ absurd (fewer_zeros base m n a b lt q h k)
      | inr le ↦ elim (cases_lt n m) [
        | inl lt ↦ absurd (fewer_zeros base n m b a lt p k h)
        | inr ge ↦ omega arith
      ]
    ]

-- first entries with equal bytes are equal
pub told_apart : (p q : List Entry) → IsFront p → IsFront q → bytes_of p ≡ bytes_of q → p ≡ q
told_apart [] [] f g e = refl
told_apart [] (y ∷ q) f g e =
    absurd (omega (arith, ap length e, length-append (magic One) (flat_map entry_bytes (y ∷ q))))
told_apart (x ∷ p) [] f g e =
    absurd (omega (arith, ap length e, length-append (magic One) (flat_map entry_bytes (x ∷ p))))
told_apart (x ∷ p) (y ∷ q) f g e =
    let a = made x p f in
    let b = made y q g in
    let base = bytes_of (x ∷ p) in
    let same_are = subst (λ l. AreBytes (l ++ zeros b.count)) (sym e) b.are in
    let same_typed =
    subst (λ l. Typed (l ++ zeros b.count) ((y ∷ q) ++ closers b.count)) (sym e) b.typed in
    let k : a.count ≡ b.count =
    one_count base a.count b.count _ _ a.are same_are a.typed same_typed in
    append_cancel_right (x ∷ p) (y ∷ q) (closers a.count) (one_list _ _ _ a.typed
    (subst (λ n. Typed (base ++ zeros n) ((y ∷ q) ++ closers n)) (sym k) same_typed))
