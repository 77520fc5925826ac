-- What a sink has taken of bytes, piece by piece.
use Rattle.canon3.proofs.Common.{◌≡◌, ℕ, List, [], ◌++◌, ◌∙◌, ap, append_assoc, append-nil, drop, subst, sym, length, length-append, length-drop, length-take, take, take-append-drop, arith, ◌+◌, ◌-◌, ◌^◌, ◌≤◌, Appends, word_bytes, chunk_bytes, record_bytes, AppendsFront, Appends-trans}
use Rattle.std.proofs.lemmas.List.{drop-append-le, drop-take, take_all}
use Rattle.std.proofs.Math.Seq.{take-append-add}
use Rattle.std.specs.Prelude.{Option}

-- the sink took the bytes up to the rest
pub record TookUpTo (old new : Option (List ℕ)) (bytes rest : List ℕ) : Type 0 where
  pub front : List ℕ
  pub split : bytes ≡ front ++ rest
  pub appended : Appends old new front

-- the rest of a slice is cut at its own length
pub taken_more : {bytes rest : List ℕ} (first old new : Option (List ℕ)) (n m : ℕ)
    → TookUpTo first old bytes rest → Appends old new (take n rest) → length rest ≤ n + m
    → TookUpTo first new bytes (take m (drop n rest))
taken_more {bytes = bytes} {rest = rest} first old new n m taken appended whole =
    let cut : take m (drop n rest) ≡ drop n rest =
    take_all m (drop n rest) (omega (arith, length-drop n rest, whole)) in
    rw cut (record {
      front = taken.front ++ take n rest;
      split = taken.split ∙ simp (append_assoc, take-append-drop);
      appended = Appends-trans first old new taken.front (take n rest) taken.appended appended;
    })

pub whole_front : (old new : Option (List ℕ)) (bytes : List ℕ) → Appends old new bytes
    → AppendsFront old new bytes
whole_front old new bytes appended = (bytes, [], sym (append-nil bytes), appended)

-- ---- two lists of bytes, one after the other

pub front_of_first : (first new : Option (List ℕ)) (bytes more whole : List ℕ)
    → whole ≡ bytes ++ more → AppendsFront first new bytes → AppendsFront first new whole
front_of_first first new bytes more whole is (front, back, split, appended) = (
  front,
  back ++ more,
  is ∙ ap (λ (l : List ℕ). l ++ more) split ∙ append_assoc front back more,
  appended,
)

pub front_of_second : (first between new : Option (List ℕ)) (bytes more whole : List ℕ)
    → whole ≡ bytes ++ more → Appends first between bytes → AppendsFront between new more
    → AppendsFront first new whole
front_of_second first between new bytes more whole is all (front, back, split, appended) = (
  bytes ++ front,
  back,
  is ∙ ap (λ (l : List ℕ). bytes ++ l) split ∙ sym (append_assoc bytes front back),
  Appends-trans first between new bytes front all appended,
)

-- a chunk of one record of one fragment
pub record_split : (front body : List ℕ)
    → front ≡ word_bytes (4 + length body) ++ word_bytes (2 ^ 31 + length body)
    → chunk_bytes (record_bytes body) ≡ front ++ body
record_split front body is =
    let size : length (record_bytes body) ≡ 4 + length body = omega arith in
    ap (λ n. word_bytes n ++ record_bytes body) size ∙ ap (λ (l : List ℕ). l ++ body) (sym is)

-- the same, where the body is in two parts
pub parts_split : (head front back : List ℕ) (len : ℕ) → len ≡ length front + length back
    → head ≡ word_bytes (4 + len) ++ word_bytes (2 ^ 31 + len)
    → chunk_bytes (record_bytes (front ++ back)) ≡ (head ++ front) ++ back
parts_split head front back len size is =
    let all : len ≡ length (front ++ back) = size ∙ sym (length-append front back) in
    record_split head (front ++ back)
    (subst (λ n. head ≡ word_bytes (4 + n) ++ word_bytes (2 ^ 31 + n)) all is)
    ∙ sym (append_assoc head front back)

head_set : (count end : ℕ) (head room rest : List ℕ) → length head ≡ count → count ≤ end
    → end ≤ length room
    → take end (head ++ drop count room) ++ rest ≡ head ++ drop count (take end room ++ rest)
head_set count end head room rest size from within =
    let more = end - count in
    let all : length head + more ≡ end = omega (arith, size, from) in
    let whole : count + more ≡ end = omega (arith, from) in
    let first =
    subst (λ n. take n (head ++ drop count room) ≡ head ++ take more (drop count room)) all
    (take-append-add head (drop count room) more) in
    let cut =
    subst (λ n. drop count (take n room) ≡ take more (drop count room)) whole
    (drop-take count more room) in
    let fits : count ≤ length (take end room) = omega (arith, length-take end room, from, within) in
    ap (λ (l : List ℕ). l ++ rest) (first ∙ ap (λ (l : List ℕ). head ++ l) (sym cut))
    ∙ append_assoc head (drop count (take end room)) rest
    ∙ ap (λ (l : List ℕ). head ++ l) (sym (drop-append-le count (take end room) rest fits))

-- a head that is put in front of a message makes it a chunk
pub chunk_of_head : (head room rest message : List ℕ) (end : ℕ) → 8 ≤ end → end ≤ length room
    → drop 8 (take end room ++ rest) ≡ message
    → head ≡ word_bytes (4 + length message) ++ word_bytes (2 ^ 31 + length message)
    → take end (head ++ drop 8 room) ++ rest ≡ chunk_bytes (record_bytes message)
chunk_of_head head room rest message end from within is spelled =
    head_set 8 end head room rest (ap length spelled) from within
    ∙ ap (λ (l : List ℕ). head ++ l) is ∙ sym (record_split head message spelled)
