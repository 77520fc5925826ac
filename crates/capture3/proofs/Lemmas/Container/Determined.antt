-- A file tells its version and its streams: it is a capture of them in one way.
use Rattle.capture3.proofs.Common.{◌≡◌, ℕ, ◌<◌, List, [], ◌∷◌, ◌++◌, length, get_or, refl, sym, ap, ap₂, subst, ◌∙◌, append_assoc, arith, concat, IsWord, Joins, number, Side, Client, Server, IsChunk, IsStream, Entry, Typed, Streams, side_word, IsSidedChunk, gathered, AreMixed, Version, One, Two, magic, AreStreams, IsConnection, IsCapture, HaveSameEntries}
use Rattle.capture3.proofs.Lemmas.Files.FileMachineLemmas.{length_magic}

-- bytes tell which thing they begin with, and what comes after it
abbrev IsDetermined : {X : Type 0} → (List ℕ → X → Type 0) → Type 0
IsDetermined {X} Spells =
    (a b r s : List ℕ) (x y : X) → Spells a x → Spells b y → a ++ r ≡ b ++ s → (x ≡ y) × (r ≡ s)

same_front : (a b r s : List ℕ) → length a ≡ length b → a ++ r ≡ b ++ s → (a ≡ b) × (r ≡ s)
same_front [] [] r s n e = (refl, e)
same_front [] (y ∷ b) r s n e = absurd (omega arith)
same_front (x ∷ a) [] r s n e = absurd (omega arith)
same_front (x ∷ a) (y ∷ b) r s n e =
    let tails : a ++ r ≡ b ++ s = cc in
    let heads : x ≡ y = cc in
    let more = same_front a b r s (omega arith) tails in
    (ap₂ (λ (z : ℕ) (l : List ℕ). z ∷ l) heads more.0, more.1)

-- the parts of two things that begin the same bytes
parts : (a b f g l m r s : List ℕ) → a ≡ f ++ l → b ≡ g ++ m → a ++ r ≡ b ++ s
    → f ++ (l ++ r) ≡ g ++ (m ++ s)
parts a b f g l m r s a_is b_is e =
    sym (append_assoc f l r) ∙ ap (λ (z : List ℕ). z ++ r) (sym a_is) ∙ e
    ∙ ap (λ (z : List ℕ). z ++ s) b_is ∙ append_assoc g m s

word_told : IsDetermined IsWord
word_told a b r s n k is_a is_b e =
    let same = same_front a b r s (is_a.0 ∙ sym is_b.0) e in
    (sym is_a.1 ∙ ap number same.0 ∙ is_b.1, same.1)

-- ---- chunks

chunk_told : IsDetermined IsChunk
chunk_told a b r s x y is_a is_b e =
    let words =
    word_told is_a.header is_b.header (x ++ r) (y ++ s) (length x) (length y) is_a.word is_b.word
    (parts a b is_a.header is_b.header x y r s is_a.split is_b.split e) in
    same_front x y r s words.0 words.1

same_side : (side other : Side) → side_word side ≡ side_word other → side ≡ other
same_side Client Client e = refl
same_side Server Server e = refl
same_side Client Server e = absurd (omega arith)
same_side Server Client e = absurd (omega arith)

sided_told : IsDetermined IsSidedChunk
sided_told a b r s x y is_a is_b e =
    let words =
    word_told is_a.word is_b.word (is_a.rest ++ r) (is_b.rest ++ s) (side_word x.side)
    (side_word y.side) is_a.sided is_b.sided
    (parts a b is_a.word is_b.word is_a.rest is_b.rest r s is_a.split is_b.split e) in
    let chunks =
    chunk_told is_a.rest is_b.rest r s x.bytes y.bytes is_a.chunked is_b.chunked words.1 in (
      ap₂ (λ (side : Side) (bytes : List ℕ). record { side = side; bytes = bytes })
          (same_side x.side y.side words.0) chunks.0,
      chunks.1,
    )

-- ---- things one after another, and then the word 0

-- each begins with a word that is not 0
abbrev BeginsSome : {X : Type 0} → (List ℕ → X → Type 0) → Type 0
BeginsSome {X} Spells = (bytes : List ℕ) (x : X) → Spells bytes x
    → (word : List ℕ) × (rest : List ℕ) × (n : ℕ) × (bytes ≡ word ++ rest) × IsWord word n
    × (0 < n)

chunk_begins : BeginsSome IsChunk
chunk_begins bytes x h = (h.header, x, length x, h.split, h.word, h.some)

side_some : (side : Side) → 0 < side_word side
side_some Client = omega arith
side_some Server = omega arith

sided_begins : BeginsSome IsSidedChunk
sided_begins bytes x h = (h.word, h.rest, side_word x.side, h.split, h.sided, side_some x.side)

-- so none begins where the word 0 stands
not_closed : {X : Type 0} (Spells : List ℕ → X → Type 0) → BeginsSome Spells
    → (last front more r s : List ℕ) (x : X) → IsWord last 0 → Spells front x
    → last ++ r ≡ (front ++ more) ++ s → ⊥
not_closed Spells begins last front more r s x closes is e =
    let b = begins front x is in
    let words =
    word_told last b.0 r (b.1 ++ (more ++ s)) 0 b.2 closes b.4
    (e ∙ append_assoc front more s ∙ ap (λ (z : List ℕ). z ++ (more ++ s)) b.3
    ∙ append_assoc b.0 b.1 (more ++ s)) in
    omega (arith, words.0, b.5)

all_told : {X : Type 0} (Spells : List ℕ → X → Type 0) → IsDetermined Spells → BeginsSome Spells
    → (xs ys : List X) (a b last other r s : List ℕ) → Joins Spells a xs → Joins Spells b ys
    → IsWord last 0 → IsWord other 0 → a ++ (last ++ r) ≡ b ++ (other ++ s)
    → (xs ≡ ys) × (r ≡ s)
all_told Spells observed begins [] [] a b last other r s h k closes shuts e = (
  refl,
  (word_told last other r s 0 0 closes shuts (ap (λ (z : List ℕ). z ++ (last ++ r)) (sym h)
      ∙ e ∙ ap (λ (z : List ℕ). z ++ (other ++ s)) k)).1,
)
all_told Spells observed begins [] (y ∷ ys) a b last other r s h k closes shuts e =
    absurd (not_closed Spells begins last k.0 k.1 r (other ++ s) y closes k.3 (ap
    (λ (z : List ℕ). z ++ (last ++ r)) (sym h) ∙ e
    ∙ ap (λ (z : List ℕ). z ++ (other ++ s)) k.2))
all_told Spells observed begins (x ∷ xs) [] a b last other r s h k closes shuts e =
    absurd (not_closed Spells begins other h.0 h.1 s (last ++ r) x shuts h.3 (ap
    (λ (z : List ℕ). z ++ (other ++ s)) (sym k) ∙ sym e
    ∙ ap (λ (z : List ℕ). z ++ (last ++ r)) h.2))
all_told {X} Spells observed begins (x ∷ xs) (y ∷ ys) a b last other r s h k closes shuts e =
    let first =
    observed h.0 k.0 (h.1 ++ (last ++ r)) (k.1 ++ (other ++ s)) x y h.3 k.3
    (parts a b h.0 k.0 h.1 k.1 (last ++ r) (other ++ s) h.2 k.2 e) in
    let more =
    all_told Spells observed begins xs ys h.1 k.1 last other r s h.4 k.4 closes shuts first.1 in
    (ap₂ (λ (z : X) (l : List X). z ∷ l) first.0 more.0, more.1)

-- ---- streams

stream_told : IsDetermined IsStream
stream_told a b r s x y is_a is_b e =
    let all =
    all_told IsChunk chunk_told chunk_begins is_a.chunks.chunks is_b.chunks.chunks is_a.front
    is_b.front is_a.last is_b.last r s is_a.chunks.joined is_b.chunks.joined is_a.closes
    is_b.closes
    (parts a b is_a.front is_b.front is_a.last is_b.last r s is_a.split is_b.split e) in
    (is_a.chunks.carried ∙ ap concat all.0 ∙ sym is_b.chunks.carried, all.1)

in_turn_told : IsDetermined (AreStreams One)
in_turn_told a b r s x y (front, last, split, client, server)
    (others, more, parted, other_client, other_server) e =
    let first =
    stream_told front others (last ++ r) (more ++ s) x.client y.client client other_client
    (parts a b front others last more r s split parted e) in
    let second = stream_told last more r s x.server y.server server other_server first.1 in (
      ap₂ (λ (c : List ℕ) (z : List ℕ). record { client = c; server = z }) first.0 second.0,
      second.1,
    )

mixed_told : IsDetermined AreMixed
mixed_told a b r s x y is_a is_b e =
    let all =
    all_told IsSidedChunk sided_told sided_begins is_a.chunks is_b.chunks is_a.front is_b.front
    is_a.last is_b.last r s is_a.joined is_b.joined is_a.closes is_b.closes
    (parts a b is_a.front is_b.front is_a.last is_b.last r s is_a.split is_b.split e) in
    (is_a.carried ∙ ap gathered all.0 ∙ sym is_b.carried, all.1)

streams_told : (version : Version) → IsDetermined (AreStreams version)
streams_told One = in_turn_told
streams_told Two = mixed_told

connection_told : (version : Version) → IsDetermined (IsConnection version)
connection_told version a b r s x y is_a is_b e =
    let words =
    word_told is_a.mark is_b.mark (is_a.rest ++ r) (is_b.rest ++ s) 1 1 is_a.one is_b.one
    (parts a b is_a.mark is_b.mark is_a.rest is_b.rest r s is_a.split is_b.split e) in
    streams_told version is_a.rest is_b.rest r s x y is_a.both is_b.both words.1

connection_begins : (version : Version) → BeginsSome (IsConnection version)
connection_begins version bytes x h = (h.mark, h.rest, 1, h.split, h.one, omega arith)

-- ---- files

same_version : (version other : Version) → magic version ≡ magic other → version ≡ other
same_version One One e = refl
same_version Two Two e = refl
same_version One Two e = absurd (omega (arith, ap (λ (l : List ℕ). get_or l 7 0) e))
same_version Two One e = absurd (omega (arith, ap (λ (l : List ℕ). get_or l 7 0) e))

after_magic : (version : Version) (file : List ℕ) (connections : List Streams)
    (h : IsCapture version file connections) → file ≡ magic version ++ (h.bytes ++ h.last)
after_magic version file connections h =
    h.split ∙ append_assoc (magic version) h.bytes h.last

version_told : (version other : Version) (file : List ℕ) (connections others : List Streams)
    → IsCapture version file connections → IsCapture other file others → version ≡ other
version_told version other file connections others h k =
    same_version version other (same_front (magic version) (magic other) (h.bytes ++ h.last)
    (k.bytes ++ k.last) (length_magic version ∙ sym (length_magic other))
    (sym (after_magic version file connections h) ∙ after_magic other file others k)).0

connections_told : (version : Version) (file : List ℕ) (connections others : List Streams)
    → IsCapture version file connections → IsCapture version file others → connections ≡ others
connections_told version file connections others h k =
    let rest =
    same_front (magic version) (magic version) (h.bytes ++ h.last) (k.bytes ++ k.last) refl
    (sym (after_magic version file connections h) ∙ after_magic version file others k) in
    (all_told (IsConnection version) (connection_told version) (connection_begins version)
    connections others h.bytes k.bytes h.last k.last [] [] h.joined k.joined h.closes k.closes
    (sym (append_assoc h.bytes h.last []) ∙ ap (λ (z : List ℕ). z ++ []) rest.1
    ∙ append_assoc k.bytes k.last [])).0

pub streams_of : (version other : Version) (file : List ℕ) (connections others : List Streams)
    → IsCapture version file connections → IsCapture other file others → connections ≡ others
streams_of version other file connections others h k =
    let same = version_told version other file connections others h k in
    connections_told version file connections others h
    (subst (λ (v : Version). IsCapture v file others) (sym same) k)

typed_across : (version other : Version) (file again : List ℕ) (connections : List Streams)
    (entries : List Entry) → IsCapture version file connections
    → IsCapture other again connections → Typed file entries → Typed again entries
typed_across version other file again connections entries h k typed =
    record {
      version = other;
      connections = connections;
      front = typed.front;
      capture = k;
      messages =
          rw (← (streams_of typed.version version file typed.connections connections typed.capture
          h)) typed.messages;
      ends = typed.ends;
    }

pub same_entries : (version other : Version) (file again : List ℕ) (connections : List Streams)
    → IsCapture version file connections → IsCapture other again connections
    → HaveSameEntries file again
same_entries version other file again connections h k entries = (
  typed_across version other file
      again connections entries h k,
  typed_across other version again file connections entries k h,
)
