-- Positions, as the machine has them: a word's bytes at once.
use Rattle.std.proofs.Math.Seq.{drop-cons, take-suc}
use Rattle.std.proofs.lemmas.Bool.{ne_eqb}
use Rattle.capture3.proofs.Common.{after-append, BadMagic, BadMark, TooManyBytes, TooManyConnections, Next, Goes, Ends, Runs, after, landed, Joining, Error, Side, Begin, Spot, Version, One, Two, Streams, ◌≢◌, drop, get_or, add-one, eq-eqb, Result, Ok, Err, IfOk, ◌≡◌, ℕ, zero, suc, ◌+◌, ◌<◌, ◌≤◌, List, [], ◌∷◌, length, take, refl, ap, ◌∙◌, arith, lt-ltb, le-ltb, Transition, MAGIC, WordPart, unpacking_with, file_fault, bytes_so_far, TakesWord, Unpacking, Unpacked, Has, at_byte, before_mark, begun_at, chunk_counted, in_chunk, left_of_magic, connection_marked, unpack_next, unpacking_at, word_read, Lands, Moves, ShowsFault}
use Rattle.capture3.specs.declared.fault.Error.TheVariants.{Refused}
use Rattle.capture3.specs.declared.container.position.Position.{Position}
use Rattle.capture3.specs.declared.container.position.counts.Counts.{Counts}
use Rattle.capture3.specs.declared.container.position.spot.WordOf.{WordOf}
use Rattle.capture3.specs.declared.container.position.spot.Spot.TheVariants.{Magic, Digit, Word}
use Rattle.capture3.specs.machinery.PositionState.{standing_at}
use Rattle.record_mark.specs.declared.word_part.Word.TheVariants.{Part, Whole}
use Rattle.record_mark.proofs.WordParts.{short_part}
use Rattle.capture3.proofs.Lemmas.Container.ContainerMachineLemmas.{word_goes_on, word_ends}

-- the position with another spot
abbrev pub with_spot : Position → Spot → Position
with_spot p spot = record p { spot = spot }

pub at_spot : (p : Position) (streams : Streams) (joining : Joining) (spot : Spot) → p.spot ≡ spot
    → unpacking_at p streams joining ≡ unpacking_at (with_spot p spot) streams joining
at_spot p streams joining spot is =
    ap (λ (s : Spot). unpacking_at (with_spot p s) streams joining) is

pub word_part : (counts : Counts) (streams : Streams) (joining : Joining) (word : WordOf)
    (part longer : WordPart) (bytes : List ℕ) (count : ℕ) → TakesWord part bytes count (Part longer)
    → after unpack_next (Runs (unpacking_at (standing_at counts (Word word part)) streams joining))
    (take count bytes)
    ≡ Runs (unpacking_at (standing_at counts (Word word longer)) streams joining)
word_part counts streams joining word part longer bytes count taken =
    word_goes_on word counts streams joining
    (bytes_so_far part) (take count bytes) (short_part part) (bytes_so_far longer) taken.0
    (short_part longer)

pub word_whole : (counts : Counts) (streams : Streams) (joining : Joining) (word : WordOf)
    (part : WordPart) (bytes : List ℕ) (count n : ℕ) → TakesWord part bytes count (Whole n)
    → after unpack_next (Runs (unpacking_at (standing_at counts (Word word part)) streams joining))
    (take count bytes)
    ≡ landed (word_read word counts streams joining n)
word_whole counts streams joining word part bytes count n taken =
    word_ends word counts streams joining
    (bytes_so_far part) (take count bytes) (short_part part) n taken

-- what a whole word leads to, the bytes taken lead to
pub lands_moves : (from : Unpacking) (bytes : List ℕ) (streams : Streams) (joining : Joining)
    (count : ℕ) (next : Next Unpacking Unpacked) (r : Result Transition Error)
    → count ≤ length bytes
    → after unpack_next (Runs from) (take count bytes) ≡ landed next → IfOk r (λ t. t.count ≡ count)
    → Lands next streams joining r → Moves from bytes streams joining r
lands_moves from bytes streams joining count next (Ok t) fits led same lands =
    ap (λ (n : ℕ). after unpack_next (Runs from) (take n bytes)) same ∙ led ∙ lands
lands_moves from bytes streams joining count next (Err (Refused fault)) fits led same lands =
    (count, fits, led ∙ ap landed lands)
lands_moves from bytes streams joining count next (Err error) fits led same lands = lands

-- ---- what whole words lead to

pub marked_bad : (version : Version) (at total connections records : ℕ) (joining : Joining) (n : ℕ)
    → 1 < n
    → connection_marked version at total connections records joining n ≡ Ends (at_byte at BadMark)
marked_bad version at total connections records joining (suc (suc n)) h = refl
marked_bad version at total connections records joining n h = absurd (omega arith)

pub marked_one : (version : Version) (at total connections records : ℕ) (joining : Joining)
    → connections < 65535
    → connection_marked version at total connections records joining 1
    ≡ Ends (Has Begin [] (begun_at version at total (connections + 1) joining))
marked_one version at total connections records joining few =
    rw (lt-ltb connections 65535 few)

pub marked_many : (version : Version) (at total connections records : ℕ) (joining : Joining)
    → 65535 ≤ connections
    → connection_marked version at total connections records joining 1
    ≡ Ends (at_byte at TooManyConnections)
marked_many version at total connections records joining many =
    rw (le-ltb connections 65535 many)

pub counted_over : (at total connections records : ℕ) (side : Side) (joining : Joining) (n : ℕ)
    → 0 < n → 1073741824 < total + n
    → chunk_counted at total connections records side joining n ≡ Ends (at_byte at TooManyBytes)
counted_over at total connections records side joining zero some over = absurd (omega arith)
counted_over at total connections records side joining (suc left) some over =
    rw (lt-ltb 1073741824 (total + suc left) over)

pub counted_fits : (at total connections records : ℕ) (side : Side) (joining : Joining) (n : ℕ)
    → 0 < n → total + n ≤ 1073741824
    → chunk_counted at total connections records side joining n
    ≡ Goes (in_chunk (at + 4 + n) (total + n) connections records side n joining)
counted_fits at total connections records side joining zero some fits = absurd (omega arith)
counted_fits at total connections records side joining (suc left) some fits =
    rw (le-ltb 1073741824 (total + suc left) fits)

pub ruleset words_lead = (marked_bad, marked_one, marked_many, counted_over, counted_fits)

-- ---- the magic

-- after so many bytes of the magic
abbrev pub in_magic : Counts → Joining → ℕ → Unpacking
in_magic p joining n =
    unpacking_with n p.total p.connections p.records (left_of_magic (drop n MAGIC)) joining

magic_due : (p : Counts) (joining : Joining) (n : ℕ) → n < 7
    → in_magic p joining n
    ≡ unpacking_with n p.total p.connections p.records
    (left_of_magic (get_or MAGIC n 0 ∷ drop (suc n) MAGIC)) joining
magic_due p joining n within =
    ap (λ due. unpacking_with n p.total p.connections p.records (left_of_magic due) joining)
    (drop-cons MAGIC n 0 within)

magic_byte : (p : Counts) (joining : Joining) (n byte : ℕ) → n < 7 → byte ≡ get_or MAGIC n 0
    → unpack_next (in_magic p joining n) byte ≡ Goes (in_magic p joining (suc n))
magic_byte p joining n byte within is =
    ap (λ u. unpack_next u byte) (magic_due p joining n within)
    ∙ rw (eq-eqb byte (get_or MAGIC n 0) is, add-one)

wrong_byte : (p : Counts) (joining : Joining) (n byte : ℕ) → n < 7 → byte ≢ get_or MAGIC n 0
    → unpack_next (in_magic p joining n) byte ≡ Ends (at_byte n BadMagic)
wrong_byte p joining n byte within other =
    ap (λ u. unpack_next u byte) (magic_due p joining n within)
    ∙ rw (ne_eqb byte (get_or MAGIC n 0) other)

-- one byte more of these
taken_one_more : (from : Unpacking) (bytes : List ℕ) (i : ℕ) (u : Unpacking)
    (n : Next Unpacking Unpacked) → i < length bytes
    → after unpack_next (Runs from) (take i bytes) ≡ Runs u → unpack_next u (get_or bytes i 0) ≡ n
    → after unpack_next (Runs from) (take (i + 1) bytes) ≡ landed n
taken_one_more from bytes i u n within so_far next =
    rw (add-one, take-suc bytes i 0 within, after-append, so_far, next)

-- so far the bytes are those of the magic
abbrev pub AgreeWithMagic : Counts → List ℕ → ℕ → Type 0
AgreeWithMagic p bytes i = (joining : Joining)
    → after unpack_next (Runs (in_magic p joining p.at)) (take i bytes)
    ≡ Runs (in_magic p joining (p.at + i))

pub agree_more : (p : Counts) (bytes : List ℕ) (i : ℕ) → p.at + i < 7 → i < length bytes
    → get_or bytes i 0 ≡ get_or MAGIC (p.at + i) 0 → AgreeWithMagic p bytes i
    → AgreeWithMagic p bytes (i + 1)
agree_more p bytes i due within is so_far joining =
    let next : suc (p.at + i) ≡ p.at + (i + 1) = omega arith in
    taken_one_more (in_magic p joining p.at) bytes i (in_magic p joining (p.at + i))
    (Goes (in_magic p joining (suc (p.at + i)))) within (so_far joining)
    (magic_byte p joining (p.at + i) (get_or bytes i 0) due is)
    ∙ ap (λ (k : ℕ). Runs (in_magic p joining k)) next

pub magic_fault : (p : Counts) (streams : Streams) (joining : Joining) (bytes : List ℕ) (i : ℕ)
    → p.at + i < 7 → i < length bytes → get_or bytes i 0 ≢ get_or MAGIC (p.at + i) 0
    → AgreeWithMagic p bytes i
    → ShowsFault (unpacking_at (standing_at p Magic) streams joining) bytes
    (Refused (file_fault (p.at + i) BadMagic))
magic_fault p streams joining bytes i due within other so_far =
    let one_more : i + 1 ≤ length bytes = omega arith in (
      i + 1,
      one_more,
      taken_one_more (in_magic p joining p.at) bytes i (in_magic p joining (p.at + i))
          (Ends (at_byte (p.at + i) BadMagic)) within (so_far joining)
          (wrong_byte p joining (p.at + i) (get_or bytes i 0) due other),
    )

-- ---- the version

in_digit : (p : Counts) (streams : Streams) (joining : Joining) (bytes : List ℕ) (n : ℕ)
    → 0 < length bytes → get_or bytes 0 0 ≡ n
    → after unpack_next (Runs (unpacking_at (standing_at p Digit) streams joining)) (take 1 bytes)
    ≡ landed (unpack_next (unpacking_at (standing_at p Digit) streams joining) n)
in_digit p streams joining [] n some is = absurd (omega arith)
in_digit p streams joining (byte ∷ bytes) n some is =
    ap (λ (b : ℕ). landed (unpack_next (unpacking_at (standing_at p Digit) streams joining) b)) is

pub digit_one : (p : Counts) (streams : Streams) (joining : Joining) (bytes : List ℕ)
    → 0 < length bytes → get_or bytes 0 0 ≡ 49
    → after unpack_next (Runs (unpacking_at (standing_at p Digit) streams joining)) (take 1 bytes)
    ≡ Runs (before_mark One (p.at + 1) p.total p.connections p.records joining)
digit_one p streams joining bytes some is = in_digit p streams joining bytes 49 some is

pub digit_two : (p : Counts) (streams : Streams) (joining : Joining) (bytes : List ℕ)
    → 0 < length bytes → get_or bytes 0 0 ≡ 50
    → after unpack_next (Runs (unpacking_at (standing_at p Digit) streams joining)) (take 1 bytes)
    ≡ Runs (before_mark Two (p.at + 1) p.total p.connections p.records joining)
digit_two p streams joining bytes some is = in_digit p streams joining bytes 50 some is
