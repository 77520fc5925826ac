-- The machine that gathers the chunks of both sides.
use Rattle.capture3.proofs.Common.{lengths, ◌≡◌, inl, inr, ℕ, zero, suc, ◌+◌, ◌<◌, ◌≤◌, List, [], ◌∷◌, ◌++◌, length, refl, sym, ap, ◌∙◌, append_assoc, append-nil, arith, length-append, nat_lt, ltb-true, ltb-false, le-ltb, Run, Runs, Stops, landed, after, IsWord, Joins, word_next, Leads, leads_within, IsPart, word_leads, Joins-snoc, BadMark, Side, Client, Server, max_bytes, Position, MixedShows, BadSide, NoLength, TooMuch, file_fault, SideWord, SideLength, SideChunk, Mixing, MixedEnd, MixedCloses, MixedRefuses, awaiting_side, sided, measured, mixed_next, mixing_from, Streams, size, SidedChunk, IsSidedChunk, side_word, of_side, gathered, carried_by, with_more, AreMixed, BeginsMixed, mixing_in, AfterSideWord, WithinSided}
use Rattle.capture3.proofs.Lemmas.Connections.RankLemmas.{by_test}
use Rattle.capture3.proofs.Lemmas.Files.EndedMachines.{after_two, word_ends, word_goes}

-- the machine after the bytes of a connection that is not whole
abbrev pub mixed_state : (context : Position) (bytes : List ℕ) → BeginsMixed context.before bytes
    → Mixing
mixed_state context bytes (inl b) =
    mixing_in (context.start + length b.front) (context.before + size (gathered b.chunks))
    (gathered b.chunks) (SideWord b.part)
mixed_state context bytes (inr (inl b)) =
    mixing_in (context.start + length b.here.front + 4)
    (context.before + size (gathered b.here.chunks)) (gathered b.here.chunks)
    (SideLength b.here.side b.here.rest)
mixed_state context bytes (inr (inr b)) =
    mixing_in (context.start + length bytes + suc b.left)
    (context.before + size (gathered b.here.chunks) + (length b.got + suc b.left))
    (with_more (gathered b.here.chunks) b.here.side b.got) (SideChunk b.here.side b.left)

abbrev pub HasMixed : Position → List ℕ → Mixing → Type 0
HasMixed context bytes s =
    (b : BeginsMixed context.before bytes) × (s ≡ mixed_state context bytes b)

-- all chunks of a connection are whole
pub record ClosesMixed (context : Position) (bytes : List ℕ) (at total : ℕ) (streams : Streams) :
    Type 0 where
  pub mixed : AreMixed bytes streams
  pub at_is : at ≡ context.start + length bytes
  pub total_is : total ≡ context.before + size streams
  pub fits : total ≤ max_bytes

abbrev pub EndsMixed : Position → List ℕ → MixedEnd → Type 0
EndsMixed context bytes (MixedCloses at total streams) = ClosesMixed context bytes at total streams
EndsMixed context bytes (MixedRefuses fault) = MixedShows context bytes fault

abbrev pub RefusedMixed : MixedEnd → Type 0
RefusedMixed (MixedCloses at total streams) = ⊥
RefusedMixed (MixedRefuses fault) = Unit {0}

same_mixing : (s : Mixing) {n m : ℕ} {streams : Streams} → s.at ≡ n → s.total ≡ m
    → s.streams ≡ streams → s ≡ mixing_in n m streams s.point
same_mixing s e f g = λ i. mixing_in (e i) (f i) (g i) s.point

of_side-append : (a b : Side) (x y : List ℕ) → of_side a b (x ++ y) ≡ of_side a b x ++ of_side a b y
of_side-append Client Client x y = refl
of_side-append Server Server x y = refl
of_side-append a b x y = refl

of_side-nil : (a b : Side) → of_side a b [] ≡ []
of_side-nil Client Client = refl
of_side-nil Server Server = refl
of_side-nil a b = refl

pub size-with_more : (streams : Streams) (side : Side) (bytes : List ℕ)
    → size (with_more streams side bytes) ≡ size streams + length bytes
size-with_more streams Client bytes =
    omega lengths
size-with_more streams Server bytes =
    omega lengths

with_more-append : (streams : Streams) (side : Side) (x y : List ℕ)
    → with_more (with_more streams side x) side y ≡ with_more streams side (x ++ y)
with_more-append streams side x y = λ i. record {
  client = (append_assoc streams.client (of_side Client side x) (of_side Client side y)
      ∙ ap (λ (b : List ℕ). streams.client ++ b) (sym (of_side-append Client side x y))) i;
  server = (append_assoc streams.server (of_side Server side x) (of_side Server side y)
      ∙ ap (λ (b : List ℕ). streams.server ++ b) (sym (of_side-append Server side x y))) i;
}

with_more-nil : (streams : Streams) (side : Side) → with_more streams side [] ≡ streams
with_more-nil streams side = λ i. record {
  client = (ap (λ (b : List ℕ). streams.client ++ b) (of_side-nil Client side)
      ∙ append-nil streams.client) i;
  server = (ap (λ (b : List ℕ). streams.server ++ b) (of_side-nil Server side)
      ∙ append-nil streams.server) i;
}

carried_by-snoc : (side : Side) (chunks : List SidedChunk) (chunk : SidedChunk)
    → carried_by side (chunks ++ chunk ∷ [])
    ≡ carried_by side chunks ++ of_side side chunk.side chunk.bytes
carried_by-snoc side [] chunk = append-nil (of_side side chunk.side chunk.bytes)
carried_by-snoc side (c ∷ chunks) chunk =
    ap (λ (b : List ℕ). of_side side c.side c.bytes ++ b) (carried_by-snoc side chunks chunk)
    ∙ sym (append_assoc (of_side side c.side c.bytes) (carried_by side chunks)
    (of_side side chunk.side chunk.bytes))

gathered-snoc : (chunks : List SidedChunk) (chunk : SidedChunk)
    → gathered (chunks ++ chunk ∷ []) ≡ with_more (gathered chunks) chunk.side chunk.bytes
gathered-snoc chunks chunk =
    λ i.
    record {
      client = carried_by-snoc Client chunks chunk i;
      server = carried_by-snoc Server chunks chunk i;
    }

module _ (context : Position) where
  goes_sided : (bytes front word : List ℕ) (chunks : List SidedChunk) (side : Side)
      → bytes ≡ front ++ word → Joins IsSidedChunk front chunks → IsWord word (side_word side)
      → context.before + size (gathered chunks) ≤ max_bytes
      → HasMixed context bytes
      (mixing_in (context.start + length front + 4) (context.before + size (gathered chunks))
      (gathered chunks) (SideLength side []))
  goes_sided bytes front word chunks side split joined is fits = (
    inr (inl (record {
      here = record {
        chunks = chunks;
        side = side;
        front = front;
        word = word;
        rest = [];
        split = split ∙ sym (append-nil (front ++ word));
        joined = joined;
        sided = is;
      };
      short = omega arith;
      fits = fits;
    })),
    refl,
  )

  sided_leads : (bytes front word : List ℕ) (chunks : List SidedChunk) (n : ℕ)
      → bytes ≡ front ++ word → Joins IsSidedChunk front chunks → IsWord word n
      → context.before + size (gathered chunks) ≤ max_bytes
      → Leads (HasMixed context) (EndsMixed context) bytes
      (sided (context.start + length front) (context.before + size (gathered chunks))
      (gathered chunks) n)
  sided_leads bytes front word chunks zero split joined is fits =
      record {
        mixed =
            record {
              chunks = chunks;
              front = front;
              last = word;
              split = split;
              joined = joined;
              closes = is;
              carried = refl;
            };
        at_is = omega (lengths, ap length split);
        total_is = refl;
        fits = fits;
      }
  sided_leads bytes front word chunks (suc zero) split joined is fits =
      goes_sided bytes front word chunks Client split joined is fits
  sided_leads bytes front word chunks (suc (suc zero)) split joined is fits =
      goes_sided bytes front word chunks Server split joined is fits
  sided_leads bytes front word chunks (suc (suc (suc other))) split joined is fits =
      BadSide chunks front word (suc (suc (suc other))) split joined is (omega arith) refl

  measured_leads : (bytes : List ℕ) (b : AfterSideWord bytes)
      → context.before + size (gathered b.chunks) ≤ max_bytes → (n : ℕ) → IsWord b.rest n
      → Leads (HasMixed context) (EndsMixed context) bytes
      (measured (context.start + length b.front + 4)
      (context.before + size (gathered b.chunks)) (gathered b.chunks) b.side n)
  measured_leads bytes b fits zero word = NoLength b word refl
  measured_leads bytes b fits (suc left) word =
      let total : ℕ = context.before + size (gathered b.chunks) in
      by_test (nat_lt max_bytes (total + suc left))
      (λ over.
      let passes = ltb-true max_bytes (total + suc left) over in
      rw over (TooMuch b (suc left) word (omega arith) passes refl))
      (λ over. rw over (
        inr (inr (record {
          here = b;
          header = b.rest;
          got = [];
          left = left;
          split = sym (append-nil b.rest);
          counts = (word.0, word.1 ∙ omega arith);
          fits = omega (arith, ltb-false max_bytes (total + suc left) over);
        })),
        same_mixing _ (omega (lengths, ap length b.split, b.sided.0, word.0))
            (omega arith) (sym (with_more-nil (gathered b.chunks) b.side)),
      ))

  -- one byte more after a side word
  abbrev one_byte_more : (bytes : List ℕ) (byte : ℕ) (b : AfterSideWord bytes) (rest : List ℕ)
      → b.rest ++ byte ∷ [] ≡ rest → AfterSideWord (bytes ++ byte ∷ [])
  one_byte_more bytes byte b rest is =
      let more : bytes ++ byte ∷ [] ≡ b.front ++ b.word ++ (b.rest ++ byte ∷ []) =
      simp (b.split, append_assoc) in
      record {
        chunks = b.chunks;
        side = b.side;
        front = b.front;
        word = b.word;
        rest = rest;
        split = more ∙ ap (λ (l : List ℕ). b.front ++ b.word ++ l) is;
        joined = b.joined;
        sided = b.sided;
      }

  -- one byte more of a chunk
  more_mixed : (bytes : List ℕ) (byte : ℕ) (w : WithinSided context.before bytes) (left : ℕ)
      → w.left ≡ left
      → HasMixed context (bytes ++ byte ∷ [])
      (mixing_in (context.start + length bytes + suc left)
      (context.before + size (gathered w.here.chunks) + (length w.got + suc left))
      (with_more (with_more (gathered w.here.chunks) w.here.side w.got) w.here.side (byte ∷ []))
      (awaiting_side w.here.side left))
  more_mixed bytes byte w zero is =
      let got : List ℕ = w.got ++ byte ∷ [] in
      let b = w.here in
      let chunk : SidedChunk = record { side = b.side; bytes = got } in
      let all = gathered-snoc b.chunks chunk in
      let size_is = ap size all ∙ size-with_more (gathered b.chunks) b.side got in
      let last : IsSidedChunk (b.word ++ (w.header ++ got)) chunk =
      record {
        word = b.word;
        rest = w.header ++ got;
        split = refl;
        sided = b.sided;
        chunked =
            record {
              header = w.header;
              split = refl;
              word = (w.counts.0, w.counts.1 ∙ omega lengths);
              some = omega lengths;
            };
      } in
      let split : bytes ++ byte ∷ [] ≡ b.front ++ (b.word ++ (w.header ++ got)) =
      simp (b.split, w.split, append_assoc) in (
        inl (record {
          chunks = b.chunks ++ chunk ∷ [];
          front = bytes ++ byte ∷ [];
          part = [];
          split = sym (append-nil (bytes ++ byte ∷ []));
          joined =
              rw split (Joins-snoc IsSidedChunk b.chunks b.front (b.word ++ (w.header ++ got)) chunk
              b.joined last);
          short = omega lengths;
          fits = omega lengths;
        }),
        same_mixing _ (omega lengths) (omega lengths)
            (with_more-append (gathered b.chunks) b.side w.got (byte ∷ []) ∙ sym all),
      )
  more_mixed bytes byte w (suc left) is =
      let more = length-append w.got (byte ∷ []) in (
        inr (inr (record {
          here = one_byte_more bytes byte w.here (w.here.rest ++ byte ∷ []) refl;
          header = w.header;
          got = w.got ++ byte ∷ [];
          left = left;
          split = simp (w.split, append_assoc);
          counts = (w.counts.0, w.counts.1 ∙ omega lengths);
          fits = omega lengths;
        })),
        same_mixing _ (omega lengths) (omega lengths)
            (with_more-append (gathered w.here.chunks) w.here.side w.got (byte ∷ [])),
      )

  begun_leads : (bytes : List ℕ) (b : BeginsMixed context.before bytes) (byte : ℕ)
      → Leads (HasMixed context) (EndsMixed context) (bytes ++ byte ∷ [])
      (mixed_next (mixed_state context bytes b) byte)
  begun_leads bytes (inl b) byte =
      let at : ℕ = context.start + length b.front in
      let total : ℕ = context.before + size (gathered b.chunks) in
      let more : bytes ++ byte ∷ [] ≡ b.front ++ (b.part ++ byte ∷ []) =
      rw (b.split, append_assoc) in
      leads_within IsPart IsWord (HasMixed context) (EndsMixed context)
      (λ p. mixing_in at total (gathered b.chunks) (SideWord p))
      (sided at total (gathered b.chunks))
      (b.part ++ byte ∷ []) (bytes ++ byte ∷ [])
      (λ p is. (
        inl (record {
          chunks = b.chunks;
          front = b.front;
          part = p;
          split = more ∙ ap (λ (l : List ℕ). b.front ++ l) is.0;
          joined = b.joined;
          short = is.1;
          fits = b.fits;
        }),
        refl,
      ))
      (λ n is.
      sided_leads (bytes ++ byte ∷ []) b.front (b.part ++ byte ∷ []) b.chunks n more b.joined is
      b.fits)
      (word_next b.part byte) (word_leads b.part byte b.short)
  begun_leads bytes (inr (inl b)) byte =
      let at : ℕ = context.start + length b.here.front + 4 in
      let streams : Streams = gathered b.here.chunks in
      let total : ℕ = context.before + size streams in
      let part : List ℕ = b.here.rest in
      leads_within IsPart IsWord (HasMixed context) (EndsMixed context)
      (λ p. mixing_in at total streams (SideLength b.here.side p))
      (measured at total streams b.here.side) (part ++ byte ∷ []) (bytes ++ byte ∷ [])
      (λ p is. (
        inr (inl (record {
          here = one_byte_more bytes byte b.here p is.0;
          short = is.1;
          fits = b.fits;
        })),
        refl,
      ))
      (λ n is.
      measured_leads (bytes ++ byte ∷ []) (one_byte_more bytes byte b.here (part ++ byte ∷ []) refl)
      b.fits n is)
      (word_next part byte) (word_leads part byte b.short)
  begun_leads bytes (inr (inr w)) byte = more_mixed bytes byte w w.left refl

  pub mixed_leads : (bytes : List ℕ) (s : Mixing) (byte : ℕ) → HasMixed context bytes s
      → Leads (HasMixed context) (EndsMixed context) (bytes ++ byte ∷ []) (mixed_next s byte)
  mixed_leads bytes s byte h = rw h.1 (begun_leads bytes h.0 byte)

  pub nothing_gathered : context.before ≤ max_bytes
      → HasMixed context [] (mixing_from context.start context.before)
  nothing_gathered fits = (
    inl (record {
      chunks = [];
      front = [];
      part = [];
      split = refl;
      joined = refl;
      short = omega arith;
      fits = omega arith;
    }),
    same_mixing _ (omega arith) (omega arith) refl,
  )

-- ---- the other way round

-- the machine, from a state and from a connection's start
abbrev pub mixed_after : Mixing → List ℕ → Run Mixing MixedEnd
mixed_after s = after mixed_next (Runs s)

abbrev pub mixed_taken : Position → List ℕ → Run Mixing MixedEnd
mixed_taken context = mixed_after (mixing_from context.start context.before)

-- at a side word
abbrev pub mixing_at : ℕ → ℕ → Streams → Mixing
mixing_at at total streams = mixing_in at total streams (SideWord [])

pub chunk_bytes : (at total : ℕ) (streams : Streams) (side : Side) (got : List ℕ) (n m : ℕ)
    → n ≡ length got + m
    → mixed_after (mixing_in at total streams (awaiting_side side n)) got
    ≡ Runs (mixing_in at total (with_more streams side got) (awaiting_side side m))
chunk_bytes at total streams side [] n m e =
    let same : n ≡ m = omega arith in rw (same, with_more-nil streams side)
chunk_bytes at total streams side (byte ∷ got) n m e =
    let more : n ≡ suc (length got + m) = omega arith in
    rw more (chunk_bytes at total (with_more streams side (byte ∷ [])) side got (length got + m) m
    refl
    ∙ rw (with_more-append streams side (byte ∷ []) got))

pub word_lands : (at total n : ℕ) (streams : Streams) (word : List ℕ) → IsWord word n
    → mixed_after (mixing_at at total streams) word ≡ landed (sided at total streams n)
word_lands at total n streams =
    word_ends mixed_next (λ p. mixing_in at total streams (SideWord p)) (sided at total streams)
    (λ s byte. refl)

side_lands : (at total : ℕ) (streams : Streams) (side : Side)
    → landed (sided at total streams (side_word side))
    ≡ Runs (mixing_in (at + 4) total streams (SideLength side []))
side_lands at total streams Client = refl
side_lands at total streams Server = refl

pub header_lands : (at total n : ℕ) (streams : Streams) (side : Side) (header : List ℕ)
    → IsWord header n
    → mixed_after (mixing_in at total streams (SideLength side [])) header
    ≡ landed (measured at total streams side n)
header_lands at total n streams side =
    word_ends mixed_next (λ p. mixing_in at total streams (SideLength side p))
    (measured at total streams side) (λ s byte. refl)

pub after_side : (at total : ℕ) (streams : Streams) (side : Side) (word rest : List ℕ)
    → IsWord word (side_word side)
    → mixed_after (mixing_at at total streams) (word ++ rest)
    ≡ mixed_after (mixing_in (at + 4) total streams (SideLength side [])) rest
after_side at total streams side word rest is =
    after_two _ _ word rest refl
    (word_lands at total (side_word side) streams word is ∙ side_lands at total streams side) refl

measures : (at total n : ℕ) (streams : Streams) (side : Side) (header : List ℕ) → IsWord header n
    → 0 < n → total + n ≤ max_bytes
    → mixed_after (mixing_in at total streams (SideLength side [])) header
    ≡ Runs (mixing_in (at + 4 + n) (total + n) streams (awaiting_side side n))
measures at total zero streams side header is some fits = absurd (omega arith)
measures at total (suc left) streams side header is some fits =
    header_lands at total (suc left) streams side header is
    ∙ rw (le-ltb max_bytes (total + suc left) fits)

chunk_lands : (at total : ℕ) (streams : Streams) (side : Side) (word header got : List ℕ) (left : ℕ)
    → IsWord word (side_word side) → IsWord header (length got + left) → 0 < length got + left
    → total + (length got + left) ≤ max_bytes
    → mixed_after (mixing_at at total streams) (word ++ (header ++ got))
    ≡ Runs (mixing_in (at + 4 + 4 + (length got + left)) (total + (length got + left))
    (with_more streams side got) (awaiting_side side left))
chunk_lands at total streams side word header got left is counts some fits =
    after_side at total streams side word (header ++ got) is
    ∙ after_two _ _ header got
    refl (measures (at + 4) total (length got + left) streams side header counts some fits)
    (chunk_bytes (at + 4 + 4 + (length got + left)) (total + (length got + left)) streams side
    got (length got + left) left refl)

-- streams with these chunks at their ends
abbrev pub with_chunks : Streams → List SidedChunk → Streams
with_chunks streams [] = streams
with_chunks streams (chunk ∷ chunks) = with_chunks (with_more streams chunk.side chunk.bytes) chunks

with_chunks_client : (streams : Streams) (chunks : List SidedChunk)
    → (with_chunks streams chunks).client ≡ streams.client ++ carried_by Client chunks
with_chunks_client streams [] = sym (append-nil streams.client)
with_chunks_client streams (chunk ∷ chunks) =
    with_chunks_client (with_more streams chunk.side chunk.bytes) chunks
    ∙ append_assoc streams.client (of_side Client chunk.side chunk.bytes)
    (carried_by Client chunks)

with_chunks_server : (streams : Streams) (chunks : List SidedChunk)
    → (with_chunks streams chunks).server ≡ streams.server ++ carried_by Server chunks
with_chunks_server streams [] = sym (append-nil streams.server)
with_chunks_server streams (chunk ∷ chunks) =
    with_chunks_server (with_more streams chunk.side chunk.bytes) chunks
    ∙ append_assoc streams.server (of_side Server chunk.side chunk.bytes)
    (carried_by Server chunks)

pub with_chunks_all : (chunks : List SidedChunk)
    → with_chunks (gathered []) chunks ≡ gathered chunks
with_chunks_all chunks =
    λ i.
    record {
      client = with_chunks_client (gathered []) chunks i;
      server = with_chunks_server (gathered []) chunks i;
    }

pub size_of : (side : Side) (bytes : List ℕ)
    → length (of_side Client side bytes) + length (of_side Server side bytes) ≡ length bytes
size_of Client bytes = omega arith
size_of Server bytes = omega arith

chunks_land : (chunks : List SidedChunk) (at total end sum : ℕ) (streams : Streams) (front : List ℕ)
    → Joins IsSidedChunk front chunks → total + size (gathered chunks) ≤ max_bytes
    → end ≡ at + length front → sum ≡ total + size (gathered chunks)
    → mixed_after (mixing_at at total streams) front
    ≡ Runs (mixing_at end sum (with_chunks streams chunks))
chunks_land [] at total end sum streams front h fits end_is sum_is =
    rw h (ap Runs (same_mixing _ (omega (lengths, ap length h)) (omega lengths) refl))
chunks_land (chunk ∷ chunks) at total end sum streams front h fits end_is sum_is =
    let c = h.3.chunked in
    let whole : length chunk.bytes ≡ length chunk.bytes + 0 = omega lengths in
    let servers =
    length-append (of_side Server chunk.side chunk.bytes) (carried_by Server chunks) in
    let sides = size_of chunk.side chunk.bytes in
    after_two _ _ h.0 h.1 h.2
    (rw (h.3.split, c.split) (chunk_lands at total streams chunk.side h.3.word c.header chunk.bytes
    0 h.3.sided (c.word.0, c.word.1 ∙ whole) (omega lengths) (omega lengths)))
    (chunks_land chunks (at + 4 + 4 + (length chunk.bytes + 0)) (total + (length chunk.bytes + 0))
    end sum (with_more streams chunk.side chunk.bytes) h.1 h.4
    (omega lengths)
    (omega (lengths, ap length h.2, ap length h.3.split, ap length c.split))
    (omega lengths))

module _ (context : Position) where
  -- after whole chunks
  front_lands : (front : List ℕ) (chunks : List SidedChunk) → Joins IsSidedChunk front chunks
      → context.before + size (gathered chunks) ≤ max_bytes
      → mixed_taken context front
      ≡ Runs (mixing_at (context.start + length front) (context.before + size (gathered chunks))
      (gathered chunks))
  front_lands front chunks joined fits =
      chunks_land chunks context.start context.before (context.start + length front)
      (context.before + size (gathered chunks)) (gathered []) front joined fits refl refl
      ∙ rw (with_chunks_all chunks)

  begun_runs : (bytes : List ℕ) (b : BeginsMixed context.before bytes)
      → mixed_taken context bytes ≡ Runs (mixed_state context bytes b)
  begun_runs bytes (inl b) =
      let at : ℕ = context.start + length b.front in
      let total : ℕ = context.before + size (gathered b.chunks) in
      after_two _ _ b.front b.part b.split (front_lands b.front b.chunks b.joined b.fits)
      (word_goes mixed_next (λ p. mixing_in at total (gathered b.chunks) (SideWord p))
      (sided at total (gathered b.chunks)) (λ s byte. refl) b.part b.short)
  begun_runs bytes (inr (inl h)) =
      let b = h.here in
      let at : ℕ = context.start + length b.front in
      let total : ℕ = context.before + size (gathered b.chunks) in
      after_two _ _ b.front (b.word ++ b.rest) (b.split ∙ append_assoc b.front b.word b.rest)
      (front_lands b.front b.chunks b.joined h.fits)
      (after_side at total (gathered b.chunks) b.side b.word b.rest b.sided
      ∙ word_goes mixed_next
      (λ p. mixing_in (at + 4) total (gathered b.chunks) (SideLength b.side p))
      (measured (at + 4) total (gathered b.chunks) b.side) (λ s byte. refl) b.rest h.short)
  begun_runs bytes (inr (inr w)) =
      let b = w.here in
      let split : bytes ≡ b.front ++ (b.word ++ (w.header ++ w.got)) =
      simp (b.split, w.split, append_assoc) in
      after_two _ _ b.front (b.word ++ (w.header ++ w.got)) split
      (front_lands b.front b.chunks b.joined (omega (arith, w.fits)))
      (chunk_lands (context.start + length b.front) (context.before + size (gathered b.chunks))
      (gathered b.chunks) b.side b.word w.header w.got (suc w.left) b.sided w.counts (omega arith)
      w.fits
      ∙ ap Runs (same_mixing _ (omega (lengths, ap length split, b.sided.0, w.counts.0)) refl refl))

  pub mixed_runs : (bytes : List ℕ) (s : Mixing) → HasMixed context bytes s
      → mixed_taken context bytes ≡ Runs s
  mixed_runs bytes s h = rw h.1 (begun_runs bytes h.0)

  pub mixed_closes : (bytes : List ℕ) (at total : ℕ) (streams : Streams)
      → ClosesMixed context bytes at total streams
      → mixed_taken context bytes ≡ Stops (MixedCloses at total streams)
  mixed_closes bytes at total streams h =
      let m = h.mixed in
      let at_is : context.start + length m.front + 4 ≡ at =
      omega (lengths, ap length m.split) in
      let sum = ap (λ s. context.before + size s) m.carried in
      after_two _ _ m.front m.last m.split
      (front_lands m.front m.chunks m.joined (omega (arith, h.fits, h.total_is)))
      (word_lands (context.start + length m.front) (context.before + size (gathered m.chunks)) 0
      (gathered m.chunks) m.last m.closes
      ∙ (λ i. Stops (MixedCloses (at_is i) (sym (h.total_is ∙ sum) i) (sym m.carried i))))

pub bad_side : (at total n : ℕ) (streams : Streams) → 2 < n
    → landed (sided at total streams n) ≡ Stops (MixedRefuses (file_fault at BadMark))
bad_side at total (suc (suc (suc n))) streams h = refl
bad_side at total n streams h = absurd (omega arith)
