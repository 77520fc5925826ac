-- A rule of the chunks of both sides: where it holds of bytes, the machine stops with its fault, or
-- had stopped before.
use Rattle.capture3.proofs.Common.{lengths, ◌≡◌, ℕ, zero, suc, ◌+◌, ◌<◌, List, [], ◌∷◌, ◌++◌, length, inl, refl, sym, ap, ap₂, ◌∙◌, append_assoc, arith, nat_lt, lt-ltb, Run, Runs, Stops, landed, IsWord, Joins, TooManyBytes, Fault, Side, max_bytes, Mixing, MixedEnd, MixedCloses, MixedRefuses, SideLength, awaiting_side, measured, Streams, size, SidedChunk, IsSidedChunk, gathered, with_more, AreMixed, file_fault, mixing_in, Position, AfterSideWord, MixedShows, BadSide, NoLength, TooMuch}
use Rattle.capture3.proofs.Lemmas.Connections.RankLemmas.{by_test}
use Rattle.capture3.proofs.Lemmas.Container.SidedChunksMachineLemmas.{RefusedMixed, with_chunks, with_chunks_all, size_of, chunk_bytes, word_lands, header_lands, after_side, bad_side, mixed_after, mixed_taken, mixing_at}
use Rattle.capture3.proofs.Lemmas.Files.EndedMachines.{Over, Comes, At, Fails, comes_on, over_on}

-- a length word opens a chunk, or the stream bytes would pass the limit
measured_or : (at total n : ℕ) (streams : Streams) (side : Side) (header : List ℕ)
    → IsWord header n → 0 < n
    → Comes {A = Unit {0}} RefusedMixed
    (λ _. Runs (mixing_in (at + 4 + n) (total + n) streams (awaiting_side side n)))
    (mixed_after (mixing_in at total streams (SideLength side [])) header)
measured_or at total zero streams side header word some = absurd (omega arith)
measured_or at total (suc left) streams side header word some =
    rw (header_lands at total (suc left) streams side header word)
    (by_test (nat_lt max_bytes (total + suc left))
    (λ e. Fails (MixedRefuses (file_fault at TooManyBytes), tt, inl (rw e)))
    (λ e. At tt (rw e)))

-- after whole chunks
abbrev pub Landed : ℕ → ℕ → Streams → Run Mixing MixedEnd → Type 0
Landed end sum streams run =
    Comes {A = Unit {0}} RefusedMixed (λ _. Runs (mixing_at end sum streams)) run

chunk_or : (at total end sum : ℕ) (streams : Streams) (chunk : SidedChunk) (bytes : List ℕ)
    → IsSidedChunk bytes chunk → end ≡ at + length bytes → sum ≡ total + length chunk.bytes
    → Landed end sum (with_more streams chunk.side chunk.bytes)
    (mixed_after (mixing_at at total streams) bytes)
chunk_or at total end sum streams chunk bytes h end_is sum_is =
    let c = h.chunked in
    let there : at + 4 + 4 + length chunk.bytes ≡ end =
    omega (lengths, ap length h.split, ap length c.split) in
    let whole : length chunk.bytes ≡ length chunk.bytes + 0 = omega arith in
    rw (h.split, after_side at total streams chunk.side h.word h.rest h.sided)
    (comes_on _ _ c.header chunk.bytes c.split
    (measured_or (at + 4) total (length chunk.bytes) streams chunk.side c.header c.word c.some)
    (λ _. At tt (chunk_bytes (at + 4 + 4 + length chunk.bytes) (total + length chunk.bytes) streams
    chunk.side chunk.bytes (length chunk.bytes) 0 whole
    ∙ ap₂ (λ n m. Runs (mixing_at n m (with_more streams chunk.side chunk.bytes))) there
    (sym sum_is))))

chunks_or : (chunks : List SidedChunk) (at total end sum : ℕ) (streams : Streams) (front : List ℕ)
    → Joins IsSidedChunk front chunks → end ≡ at + length front
    → sum ≡ total + size (gathered chunks)
    → Landed end sum (with_chunks streams chunks) (mixed_after (mixing_at at total streams) front)
chunks_or [] at total end sum streams front h end_is sum_is =
    let at_end : at ≡ end = omega (arith, ap length h) in
    let all : total ≡ sum = omega arith in
    rw h (At tt (ap₂ (λ n m. Runs (mixing_at n m streams)) at_end all))
chunks_or (chunk ∷ chunks) at total end sum streams front h end_is sum_is =
    comes_on _ _ h.0 h.1 h.2
    (chunk_or at total (at + length h.0) (total + length chunk.bytes) streams chunk h.0 h.3 refl
    refl)
    (λ _. chunks_or chunks (at + length h.0) (total + length chunk.bytes) end sum
    (with_more streams chunk.side chunk.bytes) h.1 h.4
    (omega (lengths, end_is, ap length h.2))
    (omega (lengths, sum_is, size_of chunk.side chunk.bytes)))

module _ (context : Position) where
  -- after whole chunks comes more
  after_or : (chunks : List SidedChunk) (bytes front back : List ℕ) (x : MixedEnd)
      → bytes ≡ front ++ back → 0 < length back → Joins IsSidedChunk front chunks
      → mixed_after
      (mixing_at (context.start + length front) (context.before + size (gathered chunks))
      (gathered chunks)) back ≡ Stops x
      → Over RefusedMixed (mixed_taken context bytes) x
  after_or chunks bytes front back x split some h stops =
      over_on _ _ front back split
      (chunks_or chunks context.start context.before (context.start + length front)
      (context.before + size (gathered chunks)) (gathered []) front h refl refl)
      some (λ _. inl (rw (with_chunks_all chunks) stops))

  -- the streams are gathered
  pub closes_over : (bytes : List ℕ) (streams : Streams) → AreMixed bytes streams
      → Over RefusedMixed (mixed_taken context bytes)
      (MixedCloses (context.start + length bytes) (context.before + size streams) streams)
  closes_over bytes streams h =
      let at_is : context.start + length h.front + 4 ≡ context.start + length bytes =
      omega (lengths, ap length h.split) in
      rw h.carried (after_or h.chunks bytes h.front h.last
      (MixedCloses (context.start + length bytes) (context.before + size (gathered h.chunks))
      (gathered h.chunks)) h.split (omega (arith, h.closes.0)) h.joined
      (word_lands (context.start + length h.front) (context.before + size (gathered h.chunks)) 0
      (gathered h.chunks) h.last h.closes
      ∙ rw at_is))

  header_over : (bytes : List ℕ) (b : AfterSideWord bytes) (n : ℕ) (fault : Fault)
      → IsWord b.rest n
      → landed (measured (context.start + length b.front + 4)
      (context.before + size (gathered b.chunks)) (gathered b.chunks) b.side n)
      ≡ Stops (MixedRefuses fault)
      → Over RefusedMixed (mixed_taken context bytes) (MixedRefuses fault)
  header_over bytes b n fault counts stops =
      let at : ℕ = context.start + length b.front in
      let total : ℕ = context.before + size (gathered b.chunks) in
      after_or b.chunks bytes b.front (b.word ++ b.rest) (MixedRefuses fault)
      (b.split ∙ append_assoc b.front b.word b.rest)
      (omega (lengths, b.sided.0)) b.joined
      (after_side at total (gathered b.chunks) b.side b.word b.rest b.sided
      ∙ header_lands (at + 4) total n (gathered b.chunks) b.side b.rest counts ∙ stops)

  too_much_stops : (at total n : ℕ) (streams : Streams) (side : Side) → 0 < n
      → max_bytes < total + n
      → landed (measured at total streams side n)
      ≡ Stops (MixedRefuses (file_fault at TooManyBytes))
  too_much_stops at total zero streams side some h = absurd (omega arith)
  too_much_stops at total (suc left) streams side some h =
      rw (lt-ltb max_bytes (total + suc left) h)

  pub mixed_over : (bytes : List ℕ) (fault : Fault) → MixedShows context bytes fault
      → Over RefusedMixed (mixed_taken context bytes) (MixedRefuses fault)
  mixed_over bytes fault (BadSide chunks front word count split joined is_word bad is) =
      let at : ℕ = context.start + length front in
      let total : ℕ = context.before + size (gathered chunks) in
      after_or chunks bytes front word (MixedRefuses fault) split (omega (arith, is_word.0)) joined
      (word_lands at total count (gathered chunks) word is_word
      ∙ bad_side at total count (gathered chunks) bad
      ∙ ap (λ f. Stops (MixedRefuses f)) (sym is))
  mixed_over bytes fault (NoLength b counts is) = header_over bytes b 0 fault counts (rw is refl)
  mixed_over bytes fault (TooMuch b count counts some passes is) =
      header_over bytes b count fault counts
      (rw is (too_much_stops (context.start + length b.front + 4)
      (context.before + size (gathered b.chunks)) count (gathered b.chunks) b.side some passes))

  -- a fault's bytes are not none
  pub mixed_some : (bytes : List ℕ) (fault : Fault) → MixedShows context bytes fault
      → 0 < length bytes
  mixed_some bytes fault (BadSide chunks front word count split joined is_word bad is) =
      omega (lengths, ap length split, is_word.0)
  mixed_some bytes fault (NoLength b counts is) = omega (lengths, ap length b.split, counts.0)
  mixed_some bytes fault (TooMuch b count counts some passes is) =
      omega (lengths, ap length b.split, counts.0)
