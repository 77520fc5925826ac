-- Chunks of a stream, one after another.
use Rattle.packing3.proofs.Common.{arith, ap, sym, refl, subst, append-nil, ◌≡◌, ◌∙◌, ◌≤◌, ◌<◌, ◌+◌, ℕ, List, [], ◌∷◌, ◌++◌, length, length-append, Option, gave_both, Appends, word_bytes, Error, max_bytes, chunk_bytes, AppendsFront, Extent, AreCut, IsPackedStream, full_size, concat, flat_map, Gave, IsSpent, Observed, Appends-nil, Appends-trans, ChunkPassesLimit, CaptureSoFar, Explains, Grows, HasChunk, HasStream, IsStopped, StopsInChunk, StopsInStream, last_chunk, so_far}
use Rattle.std.proofs.lemmas.Grind.{flat_map-append}
use Rattle.std.specs.List.{AllByRecursion}
use Rattle.record_mark.proofs.Words.{concat-snoc}
use Rattle.capture3.specs.declared.fault.Error.TheVariants as errors
use Rattle.capture3.specs.declared.fault.Place.TheVariants as places
use Rattle.xdr3.specs.declared.reason.Reason.TheVariants as reasons
use Rattle.byteorder.specs.Numbers.{length-bytes_high_first}
use Rattle.packing3.proofs.Stops.{stopped_after, stopped_before, stopped_writing}

-- ---- chunks that are full, and one more

abbrev pub AreFull : List (List ℕ) → Type 0
AreFull = AllByRecursion (λ chunk. length chunk ≡ full_size)

-- full chunks of the source's next bytes are written
pub record HasFull (old_observed observed : Observed) (old new : CaptureSoFar) : Type 0 where
  pub full : List (List ℕ)
  pub each : AreFull full
  pub consumed : Gave old_observed observed (concat full)
  pub appended : Appends old.bytes new.bytes (flat_map chunk_bytes full)
  pub grows : Grows old.extent new.extent (flat_map chunk_bytes full) (length (concat full))

full_snoc : (full : List (List ℕ)) (chunk : List ℕ) → AreFull full → length chunk ≡ full_size
    → AreFull (full ++ chunk ∷ [])
full_snoc [] chunk are is = (is, tt)
full_snoc (c ∷ more) chunk are is = (are.0, full_snoc more chunk are.1 is)

last_of : (chunk : List ℕ) → 0 < length chunk → last_chunk chunk ≡ chunk ∷ []
last_of [] some = absurd (omega (arith, some))
last_of (b ∷ bytes) some = refl

cut_full : (full : List (List ℕ)) → AreFull full → AreCut full
cut_full [] are = tt
cut_full (c ∷ []) are = (omega (arith, are.0), omega (arith, are.0))
cut_full (c ∷ d ∷ more) are = (are.0, cut_full (d ∷ more) are.1)

cut_last : (full : List (List ℕ)) (chunk : List ℕ) → AreFull full → 0 < length chunk
    → length chunk ≤ full_size → AreCut (full ++ chunk ∷ [])
cut_last [] chunk are some within = (some, within)
cut_last (c ∷ []) chunk are some within = (are.0, (some, within))
cut_last (c ∷ d ∷ more) chunk are some within = (are.0, cut_last (d ∷ more) chunk are.1 some within)

cut_so_far : (full : List (List ℕ)) (chunk : List ℕ) → AreFull full → length chunk ≤ full_size
    → AreCut (full ++ last_chunk chunk)
cut_so_far full [] are within = subst AreCut (sym (append-nil full)) (cut_full full are)
cut_so_far full (b ∷ bytes) are within = cut_last full (b ∷ bytes) are (omega arith) within

carried_by : (full : List (List ℕ)) (chunk : List ℕ)
    → concat (full ++ last_chunk chunk) ≡ concat full ++ chunk
carried_by full [] = ap concat (append-nil full) ∙ sym (append-nil (concat full))
carried_by full (b ∷ bytes) = concat-snoc full (b ∷ bytes)

packed_so_far : (full : List (List ℕ)) (chunk : List ℕ) → AreFull full → length chunk ≤ full_size
    → IsPackedStream
    ((flat_map chunk_bytes full ++ flat_map chunk_bytes (last_chunk chunk)) ++ word_bytes 0)
    (concat full ++ chunk)
packed_so_far full chunk are within = record {
  chunks = full ++ last_chunk chunk;
  cut = cut_so_far full chunk are within;
  carried = sym (carried_by full chunk);
  are =
      ap (λ (l : List ℕ). l ++ word_bytes 0)
      (sym (flat_map-append chunk_bytes full (last_chunk chunk)));
}

pub packed_none : IsPackedStream (word_bytes 0) []
packed_none = record { chunks = []; cut = tt; carried = refl; are = refl }

-- ---- what is written

pub grows_more : (a b c : Extent) (bytes more : List ℕ) (n m : ℕ) → Grows a b bytes n
    → Grows b c more m → Grows a c (bytes ++ more) (n + m)
grows_more a b c bytes more n m g h = record {
  at = omega (arith, length-append bytes more, g.at, h.at);
  streamed_is = omega (arith, g.streamed_is, h.streamed_is);
}

-- a word of the container is written
pub one_word : (n : ℕ) (a b : Extent) → b.at ≡ a.at + 4 → b.streamed ≡ a.streamed
    → Grows a b (word_bytes n) 0
one_word n a b at streamed = record {
  at = omega (arith, at, length-bytes_high_first 4 n);
  streamed_is = omega (arith, streamed);
}

pub none_full : (l0 : Observed) (w0 : Option (List ℕ)) (e0 : Extent) → Gave l0 l0 []
    → HasFull l0 l0 (so_far w0 e0) (so_far w0 e0)
none_full l0 w0 e0 consumed = record {
  full = [];
  each = tt;
  consumed = consumed;
  appended = Appends-nil w0;
  grows = record { at = omega arith; streamed_is = omega arith };
}

pub more_full : (l0 l1 l2 : Observed) (w0 w1 w2 : Option (List ℕ)) (e0 e1 e2 : Extent) (n : ℕ)
    → HasFull l0 l1 (so_far w0 e0) (so_far w1 e1) → HasChunk l1 l2 (so_far w1 e1) (so_far w2 e2) n
    → full_size ≤ n
    → HasFull l0 l2 (so_far w0 e0) (so_far w2 e2)
more_full l0 l1 l2 w0 w1 w2 e0 e1 e2 n before it whole =
    let size : length it.chunk ≡ full_size = omega (arith, it.many, it.within, whole) in
    let joined : concat (before.full ++ it.chunk ∷ []) ≡ concat before.full ++ it.chunk =
    concat-snoc before.full it.chunk in
    let last : last_chunk it.chunk ≡ it.chunk ∷ [] = last_of it.chunk (omega (arith, size)) in
    let bytes : flat_map chunk_bytes before.full ++ flat_map chunk_bytes (last_chunk it.chunk)
    ≡ flat_map chunk_bytes (before.full ++ it.chunk ∷ []) =
    ap (λ (l : List (List ℕ)). flat_map chunk_bytes before.full ++ flat_map chunk_bytes l) last
    ∙ sym (flat_map-append chunk_bytes before.full (it.chunk ∷ [])) in
    let long : length (concat before.full) + n ≡ length (concat (before.full ++ it.chunk ∷ [])) =
    omega (arith, it.many, ap length joined, length-append (concat before.full) it.chunk) in
    record {
      full = before.full ++ it.chunk ∷ [];
      each = full_snoc before.full it.chunk before.each size;
      consumed =
          subst (Gave l0 l2) (sym joined)
          (gave_both l0 l1 l2 (concat before.full) it.chunk before.consumed it.consumed);
      appended =
          subst (Appends w0 w2) bytes (Appends-trans w0 w1 w2 _ _ before.appended it.appended);
      grows = subst (λ m. Grows e0 e2 (flat_map chunk_bytes (before.full ++ it.chunk ∷ [])) m) long
          (subst (λ l. Grows e0 e2 l (length (concat before.full) + n)) bytes
          (grows_more e0 e1 e2 _ _ (length (concat before.full)) n before.grows it.grows));
    }

pub whole_stream : (l0 l1 l2 : Observed) (w0 w1 w2 w3 : Option (List ℕ)) (e0 e1 e2 e3 : Extent)
    (n : ℕ)
    → HasFull l0 l1 (so_far w0 e0) (so_far w1 e1) → HasChunk l1 l2 (so_far w1 e1) (so_far w2 e2) n
    → n < full_size
    → Appends w2 w3 (word_bytes 0) → Grows e2 e3 (word_bytes 0) 0
    → HasStream l0 l2 (so_far w0 e0) (so_far w3 e3)
whole_stream l0 l1 l2 w0 w1 w2 w3 e0 e1 e2 e3 n full it less word grown =
    let front = flat_map chunk_bytes full.full ++ flat_map chunk_bytes (last_chunk it.chunk) in
    let long : (length (concat full.full) + n) + 0 ≡ length (concat full.full ++ it.chunk) =
    omega (arith, it.many, length-append (concat full.full) it.chunk) in
    record {
      stream = concat full.full ++ it.chunk;
      bytes = front ++ word_bytes 0;
      consumed = gave_both l0 l1 l2 (concat full.full) it.chunk full.consumed it.consumed;
      ended = it.ended less;
      packed = packed_so_far full.full it.chunk full.each (omega (arith, it.many, less));
      appended =
          Appends-trans w0 w2 w3 front (word_bytes 0)
          (Appends-trans w0 w1 w2 _ _ full.appended it.appended) word;
      grows = subst (Grows e0 e3 (front ++ word_bytes 0)) long
          (grows_more e0 e2 e3 front (word_bytes 0) (length (concat full.full) + n) 0
          (grows_more e0 e1 e2 _ _ (length (concat full.full)) n full.grows it.grows) grown);
    }

-- ---- where packing stops

pub stops_in_chunk : (l0 l1 l2 : Observed) (w0 w1 w2 : Option (List ℕ)) (e0 e1 : Extent)
    (error : Error)
    → HasFull l0 l1 (so_far w0 e0) (so_far w1 e1) → StopsInChunk l1 l2 (so_far w1 e1) w2 error
    → StopsInStream l0 l2 (so_far w0 e0) w2 error
stops_in_chunk l0 l1 l2 w0 w1 w2 e0 e1 error full it =
    let done = flat_map chunk_bytes full.full in
    let bytes = flat_map chunk_bytes (last_chunk it.chunk) in
    let total : e1.streamed + length it.chunk
    ≡ e0.streamed + length (concat full.full ++ it.chunk) =
    omega (arith, full.grows.streamed_is, length-append (concat full.full) it.chunk) in
    record {
      stream = concat full.full ++ it.chunk;
      bytes = (done ++ bytes) ++ word_bytes 0;
      consumed = gave_both l0 l1 l2 (concat full.full) it.chunk full.consumed it.consumed;
      packed = packed_so_far full.full it.chunk full.each it.within;
      stopped = subst (λ n. IsStopped w0 w2 ((done ++ bytes) ++ word_bytes 0) e0.at n error) total
          (stopped_before w0 w2 (done ++ bytes) e0.at (e1.streamed + length it.chunk)
          error
          (stopped_after w0 w1 w2 done bytes e0.at e1.at (e1.streamed + length it.chunk) error
          full.appended full.grows.at it.stopped));
    }

pub stops_at_end : (l0 l1 l2 : Observed) (w0 w1 w2 w3 : Option (List ℕ)) (e0 e1 e2 : Extent) (n : ℕ)
    (error : Error) → HasFull l0 l1 (so_far w0 e0) (so_far w1 e1)
    → HasChunk l1 l2 (so_far w1 e1) (so_far w2 e2) n
    → error ≡ errors.Write → AppendsFront w2 w3 (word_bytes 0)
    → StopsInStream l0 l2 (so_far w0 e0) w3 error
stops_at_end l0 l1 l2 w0 w1 w2 w3 e0 e1 e2 n error full it is front =
    let done = flat_map chunk_bytes full.full ++ flat_map chunk_bytes (last_chunk it.chunk) in
    let grown =
    grows_more e0 e1 e2 (flat_map chunk_bytes full.full)
    (flat_map chunk_bytes (last_chunk it.chunk)) (length (concat full.full)) n full.grows
    it.grows in
    let total = e0.streamed + length (concat full.full ++ it.chunk) in
    record {
      stream = concat full.full ++ it.chunk;
      bytes = done ++ word_bytes 0;
      consumed = gave_both l0 l1 l2 (concat full.full) it.chunk full.consumed it.consumed;
      packed = packed_so_far full.full it.chunk full.each (omega (arith, it.many, it.within));
      stopped =
          stopped_after w0 w2 w3 done (word_bytes 0) e0.at e2.at total error
          (Appends-trans w0 w1 w2 _ _ full.appended it.appended) grown.at
          (stopped_writing w2 w3 (word_bytes 0) e2.at total error is front);
    }

-- ---- one chunk

chunk_of : (chunk : List ℕ) (n : ℕ) → length chunk ≡ n → 0 < n
    → flat_map chunk_bytes (last_chunk chunk) ≡ word_bytes n ++ chunk
chunk_of chunk n many some =
    ap (flat_map chunk_bytes) (last_of chunk (omega (arith, many, some)))
    ∙ append-nil (chunk_bytes chunk) ∙ ap (λ m. word_bytes m ++ chunk) many

pub chunk_some : (l0 l1 : Observed) (w0 w1 w2 : Option (List ℕ)) (e0 e1 : Extent) (chunk : List ℕ)
    (n : ℕ) → Gave l0 l1 chunk → length chunk ≡ n → 0 < n → n ≤ full_size
    → (n < full_size → IsSpent l1)
    → Appends w0 w1 (word_bytes n) → Appends w1 w2 chunk → e1.at ≡ e0.at + (4 + n)
    → e1.streamed ≡ e0.streamed + n → HasChunk l0 l1 (so_far w0 e0) (so_far w2 e1) n
chunk_some l0 l1 w0 w1 w2 e0 e1 chunk n consumed many some within ended word bytes at streamed =
    let are : flat_map chunk_bytes (last_chunk chunk) ≡ word_bytes n ++ chunk =
    chunk_of chunk n many some in
    let four : length (word_bytes n) ≡ 4 = length-bytes_high_first 4 n in
    record {
      chunk = chunk;
      consumed = consumed;
      many = many;
      within = within;
      ended = ended;
      appended =
          subst (Appends w0 w2) (sym are) (Appends-trans w0 w1 w2 (word_bytes n) chunk word bytes);
      grows =
          record {
            at =
                omega (arith, ap length are, length-append (word_bytes n) chunk, four, at, many);
            streamed_is = streamed;
          };
    }

-- the chunk passes the limit
pub chunk_refused : (l0 l1 : Observed) (w0 : Option (List ℕ)) (e0 : Extent) (error : Error)
    (chunk : List ℕ) (n : ℕ) → Gave l0 l1 chunk → length chunk ≡ n → n ≤ full_size
    → e0.streamed ≤ max_bytes → max_bytes < e0.streamed + n
    → error ≡ errors.Refused (record { place = places.File e0.at; reason = reasons.TooManyBytes })
    → StopsInChunk l0 l1 (so_far w0 e0) w0 error
chunk_refused l0 l1 w0 e0 error chunk n consumed many within room over is =
    let are : flat_map chunk_bytes (last_chunk chunk) ≡ chunk_bytes chunk ++ [] =
    ap (flat_map chunk_bytes) (last_of chunk (omega (arith, many, room, over))) in
    let observed : ChunkPassesLimit
    (record { place = places.File e0.at; reason = reasons.TooManyBytes })
    (e0.at + length {A = ℕ} []) (flat_map chunk_bytes (last_chunk chunk))
    (e0.streamed + length chunk) = record {
      chunk = chunk;
      words = 0;
      begins = are;
      over = omega (arith, many, over);
      within = omega (arith, many, room);
      is =
          ap (λ (m : ℕ). record { place = places.File m; reason = reasons.TooManyBytes })
          (omega arith);
    } in
    record {
      chunk = chunk;
      consumed = consumed;
      within = omega (arith, many, within);
      stopped = record {
        front = [];
        next = flat_map chunk_bytes (last_chunk chunk);
        split = refl;
        appended = Appends-nil w0;
        observed =
            subst
            (λ e.
            Explains e (e0.at + length {A = ℕ} []) (flat_map chunk_bytes (last_chunk chunk))
            (e0.streamed + length chunk)) (sym is) observed;
      };
    }

-- a front of its bytes is written
pub chunk_cut : (l0 l1 : Observed) (w0 w1 : Option (List ℕ)) (e0 : Extent) (error : Error)
    (chunk : List ℕ) (n : ℕ) → Gave l0 l1 chunk → length chunk ≡ n → 0 < n → n ≤ full_size
    → error ≡ errors.Write
    → AppendsFront w0 w1 (word_bytes n ++ chunk) → StopsInChunk l0 l1 (so_far w0 e0) w1 error
chunk_cut l0 l1 w0 w1 e0 error chunk n consumed many some within is front = record {
  chunk = chunk;
  consumed = consumed;
  within = omega (arith, many, within);
  stopped =
      stopped_writing w0 w1 (flat_map chunk_bytes (last_chunk chunk)) e0.at
      (e0.streamed + length chunk) error is
      (subst (AppendsFront w0 w1) (sym (chunk_of chunk n many some)) front);
}
