-- How long a capture file can be.
use Rattle.std.proofs.Common.{get_or}
use Rattle.capture3.proofs.Common.{length-append, lengths, concat, Run, Runs, Stops, Stopped, IsWord, Joins, AreBytes, Streams, size, SidedChunk, IsSidedChunk, gathered, AreMixed, BeginsMixed, max_bytes, IsChunk, AreChunks, IsStream, BeginsStream, ShownFault, Entry, IsClean, Parsing, parsed, Version, One, Two, max_connections, total_size, magic, IsConnection, IsCapture, Opens, ReachesInside, AreWhole, InMagic, BetweenConnections, InConnection, ◌≡◌, ◌⊎◌, inl, inr, ℕ, ◌+◌, ◌*◌, ◌<◌, ◌≤◌, List, [], ◌∷◌, ◌++◌, length, refl, sym, ap, ◌∙◌, append_assoc, append-nil, arith, most_bytes, IsOfVersion, IsWithinVersion}
use Rattle.capture3.proofs.Lemmas.Container.SidedChunksMachineLemmas.{size_of}
use Rattle.capture3.proofs.Lemmas.Reached.ReachedLemmas.{stands_whole}
use Rattle.capture3.proofs.Lemmas.Files.Verdicts.{run_shows, shows_from_stops, shown_before}

-- each byte of a stream comes with at most four of a length word
chunks_size : (chunks : List (List ℕ)) (bytes : List ℕ) → Joins IsChunk bytes chunks
    → length bytes ≤ 5 * length (concat chunks)
chunks_size [] bytes h = omega (arith, ap length h)
chunks_size (chunk ∷ chunks) bytes (front, rest, split, is, joined) =
    omega (lengths, chunks_size chunks rest joined, ap length split, ap length is.split)

carried_size : (bytes stream : List ℕ) → AreChunks bytes stream → length bytes ≤ 5 * length stream
carried_size bytes stream h =
    omega (arith, chunks_size h.chunks bytes h.joined, ap length h.carried)

stream_size : (bytes stream : List ℕ) → IsStream bytes stream → length bytes ≤ 5 * length stream + 4
stream_size bytes stream h =
    omega (lengths, carried_size h.front stream h.chunks, ap length h.split)

begun_size : (before : ℕ) (bytes stream : List ℕ) → BeginsStream before bytes stream
    → 5 * before + length bytes ≤ 5 * max_bytes + 4
begun_size before bytes stream (inl b) =
    omega (lengths, carried_size b.front stream b.chunks, ap length b.split)
begun_size before bytes stream (inr b) =
    omega
    (lengths, carried_size b.front b.carried b.chunks, ap length b.split, ap length b.stream_is)

-- each byte of a stream comes with at most four of a side word and four of a length word
sided_size : (chunks : List SidedChunk) (bytes : List ℕ) → Joins IsSidedChunk bytes chunks
    → length bytes ≤ 9 * size (gathered chunks)
sided_size [] bytes h = omega (arith, ap length h)
sided_size (chunk ∷ chunks) bytes (front, rest, split, is, joined) =
    omega (
      lengths,
      sided_size chunks rest joined,
      ap length split,
      ap length is.split,
      ap length is.chunked.split,
      size_of chunk.side chunk.bytes,
    )

mixed_size : (bytes : List ℕ) (streams : Streams) → AreMixed bytes streams
    → length bytes ≤ 9 * size streams + 4
mixed_size bytes streams h =
    omega (lengths, sided_size h.chunks h.front h.joined, ap size h.carried, ap length h.split)

mixed_begun_size : (before : ℕ) (bytes : List ℕ) → BeginsMixed before bytes
    → 9 * before + length bytes ≤ 9 * max_bytes + 8
mixed_begun_size before bytes (inl b) =
    omega (lengths, sided_size b.chunks b.front b.joined, ap length b.split)
mixed_begun_size before bytes (inr (inl h)) =
    let b = h.here in
    omega (
      lengths,
      sided_size b.chunks b.front b.joined,
      ap length b.split,
      b.sided.0,
      h.short,
      h.fits,
    )
mixed_begun_size before bytes (inr (inr h)) =
    let b = h.here in
    omega (
      lengths,
      sided_size b.chunks b.front b.joined,
      ap length b.split,
      b.sided.0,
      ap length h.split,
      h.counts.0,
      h.fits,
    )

-- the bytes of a connection's words, beside those of its chunks
abbrev words_size : Version → ℕ
words_size One = 12
words_size Two = 8

-- the bytes of a chunk of one byte
abbrev chunk_size : Version → ℕ
chunk_size One = 5
chunk_size Two = 9

connection_size : (version : Version) (bytes : List ℕ) (streams : Streams)
    → IsConnection version bytes streams
    → length bytes ≤ words_size version + chunk_size version * size streams
connection_size One bytes streams h =
    let (front, last, split, client, server) = h.both in
    omega (
      lengths,
      ap length h.split,
      ap length split,
      stream_size front streams.client client,
      stream_size last streams.server server,
    )
connection_size Two bytes streams h =
    omega (lengths, ap length h.split, mixed_size h.rest streams h.both)

connections_size : (version : Version) (connections : List Streams) (bytes : List ℕ)
    → Joins (IsConnection version) bytes connections
    → length bytes
    ≤ words_size version * length connections + chunk_size version * total_size connections
connections_size One [] bytes h = omega (arith, ap length h)
connections_size Two [] bytes h = omega (arith, ap length h)
connections_size One (streams ∷ connections) bytes (front, rest, split, is, joined) =
    omega (
      lengths,
      connections_size One connections rest joined,
      connection_size One front streams is,
      ap length split,
    )
connections_size Two (streams ∷ connections) bytes (front, rest, split, is, joined) =
    omega (
      lengths,
      connections_size Two connections rest joined,
      connection_size Two front streams is,
      ap length split,
    )

magic_size : (version : Version) → length (magic version) ≡ 8
magic_size One = refl
magic_size Two = refl

opened_size : (version : Version) (front rest : List ℕ) (connections : List Streams)
    → front ≡ magic version ++ rest → Joins (IsConnection version) rest connections
    → length front
    ≤ 8
    + (words_size version * length connections + chunk_size version
    * total_size connections)
opened_size version front rest connections split joined =
    omega (
      lengths,
      ap length split,
      magic_size version,
      connections_size version connections rest joined,
    )

inside_size : (version : Version) (before : ℕ) (bytes : List ℕ) (more : List Entry)
    → ReachesInside version before bytes more
    → chunk_size version * before + length bytes ≤ chunk_size version * max_bytes + 8
inside_size One before bytes more (inl r) = omega (arith, begun_size before bytes r.stream r.begins)
inside_size One before bytes more (inr r) =
    omega (
      lengths,
      stream_size r.front r.client r.first,
      begun_size (before + length r.client) r.last r.server r.begins,
      ap length r.split,
    )
inside_size Two before bytes more r = mixed_begun_size before bytes r.0

short_size : (version : Version) (bytes front part rest : List ℕ) (connections : List Streams)
    → bytes ≡ front ++ part → front ≡ magic version ++ rest
    → Joins (IsConnection version) rest connections → length connections ≤ max_connections
    → total_size connections ≤ max_bytes → length part ≤ 4 → length bytes ≤ most_bytes version
short_size One bytes front part rest connections split opens joined few small short =
    omega (lengths, opened_size One front rest connections opens joined, ap length split, short)
short_size Two bytes front part rest connections split opens joined few small short =
    omega (lengths, opened_size Two front rest connections opens joined, ap length split, short)

pub capture_size : (version : Version) (file : List ℕ) (connections : List Streams)
    → IsCapture version file connections → length file ≤ most_bytes version
capture_size version file connections c =
    short_size version file (magic version ++ c.bytes) c.last c.bytes connections c.split refl
    c.joined c.few c.small (omega (arith, c.closes.0))

within_size : (version : Version) (bytes front mark rest : List ℕ) (connections : List Streams)
    (before more : List Entry) → bytes ≡ front ++ mark ++ rest
    → Opens version front connections before → IsWord mark 1 → length connections < max_connections
    → ReachesInside version (total_size connections) rest more → length bytes ≤ most_bytes version
within_size One bytes front mark rest connections before more split opens one few inside =
    omega (
      lengths,
      opened_size One front opens.rest connections opens.split opens.joined,
      inside_size One (total_size connections) rest more inside,
      ap length split,
      few,
    )
within_size Two bytes front mark rest connections before more split opens one few inside =
    omega (
      lengths,
      opened_size Two front opens.rest connections opens.split opens.joined,
      inside_size Two (total_size connections) rest more inside,
      ap length split,
      few,
    )

magic_short : (version : Version) (bytes more : List ℕ) → magic version ≡ bytes ++ more
    → length bytes ≤ most_bytes version
magic_short One bytes more e = omega (lengths, ap length e)
magic_short Two bytes more e = omega (lengths, ap length e)

-- the bytes have the version, and its limit
whole_size : (bytes : List ℕ) (entries : List Entry) → AreWhole bytes entries
    → IsWithinVersion bytes
whole_size bytes entries (InMagic version more e none) =
    (version, inl (more, e), magic_short version bytes more e)
whole_size bytes entries (BetweenConnections version front part connections split opens ends) = (
  version,
  inr (
    opens.rest ++ part,
    split ∙ ap (λ (b : List ℕ). b ++ part) opens.split
        ∙ append_assoc (magic version) opens.rest part,
  ),
  short_size version bytes front part opens.rest connections split opens.split opens.joined
      opens.few opens.small (part_size ends),
)
  where
    part_size : (length part < 4) ⊎ IsWord part 0 → length part ≤ 4
    part_size (inl short) = omega (arith, short)
    part_size (inr word) = omega (arith, word.0)
whole_size bytes entries (InConnection version front mark rest connections before more split opens
    one few inside are) = (
      version,
      inr (
        opens.rest ++ mark ++ rest,
        split ∙ ap (λ (b : List ℕ). b ++ mark ++ rest) opens.split
            ∙ ap (λ (b : List ℕ). b ++ rest) (append_assoc (magic version) opens.rest mark)
            ∙ append_assoc (magic version) (opens.rest ++ mark) rest,
      ),
      within_size version bytes front mark rest connections before more split opens one few inside,
    )

run_size : (file : List ℕ) (run : Run Parsing ShownFault) → AreBytes file → parsed file ≡ run
    → IsClean file → IsWithinVersion file
run_size file (Runs s) are e clean =
    whole_size file _ (stands_whole file s (run_shows file (Runs s) are e))
run_size file (Stops shown) are e clean =
    absurd (clean file [] shown.fault (sym (append-nil file)) (shows_from_stops file shown are e))
run_size file (Stopped shown) are e clean =
    let before = shown_before file shown are e in
    absurd (clean before.front (before.byte ∷ before.back) shown.fault before.split before.ending)

-- clean bytes are no longer than a capture of their version
pub clean_size : (file : List ℕ) → AreBytes file → IsClean file → IsWithinVersion file
clean_size file are = run_size file (parsed file) are refl

-- and so than one of version 2
pub clean_most : (file : List ℕ) → AreBytes file → IsClean file → length file ≤ most_bytes Two
clean_most file are clean = by_version (clean_size file are clean)
  where
    by_version : IsWithinVersion file → length file ≤ most_bytes Two
    by_version (One, has, within) = omega (arith, within)
    by_version (Two, has, within) = within

-- and so than one of version 1, if they begin bytes of that version
pub most_of_one : (front rest : List ℕ) → AreBytes front → IsClean front
    → IsOfVersion One (front ++ rest) → length front ≤ most_bytes One
most_of_one front rest are clean of = by_version (clean_size front are clean) of
  where
    by_version : IsWithinVersion front → IsOfVersion One (front ++ rest)
        → length front ≤ most_bytes One
    by_version (One, has, within) of = within
    by_version (Two, inl (more, e), within) of = omega (lengths, ap length e)
    by_version (Two, inr (more, e), within) (inl (back, f)) =
        omega (lengths, ap length f, length-append front rest)
    by_version (Two, inr (more, e), within) (inr (back, f)) =
        let same : (magic Two ++ more) ++ rest ≡ magic One ++ back =
        ap (λ (b : List ℕ). b ++ rest) (sym e) ∙ f in
        absurd (omega (arith, ap (λ (b : List ℕ). get_or b 7 0) same))
