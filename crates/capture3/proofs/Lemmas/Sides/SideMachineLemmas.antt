-- The machine for one side against chunks, records and messages.
use Rattle.capture3.proofs.Common.{lengths, ◌≡◌, inl, inr, ℕ, zero, suc, ◌+◌, ◌<◌, ◌≤◌, List, [], ◌∷◌, ◌++◌, length, refl, sym, ap, ap₂, ◌∙◌, append_assoc, append-nil, arith, nat_lt, ltb-true, ltb-false, le-ltb, concat, Ends, Run, Runs, Stops, landed, after, IsWord, Joins, word_next, Joining, Between, Header, Bytes, IsOpen, AreBytes, RecordCut, max_bytes, IsChunk, AreChunks, BeginsStream, IsStream, Judgement, Holds, RecordFault, Side, Fault, SideShows, PassesBytes, CutsRecord, ShowsRecord, CutsOpen, fault_at, Reading, stream_next, unread, Position, fault_of_record, Leads, leads_within, after-append, ran_to, IsPart, word_leads, Joins-snoc, siding_from, siding_in, reading_with, concat-snoc, WithinChunk}
use Rattle.record_mark.proofs.Takings.{opened}
use Rattle.capture3.specs.SideMachine.{Length, Chunk, Siding, SideEnd, SideCloses, SideRefuses, awaiting, closing, counted, side_next}
use Rattle.capture3.proofs.Lemmas.Connections.RankLemmas.{by_test}
use Rattle.capture3.proofs.Lemmas.Container.BytesOf.{split_bytes, AreBytes-append, chunk_bytes}
use Rattle.capture3.proofs.Lemmas.Files.EndedMachines.{Nested, after_two, runs_inside, word_ends, word_goes}
use Rattle.capture3.proofs.Lemmas.Messages.BodyProgramLemmas.{Judged}
use Rattle.capture3.proofs.Lemmas.Sides.StreamMachineLemmas.{HasRead, ShowsFault, stream_after, stream_leads, between_holds, nothing_read, held_runs, stream_runs}

-- the machine after the bytes of a stream that is not whole
abbrev pub side_state : {M : Type 0} (position : Position) (bytes stream : List ℕ) → Reading M
    → BeginsStream position.before bytes stream → Siding M
side_state position bytes stream reading (inl b) =
    siding_in (position.start + length b.front) (position.before + length stream) reading
    (Length b.part)
side_state position bytes stream reading (inr b) =
    siding_in (position.start + length bytes + suc b.left)
    (position.before + length stream + suc b.left) reading (Chunk b.left)

-- what has come of a side
pub record HasSide {M : Type 0} (judge : Judgement M) (position : Position) (bytes : List ℕ)
    (s : Siding M) : Type 0 where
  pub stream : List ℕ
  pub reading : Reading M
  pub begins : BeginsStream position.before bytes stream
  pub read : HasRead judge stream reading
  pub is : s ≡ side_state position bytes stream reading begins

-- a side is whole, with these messages
pub record ClosesSide {M : Type 0} (judge : Judgement M) (position : Position) (bytes : List ℕ)
    (at total : ℕ) (messages : List M) : Type 0 where
  pub stream : List ℕ
  pub closed : IsStream bytes stream
  pub holds : Holds judge stream messages
  pub at_is : at ≡ position.start + length bytes
  pub total_is : total ≡ position.before + length stream
  pub fits : total ≤ max_bytes

abbrev pub EndsSide : {M : Type 0} → Judgement M → Side → Position → List ℕ → SideEnd M → Type 0
EndsSide judge side position bytes (SideCloses at total messages) =
    ClosesSide judge position bytes at total messages
EndsSide judge side position bytes (SideRefuses fault) = SideShows judge side position bytes fault

-- a stream's machine ends with faults alone
abbrev pub AnyFault : RecordFault → Type 0
AnyFault fault = Unit {0}

abbrev pub RefusedSide : {M : Type 0} → SideEnd M → Type 0
RefusedSide (SideCloses at total messages) = ⊥
RefusedSide (SideRefuses fault) = Unit {0}

same_siding : {M : Type 0} (s : Siding M) {n m : ℕ} → s.at ≡ n → s.total ≡ m
    → s ≡ siding_in n m s.reading s.point
same_siding s e f = ap₂ (λ x y. siding_in x y s.reading s.point) e f

-- the stream's bytes, with those of the open chunk
carried_bytes : {before : ℕ} (bytes stream : List ℕ) (byte : ℕ) → WithinChunk before bytes stream
    → AreBytes (bytes ++ byte ∷ []) → AreBytes (stream ++ byte ∷ [])
carried_bytes bytes stream byte w are =
    let all = split_bytes (bytes ++ byte ∷ []) bytes (byte ∷ []) refl are in
    let parts = split_bytes bytes (w.front ++ w.header) w.got w.split all.0 in
    let whole = split_bytes (w.front ++ w.header) w.front w.header refl parts.0 in
    let carried = chunk_bytes w.front w.carried w.chunks whole.0 in
    AreBytes-append stream (byte ∷ [])
    (rw w.stream_is (AreBytes-append w.carried w.got carried parts.1)) all.1

-- one chunk more
AreChunks-snoc : (bytes stream front carried header chunk : List ℕ)
    → bytes ≡ front ++ (header ++ chunk) → stream ≡ carried ++ chunk → AreChunks front carried
    → IsWord header (length chunk) → 0 < length chunk → AreChunks bytes stream
AreChunks-snoc bytes stream front carried header chunk split is h word some =
    let c : IsChunk (header ++ chunk) chunk =
    record { header = header; split = refl; word = word; some = some } in
    record {
      chunks = h.chunks ++ chunk ∷ [];
      joined = rw split (Joins-snoc IsChunk h.chunks front (header ++ chunk) chunk h.joined c);
      carried = rw (is, h.carried, concat-snoc);
    }

module _ {M : Type 0} (judge : Judged M) (side : Side) (position : Position) where
  abbrev place : RecordFault → Fault
  place = fault_of_record position.connection side

  -- the word 0 in an open record
  open_cut : {messages : List M} {joining : Joining} (bytes stream body : List ℕ)
      → IsStream bytes stream → (read : HasRead judge.says stream (reading_with messages joining))
      → IsOpen read.last body
      → EndsSide judge.says side position bytes
      (SideRefuses (place (fault_at messages (length body) RecordCut)))
  open_cut {messages} bytes stream body closed read is_open =
      CutsRecord stream messages (record { at = length body; reason = RecordCut }) closed
      (CutsOpen read.front read.last body read.split read.holds is_open refl) refl

  closing_ends : (bytes stream : List ℕ) (closed : IsStream bytes stream) (messages : List M)
      (joining : Joining) → HasRead judge.says stream (reading_with messages joining)
      → position.before + length stream ≤ max_bytes
      → EndsSide judge.says side position bytes
      (closing place (position.start + length closed.front)
      (position.before + length stream) messages joining)
  closing_ends bytes stream closed messages Between read fits =
      record {
        stream = stream;
        closed = closed;
        holds = between_holds judge.says stream messages read;
        at_is =
            omega (lengths, ap length closed.split);
        total_is = refl;
        fits = fits;
      }
  closing_ends bytes stream closed messages (Header body part) read fits =
      open_cut bytes stream body closed read
      (opened read.last body (Header body part) refl read.joined)
  closing_ends bytes stream closed messages (Bytes body last left) read fits =
      open_cut bytes stream body closed read
      (opened read.last body (Bytes body last left) refl read.joined)

  counted_leads : (bytes front header stream : List ℕ) (reading : Reading M) (n : ℕ)
      → bytes ≡ front ++ header → AreChunks front stream
      → position.before + length stream ≤ max_bytes → HasRead judge.says stream reading
      → IsWord header n
      → Leads (HasSide judge.says position) (EndsSide judge.says side position) bytes
      (counted place (position.start + length front)
      (position.before + length stream) reading n)
  counted_leads bytes front header stream reading zero split chunks fits read word =
      closing_ends bytes stream
      (record { front = front; last = header; split = split; chunks = chunks; closes = word })
      reading.messages reading.joining read fits
  counted_leads bytes front header stream reading (suc left) split chunks fits read word =
      let at_is : position.start + length front + 4 + suc left
      ≡ position.start + length bytes + suc left =
      omega (lengths, ap length split) in
      by_test (nat_lt max_bytes (position.before + length stream + suc left))
      (λ over. rw over (PassesBytes front header stream (suc left) split chunks word (omega arith)
      (ltb-true _ _ over) refl))
      (λ over. rw over (record {
        stream = stream;
        reading = reading;
        read = read;
        begins =
            inr (record {
              front = front;
              header = header;
              got = [];
              carried = stream;
              left = left;
              split = split ∙ sym (append-nil (front ++ header));
              chunks = chunks;
              word = (word.0, word.1 ∙ omega arith);
              stream_is = sym (append-nil stream);
              fits = ltb-false _ _ over;
            });
        is = same_siding _ at_is refl;
      }))

  -- a byte of a chunk that shows no fault
  more_read : (bytes stream : List ℕ) (byte : ℕ) (w : WithinChunk position.before bytes stream)
      (reading : Reading M) → HasRead judge.says (stream ++ byte ∷ []) reading → (left : ℕ)
      → w.left ≡ left
      → HasSide judge.says position (bytes ++ byte ∷ [])
      (siding_in (position.start + length bytes + suc left)
      (position.before + length stream + suc left) reading (awaiting left))
  more_read bytes stream byte w reading read zero is =
      record {
        stream = stream ++ byte ∷ [];
        reading = reading;
        read = read;
        begins =
            inl (record {
              front = bytes ++ byte ∷ [];
              part = [];
              split = sym (append-nil (bytes ++ byte ∷ []));
              short = omega lengths;
              chunks =
                  AreChunks-snoc (bytes ++ byte ∷ []) (stream ++ byte ∷ []) w.front w.carried
                  w.header (w.got ++ byte ∷ []) (simp (w.split, append_assoc))
                  (simp (w.stream_is, append_assoc)) w.chunks
                  (w.word.0, w.word.1 ∙ omega lengths) (omega lengths);
              fits = omega lengths;
            });
        is =
            same_siding _ (omega lengths)
            (omega lengths);
      }
  more_read bytes stream byte w reading read (suc left) is =
      record {
        stream = stream ++ byte ∷ [];
        reading = reading;
        read = read;
        begins =
            inr (record {
              front = w.front;
              header = w.header;
              got = w.got ++ byte ∷ [];
              carried = w.carried;
              left = left;
              split = simp (w.split, append_assoc);
              chunks = w.chunks;
              word = (w.word.0, w.word.1 ∙ omega lengths);
              stream_is = simp (w.stream_is, append_assoc);
              fits = omega lengths;
            });
        is =
            same_siding _ (omega lengths)
            (omega lengths);
      }

  begun_leads : (bytes stream : List ℕ) (b : BeginsStream position.before bytes stream)
      (reading : Reading M) (byte : ℕ) → AreBytes (bytes ++ byte ∷ [])
      → HasRead judge.says stream reading
      → Leads (HasSide judge.says position) (EndsSide judge.says side position) (bytes ++ byte ∷ [])
      (side_next judge.decide place (side_state position bytes stream reading b) byte)
  begun_leads bytes stream (inl b) reading byte are read =
      let more : bytes ++ byte ∷ [] ≡ b.front ++ (b.part ++ byte ∷ []) =
      rw (b.split, append_assoc) in
      leads_within IsPart IsWord (HasSide judge.says position) (EndsSide judge.says side position)
      (λ p.
      siding_in (position.start + length b.front) (position.before + length stream) reading
      (Length p))
      (counted place (position.start + length b.front)
      (position.before + length stream) reading)
      (b.part ++ byte ∷ []) (bytes ++ byte ∷ [])
      (λ p is.
      record {
        stream = stream;
        reading = reading;
        read = read;
        begins =
            inl (record {
              front = b.front;
              part = p;
              split = more ∙ ap (λ (l : List ℕ). b.front ++ l) is.0;
              short = is.1;
              chunks = b.chunks;
              fits = b.fits;
            });
        is = refl;
      })
      (λ n word.
      counted_leads (bytes ++ byte ∷ []) b.front (b.part ++ byte ∷ []) stream reading n more
      b.chunks b.fits read word)
      (word_next b.part byte) (word_leads b.part byte b.short)
  begun_leads bytes stream (inr w) reading byte are read =
      let same : stream ++ byte ∷ [] ≡ w.carried ++ (w.got ++ byte ∷ []) =
      rw (w.stream_is, append_assoc) in
      leads_within (HasRead judge.says) (ShowsFault judge.says) (HasSide judge.says position)
      (EndsSide judge.says side position)
      (λ r.
      siding_in (position.start + length bytes + suc w.left)
      (position.before + length stream + suc w.left) r (awaiting w.left))
      (λ shown. Ends (SideRefuses (place shown)))
      (stream ++ byte ∷ []) (bytes ++ byte ∷ [])
      (λ r more. more_read bytes stream byte w r more w.left refl)
      (λ shown shows.
      ShowsRecord w.front w.header (w.got ++ byte ∷ []) w.carried w.left shows.0 shows.1
      (simp (w.split, append_assoc)) w.chunks (w.word.0, w.word.1 ∙ omega lengths) (omega lengths)
      (rw same at shows.2) (ap place shows.3))
      (stream_next judge.decide reading byte)
      (stream_leads judge stream reading byte (carried_bytes bytes stream byte w are) read)

  pub side_leads : (bytes : List ℕ) (s : Siding M) (byte : ℕ) → AreBytes (bytes ++ byte ∷ [])
      → HasSide judge.says position bytes s
      → Leads (HasSide judge.says position) (EndsSide judge.says side position) (bytes ++ byte ∷ [])
      (side_next judge.decide place s byte)
  side_leads bytes s byte are h =
      rw h.is (begun_leads bytes h.stream h.begins h.reading byte are h.read)

  pub nothing_taken : position.before ≤ max_bytes
      → HasSide judge.says position [] (siding_from position.start position.before)
  nothing_taken fits =
      record {
        stream = [];
        reading = unread;
        read = nothing_read judge.says;
        begins =
            inl (record {
              front = [];
              part = [];
              split = refl;
              short = omega arith;
              chunks = record { chunks = []; joined = refl; carried = refl };
              fits = omega arith;
            });
        is = same_siding _ (omega arith) (omega arith);
      }

  -- ---- the other way round

  -- the machine, from a state and from a side's start
  abbrev pub side_after : Siding M → List ℕ → Run (Siding M) (SideEnd M)
  side_after s = after (side_next judge.decide place) (Runs s)

  abbrev pub side_taken : List ℕ → Run (Siding M) (SideEnd M)
  side_taken = side_after (siding_from position.start position.before)

  -- at a length word
  abbrev pub at_length : ℕ → ℕ → Reading M → Siding M
  at_length at total reading = siding_in at total reading (Length [])

  pub length_runs : (at total n : ℕ) (reading : Reading M) (header : List ℕ) → IsWord header n
      → side_after (at_length at total reading) header
      ≡ landed (counted place at total reading n)
  length_runs at total n reading =
      word_ends (side_next judge.decide place)
      (λ p. siding_in at total reading (Length p)) (counted place at total reading)
      (λ s byte. refl)

  -- a chunk's length word within the limit
  opens : (at total n : ℕ) (reading : Reading M) (header : List ℕ) → IsWord header n → 0 < n
      → total + n ≤ max_bytes
      → side_after (at_length at total reading) header
      ≡ Runs (siding_in (at + 4 + n) (total + n) reading (awaiting n))
  opens at total zero reading header word some fits = absurd (omega arith)
  opens at total (suc left) reading header word some fits =
      length_runs at total (suc left) reading header word
      ∙ rw (le-ltb max_bytes (total + suc left) fits)

  -- a stream's machine in a chunk
  pub in_chunk : (at total : ℕ)
      → Nested (stream_next judge.decide) (side_next judge.decide place)
      (λ n r. siding_in at total r (awaiting n))
      (λ n shown. Ends (SideRefuses (place shown))) AnyFault RefusedSide
  in_chunk at total =
      record {
        commutes = λ n r byte. refl;
        ends = λ n shown any. (SideRefuses (place shown), tt, refl);
      }

  chunk_runs : (at total : ℕ) (r t : Reading M) (bytes header got : List ℕ) (left : ℕ)
      → bytes ≡ header ++ got → IsWord header (length got + left) → 0 < length got + left
      → total + (length got + left) ≤ max_bytes → stream_after judge r got ≡ Runs t
      → side_after (at_length at total r) bytes
      ≡ Runs (siding_in (at + 4 + (length got + left)) (total + (length got + left)) t
      (awaiting left))
  chunk_runs at total r t bytes header got left split word some fits e =
      after_two _ _ header got split (opens at total (length got + left) r header word some fits)
      (runs_inside (in_chunk (at + 4 + (length got + left)) (total + (length got + left))) got left
      r e)

  chunks_run : (chunks : List (List ℕ)) (at total end sum : ℕ) (r t : Reading M)
      (front : List ℕ) → Joins IsChunk front chunks → stream_after judge r (concat chunks) ≡ Runs t
      → total + length (concat chunks) ≤ max_bytes → end ≡ at + length front
      → sum ≡ total + length (concat chunks)
      → side_after (at_length at total r) front ≡ Runs (at_length end sum t)
  chunks_run [] at total end sum r t front h e fits end_is sum_is =
      let same : r ≡ t = cc in
      rw (h, same) (ap Runs (same_siding _ (omega (lengths, ap length h)) (omega lengths)))
  chunks_run (chunk ∷ chunks) at total end sum r t front h e fits end_is sum_is =
      let mid = ran_to (stream_next judge.decide) (Runs r) chunk (concat chunks) t e in
      let whole : length chunk ≡ length chunk + 0 = omega lengths in
      after_two _ _ h.0 h.1 h.2 (chunk_runs at total r mid.0 h.0 h.3.header chunk 0 h.3.split
      (h.3.word.0, h.3.word.1 ∙ whole) (omega lengths) (omega lengths) mid.1)
      (chunks_run chunks (at + 4 + (length chunk + 0)) (total + (length chunk + 0)) end sum mid.0 t
      h.1 h.4 (rw (after-append, mid.1) at e) (omega lengths)
      (omega (lengths, ap length h.2, ap length h.3.split)) (omega lengths))

  -- after whole chunks
  stream_front : (front stream : List ℕ) (reading : Reading M) → AreChunks front stream
      → stream_after judge unread stream ≡ Runs reading
      → position.before + length stream ≤ max_bytes
      → side_taken front
      ≡ Runs (at_length (position.start + length front) (position.before + length stream) reading)
  stream_front front stream reading chunks e fits =
      let size = ap length chunks.carried in
      chunks_run chunks.chunks position.start position.before (position.start + length front)
      (position.before + length stream) unread reading front chunks.joined
      (rw chunks.carried at e) (omega arith) refl (omega arith)

  begun_runs : (bytes stream : List ℕ) (b : BeginsStream position.before bytes stream)
      (reading : Reading M) → HasRead judge.says stream reading
      → side_taken bytes ≡ Runs (side_state position bytes stream reading b)
  begun_runs bytes stream (inl b) reading read =
      let at : ℕ = position.start + length b.front in
      let total : ℕ = position.before + length stream in
      after_two _ _ b.front b.part b.split
      (stream_front b.front stream reading b.chunks (stream_runs judge stream reading read) b.fits)
      (word_goes (side_next judge.decide place)
      (λ p. siding_in at total reading (Length p)) (counted place at total reading)
      (λ s byte. refl) b.part b.short)
  begun_runs bytes stream (inr w) reading read =
      let all : stream_after judge unread (w.carried ++ w.got) ≡ Runs reading =
      rw w.stream_is at (stream_runs judge stream reading read) in
      let mid = ran_to (stream_next judge.decide) (Runs unread) w.carried w.got reading all in
      let total_is = ap length w.stream_is in
      after_two _ _ w.front (w.header ++ w.got) (w.split ∙ append_assoc w.front w.header w.got)
      (stream_front w.front w.carried mid.0 w.chunks mid.1 (omega lengths))
      (chunk_runs (position.start + length w.front) (position.before + length w.carried) mid.0
      reading (w.header ++ w.got) w.header w.got (suc w.left) refl w.word (omega lengths)
      (omega lengths) (rw (after-append, mid.1) at all)
      ∙ ap Runs (same_siding _
      (omega (lengths, ap length w.split)) (omega lengths)))

  pub side_runs : (bytes : List ℕ) (s : Siding M) → HasSide judge.says position bytes s
      → side_taken bytes ≡ Runs s
  side_runs bytes s h = rw h.is (begun_runs bytes h.stream h.begins h.reading h.read)

  -- the stream's word 0
  pub side_closes : (bytes : List ℕ) (at total : ℕ) (messages : List M)
      → ClosesSide judge.says position bytes at total messages
      → side_taken bytes ≡ Stops (SideCloses at total messages)
  side_closes bytes at total messages h =
      let c = h.closed in
      let whole : Reading M = reading_with messages Between in
      let at_is : position.start + length c.front + 4 ≡ at =
      omega (lengths, ap length c.split) in
      after_two _ _ c.front c.last c.split
      (stream_front c.front h.stream whole c.chunks (held_runs judge h.stream messages h.holds)
      (omega (arith, h.fits, h.total_is)))
      (length_runs (position.start + length c.front) (position.before + length h.stream) 0 whole
      c.last c.closes
      ∙ ap₂ (λ n m. Stops (SideCloses n m messages)) at_is (sym h.total_is))
