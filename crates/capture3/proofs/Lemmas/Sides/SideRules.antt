-- A rule of one side: where it holds of bytes, the machine stops with its fault, or had stopped
-- before.
use Rattle.capture3.proofs.Common.{lengths, ◌≡◌, inl, inr, ℕ, zero, suc, ◌+◌, ◌<◌, ◌≤◌, List, [], ◌∷◌, ◌++◌, length, refl, sym, ap, ap₂, ◌∙◌, append_assoc, arith, nat_lt, ltb-false, lt-ltb, concat, Run, Runs, Stops, Stopped, landed, Joining, Between, Header, Bytes, IsWord, Joins, after-append, TooManyBytes, RecordCut, Fault, max_bytes, IsChunk, AreChunks, IsStream, Reading, unread, siding_in, reading_with, RecordFault, fault_at, IsCut, CutsOpen, Position, Side, Stop, file_fault, place_at, fault_of_record, PassesBytes, CutsRecord, ShowsRecord, SideShows, Siding, SideEnd, SideCloses, SideRefuses, awaiting, closing, counted}
use Rattle.record_mark.proofs.Takings.{IsIn, open_in}
use Rattle.capture3.proofs.Lemmas.Messages.BodyProgramLemmas.{Judged}
use Rattle.capture3.proofs.Lemmas.Connections.RankLemmas.{by_test}
use Rattle.capture3.proofs.Lemmas.Files.EndedMachines.{Over, Comes, At, Fails, after_two, comes_on, over_on, gone_inside, over_inside, runs_inside}
use Rattle.capture3.proofs.Lemmas.Sides.SideMachineLemmas.{AnyFault, RefusedSide, at_length, in_chunk, length_runs, side_after, side_taken}
use Rattle.capture3.proofs.Lemmas.Sides.StreamMachineLemmas.{shown_stops, stream_after, stream_runs}

word_some : (word : List ℕ) (n : ℕ) → IsWord word n → 0 < length word
word_some word n h = omega (arith, h.0)

-- a stream's machine runs, or it has stopped
reads_or : {M : Type 0} (run : Run (Reading M) RecordFault)
    → Comes {A = Reading M} AnyFault (λ t. Runs t) run
reads_or (Runs t) = At t refl
reads_or (Stops fault) = Fails (fault, tt, inl refl)
reads_or (Stopped fault) = Fails (fault, tt, inr refl)

module _ {M : Type 0} (judge : Judged M) (side : Side) (position : Position) where
  abbrev place : RecordFault → Fault
  place = fault_of_record position.connection side

  -- ---- one side

  -- a length word within the limit, or past it
  header_or : (at total n : ℕ) (r : Reading M) (header : List ℕ) → IsWord header n → 0 < n
      → Comes {A = total + n ≤ max_bytes} RefusedSide
      (λ fits. Runs (siding_in (at + 4 + n) (total + n) r (awaiting n)))
      (side_after judge side position (at_length judge side position at total r) header)
  header_or at total zero r header word some = absurd (omega arith)
  header_or at total (suc left) r header word some =
      rw (length_runs judge side position at total (suc left) r header word)
      (by_test (nat_lt max_bytes (total + suc left))
      (λ e. Fails (SideRefuses (file_fault at TooManyBytes), tt, inl (rw e)))
      (λ e. At (ltb-false max_bytes (total + suc left) e) (rw e)))

  -- after a chunk's length word and some of its bytes
  chunk_or : (at total : ℕ) (r : Reading M) (bytes header got : List ℕ) (left : ℕ)
      → bytes ≡ header ++ got → IsWord header (length got + left) → 0 < length got + left
      → Comes {A = (t : Reading M) × (stream_after judge r got ≡ Runs t)} RefusedSide
      (λ t.
      Runs (siding_in (at + 4 + (length got + left)) (total + (length got + left)) t.0
      (awaiting left)))
      (side_after judge side position (at_length judge side position at total r) bytes)
  chunk_or at total r bytes header got left split word some =
      comes_on _ _ header got split (header_or at total (length got + left) r header word some)
      (λ fits.
      let within =
      in_chunk judge side position (at + 4 + (length got + left)) (total + (length got + left)) in
      elim (reads_or (stream_after judge r got)) [
        | At t e ↦ At (t, e) (runs_inside within got left r e)
        | Fails gone ↦ Fails (gone_inside within got left r gone)
      ])

  -- after whole chunks
  abbrev AfterChunks : Reading M → List ℕ → ℕ → ℕ → Run (Siding M) (SideEnd M) → Type 0
  AfterChunks r stream end sum run =
      Comes {A = (t : Reading M) × (stream_after judge r stream ≡ Runs t)} RefusedSide
      (λ t. Runs (at_length judge side position end sum t.0)) run

  chunks_or : (chunks : List (List ℕ)) (front : List ℕ) (at total end sum : ℕ) (r : Reading M)
      → Joins IsChunk front chunks → end ≡ at + length front
      → sum ≡ total + length (concat chunks)
      → AfterChunks r (concat chunks) end sum
      (side_after judge side position (at_length judge side position at total r) front)
  chunks_or [] front at total end sum r h end_is sum_is =
      let at_end : at ≡ end = omega (arith, ap length h) in
      let all : total ≡ sum = omega arith in
      rw h (At (r, refl) (ap₂ (λ n m. Runs (at_length judge side position n m r)) at_end all))
  chunks_or (chunk ∷ chunks) front at total end sum r h end_is sum_is =
      let whole : length chunk ≡ length chunk + 0 = omega arith in
      comes_on _ _ h.0 h.1 h.2
      (chunk_or at total r h.0 h.3.header chunk 0 h.3.split (h.3.word.0, h.3.word.1 ∙ whole)
      (omega (arith, h.3.some)))
      (λ t.
      elim (chunks_or chunks h.1 (at + 4 + (length chunk + 0)) (total + (length chunk + 0)) end sum
      t.0 h.4
      (omega (lengths, ap length h.2, ap length h.3.split))
      (omega lengths)) [
        | At u e ↦
            At (
              u.0,
              after_two _ _ chunk (concat chunks) refl t.1 u.1,
            ) e
        | Fails gone ↦ Fails gone
      ])

  front_or : (front stream : List ℕ) → AreChunks front stream
      → AfterChunks unread stream (position.start + length front)
      (position.before + length stream) (side_taken judge side position front)
  front_or front stream h =
      rw h.carried (chunks_or h.chunks front position.start position.before
      (position.start + length front) (position.before + length (concat h.chunks)) unread h.joined
      refl refl)

  -- a stream is whole with its messages, or it was refused
  abbrev pub ClosedSide : List ℕ → ℕ → ℕ → Run (Siding M) (SideEnd M) → Type 0
  ClosedSide stream end sum run =
      Comes {A = (messages : List M)
      × (stream_after judge unread stream ≡ Runs (reading_with messages Between))} RefusedSide
      (λ m. Stops (SideCloses end sum m.0)) run

  closing_or : (stream : List ℕ) (at total end : ℕ) (messages : List M) (joining : Joining)
      → end ≡ at + 4 → stream_after judge unread stream ≡ Runs (reading_with messages joining)
      → ClosedSide stream end total
      (Stops (closing place at total messages joining))
  closing_or stream at total end messages Between is e =
      At (messages, e) (ap (λ n. Stops (SideCloses n total messages)) (sym is))
  closing_or stream at total end messages (Header body part) is e =
      Fails
      (SideRefuses (place (fault_at messages (length body) RecordCut)), tt, inl refl)
  closing_or stream at total end messages (Bytes body last left) is e =
      Fails
      (SideRefuses (place (fault_at messages (length body) RecordCut)), tt, inl refl)

  pub side_closed_or : (bytes stream : List ℕ) → IsStream bytes stream
      → ClosedSide stream (position.start + length bytes) (position.before + length stream)
      (side_taken judge side position bytes)
  side_closed_or bytes stream h =
      let at : ℕ = position.start + length h.front in
      let total : ℕ = position.before + length stream in
      comes_on _ _ h.front h.last h.split (front_or h.front stream h.chunks)
      (λ r.
      rw (length_runs judge side position at total 0 r.0 h.last h.closes)
      (closing_or stream at total (position.start + length bytes) r.0.messages r.0.joining
      (omega (lengths, ap length h.split)) r.1))

  -- a length word after whole chunks, with which the machine stops
  after_word : (bytes front last stream : List ℕ) (n : ℕ) (fault : Fault) → bytes ≡ front ++ last
      → AreChunks front stream → IsWord last n
      → ((r : Reading M) → stream_after judge unread stream ≡ Runs r
      → landed (counted place (position.start + length front)
      (position.before + length stream) r n) ≡ Stops (SideRefuses fault))
      → Over RefusedSide (side_taken judge side position bytes) (SideRefuses fault)
  after_word bytes front last stream n fault split chunks word stops =
      over_on _ _ front last split (front_or front stream chunks) (word_some last n word)
      (λ r.
      inl (length_runs judge side position (position.start + length front)
      (position.before + length stream) n r.0 last word ∙ stops r.0 r.1))

  -- past the limit
  counted_passes : (at total n : ℕ) (r : Reading M) → 0 < n → max_bytes < total + n
      → landed (counted place at total r n)
      ≡ Stops (SideRefuses (file_fault at TooManyBytes))
  counted_passes at total zero r some passes = absurd (omega arith)
  counted_passes at total (suc left) r some passes =
      rw (lt-ltb max_bytes (total + suc left) passes)

  -- an open record at the stream's end
  open_closing : (at total : ℕ) (messages : List M) (j : Joining) (body : List ℕ) → IsIn body j
      → closing place at total messages j
      ≡ SideRefuses (place (fault_at messages (length body) RecordCut))
  open_closing at total messages Between body h = absurd h
  open_closing at total messages (Header other part) body h = rw h
  open_closing at total messages (Bytes other last left) body h = rw h

  cuts_over : (bytes stream : List ℕ) (messages : List M) (stop : Stop) (fault : Fault)
      → IsStream bytes stream → IsCut judge.says stream messages stop
      → fault ≡ place_at position.connection side messages stop
      → Over RefusedSide (side_taken judge side position bytes) (SideRefuses fault)
  cuts_over bytes stream messages stop fault c
      (CutsOpen front last body split holds is_open same) is =
      let at : ℕ = position.start + length c.front in
      let total : ℕ = position.before + length stream in
      let o = open_in last body is_open in
      let runs =
      stream_runs judge stream (reading_with messages o.0)
      (record { front = front; last = last; split = split; holds = holds; joined = o.2 }) in
      after_word bytes c.front c.last stream 0 fault c.split c.chunks c.closes
      (λ r e.
      let reads : r ≡ reading_with messages o.0 = cc in
      rw (reads, is, same) (ap (λ x. Stops x) (open_closing at total messages o.0 body o.1)))

  -- a byte of a chunk
  chunk_over : (at total : ℕ) (r : Reading M) (header got : List ℕ) (left : ℕ)
      (shown : RecordFault) → IsWord header (length got + left) → 0 < length got
      → Over AnyFault (stream_after judge r got) shown
      → Over RefusedSide
      (side_after judge side position (at_length judge side position at total r) (header ++ got))
      (SideRefuses (place shown))
  chunk_over at total r header got left shown word some over =
      over_on _ _ header got refl
      (header_or at total (length got + left) r header word (omega arith)) some
      (λ fits.
      over_inside
      (in_chunk judge side position (at + 4 + (length got + left)) (total + (length got + left)))
      got
      left r refl over)

  pub side_over : (bytes : List ℕ) (fault : Fault) → SideShows judge.says side position bytes fault
      → Over RefusedSide (side_taken judge side position bytes) (SideRefuses fault)
  side_over bytes fault (PassesBytes front last stream count split chunks word some passes is) =
      after_word bytes front last stream count fault split chunks word
      (λ r e.
      rw is (counted_passes (position.start + length front) (position.before + length stream)
      count r some passes))
  side_over bytes fault (CutsRecord stream messages stop closed cut is) =
      cuts_over bytes stream messages stop fault closed cut is
  side_over bytes fault
      (ShowsRecord front header got stream left messages stop split chunks word some shows is) =
      over_on _ _ front (header ++ got) (split ∙ append_assoc front header got)
      (front_or front stream chunks) (omega lengths)
      (λ r.
      let stops = shown_stops judge (stream ++ got) messages stop shows in
      rw is (chunk_over (position.start + length front) (position.before + length stream) r.0 header
      got left (fault_at messages stop.at stop.reason) word some
      (inl (rw (after-append, r.1) at stops))))
