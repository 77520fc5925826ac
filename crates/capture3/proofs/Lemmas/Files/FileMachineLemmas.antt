-- The machine for a file against connections, entries and rules.
use Rattle.capture3.proofs.Common.{lengths, eqb-false, append_cancel_left, Ends, Runs, Stops, landed, after, IsWord, Joins, word_next, Leads, leads_within, Tells, IsPart, word_leads, Joins-snoc, AreBytes, BadMagic, BadMark, AfterEnd, Streams, size, max_bytes, Position, ShownFault, refusal, Entry, Opening, Closing, Closes, Refuses, opening_next, opened, file_fault, connection_entries, HaveEntries, Version, One, Two, digit, magic_front, magic, max_connections, total_size, IsConnection, next_position, AfterConnections, EndsStreams, Rule, MagicDiffers, MarkIsBad, ConnectionIsTooMany, WithinConnection, ByteAfterEnd, Opens, parsing_in, ◌≡◌, ◌≢◌, ◌⊎◌, inl, inr, ℕ, zero, suc, ◌+◌, ◌<◌, ◌≤◌, List, [], ◌∷◌, ◌++◌, length, refl, sym, ap, ap₂, ⊎_elim, ◌∙◌, append_assoc, append-nil, arith, length-append, nat_lt, nat_eq, ltb-true, ltb-false, lt-ltb, eqb-true, eq-eqb, ne_eqb, false}
use Rattle.capture3.specs.FileMachine.{Mark, Inside, Ended, Parsing, magic_left, marked, closed, file_next, file_start, parsed}
use Rattle.capture3.proofs.Lemmas.Connections.RankLemmas.{by_test}
use Rattle.capture3.proofs.Lemmas.Container.BytesOf.{split_bytes}
use Rattle.capture3.proofs.Lemmas.Connections.ConnectionMachineLemmas.{HasOpening, ClosesConnection, EndsConnection, RefusedClosing, opening_leads, opening_runs, opening_closes, nothing_opened}
use Rattle.capture3.proofs.Lemmas.Files.EndedMachines.{Nested, after_two, runs_inside, stops_inside, word_ends, word_goes}
use Rattle.capture3.proofs.Lemmas.Files.Telling.{tells_bytes}

abbrev pub context_at : (number start before : ℕ) → Position
context_at number start before =
    record { connection = number; start = start; before = before }

-- at a connection word, and in a connection
abbrev pub at_mark : Version → ℕ → ℕ → ℕ → List Entry → Parsing
at_mark version at total number entries = parsing_in version at total number entries (Mark [])

abbrev pub inside_at : Version → ℕ → ℕ → ℕ → List Entry → Opening → Parsing
inside_at version at total number entries o = parsing_in version at total number entries (Inside o)

-- what a refusal says of a file: its fault, and no entries, or those of streams that end here
abbrev pub RefusesFile : List ℕ → ShownFault → Type 0
RefusesFile bytes shown = Rule bytes shown.fault
    × ((shown.more ≡ []) ⊎ EndsStreams bytes shown.more)

-- where a clean prefix of a file stands
pub data Stands (bytes : List ℕ) (s : Parsing) : Type 0 where
  -- in the magic
  AtMagic : (more : List ℕ) → magic_front ≡ bytes ++ more
      → s ≡ parsing_in One (length bytes) 0 0 [] (magic_left more) → Stands bytes s
  -- after whole connections, in a word
  AtMark : (version : Version) (front part : List ℕ) (connections : List Streams)
      (entries : List Entry) → bytes ≡ front ++ part → length part < 4
      → Opens version front connections entries
      → s ≡ parsing_in version (length front) (total_size connections) (length connections) entries
      (Mark part) → Stands bytes s
  -- after whole connections and the word 1, in a connection
  AtInside : (version : Version) (front mark rest : List ℕ) (connections : List Streams)
      (entries : List Entry) (o : Opening) → bytes ≡ front ++ mark ++ rest
      → Opens version front connections entries → IsWord mark 1
      → length connections < max_connections
      → HasOpening version (next_position front connections) rest o
      → s ≡ inside_at version (length front + 4) (total_size connections)
      (suc (length connections)) entries o → Stands bytes s
  -- after whole connections and the last word 0
  AtEnd : (version : Version) (front last : List ℕ) (connections : List Streams)
      (entries : List Entry) → bytes ≡ front ++ last → Opens version front connections entries
      → IsWord last 0
      → s ≡ parsing_in version (length bytes) (total_size connections) (length connections) entries
      Ended → Stands bytes s

total_size-snoc : (connections : List Streams) (streams : Streams)
    → total_size (connections ++ streams ∷ []) ≡ total_size connections + size streams
total_size-snoc [] streams = omega arith
total_size-snoc (s ∷ connections) streams =
    let more = total_size-snoc connections streams in omega arith

-- ---- in the magic

pub magic_parts : (version : Version) → magic_front ++ digit version ∷ [] ≡ magic version
magic_parts One = refl
magic_parts Two = refl

module _ (bytes : List ℕ) (byte : ℕ) where
  at_more : length bytes + 1 ≡ length (bytes ++ byte ∷ [])
  at_more = omega lengths

  -- the last byte of the magic
  whole_magic : (version : Version) → magic_front ≡ bytes ++ [] → byte ≡ digit version
      → Stands (bytes ++ byte ∷ []) (at_mark version (length bytes + 1) 0 0 [])
  whole_magic version begins is =
      AtMark version (bytes ++ byte ∷ []) [] [] [] (sym (append-nil (bytes ++ byte ∷ [])))
      (omega arith)
      (record {
        rest = [];
        split =
            ap₂ (λ (b : List ℕ) (n : ℕ). b ++ n ∷ []) (sym (append-nil bytes) ∙ sym begins) is
            ∙ magic_parts version ∙ sym (append-nil (magic version));
        joined = refl;
        messages = refl;
        few = omega arith;
        small = omega arith;
      }) (ap (λ n. at_mark version n 0 0 []) at_more)

  -- a magic goes on as its front does
  due_is : (due expected : ℕ) (more rest : List ℕ) (other : Version)
      → magic_front ≡ bytes ++ due ∷ more → magic other ≡ bytes ++ expected ∷ rest
      → due ≡ expected
  due_is due expected more rest other begins others =
      let same =
      append_cancel_left bytes (due ∷ more ++ digit other ∷ []) (expected ∷ rest)
      (sym (append_assoc bytes (due ∷ more) (digit other ∷ []))
      ∙ ap (λ (b : List ℕ). b ++ digit other ∷ []) (sym begins) ∙ magic_parts other ∙ others) in
      cc

  other_digits : (other : Version) (expected : ℕ) (rest : List ℕ) → magic_front ≡ bytes ++ []
      → magic other ≡ bytes ++ expected ∷ rest → nat_eq byte (digit One) ≡ false
      → nat_eq byte (digit Two) ≡ false → byte ≢ expected
  other_digits other expected rest begins others one two is = go other expected_is
    where
      expected_is : expected ≡ digit other
      expected_is =
          let same =
          append_cancel_left bytes (digit other ∷ []) (expected ∷ rest)
          (ap (λ (b : List ℕ). b ++ digit other ∷ []) (sym (append-nil bytes) ∙ sym begins)
          ∙ magic_parts other ∙ others) in
          cc

      go : (v : Version) → expected ≡ digit v → ⊥
      go One e = eqb-false byte 49 one (is ∙ e)
      go Two e = eqb-false byte 50 two (is ∙ e)

  magic_leads : (more : List ℕ) → magic_front ≡ bytes ++ more
      → Leads Stands RefusesFile (bytes ++ byte ∷ [])
      (file_next (parsing_in One (length bytes) 0 0 [] (magic_left more)) byte)
  magic_leads [] begins =
      by_test (nat_eq byte (digit One))
      (λ e. rw e (whole_magic One begins (eqb-true _ _ e)))
      (λ one.
      by_test (nat_eq byte (digit Two))
      (λ e. rw (one, e) (whole_magic Two begins (eqb-true _ _ e)))
      (λ two. rw (one, two) (
        MagicDiffers One bytes [] byte (digit One) refl
            (ap (λ (b : List ℕ). b ++ digit One ∷ []) (begins ∙ append-nil bytes))
            (λ other expected rest others. other_digits other expected rest begins others one two)
            refl,
        inl refl,
      )))
  magic_leads (due ∷ more) begins =
      by_test (nat_eq byte due)
      (λ e.
      let is = eqb-true byte due e in
      rw e (AtMagic more (rw (is, append_assoc) begins)
      (ap (λ n. parsing_in One n 0 0 [] (magic_left more)) at_more)))
      (λ e. rw e (
        MagicDiffers One bytes (more ++ digit One ∷ []) byte due refl
            (ap (λ (b : List ℕ). b ++ digit One ∷ []) begins
            ∙ append_assoc bytes (due ∷ more) (digit One ∷ []))
            (λ other expected rest others is.
            eqb-false byte due e (is ∙ sym (due_is due expected more rest other begins others)))
            refl,
        inl refl,
      ))

-- ---- after whole connections

HaveEntries-snoc : (version : Version) (context : Position) (connections : List Streams)
    (entries more : List Entry) (bytes : List ℕ) (at total : ℕ)
    → HaveEntries connections entries → (h : ClosesConnection version context bytes at total more)
    → HaveEntries (connections ++ h.streams ∷ []) (entries ++ more)
HaveEntries-snoc version context [] entries more bytes at total h c = (
  c.calls,
  c.replies,
  [],
  ap (λ es. es ++ more) h ∙ c.entries_are
      ∙ sym (append-nil (connection_entries c.calls c.replies)),
  c.converses,
  refl,
)
HaveEntries-snoc version context (s ∷ connections) entries more bytes at total h c = (
  h.0,
  h.1,
  h.2 ++ more,
  ap (λ es. es ++ more) h.3 ∙ append_assoc (connection_entries h.0 h.1) h.2 more,
  h.4,
  HaveEntries-snoc version context connections h.2 more bytes at total h.5 c,
)

module _ (version : Version) (front : List ℕ) (connections : List Streams) (entries : List Entry)
    (opens : Opens version front connections entries) where
  -- a word after whole connections
  abbrev word_after : {bytes : List ℕ} (word rest : List ℕ) (n : ℕ)
      → bytes ≡ front ++ word ++ rest → IsWord word n → AfterConnections bytes
  word_after word rest n split is =
      record {
        version = version;
        front = front;
        whole = opens.rest;
        word = word;
        rest = rest;
        connections = connections;
        mark = n;
        split = split;
        begins = opens.split;
        joined = opens.joined;
        is_word = is;
      }

  marked_leads : (bytes word : List ℕ) (n : ℕ) → bytes ≡ front ++ word → IsWord word n
      → Leads Stands RefusesFile bytes
      (marked version (length front) (total_size connections) (length connections) entries n)
  marked_leads bytes word zero split is =
      let at_is : length front + 4 ≡ length bytes =
      omega (lengths, ap length split) in
      AtEnd version front word connections entries split opens is
      (ap
      (λ n. parsing_in version n (total_size connections) (length connections) entries Ended) at_is)
  marked_leads bytes word (suc zero) split is =
      let none : bytes ≡ front ++ word ++ [] = split ∙ sym (append-nil (front ++ word)) in
      by_test (nat_lt (length connections) max_connections)
      (λ e. rw e (AtInside version front word [] connections entries
      (opened version (length front + 4) (total_size connections)) none opens is (ltb-true _ _ e)
      (nothing_opened (next_position front connections) version opens.small) refl))
      (λ e. rw e (
        ConnectionIsTooMany (word_after word [] 1 none is) refl refl
            (omega (arith, opens.few, ltb-false (length connections) max_connections e)) refl,
        inl refl,
      ))
  marked_leads bytes word (suc (suc other)) split is = (
    MarkIsBad
        (word_after word [] (suc (suc other)) (split ∙ sym (append-nil (front ++ word))) is)
        refl (omega arith) refl,
    inl refl,
  )

  closed_leads : (bytes mark rest : List ℕ) → bytes ≡ front ++ mark ++ rest → IsWord mark 1
      → length connections < max_connections → (x : Closing)
      → EndsConnection version (next_position front connections) rest x
      → Leads Stands RefusesFile bytes (closed version (suc (length connections)) entries x)
  closed_leads bytes mark rest split one few (Closes end sum more) c =
      let all : List Streams = connections ++ c.streams ∷ [] in
      let at_is : end ≡ length bytes =
      omega (arith, ap length split, length-append {A = ℕ}) in
      let sizes = total_size-snoc connections c.streams in
      let total_is : sum ≡ total_size all = omega (arith, c.total_is) in
      let number_is : suc (length connections) ≡ length all =
      omega (arith, length-append connections (c.streams ∷ [])) in
      let joined : Joins (IsConnection version) (opens.rest ++ (mark ++ rest)) all =
      Joins-snoc (IsConnection version) connections opens.rest (mark ++ rest) c.streams opens.joined
      (record { mark = mark; rest = rest; split = refl; one = one; both = c.whole }) in
      AtMark version bytes [] all (entries ++ more) (sym (append-nil bytes)) (omega arith)
      (record {
        rest = opens.rest ++ (mark ++ rest);
        split = simp (split, opens.split, append_assoc);
        joined = joined;
        messages =
            HaveEntries-snoc version (next_position front connections) connections entries more rest
            end sum opens.messages c;
        few = omega arith;
        small = omega (arith, c.fits);
      })
      (λ i. at_mark version (at_is i) (total_is i) (number_is i) (entries ++ more))
  closed_leads bytes mark rest split one few (Refuses shown) c = (
    WithinConnection (word_after mark rest 1 split one) refl c.0,
    elim c.1 [
      | inl none ↦ inl none
      | inr streams ↦
          inr (record {
            here = word_after mark rest 1 split one;
            fault = shown.fault;
            opens = refl;
            two = streams.0;
            shows = streams.1;
          })
    ],
  )

begun_leads : (bytes : List ℕ) (s : Parsing) (byte : ℕ) → AreBytes (bytes ++ byte ∷ [])
    → Stands bytes s → Leads Stands RefusesFile (bytes ++ byte ∷ []) (file_next s byte)
begun_leads bytes s byte are (AtMagic more begins is) = rw is (magic_leads bytes byte more begins)
begun_leads bytes s byte are (AtMark version front part connections entries split short opens is) =
    let more : bytes ++ byte ∷ [] ≡ front ++ (part ++ byte ∷ []) = rw (split, append_assoc) in
    rw is (leads_within IsPart IsWord Stands RefusesFile
    (λ p.
    parsing_in version (length front) (total_size connections) (length connections) entries
    (Mark p))
    (marked version (length front) (total_size connections) (length connections) entries)
    (part ++ byte ∷ []) (bytes ++ byte ∷ [])
    (λ p h.
    AtMark version front p connections entries (more ∙ ap (λ (b : List ℕ). front ++ b) h.0) h.1
    opens refl)
    (λ n h.
    marked_leads version front connections entries opens (bytes ++ byte ∷ []) (part ++ byte ∷ []) n
    more h)
    (word_next part byte) (word_leads part byte short))
begun_leads bytes s byte are
    (AtInside version front mark rest connections entries o split opens one few inside is) =
    let more : bytes ++ byte ∷ [] ≡ front ++ mark ++ (rest ++ byte ∷ []) =
    simp (split, append_assoc) in
    let context : Position = next_position front connections in
    rw is (leads_within (HasOpening version context) (EndsConnection version context) Stands
    RefusesFile
    (inside_at version (length front + 4) (total_size connections) (suc (length connections))
    entries)
    (closed version (suc (length connections)) entries) (rest ++ byte ∷ []) (bytes ++ byte ∷ [])
    (λ p h.
    AtInside version front mark (rest ++ byte ∷ []) connections entries p more opens one few h refl)
    (closed_leads version front connections entries opens (bytes ++ byte ∷ []) mark
    (rest ++ byte ∷ []) more one few)
    (opening_next (suc (length connections)) o byte) (opening_leads context version rest o byte
    (split_bytes (bytes ++ byte ∷ []) (front ++ mark) (rest ++ byte ∷ []) more are).1 inside))
begun_leads bytes s byte are (AtEnd version front last connections entries split opens closes is) =
    let at_is : length bytes ≡ length front + 4 =
    omega (lengths, ap length split) in
    rw is (
      ByteAfterEnd (word_after version front connections entries opens last (byte ∷ []) 0
          (ap (λ (b : List ℕ). b ++ byte ∷ []) split) closes) refl refl
          (ap (λ n. file_fault n AfterEnd) at_is),
      inl refl,
    )

pub file_tells : (bytes : List ℕ) → AreBytes bytes → Tells Stands RefusesFile bytes (parsed bytes)
file_tells =
    tells_bytes file_next Stands RefusesFile begun_leads file_start (AtMagic magic_front refl refl)

-- ---- the other way round

magic_runs : (bytes more : List ℕ) (at : ℕ) (left : List ℕ) → left ≡ bytes ++ more
    → after file_next (Runs (parsing_in One at 0 0 [] (magic_left left))) bytes
    ≡ Runs (parsing_in One (at + length bytes) 0 0 [] (magic_left more))
magic_runs [] more at left e =
    let here : at ≡ at + 0 = omega arith in
    ap₂ (λ n l. Runs (parsing_in One n 0 0 [] (magic_left l))) here e
magic_runs (byte ∷ bytes) more at left e =
    let there : at + 1 + length bytes ≡ at + suc (length bytes) = omega arith in
    rw (e, eq-eqb byte byte refl) (magic_runs bytes more (at + 1) (bytes ++ more) refl
    ∙ ap (λ n. Runs (parsing_in One n 0 0 [] (magic_left more))) there)

-- the whole magic
pub magics_run : (version : Version) → parsed (magic version) ≡ Runs (at_mark version 8 0 0 [])
magics_run One = refl
magics_run Two = refl

pub mark_runs : (version : Version) (at total number : ℕ) (entries : List Entry) (word : List ℕ)
    (n : ℕ) → IsWord word n
    → after file_next (Runs (at_mark version at total number entries)) word
    ≡ landed (marked version at total number entries n)
mark_runs version at total number entries word n =
    word_ends file_next (λ p. parsing_in version at total number entries (Mark p))
    (marked version at total number entries) (λ s byte. refl) word

abbrev pub AnyRefusal : ShownFault → Type 0
AnyRefusal shown = Unit {0}

-- a connection's machine inside
pub in_file : (version : Version) (at total number : ℕ) (entries : List Entry)
    → Nested (opening_next number) file_next (λ n. inside_at version at total number entries)
    (λ n. closed version number entries) RefusedClosing AnyRefusal
in_file version at total number entries =
    record { commutes = λ n o byte. refl; ends = λ n. refused }
  where
    refused : (x : Closing) → RefusedClosing x
        → (y : ShownFault) × AnyRefusal y × (closed version number entries x ≡ Ends y)
    refused (Closes end sum more) h = absurd h
    refused (Refuses shown) h = (shown, tt, refl)

begins : (version : Version) (at total number : ℕ) (entries : List Entry) (word : List ℕ)
    → IsWord word 1 → number < max_connections
    → after file_next (Runs (at_mark version at total number entries)) word
    ≡ Runs (inside_at version (at + 4) total (suc number) entries (opened version (at + 4) total))
begins version at total number entries word is few =
    mark_runs version at total number entries word 1 is
    ∙ rw (lt-ltb number max_connections few)

connections_run : (version : Version) (connections : List Streams)
    (at total number end sum count : ℕ) (before entries : List Entry) (bytes : List ℕ)
    → Joins (IsConnection version) bytes connections → HaveEntries connections entries
    → total + total_size connections ≤ max_bytes → number + length connections ≤ max_connections
    → end ≡ at + length bytes → sum ≡ total + total_size connections
    → count ≡ number + length connections
    → after file_next (Runs (at_mark version at total number before)) bytes
    ≡ Runs (at_mark version end sum count (before ++ entries))
connections_run version [] at total number end sum count before entries bytes h e small few end_is
    sum_is count_is =
    let at_end : at ≡ end = omega (arith, ap length h) in
    let all : total ≡ sum = omega arith in
    let each : number ≡ count = omega arith in
    rw (h, e, append-nil) (λ i. Runs (at_mark version (at_end i) (all i) (each i) before))
connections_run version (streams ∷ connections) at total number end sum count before entries bytes h
    e small few end_is sum_is count_is =
    let c = h.3 in
    let more : List Entry = connection_entries e.0 e.1 in
    rw (e.3, ← append_assoc before more e.2) (after_two _ _ h.0 h.1 h.2
    (after_two _ _ c.mark c.rest c.split
    (begins version at total number before c.mark c.one (omega arith))
    (stops_inside (in_file version (at + 4) total (suc number) before) c.rest 0
    (opened version (at + 4) total)
    (opening_closes (context_at (suc number) (at + 4) total) version c.rest (at + 4 + length c.rest)
    (total + size streams) more
    (record {
      streams = streams;
      calls = e.0;
      replies = e.1;
      whole = c.both;
      converses = e.4;
      at_is = refl;
      total_is = refl;
      fits = omega arith;
      entries_are = refl;
    }))))
    (connections_run version connections (at + 4 + length c.rest) (total + size streams)
    (suc number) end sum count (before ++ more) e.2 h.1 h.4 e.5 (omega arith) (omega arith)
    (omega (lengths, ap length h.2, ap length c.split)) (omega arith)
    (omega arith)))

pub length_magic : (version : Version) → length (magic version) ≡ 8
length_magic One = refl
length_magic Two = refl

front_runs : (version : Version) (front : List ℕ) (connections : List Streams)
    (entries : List Entry) → Opens version front connections entries
    → parsed front
    ≡ Runs (at_mark version (length front) (total_size connections) (length connections) entries)
front_runs version front connections entries opens =
    after_two _ _ (magic version) opens.rest opens.split (magics_run version)
    (connections_run version connections 8 0 0 (length front) (total_size connections)
    (length connections) [] entries opens.rest opens.joined opens.messages
    (omega lengths) (omega lengths)
    (omega (lengths, ap length opens.split, length_magic version)) (omega lengths) (omega lengths))

pub file_runs : (bytes : List ℕ) (s : Parsing) → Stands bytes s → parsed bytes ≡ Runs s
file_runs bytes s (AtMagic more begins is) =
    let at_is : 0 + length bytes ≡ length bytes = omega arith in
    rw is (magic_runs bytes more 0 magic_front begins
    ∙ ap (λ n. Runs (parsing_in One n 0 0 [] (magic_left more))) at_is)
file_runs bytes s (AtMark version front part connections entries split short opens is) =
    rw is (after_two _ _ front part split (front_runs version front connections entries opens)
    (word_goes file_next
    (λ p.
    parsing_in version (length front) (total_size connections) (length connections) entries
    (Mark p))
    (marked version (length front) (total_size connections) (length connections) entries)
    (λ s byte. refl) part short))
file_runs bytes s
    (AtInside version front mark rest connections entries o split opens one few inside is) =
    let at : ℕ = length front in
    let total : ℕ = total_size connections in
    let number : ℕ = length connections in
    rw is (after_two _ _ front (mark ++ rest)
    (split ∙ append_assoc front mark rest) (front_runs version front connections entries opens)
    (after_two _ _ mark rest refl (begins version at total number entries mark one few)
    (runs_inside (in_file version (at + 4) total (suc number) entries) rest 0
    (opened version (at + 4) total)
    (opening_runs (next_position front connections) version rest o inside))))
file_runs bytes s (AtEnd version front last connections entries split opens closes is) =
    let at_is : length front + 4 ≡ length bytes =
    omega (lengths, ap length split) in
    rw is (after_two _ _ front last split (front_runs version front connections entries opens)
    (mark_runs version (length front) (total_size connections) (length connections) entries last 0
    closes
    ∙ rw at_is))

pub bad_mark_stops : (version : Version) (at total count : ℕ) (entries : List Entry) (n : ℕ) → 1 < n
    → landed (marked version at total count entries n) ≡ Stops (refusal (file_fault at BadMark))
bad_mark_stops version at total count entries (suc (suc n)) h = refl
bad_mark_stops version at total count entries n h = absurd (omega arith)

-- where a magic goes on, its front does, or its digit comes
pub magic_split : (xs front : List ℕ) (y due : ℕ) (more : List ℕ)
    → xs ++ y ∷ [] ≡ front ++ due ∷ more
    → ((left : List ℕ) × (xs ≡ front ++ due ∷ left)) ⊎ (xs ≡ front)
magic_split [] [] y due more e = inr refl
magic_split [] (f ∷ []) y due more e = absurd (cc)
magic_split [] (f ∷ g ∷ front) y due more e = absurd (cc)
magic_split (x ∷ xs) [] y due more e = let first : x ≡ due = cc in inl (xs, ap (λ n. n ∷ xs) first)
magic_split (x ∷ xs) (f ∷ front) y due more e =
    let first : x ≡ f = cc in
    let rest : xs ++ y ∷ [] ≡ front ++ due ∷ more = cc in
    ⊎_elim (λ l. inl (l.0, ap₂ (λ n (b : List ℕ). n ∷ b) first l.1))
    (λ r. inr (ap₂ (λ n (b : List ℕ). n ∷ b) first r)) (magic_split xs front y due more rest)

pub magic_stops : (version : Version) (bytes front more : List ℕ) (byte due : ℕ)
    → bytes ≡ front ++ byte ∷ [] → magic version ≡ front ++ due ∷ more
    → ((other : Version) (expected : ℕ) (rest : List ℕ) → magic other ≡ front ++ expected ∷ rest
    → byte ≢ expected)
    → parsed bytes ≡ Stops (refusal (file_fault (length front) BadMagic))
magic_stops version bytes front more byte due split begins differs =
    let at_is : 0 + length front ≡ length front = omega arith in
    let fault_is = ap (λ n. Stops (refusal (file_fault n BadMagic))) at_is in
    elim (magic_split magic_front front (digit version) due more (magic_parts version ∙ begins)) [
      | inl l ↦
          after_two _ _ front (byte ∷ []) split
          (magic_runs front (due ∷ l.0) 0 magic_front l.1)
          (rw (ne_eqb byte due (differs version due more begins)) fault_is)
      | inr r ↦
          after_two _ _ front (byte ∷ []) split
          (magic_runs front [] 0 magic_front (r ∙ sym (append-nil front)))
          (rw (
            ne_eqb byte 49 (differs One 49 [] (ap (λ (b : List ℕ). b ++ 49 ∷ []) r)),
            ne_eqb byte 50 (differs Two 50 [] (ap (λ (b : List ℕ). b ++ 50 ∷ []) r)),
          ) fault_is)
    ]
