-- The machine for one record against records.
use Rattle.std.proofs.Common.{◌≡◌, ℕ, zero, suc, ◌+◌, ◌<◌, ◌≤◌, List, [], ◌∷◌, ◌++◌, length, refl, sym, ap, subst, ◌∙◌, append_assoc, append-nil, arith, length-append, Bool, true, false, cond, nat_lt, ltb-true, ltb-false, lt-ltb, le-ltb, inl, inr}
use Rattle.record_mark.proofs.Common.{concat, Ends, Runs, Stops, landed, after, within, IsWord, Joins, number, word_next}
use Rattle.record_mark.specs.RecordMark.{max_body, is_last, length_of, IsHeader, IsFragment, IsRecord, IsTooLong}
use Rattle.record_mark.specs.Joining.{Joining, Between, Header, Bytes, Whole, TooLong, ended, expecting, headed, join_next, HasJoined, EndsRecord}
use Rattle.record_mark.proofs.Machines.{Leads, leads_within, Tells, tells, after-append, nested_runs, nested_stops}
use Rattle.record_mark.proofs.Words.{IsPart, word_leads, word_runs, word_stops, Joins-snoc, concat-snoc}

-- the fragments that are whole, and what they carry
pub record Carries (front body : List ℕ) : Type 0 where
  pub fragments : List (List ℕ)
  pub joined : Joins (IsFragment false) front fragments
  pub carried : body ≡ concat fragments

-- they end in a part of a header
at_header : (bytes front part body : List ℕ) → bytes ≡ front ++ part → 0 < length bytes
    → Carries front body → length part < 4 → length body ≤ max_body
    → HasJoined bytes (Header body part)
at_header bytes front part body split some whole short fits = (
  record {
    fragments = whole.fragments;
    front = front;
    part = part;
    got = [];
    split = split;
    begun = some;
    joined = whole.joined;
    cut = inl (short, refl);
    carried = whole.carried ∙ sym (append-nil (concat whole.fragments));
    fits = fits;
  },
  refl,
  short,
)

-- the other way round
before_header : (bytes body part : List ℕ) (h : HasJoined bytes (Header body part))
    → Carries h.0.front body
before_header bytes body part (o, is, short) = record {
  fragments = o.fragments;
  joined = o.joined;
  carried =
      let none : o.got ≡ [] =
      elim o.cut [
        | inl h ↦ h.1
        | inr h ↦
            absurd (omega (
              arith,
              short,
              ap length is,
              ap length h.3,
              length-append h.0 o.got,
              h.4.word,
            ))
      ] in
      o.carried ∙ ap (λ got. concat o.fragments ++ got) none ∙ append-nil (concat o.fragments);
}

ended_leads : (last : Bool) (bytes front back carried before body : List ℕ) → bytes ≡ front ++ back
    → Carries front before → IsFragment last back carried → body ≡ before ++ carried
    → length body ≤ max_body
    → Leads HasJoined EndsRecord bytes (ended body last)
ended_leads true bytes front back carried before body split whole closes is fits =
    record {
      fragments = whole.fragments;
      last = carried;
      front = front;
      back = back;
      split = split;
      joined = whole.joined;
      closes = closes;
      carried = is ∙ ap (λ (b : List ℕ). b ++ carried) whole.carried;
      fits = fits;
    }
ended_leads false bytes front back carried before body split whole closes is fits =
    let some : 0 < length bytes =
    omega (
      arith,
      simp length-append at (ap length split),
      simp length-append at (ap length closes.1),
      closes.2.word,
    ) in
    at_header bytes bytes [] body (sym (append-nil bytes)) some
    (record {
      fragments = whole.fragments ++ carried ∷ [];
      joined =
          subst (λ (b : List ℕ). Joins (IsFragment false) b (whole.fragments ++ carried ∷ []))
          (sym split) (Joins-snoc (IsFragment false) whole.fragments front back carried
          whole.joined closes);
      carried =
          is ∙ ap (λ (b : List ℕ). b ++ carried) whole.carried
          ∙ sym (concat-snoc whole.fragments carried);
    }) (omega arith) fits

-- a header has come, and n bytes of its fragment are to come after got
expecting_leads : (last : Bool) (n : ℕ) (bytes front header got before body : List ℕ)
    → bytes ≡ front ++ header ++ got → Carries front before → IsHeader header last (length got + n)
    → body ≡ before ++ got → length body + n ≤ max_body
    → Leads HasJoined EndsRecord bytes (expecting body last n)
expecting_leads last zero bytes front header got before body split whole heads is fits =
    ended_leads last bytes front (header ++ got) got before body
    (split ∙ append_assoc front header got) whole
    (header, refl, record { word = heads.word; top = heads.top; count = heads.count ∙ omega arith })
    is (omega arith)
expecting_leads last (suc left) bytes front header got before body split whole heads is fits = (
  record {
    fragments = whole.fragments;
    front = front;
    part = header ++ got;
    got = got;
    split = split ∙ append_assoc front header got;
    begun =
        omega (
          arith,
          ap length split,
          length-append (front ++ header) got,
          length-append front header,
          heads.word,
        );
    joined = whole.joined;
    cut = inr (header, last, left, refl, heads, fits);
    carried = is ∙ ap (λ (b : List ℕ). b ++ got) whole.carried;
    fits = omega (arith, fits);
  },
  header,
  refl,
  heads,
  fits,
)

headed_cases : (over : Bool) (bytes front header body : List ℕ)
    → nat_lt max_body (length body + length_of (number header)) ≡ over → bytes ≡ front ++ header
    → Carries front body → length header ≡ 4 → length body ≤ max_body
    → Leads HasJoined EndsRecord bytes (cond over (Ends (TooLong (length body)))
    (expecting body (is_last (number header)) (length_of (number header))))
headed_cases true bytes front header body over split whole word fits =
    record {
      fragments = whole.fragments;
      front = front;
      header = header;
      last = is_last (number header);
      count = length_of (number header);
      split = split;
      joined = whole.joined;
      heads = record { word = word; top = refl; count = refl };
      carried = ap length whole.carried;
      fits = fits;
      passes = ltb-true _ _ over;
    }
headed_cases false bytes front header body over split whole word fits =
    let below : length body + length_of (number header) ≤ max_body = ltb-false _ _ over in
    expecting_leads (is_last (number header)) (length_of (number header)) bytes front header [] body
    body (split ∙ sym (append-nil (front ++ header))) whole
    (record { word = word; top = refl; count = omega arith }) (sym (append-nil body)) below

headed_leads : (bytes front header body : List ℕ) (n : ℕ) → bytes ≡ front ++ header
    → Carries front body → IsWord header n → length body ≤ max_body
    → Leads HasJoined EndsRecord bytes (headed body n)
headed_leads bytes front header body n split whole word fits =
    subst (λ (m : ℕ). Leads HasJoined EndsRecord bytes (headed body m)) word.1
    (headed_cases (nat_lt max_body (length body + length_of (number header))) bytes front header
    body refl split whole word.0 fits)

in_header : (body part : List ℕ) (bytes front : List ℕ) (byte : ℕ) → bytes ≡ front ++ part
    → Carries front body → length part < 4 → length body ≤ max_body
    → Leads HasJoined EndsRecord (bytes ++ byte ∷ [])
    (within (Header body) (headed body) (word_next part byte))
in_header body part bytes front byte split whole short fits =
    let more : bytes ++ byte ∷ [] ≡ front ++ (part ++ byte ∷ []) =
    ap (λ (b : List ℕ). b ++ byte ∷ []) split ∙ append_assoc front part (byte ∷ []) in
    leads_within IsPart IsWord HasJoined EndsRecord (Header body) (headed body) (part ++ byte ∷ [])
    (bytes ++ byte ∷ [])
    (λ s h.
    at_header (bytes ++ byte ∷ []) front s body (more ∙ ap (λ (b : List ℕ). front ++ b) h.0)
    (omega (arith, length-append bytes (byte ∷ []))) whole h.1 fits)
    (λ n h. headed_leads (bytes ++ byte ∷ []) front (part ++ byte ∷ []) body n more whole h fits)
    (word_next part byte) (word_leads part byte short)

pub join_leads : (bytes : List ℕ) (s : Joining) (byte : ℕ) → HasJoined bytes s
    → Leads HasJoined EndsRecord (bytes ++ byte ∷ []) (join_next s byte)
join_leads bytes Between byte h =
    in_header [] [] bytes [] byte h (record { fragments = []; joined = refl; carried = refl })
    (omega arith) (omega arith)
join_leads bytes (Header body part) byte h =
    in_header body part bytes h.0.front byte (h.0.split ∙ ap (λ b. h.0.front ++ b) h.1)
    (before_header bytes body part h) h.2 h.0.fits
join_leads bytes (Bytes body last left) byte (o, header, is, heads, fits) =
    expecting_leads last left (bytes ++ byte ∷ []) o.front header (o.got ++ byte ∷ [])
    (concat o.fragments) (body ++ byte ∷ [])
    (ap (λ (b : List ℕ). b ++ byte ∷ [])
    (o.split ∙ ap (λ b. o.front ++ b) is ∙ sym (append_assoc o.front header o.got))
    ∙ append_assoc (o.front ++ header) o.got (byte ∷ []))
    (record { fragments = o.fragments; joined = o.joined; carried = refl })
    (record {
      word = heads.word;
      top = heads.top;
      count = heads.count ∙ omega (arith, length-append o.got (byte ∷ []));
    })
    (ap (λ (b : List ℕ). b ++ byte ∷ []) o.carried
    ∙ append_assoc (concat o.fragments) o.got (byte ∷ []))
    (omega (arith, length-append body (byte ∷ []), fits))

-- what the machine has, its bytes are
pub join_tells : (bytes : List ℕ)
    → Tells HasJoined EndsRecord bytes (after join_next (Runs Between) bytes)
join_tells = tells join_next HasJoined EndsRecord join_leads Between refl

-- The other way round: along a record the machine runs so.
-- along bytes of a fragment, of which `less` are then to come
pub begun : (body : List ℕ) (last : Bool) (bytes : List ℕ) (left less : ℕ)
    → left ≡ length bytes + less
    → after join_next (landed (expecting body last left)) bytes
    ≡ landed (expecting (body ++ bytes) last less)
begun body last [] left less e =
    let same : left ≡ less = omega arith in
    ap (λ n. landed (expecting body last n)) same
    ∙ ap (λ (b : List ℕ). landed (expecting b last less)) (sym (append-nil body))
begun body last (byte ∷ bytes) left less e =
    let more : left ≡ suc (length bytes + less) = omega arith in
    ap (λ n. after join_next (landed (expecting body last n)) (byte ∷ bytes)) more
    ∙ begun (body ++ byte ∷ []) last bytes (length bytes + less) less refl
    ∙ ap (λ (b : List ℕ). landed (expecting b last less)) (append_assoc body (byte ∷ []) bytes)

pub header_runs : (body header : List ℕ) → length header ≡ 4
    → after join_next (Runs (Header body [])) header ≡ landed (headed body (number header))
header_runs body header word =
    nested_stops word_next join_next (Header body) (headed body) (λ s byte. refl) header []
    (number header) (word_stops header word)

headed_fits : (body header : List ℕ) (last : Bool) (n : ℕ) → IsHeader header last n
    → length body + n ≤ max_body → headed body (number header) ≡ expecting body last n
headed_fits body header last n heads fits =
    rw (heads.count, heads.top) (ap
    (λ b. cond b (Ends (TooLong (length body))) (expecting body last n))
    (le-ltb max_body (length body + n) fits))

fragment_runs : (last : Bool) (body bytes carried : List ℕ) → IsFragment last bytes carried
    → length body + length carried ≤ max_body
    → after join_next (Runs (Header body [])) bytes ≡ landed (ended (body ++ carried) last)
fragment_runs last body bytes carried h fits =
    ap (after join_next (Runs (Header body []))) h.1
    ∙ after-append join_next (Runs (Header body [])) h.0 carried
    ∙ ap (λ r. after join_next r carried) (header_runs body h.0 h.2.word
    ∙ ap landed (headed_fits body h.0 last (length carried) h.2 fits))
    ∙ begun body last carried (length carried) 0 (omega arith)

fragments_run : (fragments : List (List ℕ)) (body front : List ℕ)
    → Joins (IsFragment false) front fragments → length body + length (concat fragments) ≤ max_body
    → after join_next (Runs (Header body [])) front ≡ Runs (Header (body ++ concat fragments) [])
fragments_run [] body front h fits =
    ap (after join_next (Runs (Header body []))) h
    ∙ ap (λ (b : List ℕ). Runs (Header b [])) (sym (append-nil body))
fragments_run (f ∷ fragments) body front h fits =
    let parts = length-append f (concat fragments) in
    ap (after join_next (Runs (Header body []))) h.2
    ∙ after-append join_next (Runs (Header body [])) h.0 h.1
    ∙ ap (λ r. after join_next r h.1) (fragment_runs false body h.0 f h.3 (omega arith))
    ∙ fragments_run fragments (body ++ f) h.1 h.4 (omega (arith, length-append body f))
    ∙ ap (λ (b : List ℕ). Runs (Header b [])) (append_assoc body f (concat fragments))

-- what begins a record begins it as a header
pub begins : (bytes : List ℕ) → 0 < length bytes
    → after join_next (Runs Between) bytes ≡ after join_next (Runs (Header [] [])) bytes
begins [] h = absurd (omega arith)
begins (byte ∷ bytes) h = refl

later : (fragments : List (List ℕ)) (bytes front back : List ℕ) → bytes ≡ front ++ back
    → 0 < length bytes → Joins (IsFragment false) front fragments
    → length (concat fragments) ≤ max_body
    → after join_next (Runs Between) bytes
    ≡ after join_next (Runs (Header (concat fragments) [])) back
later fragments bytes front back split some joined fits =
    begins bytes some ∙ ap (after join_next (Runs (Header [] []))) split
    ∙ after-append join_next (Runs (Header [] [])) front back
    ∙ ap (λ r. after join_next r back) (fragments_run fragments [] front joined (omega arith))

pub record_stops : (bytes body : List ℕ) → IsRecord bytes body
    → after join_next (Runs Between) bytes ≡ Stops (Whole body)
record_stops bytes body h =
    let size = ap length h.carried ∙ length-append (concat h.fragments) h.last in
    later h.fragments bytes h.front h.back h.split
    (omega (
      arith,
      ap length h.split ∙ length-append h.front h.back,
      ap length h.closes.1 ∙ length-append h.closes.0 h.last,
      h.closes.2.word,
    )) h.joined
    (omega (arith, h.fits))
    ∙ fragment_runs true (concat h.fragments) h.back h.last h.closes (omega (arith, h.fits))
    ∙ ap (λ (b : List ℕ). Stops (Whole b)) (sym h.carried)

pub too_long_stops : (bytes : List ℕ) (at : ℕ) → IsTooLong bytes at
    → after join_next (Runs Between) bytes ≡ Stops (TooLong at)
too_long_stops bytes at h =
    later h.fragments bytes h.front h.header h.split
    (omega (arith, ap length h.split ∙ length-append h.front h.header, h.heads.word)) h.joined
    (omega (arith, h.fits, h.carried))
    ∙ header_runs (concat h.fragments) h.header h.heads.word
    ∙ ap (λ b.
    landed (cond b (Ends (TooLong (length (concat h.fragments)))) (expecting
    (concat h.fragments) (is_last (number h.header))
    (length_of (number h.header)))))
    (lt-ltb max_body (length (concat h.fragments) + length_of (number h.header))
    (omega (arith, h.passes, h.carried, h.heads.count)))
    ∙ ap (λ n. Stops (TooLong n)) (sym h.carried)

pub joining_runs : (bytes : List ℕ) (s : Joining) → HasJoined bytes s
    → after join_next (Runs Between) bytes ≡ Runs s
joining_runs bytes Between h = ap (after join_next (Runs Between)) h
joining_runs bytes (Header body part) h =
    let whole = before_header bytes body part h in
    later whole.fragments bytes h.0.front part (h.0.split ∙ ap (λ b. h.0.front ++ b) h.1)
    h.0.begun whole.joined (omega (arith, h.0.fits, ap length whole.carried))
    ∙ nested_runs word_next join_next (Header (concat whole.fragments))
    (headed (concat whole.fragments)) (λ s byte. refl) part [] part (word_runs part h.2)
    ∙ ap (λ (b : List ℕ). Runs (Header b part)) (sym whole.carried)
joining_runs bytes (Bytes body last left) (o, header, is, heads, fits) =
    let before : List ℕ = concat o.fragments in
    let size = ap length o.carried ∙ length-append (concat o.fragments) o.got in
    later o.fragments bytes o.front (header ++ o.got) (o.split ∙ ap (λ b. o.front ++ b) is)
    o.begun o.joined (omega (arith, fits))
    ∙ after-append join_next (Runs (Header before [])) header o.got
    ∙ ap (λ r. after join_next r o.got) (header_runs before header heads.word
    ∙ ap landed (headed_fits before header last (length o.got + suc left) heads
    (omega (arith, fits))))
    ∙ begun before last o.got (length o.got + suc left) (suc left) refl
    ∙ ap (λ (b : List ℕ). Runs (Bytes b last left)) (sym o.carried)
