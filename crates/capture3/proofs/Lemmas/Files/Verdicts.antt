-- A file is well formed with its entries, or has one first fault, as the machine says.
use Rattle.capture3.proofs.Common.{◌≡◌, inl, inr, ℕ, List, [], ◌∷◌, ◌++◌, length, refl, sym, ap, subst, ◌∙◌, append-nil, Result, Ok, Err, Run, Runs, Stops, Stopped, after, AreBytes, CaptureCut, AfterEnd, Fault, Version, total_size, magic, ShownFault, refusal, shown_with, Entry, End, Rule, Shows, IsClean, FirstFault, file_fault, Typed, IsWellFormed, parsing_in, ran_before, Earlier, Tells, after-append, after_stopped, ran_to, not_runs, HasOneVerdict, IsCutShort}
use Rattle.capture3.specs.FileMachine.{Spot, Ended, Parsing, file_next, file_start, parsed, concluded, verdict_of, verdict}
use Rattle.capture3.proofs.Lemmas.Files.FileRules.{rule_over}
use Rattle.capture3.proofs.Lemmas.Container.BytesOf.{split_bytes}
use Rattle.capture3.proofs.Lemmas.Files.EndedMachines.{Over, stopped_at}
use Rattle.capture3.proofs.Lemmas.Files.FileMachineLemmas.{AnyRefusal, RefusesFile, Stands, AtMagic, AtMark, AtInside, AtEnd, file_tells, file_runs}

-- the machine's runs, told of their bytes
pub run_shows : (bytes : List ℕ) (run : Run Parsing ShownFault) → AreBytes bytes
    → parsed bytes ≡ run
    → Tells Stands RefusesFile bytes run
run_shows bytes run are e = subst (λ r. Tells Stands RefusesFile bytes r) e (file_tells bytes are)

-- where a rule holds, the machine has stopped
over_not_runs : (run : Run Parsing ShownFault) (s : Parsing) (shown : ShownFault) → run ≡ Runs s
    → Over AnyRefusal run shown → ⊥
over_not_runs run s shown e (inl f) = cc
over_not_runs run s shown e (inr past) = let f = past.2 in cc

rule_not_runs : (bytes : List ℕ) (s : Parsing) (fault : Fault) → parsed bytes ≡ Runs s
    → Rule bytes fault → ⊥
rule_not_runs bytes s fault e rule =
    let over = rule_over bytes fault rule in
    over_not_runs (parsed bytes) s (shown_with over.0 fault) e over.1

-- a fault is shown by the last byte exactly where the machine stops at it
pub shows_from_stops : (bytes : List ℕ) (shown : ShownFault) → AreBytes bytes
    → parsed bytes ≡ Stops shown → Shows bytes shown.fault
shows_from_stops bytes shown are e =
    record {
      rule = (run_shows bytes (Stops shown) are e).0;
      first = λ front more byte other split rule.
          let before =
          ran_before file_next (Runs file_start) front byte more shown (ap parsed (sym split) ∙ e)
          in
          rule_not_runs front before.0 other before.1 rule;
    }

-- where it had stopped before, an earlier byte shows the fault
pub shown_before : (file : List ℕ) (shown : ShownFault) → AreBytes file
    → parsed file ≡ Stopped shown
    → Earlier ShownFault (λ bytes stopped. Shows bytes stopped.fault) file shown
shown_before file shown are e =
    let stop = stopped_at file_next file file_start shown e in
    let bytes = split_bytes file stop.front (stop.byte ∷ stop.back) stop.split are in
    record {
      front = stop.front;
      byte = stop.byte;
      back = stop.back;
      split = stop.split;
      ending = shows_from_stops stop.front shown bytes.0 stop.ending;
    }

pub stops_from_shows : (bytes : List ℕ) (fault : Fault) → AreBytes bytes → Shows bytes fault
    → (entries : List Entry) × (parsed bytes ≡ Stops (shown_with entries fault))
stops_from_shows bytes fault are h =
    let over = rule_over bytes fault h.rule in
    elim over.1 [
      | inl e ↦ (over.0, e)
      | inr past ↦
          let before = shown_before bytes past.0 are past.2 in
          absurd (h.first before.front before.back before.byte past.0.fault before.split
          before.ending.rule)
    ]

-- a prefix of what the machine runs through shows nothing
pub clean_from_runs : (bytes : List ℕ) (s : Parsing) → parsed bytes ≡ Runs s → IsClean bytes
clean_from_runs bytes s e front rest fault split shows =
    let ran = ran_to file_next (Runs file_start) front rest s (ap parsed (sym split) ∙ e) in
    rule_not_runs front ran.0 fault ran.1 shows.rule

-- well formed
typed_from_stands : (file : List ℕ) (all : List Entry) (s : Parsing) → Stands file s
    → concluded (length file) s.entries s.spot ≡ Ok all → Typed file all
typed_from_stands file all s (AtMagic [] begins is) e = absurd (cc)
typed_from_stands file all s (AtMagic (due ∷ more) begins is) e = absurd (cc)
typed_from_stands file all s
    (AtMark version front part connections entries split short opens is) e = absurd (cc)
typed_from_stands file all s
    (AtInside version front mark rest connections entries o split opens one few inside is) e =
    absurd (cc)
typed_from_stands file all s
    (AtEnd version front last connections entries split opens closes is) e =
    record {
      version = version;
      connections = connections;
      front = entries;
      messages = opens.messages;
      ends = cc;
      capture =
          record {
            bytes = opens.rest;
            last = last;
            split = split ∙ ap (λ (b : List ℕ). b ++ last) opens.split;
            joined = opens.joined;
            closes = closes;
            few = opens.few;
            small = opens.small;
          };
    }

typed_from_run : (file : List ℕ) (all : List Entry) (run : Run Parsing ShownFault) → AreBytes file
    → parsed file ≡ run → verdict_of (length file) run ≡ Ok all → Typed file all
typed_from_run file all (Runs s) are e v =
    typed_from_stands file all s (run_shows file (Runs s) are e) v
typed_from_run file all (Stops fault) are e v = absurd (cc)
typed_from_run file all (Stopped fault) are e v = absurd (cc)

pub typed_from_verdict : (file : List ℕ) (entries : List Entry) → AreBytes file
    → verdict file ≡ Ok entries → Typed file entries
typed_from_verdict file entries are = typed_from_run file entries (parsed file) are refl

typed_runs : (file : List ℕ) (entries : List Entry) (h : Typed file entries)
    → parsed file
    ≡ Runs (parsing_in h.version (length file) (total_size h.connections) (length h.connections)
    h.front Ended)
typed_runs file entries h =
    let c = h.capture in
    file_runs file (parsing_in h.version (length file) (total_size h.connections)
    (length h.connections) h.front Ended)
    (AtEnd h.version (magic h.version ++ c.bytes) c.last h.connections h.front c.split
    (record {
      rest = c.bytes;
      split = refl;
      joined = c.joined;
      messages = h.messages;
      few = c.few;
      small = c.small;
    }) c.closes refl)

pub verdict_from_typed : (file : List ℕ) (entries : List Entry) → Typed file entries
    → verdict file ≡ Ok entries
verdict_from_typed file entries h =
    ap (verdict_of (length file)) (typed_runs file entries h) ∙ ap (λ es. Ok es) (sym h.ends)

-- a first fault
fault_from_spot : (entries : List Entry) (size : ℕ) (fault : Fault) (spot : Spot)
    → concluded size entries spot ≡ Err fault → fault ≡ file_fault size CaptureCut
fault_from_spot entries size fault Ended e = absurd (cc)
fault_from_spot entries size fault spot e = cc

fault_from_run : (file : List ℕ) (fault : Fault) (run : Run Parsing ShownFault) → AreBytes file
    → parsed file ≡ run → verdict_of (length file) run ≡ Err fault → FirstFault file fault
fault_from_run file fault (Runs s) are e v =
    inr (
      clean_from_runs file s e,
      (λ w. let typed = verdict_from_typed file w.0 w.1 in
          let same = ap (verdict_of (length file)) e in
          cc),
      fault_from_spot s.entries (length file) fault s.spot v,
    )
fault_from_run file fault (Stops shown) are e v =
    let same : shown.fault ≡ fault = cc in
    inl (
      file,
      [],
      sym (append-nil file),
      subst (Shows file) same (shows_from_stops file shown are e),
    )
fault_from_run file fault (Stopped shown) are e v =
    let same : shown.fault ≡ fault = cc in
    let before = shown_before file shown are e in
    inl (
      before.front,
      before.byte ∷ before.back,
      before.split,
      subst (Shows before.front) same before.ending,
    )

pub fault_from_verdict : (file : List ℕ) (fault : Fault) → AreBytes file → verdict file ≡ Err fault
    → FirstFault file fault
fault_from_verdict file fault are = fault_from_run file fault (parsed file) are refl

pub stays : (size : ℕ) (shown : ShownFault) (rest : List ℕ)
    → verdict_of size (after file_next (Stops shown) rest) ≡ Err shown.fault
stays size shown [] = refl
stays size shown (byte ∷ rest) = ap (verdict_of size) (after_stopped file_next shown rest)

-- where the machine runs, the file is well formed or cut
cut_from_spot : (entries : List Entry) (size : ℕ) (spot : Spot)
    → ((all : List Entry) → concluded size entries spot ≡ Ok all → ⊥)
    → concluded size entries spot ≡ Err (file_fault size CaptureCut)
cut_from_spot entries size Ended h = absurd (h (entries ++ End ∷ []) refl)
cut_from_spot entries size spot h = refl

cut_from_run : (file : List ℕ) (run : Run Parsing ShownFault) → AreBytes file → parsed file ≡ run
    → IsClean file → (IsWellFormed file → ⊥)
    → verdict_of (length file) run ≡ Err (file_fault (length file) CaptureCut)
cut_from_run file (Runs s) are e clean bad =
    cut_from_spot s.entries (length file) s.spot
    (λ all v. bad (all, typed_from_run file all (Runs s) are e v))
cut_from_run file (Stops shown) are e clean bad =
    absurd (clean file [] shown.fault (sym (append-nil file)) (shows_from_stops file shown are e))
cut_from_run file (Stopped shown) are e clean bad =
    let before = shown_before file shown are e in
    absurd (clean before.front (before.byte ∷ before.back) shown.fault before.split before.ending)

pub verdict_from_fault : (file : List ℕ) (fault : Fault) → AreBytes file → FirstFault file fault
    → verdict file ≡ Err fault
verdict_from_fault file fault are (inl h) =
    let (front, rest, split, shows) = h in
    let stop = stops_from_shows front fault (split_bytes file front rest split are).0 shows in
    ap (verdict_of (length file)) (ap parsed split ∙ after-append file_next (Runs file_start) front
    rest ∙ rw stop.1)
    ∙ stays (length file) (shown_with stop.0 fault) rest
verdict_from_fault file fault are (inr h) =
    cut_from_run file (parsed file) are refl h.0 h.1 ∙ ap (λ f. Err f) (sym h.2)

-- each file has one verdict
verdict_cases : (file : List ℕ) (v : Result (List Entry) Fault) → AreBytes file → verdict file ≡ v
    → HasOneVerdict file
verdict_cases file (Ok entries) are e =
    inl (record {
      entries = entries;
      typed = typed_from_verdict file entries are e;
      only = λ others h. let other = verdict_from_typed file others h in cc;
      sound = λ fault h. let other = verdict_from_fault file fault are h in cc;
    })
verdict_cases file (Err fault) are e =
    inr (record {
      fault = fault;
      first = fault_from_verdict file fault are e;
      only = λ others h. let other = verdict_from_fault file others are h in cc;
      refused = λ entries h. let other = verdict_from_typed file entries h in cc;
    })

pub one_verdict : (file : List ℕ) → AreBytes file → HasOneVerdict file
one_verdict file are = verdict_cases file (verdict file) are refl

-- after the last word 0 no byte stands
not_ended : (version ending : Version) (front more : List ℕ) (byte at total count n m k : ℕ)
    (entries others : List Entry) (spot : Spot)
    → parsed front ≡ Runs (parsing_in version at total count entries spot)
    → parsed (front ++ byte ∷ more) ≡ Runs (parsing_in ending n m k others Ended)
    → concluded (length front) entries spot ≡ Err (file_fault (length front) CaptureCut)
not_ended version ending front more byte at total count n m k entries others Ended e h =
    let after_end =
    after-append file_next (Runs file_start) front (byte ∷ more)
    ∙ ap (λ r. after file_next r (byte ∷ more)) e in
    absurd (not_runs file_next (refusal (file_fault at AfterEnd))
    (parsing_in ending n m k others Ended) more (sym after_end ∙ h))
not_ended version ending front more byte at total count n m k entries others spot e h = refl

pub is_cut_short : (file : List ℕ) → AreBytes file → IsCutShort file
is_cut_short file are entries front more byte typed split =
    let whole = typed_runs file entries typed in
    let ran =
    ran_to file_next (Runs file_start) front (byte ∷ more)
    (parsing_in typed.version (length file) (total_size typed.connections)
    (length typed.connections) typed.front Ended)
    (ap parsed (sym split) ∙ whole) in
    let s = ran.0 in
    fault_from_verdict front (file_fault (length front) CaptureCut)
    (split_bytes file front (byte ∷ more) split are).0
    (ap (verdict_of (length front)) ran.1
    ∙ not_ended s.version typed.version front more byte s.at s.total s.number (length file)
    (total_size typed.connections) (length typed.connections) s.entries typed.front s.spot ran.1
    (ap parsed (sym split) ∙ whole))
