-- What is packed of connections.
use Rattle.std.proofs.Common.{◌≡◌, ◌<◌, ◌≤◌, ◌⊎◌, ℕ, zero, suc, ◌+◌, false, true, List, [], ◌∷◌, ◌++◌, Option, Some, Result, Ok, Err, length, get_or, take, refl, sym, ap, ap₂, ◌∙◌, subst, arith, inl, inr}
use Rattle.std.specs.List.{AllZip}
use Rattle.std.specs.Result.{IfErr, IsErrAnd, OnOk}
use Rattle.std.proofs.lemmas.List.{append-nil, length-take, take_more}
use Rattle.std.proofs.Math.Seq.{take-nil}
use Rattle.std.proofs.lemmas.Slice.Zip.{all_zipped_more}
use Rattle.capture3.specs.Observed.{Gave, IsSpent}
use Rattle.capture3.specs.SidedChunks.{Streams}
use Rattle.capture3.specs.declared.fault.Error.{Error}
use Rattle.connections3.specs.declared.connection.Connection.{Connection}
use Rattle.packing3.specs.declared.packing.Packing.{Packing}
use Rattle.packing3.specs.Devices.{Sources}
use Rattle.packing3.specs.Packing.{AddsTo, HasAdded, ending_of}
use Rattle.payload3.specs.Readings.{Allow, GivesPayload, OffsetRead, PayloadReads, trail_of}
use Rattle.payload3.proofs.TrailLemmas.{allow_append, same_runs}
use Rattle.streams3.specs.declared.runs.Run.{Run}
use Rattle.streams3.specs.Content.{AreIn, content_of}
use Rattle.conversion3.specs.Decisions.{AreDecided}
use Rattle.conversion3.specs.OrderedConnections.{AreOrdered, IsOrderedConnection}
use Rattle.conversion3.specs.Packing.{AreSentIn, StopsAfter, whole_of}
use Rattle.conversion3.specs.Sent.{HasSent}
use Rattle.conversion3.specs.Whole.{IsWholeConnection}
use Rattle.conversion3.specs.declared.decisions.Decision.{Decision}
use Rattle.conversion3.specs.declared.decisions.Decision.TheVariants.{NotChosen, Empty, Whole, Flawed}
use Rattle.conversion3.specs.declared.ordered_connections.OrderedConnection.{OrderedConnection}
use Rattle.conversion3.specs.machinery.Contents.{HoldsContent}
use Rattle.conversion3.proofs.DecisionLemmas.{linked}

-- ---- results

pub on_ok : (result : Result (Unit {0}) Error) (P : Type 0)
    → ((done : Unit {0}) → result ≡ Ok done → P) → OnOk result P
on_ok (Ok done) P f = f done refl
on_ok (Err error) P f = tt

pub if_err : (result : Result (Unit {0}) Error) (P : Error → Type 0)
    → ((error : Error) → result ≡ Err error → P error) → IfErr result P
if_err (Ok done) P f = tt
if_err (Err error) P f = f error refl

-- ---- a pair

module _ {W : Type 0} where
  -- a pair that was added
  pub record Added (written : W → Option (List ℕ)) (new : Packing W) (sources : Sources)
      (before : Option (List ℕ)) (pairs : List Streams) : Type 0 where
    pub streams : Streams
    pub client : Gave sources.client_before sources.client_after streams.client
    pub server : Gave sources.server_before sources.server_after streams.server
    pub client_spent : IsSpent sources.client_after
    pub server_spent : IsSpent sources.server_after
    pub added : HasAdded written new before (pairs ++ streams ∷ [])

  pub added_is : (written : W → Option (List ℕ)) (new : Packing W) (sources : Sources)
      (before : Option (List ℕ)) (pairs : List Streams) (result : Result (Unit {0}) Error)
      (done : Unit {0}) → result ≡ Ok done → AddsTo written new sources before pairs result
      → Added written new sources before pairs
  added_is written new sources before pairs result done is adds =
      let ok : AddsTo written new sources before pairs (Ok done) =
      subst (AddsTo written new sources before pairs) is adds in
      record {
        streams = ok.streams;
        client = ok.from_client;
        server = ok.from_server;
        client_spent = ok.adds.0;
        server_spent = ok.adds.1;
        added = ok.adds.2;
      }

  pub stops_after : (written : W → Option (List ℕ)) (new : Packing W) (sources : Sources)
      (before : Option (List ℕ)) (pairs : List Streams) (result : Result (Unit {0}) Error)
      (error : Error) → result ≡ Err error → ending_of new ≡ Some (Err error)
      → AddsTo written new sources before pairs result
      → StopsAfter written new before pairs error
  stops_after written new sources before pairs result error is ended adds =
      let failed : AddsTo written new sources before pairs (Err error) =
      subst (AddsTo written new sources before pairs) is adds in
      inr (
        ended,
        elim failed.adds [
          | inl full ↦ inl full.1
          | inr breaks ↦ inr (failed.streams, breaks)
        ],
      )

-- what a payload gave to its end
pub contents : (file : List ℕ) (runs : List Run) (old new : PayloadReads) (bytes : List ℕ)
    → old ≡ record { runs = runs; readings = []; given = []; failures = 0; is_spent = false }
    → trail_of new ≡ trail_of old ++ bytes → new.is_spent ≡ true → GivesPayload new file
    → HoldsContent file runs bytes
contents file runs old new bytes is trail spent gives =
    let same = same_runs old new bytes (ap (λ (r : PayloadReads). r.given) is) trail in
    let own : new.runs ≡ runs = same.runs ∙ ap (λ (r : PayloadReads). r.runs) is in (
      subst (AreIn file) own (gives.within spent),
      ap (content_of file) (sym own)
          ∙ gives.first
          ∙ ap (λ (l : List ℕ). new.given ++ l) (gives.all spent)
          ∙ append-nil new.given
          ∙ same.given,
    )

pub allow_three : (file : List ℕ) (old middle new client server : List OffsetRead)
    → middle ≡ old ++ client → new ≡ middle ++ server → Allow new file
    → Allow old file × Allow client file × Allow server file
allow_three file old middle new client server first second allows =
    let last = allow_append file middle server
    (subst (λ (l : List OffsetRead). Allow l file) second allows) in
    let both = allow_append file old client
    (subst (λ (l : List OffsetRead). Allow l file) first last.0) in
    (both.0, both.1, last.1)

-- ---- the connections that are whole

pub whole_append : {A : Type 0} (cs : List A) (ds : List Decision) (c : A) (d : Decision)
    → length cs ≡ length ds
    → whole_of (cs ++ c ∷ []) (ds ++ d ∷ []) ≡ whole_of cs ds ++ whole_of (c ∷ []) (d ∷ [])
whole_append [] [] c d size = refl
whole_append [] (b ∷ ds) c d size = absurd (omega (arith, size))
whole_append (a ∷ cs) [] c d size = absurd (omega (arith, size))
whole_append (a ∷ cs) (NotChosen ∷ ds) c d size = whole_append cs ds c d (omega (arith, size))
whole_append (a ∷ cs) (Empty ∷ ds) c d size = whole_append cs ds c d (omega (arith, size))
whole_append (a ∷ cs) (Whole ∷ ds) c d size =
    ap (λ (l : List _). a ∷ l) (whole_append cs ds c d (omega (arith, size)))
whole_append (a ∷ cs) (Flawed flaw ∷ ds) c d size =
    whole_append cs ds c d (omega (arith, size))

abbrev pub HasSentIn : (file : List ℕ) → OrderedConnection → Streams → Type 0
HasSentIn file ordered streams = (c : Connection) → IsOrderedConnection c ordered
    → IsWholeConnection file c → HasSent file c streams

-- in each file that the reads allow, the pairs are what was sent on those that are whole
abbrev pub AreSentInOrder : List OffsetRead → List OrderedConnection → List Decision → List Streams
    → Type 0
AreSentInOrder readings ordered decisions pairs = (file : List ℕ) → Allow readings file
    → AllZip (HasSentIn file) (whole_of ordered decisions) pairs

abbrev IsWholeIn : (file : List ℕ) → Connection → OrderedConnection → Type 0
IsWholeIn file c ordered = IsOrderedConnection c ordered × IsWholeConnection file c

whole_in : (file ports : List ℕ) (connections : List Connection)
    (ordered : List OrderedConnection) (decisions : List Decision)
    → AreOrdered connections ordered → AreDecided file ports connections decisions
    → AllZip (IsWholeIn file) (whole_of connections decisions) (whole_of ordered decisions)
whole_in file ports [] [] decisions order decided = tt
whole_in file ports [] (o ∷ ordered) decisions order decided = absurd order
whole_in file ports (c ∷ connections) [] decisions order decided = absurd order
whole_in file ports (c ∷ connections) (o ∷ ordered) [] order decided = absurd decided
whole_in file ports (c ∷ connections) (o ∷ ordered) (NotChosen ∷ decisions) order decided =
    whole_in file ports connections ordered decisions order.1 decided.1
whole_in file ports (c ∷ connections) (o ∷ ordered) (Empty ∷ decisions) order decided =
    whole_in file ports connections ordered decisions order.1 decided.1
whole_in file ports (c ∷ connections) (o ∷ ordered) (Whole ∷ decisions) order decided =
    ((order.0, decided.0.1), whole_in file ports connections ordered decisions order.1 decided.1)
whole_in file ports (c ∷ connections) (o ∷ ordered) (Flawed flaw ∷ decisions) order decided =
    whole_in file ports connections ordered decisions order.1 decided.1

pub are_sent_in : (readings : List OffsetRead) (ordered : List OrderedConnection)
    (decisions : List Decision) (pairs : List Streams)
    → AreSentInOrder readings ordered decisions pairs → AreSentIn readings ordered decisions pairs
are_sent_in readings ordered decisions pairs sent file ports connections allows order decided =
    linked (IsWholeIn file) (HasSentIn file) (HasSent file)
    (λ c o streams whole has. has c whole.0 whole.1) (whole_of connections decisions)
    (whole_of ordered decisions) pairs
    (whole_in file ports connections ordered decisions order decided) (sent file allows)

pub on_ok_map : (result : Result (Unit {0}) Error) (P Q : Type 0) → (P → Q) → OnOk result P
    → OnOk result Q
on_ok_map (Ok done) P Q f h = f h
on_ok_map (Err error) P Q f h = tt

-- ---- the loop over connections and decisions

whole_is : (c : OrderedConnection) (d : Decision) → d ≡ Whole
    → whole_of (c ∷ []) (d ∷ []) ≡ c ∷ []
whole_is c d is = ap (λ (e : Decision). whole_of (c ∷ []) (e ∷ [])) is

not_whole : (c : OrderedConnection) (d : Decision) → (d ≡ Whole → ⊥)
    → whole_of (c ∷ []) (d ∷ []) ≡ []
not_whole c NotChosen is_not = refl
not_whole c Empty is_not = refl
not_whole c Whole is_not = absurd (is_not refl)
not_whole c (Flawed flaw) is_not = refl

-- a connection and its decision, at an index
pub record AreAt {A B : Type 0} (connections : List A) (decisions : List B) (i : ℕ) (c : A) (d : B)
    : Type 0 where
  pub first : i < length connections
  pub second : i < length decisions
  pub connection : (e : A) → c ≡ get_or connections i e
  pub decision : (e : B) → d ≡ get_or decisions i e

whole_more : (connections : List OrderedConnection) (decisions : List Decision) (i n : ℕ)
    (c : OrderedConnection) (d : Decision) → AreAt connections decisions i c d → n ≡ i + 1
    → whole_of (take n connections) (take n decisions)
    ≡ whole_of (take i connections) (take i decisions) ++ whole_of (c ∷ []) (d ∷ [])
whole_more connections decisions i n c d at is =
    let cs : take n connections ≡ take i connections ++ c ∷ [] =
    ap (λ (k : ℕ). take k connections) is
    ∙ take_more connections i c at.first
    ∙ ap (λ (x : OrderedConnection). take i connections ++ x ∷ []) (sym (at.connection c)) in
    let ds : take n decisions ≡ take i decisions ++ d ∷ [] =
    ap (λ (k : ℕ). take k decisions) is
    ∙ take_more decisions i d at.second
    ∙ ap (λ (x : Decision). take i decisions ++ x ∷ []) (sym (at.decision d)) in
    ap₂ (λ (a : List OrderedConnection) (b : List Decision). whole_of a b) cs ds
    ∙ whole_append (take i connections) (take i decisions) c d
    (omega (
      arith,
      at.first,
      at.second,
      length-take i connections,
      length-take i decisions,
    ))

-- of one that is not whole nothing is packed
pub same_whole : (file : List ℕ) (connections : List OrderedConnection)
    (decisions : List Decision) (i n : ℕ) (c : OrderedConnection) (d : Decision)
    (pairs : List Streams) → AreAt connections decisions i c d → n ≡ i + 1 → (d ≡ Whole → ⊥)
    → AllZip (HasSentIn file) (whole_of (take i connections) (take i decisions)) pairs
    → AllZip (HasSentIn file) (whole_of (take n connections) (take n decisions)) pairs
same_whole file connections decisions i n c d pairs at is is_not sent =
    let before = whole_of (take i connections) (take i decisions) in
    subst (λ (l : List OrderedConnection). AllZip (HasSentIn file) l pairs)
    (sym (whole_more connections decisions i n c d at is
    ∙ ap (λ (l : List OrderedConnection). before ++ l) (not_whole c d is_not)
    ∙ append-nil before)) sent

-- and of one that is whole the streams
pub more_whole : (file : List ℕ) (connections : List OrderedConnection)
    (decisions : List Decision) (i n : ℕ) (c : OrderedConnection) (d : Decision)
    (pairs : List Streams) (streams : Streams) → AreAt connections decisions i c d → n ≡ i + 1
    → d ≡ Whole → AllZip (HasSentIn file) (whole_of (take i connections) (take i decisions)) pairs
    → HasSentIn file c streams
    → AllZip (HasSentIn file) (whole_of (take n connections) (take n decisions))
    (pairs ++ streams ∷ [])
more_whole file connections decisions i n c d pairs streams at is whole sent one =
    let before = whole_of (take i connections) (take i decisions) in
    subst (λ (l : List OrderedConnection). AllZip (HasSentIn file) l (pairs ++ streams ∷ []))
    (sym (whole_more connections decisions i n c d at is
    ∙ ap (λ (l : List OrderedConnection). before ++ l) (whole_is c d whole)))
    (all_zipped_more (HasSentIn file) before pairs c streams sent one)

fewer : (a b i : ℕ) → (suc a ≤ suc i) ⊎ (suc b ≤ suc i) → (a ≤ i) ⊎ (b ≤ i)
fewer a b i h = elim h [ inl k ↦ inl (omega (arith, k)) | inr k ↦ inr (omega (arith, k)) ]

pub whole_take : (connections : List OrderedConnection) (decisions : List Decision) (i : ℕ)
    → (length connections ≤ i) ⊎ (length decisions ≤ i)
    → whole_of (take i connections) (take i decisions) ≡ whole_of connections decisions
whole_take [] decisions i all =
    ap (λ (l : List OrderedConnection). whole_of l (take i decisions)) (take-nil i)
whole_take (c ∷ connections) [] zero all = refl
whole_take (c ∷ connections) [] (suc i) all = refl
whole_take (c ∷ connections) (d ∷ decisions) zero all =
    elim all [ inl a ↦ absurd (omega (arith, a)) | inr a ↦ absurd (omega (arith, a)) ]
whole_take (c ∷ connections) (NotChosen ∷ decisions) (suc i) all =
    whole_take connections decisions i (fewer (length connections) (length decisions) i all)
whole_take (c ∷ connections) (Empty ∷ decisions) (suc i) all =
    whole_take connections decisions i (fewer (length connections) (length decisions) i all)
whole_take (c ∷ connections) (Whole ∷ decisions) (suc i) all =
    ap (λ (l : List OrderedConnection). c ∷ l)
    (whole_take connections decisions i (fewer (length connections) (length decisions) i all))
whole_take (c ∷ connections) (Flawed flaw ∷ decisions) (suc i) all =
    whole_take connections decisions i (fewer (length connections) (length decisions) i all)

-- ---- an error that is passed on

pub if_same_err : (result : Result (Unit {0}) Error) (P : Error → Type 0) (error : Error)
    → IsErrAnd result (λ e. e ≡ error) → P error → IfErr result P
if_same_err (Ok done) P error is holds = tt
if_same_err (Err e) P error is holds = subst P (sym is) holds
