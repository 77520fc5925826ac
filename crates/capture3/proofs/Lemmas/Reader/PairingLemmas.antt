-- A capture whose records are judged as they come: step after step.
use Rattle.capture3.proofs.Common.{open_xids, ap₂, ◌≡◌, ◌<◌, inl, inr, suc, ◌+◌, length, arith, append-nil, ℕ, Option, Some, None, List, [], ◌∷◌, ◌++◌, take, drop, refl, sym, ap, ◌∙◌, subst, append_assoc, take-append-drop, Item, RecordCut, RecordTooLong, Joining, Between, Header, Bytes, Whole, TooLong, Ends, Runs, Stops, after, landed, Known, Container, Error, Fault, Side, Client, Server, Event, Spot, ReplyItems, refusal, Entry, fault_at, Streams, Cursor, after-append, judge_call, judge_replies, judge_reply, Parsing, file_next, file_start, parsed, emitted, IsBeforeMark, opened_at, unpacking_at, StoredWith, Two, KnowsNone, Recalls, ShowsFirst, IsTableOf, xids_in, Judged, parsing_at, resumed, call_judged, reply_judged, emitted_at, connection_begun, turned, connection_closed, unpacking_with, fault_in_record, xid_in, Ok, nat_eq, Stop}
use Rattle.std.specs.Prelude.{min, ◌^◌}
use Rattle.capture3.specs.Rank.{number_limit, rank}
use Rattle.record_mark.specs.Taking.{Taking, Led, IsRunning, IsWhole, body_of, joined_body, released, unbegun}
use Rattle.capture3.specs.declared.reader.entry.Kind.TheVariants as kinds
use Rattle.capture3.specs.declared.fault.Error.TheVariants as errors
use Rattle.capture3.specs.declared.container.position.spot.Event.TheVariants.{Begin, Record, Turn, Close}
use Rattle.capture3.specs.declared.container.position.Position.{Position}
use Rattle.capture3.specs.machinery.Container.{AreStored, Comes, ComesToFault, FirstKept, FromFile, InFile, InFirstKept, InNextKept, Leaves, NextKept, Recalled, first_cursor, RecallFails, unpacking_of, arrived, Arrives, ShowsError}
use Rattle.capture3.specs.Entry as entries
use Rattle.capture3.specs.machinery.Pairing.{StandsAt, StandsOrRecalls, HasCome, after_side_word, HasMet, HasRecalled, MeetsEvent, met, met_in, GoesTo, FailsAt, IsOfBytes, error_at}
use Rattle.capture3.specs.machinery.ScannedMessages.{ScansCall, ScansReply, StopsMessage}
use Rattle.capture3.specs.declared.message.scan.ScannedCall.{ScannedCall}
use Rattle.capture3.specs.machinery.Calls.{Gains, number_for}
use Rattle.capture3.specs.MessageVisit.{OpensMessage, Hears}
use Rattle.capture3.proofs.Lemmas.Messages.MessageScanLemmas.{call_agrees}
use Rattle.capture3.specs.declared.message.calls.NumberedCall.{NumberedCall}
use Rattle.xdr3.specs.declared.reason.GetError.{GetError}
use Rattle.xdr3.specs.declared.reason.GetError.TheVariants as gets
use Rattle.capture3.specs.StreamMachine as reading
use Rattle.capture3.specs.declared.container.position.spot.Event.TheVariants as events
use Rattle.capture3.proofs.Lemmas.Container.KeptStreamsLemmas.{call_recalled, client_shows, close_recalled, leaves_next, refuses_next, reply_recalled, server_shows, shows_at_last, turn_recalled}
use Rattle.capture3.proofs.Lemmas.Container.ContainerLemmas.{mark_is}
use Rattle.capture3.specs.machinery.FileStanding as resuming
use Rattle.capture3.specs.machinery.ContainerMachine.{Mark, Unpacking, Refuses, unpack_next, unpacking_start}
use Rattle.capture3.proofs.Lemmas.Reader.FileStandingLemmas.{whole_connections, runs_follow, stops_follow}
use Rattle.capture3.proofs.Lemmas.Reader.WholeEntries.{runs_emit, stops_emit}
use Rattle.capture3.proofs.Lemmas.Reached.Growing.{stops_at_last}
use Rattle.capture3.specs.Progress.{AreCounted, records_after}
use Rattle.capture3.proofs.Lemmas.Reader.PlacingLemmas.{counted_more, counted_on, records-append, runs_placed, stops_placed}
use Rattle.capture3.proofs.Lemmas.Connections.KnownLemmas.{admits_agree, admits_number, number_added, table_added, table_empty}
use Rattle.capture3.proofs.Lemmas.Connections.NumberingLemmas.{numbered_in, open-append, opened_more, opened_still}

-- ---- the first byte

abbrev pub nothing_judged : Judged
nothing_judged = whole_connections []

stands_at_start : (position : Position) (taking : Taking) (streams : Streams)
    (table : Known) → unpacking_of position taking streams ≡ unpacking_start
    → KnowsNone table → StandsAt position taking streams table [] []
stands_at_start position taking streams table at none = record {
  so_far = nothing_judged;
  agrees = subst (λ (u : Unpacking). resuming.Agrees u nothing_judged) (sym at) refl;
  calls = table_empty table none;
  opened = refl;
  stands = sym (ap (λ (u : Unpacking). Runs (parsing_at u nothing_judged)) at);
  emitted = sym (ap (λ (u : Unpacking). emitted_at u.opened nothing_judged) at);
  placed = record {
    connections_are = ap (λ (u : Unpacking). u.connections) at;
    records_are = ap (λ (u : Unpacking). u.records) at;
  };
}

-- ---- bytes of the container

-- after bytes that lead to a state
led_on : (bytes piece : List ℕ) (s : Parsing) → parsed bytes ≡ Runs s
    → parsed (bytes ++ piece) ≡ after file_next (Runs s) piece
led_on bytes piece s e =
    after-append file_next (Runs file_start) bytes piece ∙ ap (λ r. after file_next r piece) e

pub stands_on : (p q : Position) (t u : Taking) (old new : Streams) (table : Known)
    (bytes : List ℕ) (all : List Entry) (piece : List ℕ) (event : Option Event)
    → StandsAt p t old table bytes all → event ≡ None
    → Arrives (unpacking_of p t old) piece event q u new
    → StandsAt q u new table (bytes ++ piece) all
stands_on p q t u old new table bytes all piece event s is came =
    let arrives = rw is at came in
    let next =
    runs_follow piece (unpacking_of p t old) (unpacking_of q u new) s.so_far s.agrees arrives in
    record {
      so_far = s.so_far;
      agrees = next.1;
      calls = s.calls;
      opened = s.opened;
      stands = led_on bytes piece (parsing_at (unpacking_of p t old) s.so_far) s.stands ∙ next.0;
      emitted =
          s.emitted
          ∙ sym
          (runs_emit piece (unpacking_of p t old) (unpacking_of q u new) s.so_far arrives);
      placed =
          let at = runs_placed piece (unpacking_of p t old) (unpacking_of q u new) arrives in
          record {
            connections_are = at.0 ∙ s.placed.connections_are;
            records_are = at.1 ∙ s.placed.records_are;
          };
    }

met_is : (event : Event) (q : Position) (u : Taking) (streams : Streams)
    → arrived (Some event) q u streams ≡ Stops (met event q u streams)
met_is Begin q u streams = refl
met_is event q u streams = refl

pub stands_met : (p : Position) (t : Taking) (old : Streams) (new : Container)
    (table : Known) (bytes : List ℕ) (all : List Entry) (piece : List ℕ) (event : Event)
    (came : Option Event)
    → StandsAt p t old table bytes all → came ≡ Some event
    → Arrives (unpacking_of p t old) piece came new.position new.joiner.taking new.streams.kept
    → HasMet new table event (bytes ++ piece) all
stands_met p t old new table bytes all piece event came s is arrives_at =
    let arrives = rw is at arrives_at in
    let stops : after unpack_next (Runs (unpacking_of p t old)) piece ≡ Stops (met_in event new) =
    arrives ∙ met_is event new.position new.joiner.taking new.streams.kept in
    let next =
    stops_follow piece (unpacking_of p t old) (met_in event new) s.so_far s.agrees stops in
    let m = stops_at_last piece (unpacking_of p t old) (met_in event new) s.so_far s.agrees stops in
    record {
      so_far = s.so_far;
      front = bytes ++ m.front;
      byte = m.byte;
      state = m.state;
      agrees = next.1;
      calls = s.calls;
      opened = s.opened;
      split =
          ap (λ (b : List ℕ). bytes ++ b) m.split ∙ sym (append_assoc bytes m.front (m.byte ∷ []));
      runs = led_on bytes m.front (parsing_at (unpacking_of p t old) s.so_far) s.stands ∙ m.runs;
      before = m.emits ∙ sym s.emitted;
      ends = m.ends;
      emits =
          subst (λ (base : List Entry). resuming.EmitsOn s.so_far base (Ends (met_in event new)))
          (sym s.emitted)
          (stops_emit piece (unpacking_of p t old) (met_in event new) s.so_far stops);
      placed =
          rw (← s.placed.connections_are, ← s.placed.records_are)
          (stops_placed piece (unpacking_of p t old) (met_in event new) stops);
    }

-- where the bytes with the last lead
met_leads : (c : Container) (table : Known) (event : Event) (bytes : List ℕ)
    (all : List Entry) → (m : HasMet c table event bytes all)
    → parsed bytes ≡ landed (resumed m.so_far (Ends (met_in event c)))
met_leads c table event bytes all m =
    ap parsed m.split ∙ led_on m.front (m.byte ∷ []) m.state m.runs ∙ ap landed m.ends

-- a fault of the container
pub stands_fails : (p : Position) (t : Taking) (streams : Streams) (table : Known)
    (bytes : List ℕ) (all : List Entry) (piece : List ℕ) (error : Error)
    → StandsAt p t streams table bytes all → ShowsError (unpacking_of p t streams) piece error
    → FailsAt (bytes ++ piece) all error
stands_fails p t streams table bytes all piece (errors.Refused fault) s (n, within, stops) =
    let m =
    stops_at_last (take n piece) (unpacking_of p t streams) (Refuses fault) s.so_far s.agrees stops
    in
    record {
      front = bytes ++ m.front;
      byte = m.byte;
      back = drop n piece;
      state = m.state;
      shown = refusal fault;
      split =
          ap (λ (b : List ℕ). bytes ++ b) (sym (take-append-drop n piece)
          ∙ ap (λ (b : List ℕ). b ++ drop n piece) m.split
          ∙ append_assoc m.front (m.byte ∷ []) (drop n piece))
          ∙ sym (append_assoc bytes m.front (m.byte ∷ drop n piece));
      runs =
          led_on bytes m.front (parsing_at (unpacking_of p t streams) s.so_far) s.stands ∙ m.runs;
      ends = m.ends;
      is = refl;
      emits = s.emitted ∙ sym m.emits ∙ sym (append-nil (emitted m.state));
    }
stands_fails p t streams table bytes all piece errors.Memory s fails = tt
stands_fails p t streams table bytes all piece error s fails = fails

-- what the first bytes fail at, all fail at
pub fails_longer : (bytes piece : List ℕ) (n : ℕ) (all : List Entry) (error : Error)
    → FailsAt (bytes ++ take n piece) all error → FailsAt (bytes ++ piece) all error
fails_longer bytes piece n all (errors.Refused fault) s =
    let whole : bytes ++ piece ≡ (bytes ++ take n piece) ++ drop n piece =
    ap (λ (b : List ℕ). bytes ++ b) (sym (take-append-drop n piece))
    ∙ sym (append_assoc bytes (take n piece) (drop n piece)) in
    record {
      front = s.front;
      byte = s.byte;
      back = s.back ++ drop n piece;
      state = s.state;
      shown = s.shown;
      split =
          whole ∙ ap (λ (b : List ℕ). b ++ drop n piece) s.split
          ∙ append_assoc s.front (s.byte ∷ s.back) (drop n piece);
      runs = s.runs;
      ends = s.ends;
      is = s.is;
      emits = s.emits;
    }
fails_longer bytes piece n all error f = f

-- ---- what is whole

pub at_rest : (t : Taking) → IsRunning t → released t ≡ t
at_rest (Led (Runs s)) h = refl
at_rest t h = absurd h

pub let_go : (t : Taking) → IsWhole t → released t ≡ unbegun
let_go (Led (Stops (Whole body))) h = refl
let_go t h = absurd h

come_at_rest : (c : Container) (table : Known) (bytes : List ℕ) (all : List Entry)
    → c.cursor ≡ None → IsRunning c.joiner.taking
    → StandsAt c.position c.joiner.taking c.streams.kept table bytes all → HasCome c table bytes all
come_at_rest c table bytes all none runs s =
    rw (none, at_rest c.joiner.taking runs) s

pub come_at_start : (c : Container) (table : Known) → c.cursor ≡ None
    → IsRunning c.joiner.taking
    → unpacking_of c.position c.joiner.taking c.streams.kept ≡ unpacking_start → KnowsNone table
    → HasCome c table [] []
come_at_start c table none runs at empty =
    come_at_rest c table [] [] none runs
    (stands_at_start c.position c.joiner.taking c.streams.kept table at empty)

module _ {V : Type 0} (rests stands : V → List Item → Type 0) where
  pub begin_goes : (v : V) (number : ℕ) (c : Container) (table none : Known) (bytes : List ℕ)
      (all : List Entry) → KnowsNone none → IsRunning c.joiner.taking
      → MeetsEvent c table Begin bytes all
      → GoesTo (Hears rests stands v v) (Some kinds.Begin) number c none bytes all
  unfolding Hears
  begin_goes v number c table none bytes all empty runs (inl (unopened, m)) = (
    entries.Begin,
    refl,
    tt,
    (λ before r. r),
    come_at_rest c none bytes (all ++ entries.Begin ∷ []) unopened runs (record {
      so_far = connection_begun (unpacking_of c.position c.joiner.taking c.streams.kept) m.so_far;
      agrees = m.agrees;
      calls = table_empty none empty;
      opened = open-append all (entries.Begin ∷ []) [];
      stands = met_leads c table Begin bytes all m;
      emitted = sym m.emits;
      placed = counted_more _ _ all entries.Begin m.placed.0 m.placed.1;
    }),
  )
  begin_goes v number c table none bytes all empty runs (inr m) = absurd m

  pub turn_goes : (v : V) (number : ℕ) (c : Container) (table : Known) (bytes : List ℕ)
      (all : List Entry) → IsRunning c.joiner.taking → MeetsEvent c table Turn bytes all
      → GoesTo (Hears rests stands v v) (Some kinds.Turn) number c table bytes all
  unfolding Hears
  turn_goes v number c table bytes all runs (inl (unopened, m)) = (
    entries.Turn,
    refl,
    tt,
    (λ before r. r),
    come_at_rest c table bytes (all ++ entries.Turn ∷ []) unopened runs (record {
      so_far =
          turned m.so_far;
      agrees = m.agrees;
      calls = m.calls;
      opened = opened_still all entries.Turn (xids_in m.so_far.calls) (λ xs. refl) m.opened;
      stands = met_leads c table Turn bytes all m;
      emitted = sym m.emits;
      placed = counted_more _ _ all entries.Turn (m.placed.0 ∙ omega arith) m.placed.1;
    }),
  )
  turn_goes v number c table bytes all runs (inr come) =
      (entries.Turn, refl, tt, (λ before r. r), come)

  pub close_goes : (v : V) (number : ℕ) (c : Container) (table : Known) (bytes : List ℕ)
      (all : List Entry) → IsRunning c.joiner.taking → MeetsEvent c table Close bytes all
      → GoesTo (Hears rests stands v v) (Some kinds.Close) number c table bytes all
  unfolding Hears
  close_goes v number c table bytes all runs (inl (unopened, m)) = (
    entries.Close,
    refl,
    tt,
    (λ before r. r),
    come_at_rest c table bytes (all ++ entries.Close ∷ []) unopened runs (record {
      so_far =
          connection_closed m.so_far;
      agrees = m.agrees;
      calls = m.calls;
      opened = opened_still all entries.Close (xids_in m.so_far.calls) (λ xs. refl) m.opened;
      stands = met_leads c table Close bytes all m;
      emitted = sym m.emits;
      placed = counted_more _ _ all entries.Close (m.placed.0 ∙ omega arith) m.placed.1;
    }),
  )
  close_goes v number c table bytes all runs (inr come) =
      (entries.Close, refl, tt, (λ before r. r), come)

  -- ---- a call, from the file or from streams

  -- a call that is admitted joins the calls of its connection
  call_joins : (was now : V) (table new : Known) (body : List ℕ) (call : ScannedCall) (number : ℕ)
      → (k : ScansCall rests stands body call was now) → call.xid < 2 ^ 32
      → Some number ≡ number_for table call.xid call.id → Gains table call.xid call.id new
      → (calls : List (List Item)) → IsTableOf table calls
      → (judge_call calls body ≡ Ok k.items) × IsTableOf new (calls ++ k.items ∷ [])
      × (number
      ≡ min (rank nat_eq (xid_in k.items) (xids_in (calls ++ k.items ∷ []))) number_limit)
  call_joins was now table new body call number k fits is gains calls at =
      let agree =
      admits_agree table calls call.xid call.id fits at (Some number) number refl is in (
        call_agrees rests stands calls body call was now k agree,
        table_added table new calls k.items call.xid call.id k.xid_is k.procedure_is fits at agree
            gains,
        admits_number table calls call.xid call.id fits at (Some number) number refl is
            ∙ number_added table new calls k.items call.xid call.id k.xid_is k.procedure_is fits at
            agree gains
            ∙ ap (λ (x : ℕ). min (rank nat_eq x (xids_in (calls ++ k.items ∷ []))) number_limit)
            (sym k.xid_is),
      )

  pub call_goes : (was now : V) (c : Container) (table new : Known) (bytes : List ℕ)
      (all : List Entry) (call : ScannedCall) (number : ℕ) → IsWhole c.joiner.taking
      → MeetsEvent c table (Record Client) bytes all
      → ScansCall rests stands (body_of c.joiner.taking) call was now → call.xid < 2 ^ 32
      → Some number ≡ number_for table call.xid call.id → Gains table call.xid call.id new
      → GoesTo (Hears rests stands was now) (Some (kinds.Call call.id)) number c new bytes all
  unfolding Hears OpensMessage
  call_goes was now c table new bytes all call number whole (inl (none, m)) k fits is gains =
      let joins =
      call_joins was now table new (body_of c.joiner.taking) call number k fits is gains
      m.so_far.calls m.calls in
      let v : Unpacking = unpacking_at c.position c.streams.kept Between in
      let at : unpacking_of c.position (released c.joiner.taking) c.streams.kept ≡ v =
      ap (λ (t : Taking). unpacking_of c.position t c.streams.kept) (let_go c.joiner.taking whole)
      in
      let j : Judged = resuming.with_call m.so_far k.items in
      let opened = opened_more all m.so_far.calls k.items k.begins m.opened in (
        entries.Call k.items,
        (k.items, whole, k.is_call, sym k.procedure_is, refl),
        numbered_in number (xid_in k.items) _ _ opened joins.2,
        k.adds,
        rw none (record {
          so_far = j;
          agrees = subst (λ (w : Unpacking). resuming.Agrees w j) (sym at) (m.agrees.0 k.items);
          calls = joins.1;
          opened = opened;
          stands =
              met_leads c table (Record Client) bytes all m
              ∙ ap (λ r. landed (call_judged v m.so_far r)) joins.0
              ∙ ap (λ (w : Unpacking). Runs (parsing_at w j)) (sym at);
          emitted =
              sym (m.emits k.items) ∙ ap (λ (w : Unpacking). emitted_at w.opened j) (sym at);
          placed =
              counted_more _ _ all (entries.Call k.items) (m.placed.0 ∙ omega arith) m.placed.1;
        }),
      )
  call_goes was now c table new bytes all call number whole (inr m) k fits is gains =
      let joins =
      call_joins was now table new (body_of c.joiner.taking) call number k fits is gains
      m.stood.so_far.calls m.stood.calls in
      let u : Unpacking = after_side_word c.position in (
        entries.Call k.items,
        (k.items, whole, k.is_call, sym k.procedure_is, refl),
        numbered_in number (xid_in k.items) _ _
            (opened_more all m.stood.so_far.calls k.items k.begins m.stood.opened) joins.2,
        k.adds,
        rw (m.next_is, m.records_are)
            (call_recalled u c.streams.kept m.taken m.records table bytes all m.stood m.count
            (body_of c.joiner.taking) k.items new m.joins joins.0 joins.1 k.begins),
      )

  -- ---- a reply

  pub reply_goes : (was now : V) (c : Container) (table : Known) (bytes : List ℕ)
      (all : List Entry) (call : NumberedCall) → IsWhole c.joiner.taking
      → MeetsEvent c table (Record Server) bytes all
      → ScansReply rests stands table (body_of c.joiner.taking) call was now
      → GoesTo (Hears rests stands was now) (Some (kinds.Reply call.id)) call.number c table bytes
      all
  unfolding Hears OpensMessage
  reply_goes was now c table bytes all call whole (inl (none, m)) k =
      let v : Unpacking = unpacking_at c.position c.streams.kept Between in
      let at : unpacking_of c.position (released c.joiner.taking) c.streams.kept ≡ v =
      ap (λ (t : Taking). unpacking_of c.position t c.streams.kept) (let_go c.joiner.taking whole)
      in
      let answer : ReplyItems = record { id = call.id; items = k.items } in
      let j : Judged = resuming.with_reply m.so_far answer in
      let opened : open_xids [] (all ++ entries.Reply call.id k.items ∷ [])
      ≡ xids_in m.so_far.calls =
      opened_still all (entries.Reply call.id k.items) (xids_in m.so_far.calls) (λ xs. refl)
      m.opened
      in (
        entries.Reply call.id k.items,
        (k.items, whole, k.is_reply, refl),
        numbered_in call.number (xid_in k.items) _ _ opened
            (m.calls.numbers (xid_in k.items) k.is_xid call k.asked),
        k.adds,
        rw none (record {
          so_far = j;
          agrees = subst (λ (w : Unpacking). resuming.Agrees w j) (sym at) (m.agrees.0 answer);
          calls = m.calls;
          opened = opened;
          stands =
              met_leads c table (Record Server) bytes all m
              ∙ ap (λ r. landed (reply_judged v m.so_far r))
              (k.accepted m.so_far.calls m.calls.procedures)
              ∙ ap (λ (w : Unpacking). Runs (parsing_at w j)) (sym at);
          emitted =
              sym (m.emits answer) ∙ ap (λ (w : Unpacking). emitted_at w.opened j) (sym at);
          placed =
              counted_more _ _ all (entries.Reply call.id k.items) (m.placed.0 ∙ omega arith)
              m.placed.1;
        }),
      )
  reply_goes was now c table bytes all call whole (inr m) k =
      let answer : ReplyItems = record { id = call.id; items = k.items } in
      let u : Unpacking = after_side_word c.position in (
        entries.Reply call.id k.items,
        (k.items, whole, k.is_reply, refl),
        numbered_in call.number (xid_in k.items) _ _
            (opened_still all (entries.Reply call.id k.items) (xids_in m.stood.so_far.calls)
            (λ xs. refl)
            m.stood.opened) (m.stood.calls.numbers (xid_in k.items) k.is_xid call k.asked),
        k.adds,
        rw (m.next_is, m.records_are)
            (reply_recalled u c.streams.kept m.taken m.records table bytes all m.stood m.count
            (body_of c.joiner.taking) answer m.joins
            (k.accepted m.stood.so_far.calls m.stood.calls.procedures)),
      )

-- ---- a message that is refused

-- this error stops the body, after these calls
abbrev pub StopsBody : Side → GetError → List (List Item) → List ℕ → Type 0
StopsBody Client error calls body = StopsMessage error (judge_call calls body)
StopsBody Server error calls body = StopsMessage error (judge_reply calls body)

module _ (c : Container) (table : Known) (bytes : List ℕ) (all : List Entry) (stop : Stop) where
  fault_here : Side → ℕ → Fault
  fault_here side number =
      fault_in_record c.position.connections side number stop.at stop.reason

  file_stops : (side : Side) → (m : HasMet c table (Record side) bytes all)
      → StopsBody side (gets.Stop stop) m.so_far.calls (body_of c.joiner.taking)
      → file_next m.state m.byte ≡ Ends (refusal (fault_here side c.position.records))
  unfolding fault_here
  file_stops Client m stops =
      m.ends ∙ ap (call_judged (unpacking_at c.position c.streams.kept Between) m.so_far)
      (stops stop refl) ∙ ap (λ (n : ℕ). Ends (refusal (fault_here Client n))) (sym m.agrees.1)
  file_stops Server m stops =
      m.ends ∙ ap (reply_judged (unpacking_at c.position c.streams.kept Between) m.so_far)
      (stops stop refl) ∙ ap (λ (n : ℕ). Ends (refusal (fault_here Server n))) (sym m.agrees.1)

  streams_stop : (side : Side) → (m : HasRecalled c table side bytes all)
      → StopsBody side (gets.Stop stop) m.stood.so_far.calls (body_of c.joiner.taking)
      → ShowsFirst bytes all (fault_here side c.position.records)
  unfolding fault_here
  streams_stop Client m stops =
      let j : Judged = m.stood.so_far in
      let same : suc (length j.calls) ≡ c.position.records =
      omega (arith, m.records_are, m.stood.here.1) in
      subst (λ (n : ℕ). ShowsFirst bytes all (fault_here Client n)) same
      (client_shows (after_side_word c.position) c.streams.kept m.taken m.records table bytes all
      m.stood (fault_at j.calls stop.at stop.reason)
      (refuses_next judge_call j.calls m.taken c.streams.kept.client m.stood.here.0 m.count
      (Whole (body_of c.joiner.taking)) _ m.joins (ap (reading.judged j.calls) (stops stop refl))))
  streams_stop Server m stops =
      let j : Judged = m.stood.so_far in
      let same : suc (length j.replies) ≡ c.position.records =
      omega (arith, m.records_are, m.stood.here.2) in
      subst (λ (n : ℕ). ShowsFirst bytes all (fault_here Server n)) same
      (server_shows (after_side_word c.position) c.streams.kept m.taken m.records table bytes all
      m.stood (fault_at j.replies stop.at stop.reason)
      (refuses_next (judge_replies j.calls) j.replies m.taken c.streams.kept.server m.stood.here.1
      m.count (Whole (body_of c.joiner.taking)) _ m.joins
      (ap (reading.judged j.replies) (stops stop refl))))

pub record_fails : (c : Container) (table : Known) (bytes : List ℕ) (all : List Entry)
    (side : Side) (error : GetError) → MeetsEvent c table (Record side) bytes all
    → ((calls : List (List Item)) → IsTableOf table calls
    → StopsBody side error calls (body_of c.joiner.taking))
    → FailsAt bytes all (error_at c.position side error)
unfolding fault_here
record_fails c table bytes all side (gets.Stop stop) (inl (none, m)) stops =
    shows_at_last m.front m.byte m.state (refusal _) m.split m.runs
    (file_stops c table bytes all stop side m (stops m.so_far.calls m.calls))
    (sym m.before ∙ sym (append-nil (emitted m.state)))
record_fails c table bytes all side (gets.Stop stop) (inr m) stops =
    streams_stop c table bytes all stop side m (stops m.stood.so_far.calls m.stood.calls)
record_fails c table bytes all side gets.Memory m stops = tt

-- ---- streams that were kept

-- the streams are whole: their judging begins
streams_open : (c : Container) (table : Known) (bytes : List ℕ) (all : List Entry)
    → HasMet c table events.Streams bytes all
    → StandsOrRecalls (Some first_cursor) c.position c.joiner.taking c.streams.kept table bytes all
streams_open c table bytes all m =
    let j : Judged = record m.so_far { calls = []; replies = [] } in
    record {
      front = m.front;
      byte = m.byte;
      state = m.state;
      so_far = j;
      split = m.split;
      runs = m.runs;
      ends = m.ends;
      emits = m.before ∙ m.emits;
      calls = subst (IsTableOf table) m.agrees.2 m.calls;
      opened = m.opened ∙ ap xids_in m.agrees.2;
      here = (refl, m.agrees.1, m.emits);
      placed = record {
        connections_are = m.placed.0;
        records_are =
            m.placed.1
            ∙ sym (records-append 0 m.so_far.entries (entries.Begin ∷ []))
            ∙ ap (records_after 0) (sym m.emits);
      };
    }

stored_first : (p : Position) (streams : Streams) → StoredWith (Some events.Streams) p streams
    → AreStored p (Some first_cursor) streams
stored_first p streams stored = (omega arith, omega (arith, stored.1), stored.0, stored.2)

before_mark : (streams : Streams) (spot : Spot) (at : ℕ) → IsBeforeMark Two spot
    → opened_at streams spot at ≡ Mark Two []
before_mark streams spot at before =
    let is = mark_is Two spot before in
    ap (λ (s : Spot). opened_at streams s at) is.2 ∙ ap₂ Mark is.3 is.4

-- what is whole next in them
module _ (cursor : Cursor) (old new : Container) (table : Known) (bytes : List ℕ)
    (all : List Entry) (s : StandsOrRecalls (Some cursor) old.position old.joiner.taking
    old.streams.kept table bytes all) where
  recalled_record : (side : Side)
      → Recalled cursor old.position new.position old.streams.kept new.streams.kept
      new.joiner.taking new.cursor (Record side) → MeetsEvent new table (Record side) bytes all
  recalled_record side (side_is, streams_are, position_is, (count, next_is, joins)) =
      inr (record {
        taken = cursor.taken;
        records = old.position.records;
        count = count;
        stood = rw (side_is, streams_are, position_is) s;
        joins = rw (side_is, streams_are) joins;
        next_is = rw side_is next_is;
        records_are = ap (λ (p : Position). p.records) position_is;
      })

  recalled_turn : Recalled cursor old.position new.position old.streams.kept new.streams.kept
      new.joiner.taking new.cursor Turn → HasCome new table bytes (all ++ entries.Turn ∷ [])
  recalled_turn (side_is, streams_are, position_is, next_is, between, runs) =
      let u : Unpacking = after_side_word old.position in
      rw (streams_are, position_is, next_is) (turn_recalled u old.streams.kept cursor.taken
      old.position.records table bytes all (rw side_is at s) (rw side_is at runs))

  recalled_close : IsRunning new.joiner.taking
      → AreStored old.position (Some cursor) old.streams.kept
      → Recalled cursor old.position new.position old.streams.kept new.streams.kept
      new.joiner.taking new.cursor Close → HasCome new table bytes (all ++ entries.Close ∷ [])
  recalled_close running stored (side_is, empty, position_is, next_is, between, runs) =
      let p : Position = old.position in
      let u : Unpacking = after_side_word p in
      let at : Recalls u old.streams.kept Server cursor.taken p.records table bytes all =
      rw side_is at s in
      let closes =
      close_recalled u old.streams.kept cursor.taken p.records table bytes all at
      (rw side_is at runs) in
      let opened_is : opened_at new.streams.kept p.spot p.at ≡ Mark Two [] =
      before_mark new.streams.kept p.spot p.at stored.3 in
      let w : Unpacking =
      unpacking_with p.at p.total p.connections p.records (Mark Two []) Between in
      let here : unpacking_of p new.joiner.taking new.streams.kept ≡ w =
      ap₂ (λ o j. unpacking_with p.at p.total p.connections p.records o j) opened_is between in
      come_at_rest new table bytes (all ++ entries.Close ∷ []) next_is running
      (rw position_is (record {
        so_far = connection_closed at.so_far;
        agrees =
            subst (λ (x : Unpacking). resuming.Agrees x (connection_closed at.so_far)) (sym here)
            refl;
        calls = at.calls;
        opened =
            opened_still all entries.Close (xids_in at.so_far.calls) (λ xs. refl) at.opened;
        stands =
            closes.0
            ∙ ap (λ (x : Unpacking). Runs (parsing_at x (connection_closed at.so_far)))
            (sym here);
        emitted =
            closes.1
            ∙ sym (ap (λ (x : Unpacking). emitted_at x.opened (connection_closed at.so_far))
            here);
        placed =
            counted_on p.connections p.records p.connections p.records all entries.Close at.placed
            (omega arith) refl;
      }))

  recalled_meets : (event : Event) → Leaves (Some event) new.joiner.taking
      → AreStored old.position (Some cursor) old.streams.kept
      → Recalled cursor old.position new.position old.streams.kept new.streams.kept
      new.joiner.taking new.cursor event → MeetsEvent new table event bytes all
  recalled_meets (Record side) leaves stored r = recalled_record side r
  recalled_meets Turn leaves stored r = inr (recalled_turn r)
  recalled_meets Close leaves stored r = inr (recalled_close leaves stored r)
  recalled_meets event leaves stored r = absurd r

left_open : {M : Type 0} (messages : List M) (j : Joining) → (j ≡ Between → ⊥)
    → reading.left_in messages j
    ≡ reading.Faulty messages (fault_at messages (length (joined_body j)) RecordCut)
left_open messages Between h = absurd (h refl)
left_open messages (Header body part) h = refl
left_open messages (Bytes body last left) h = refl

recall_fails_at : (side : Side) (taken : ℕ) (p : Position) (streams : Streams)
    (table : Known) (bytes : List ℕ) (all : List Entry) (fault : Fault)
    → Recalls (after_side_word p) streams side taken p.records table bytes all
    → RecallFails (record { side = side; taken = taken }) p streams (errors.Refused fault)
    → ShowsFirst bytes all fault
recall_fails_at Client taken p streams table bytes all fault r (inl (at, n, stops, is)) =
    let same : suc (length r.so_far.calls) ≡ p.records + 1 = omega (arith, r.here.1) in
    subst (ShowsFirst bytes all) (ap
    (λ (k : ℕ). fault_in_record p.connections Client k at RecordTooLong) same ∙ sym is)
    (client_shows (after_side_word p) streams taken p.records table bytes all r
    (fault_at r.so_far.calls at RecordTooLong)
    (refuses_next judge_call r.so_far.calls taken streams.client r.here.0 n (TooLong at) _ stops
    refl))
recall_fails_at Client taken p streams table bytes all fault r (inr (j, open_is, runs, is)) =
    let same : suc (length r.so_far.calls) ≡ p.records + 1 = omega (arith, r.here.1) in
    subst (ShowsFirst bytes all) (ap
    (λ (k : ℕ). fault_in_record p.connections Client k (length (joined_body j)) RecordCut)
    same ∙ sym is)
    (client_shows (after_side_word p) streams taken p.records table bytes all r
    (fault_at r.so_far.calls (length (joined_body j)) RecordCut)
    (leaves_next judge_call r.so_far.calls taken streams.client r.here.0 j runs
    ∙ left_open r.so_far.calls j open_is))
recall_fails_at Server taken p streams table bytes all fault r (inl (at, n, stops, is)) =
    let same : suc (length r.so_far.replies) ≡ p.records + 1 = omega (arith, r.here.2) in
    subst (ShowsFirst bytes all) (ap
    (λ (k : ℕ). fault_in_record p.connections Server k at RecordTooLong) same ∙ sym is)
    (server_shows (after_side_word p) streams taken p.records table bytes all r
    (fault_at r.so_far.replies at RecordTooLong)
    (refuses_next (judge_replies r.so_far.calls) r.so_far.replies taken streams.server r.here.1 n
    (TooLong at) _ stops refl))
recall_fails_at Server taken p streams table bytes all fault r (inr (j, open_is, runs, is)) =
    let same : suc (length r.so_far.replies) ≡ p.records + 1 = omega (arith, r.here.2) in
    subst (ShowsFirst bytes all) (ap
    (λ (k : ℕ). fault_in_record p.connections Server k (length (joined_body j)) RecordCut)
    same ∙ sym is)
    (server_shows (after_side_word p) streams taken p.records table bytes all r
    (fault_at r.so_far.replies (length (joined_body j)) RecordCut)
    (leaves_next (judge_replies r.so_far.calls) r.so_far.replies taken streams.server r.here.1 j
    runs ∙ left_open r.so_far.replies j open_is))

recall_fails : (cursor : Cursor) (p : Position) (t : Taking) (streams : Streams)
    (table : Known) (bytes : List ℕ) (all : List Entry) (error : Error)
    → StandsOrRecalls (Some cursor) p t streams table bytes all
    → RecallFails cursor p streams error → FailsAt bytes all error
recall_fails cursor p t streams table bytes all (errors.Refused fault) s f =
    recall_fails_at cursor.side cursor.taken p streams table bytes all fault s f
recall_fails cursor p t streams table bytes all error s f = f

-- the entries so far were counted
pub counted_here : (cursor : Option Cursor) (p : Position) (t : Taking) (streams : Streams)
    (table : Known) (bytes : List ℕ) (all : List Entry)
    → StandsOrRecalls cursor p t streams table bytes all
    → AreCounted p.connections p.records all
counted_here None p t streams table bytes all s = s.placed
counted_here (Some cursor) p t streams table bytes all s = s.placed

-- ---- what comes next, from the file or from streams that were kept

-- the streams of a connection are whole with these bytes
first_kept : (old mid : Container) (table : Known) (bytes : List ℕ) (all : List Entry)
    (piece : List ℕ) → old.cursor ≡ None
    → StandsOrRecalls old.cursor old.position old.joiner.taking old.streams.kept table bytes all
    → Arrives (unpacking_of old.position old.joiner.taking old.streams.kept) piece
    (Some events.Streams) mid.position mid.joiner.taking mid.streams.kept
    → StandsOrRecalls (Some first_cursor) mid.position mid.joiner.taking mid.streams.kept table
    (bytes ++ piece) all
first_kept old mid table bytes all piece none s arrives =
    streams_open mid table (bytes ++ piece) all (stands_met old.position old.joiner.taking
    old.streams.kept mid table bytes all piece events.Streams (Some events.Streams)
    (rw none at s) refl arrives)

one_event : (came : Option Event) (event one : Event) → came ≡ Some event → came ≡ Some one
    → one ≡ event
one_event came event one is also = cc

module _ (old new : Container) (table : Known) (bytes : List ℕ) (all : List Entry)
    (piece : List ℕ) (came : Option Event) (s : StandsOrRecalls old.cursor old.position
    old.joiner.taking old.streams.kept table bytes all) where
  pub comes_on : came ≡ None → Leaves came new.joiner.taking → Comes old new piece came
      → HasCome new table (bytes ++ piece) all
  comes_on is leaves (FromFile none unopened arrives) =
      come_at_rest new table (bytes ++ piece) all unopened
      (rw is at leaves)
      (stands_on old.position new.position old.joiner.taking new.joiner.taking old.streams.kept
      new.streams.kept table bytes all piece came (rw none at s) is
      arrives)
  comes_on is leaves (FirstKept mid one none arrives stored also recalled) = absurd (cc)
  comes_on is leaves (NextKept cursor one some nothing also recalled) = absurd (cc)

  pub comes_meets : (event : Event) → came ≡ Some event → Leaves came new.joiner.taking
      → AreStored old.position old.cursor old.streams.kept → Comes old new piece came
      → MeetsEvent new table event (bytes ++ piece) all
  comes_meets event is leaves stored (FromFile none unopened arrives) =
      inl (
        unopened,
        stands_met old.position old.joiner.taking old.streams.kept new table bytes all piece
            event came (rw none at s) is arrives,
      )
  comes_meets event is leaves stored (FirstKept mid one none arrives whole also recalled) =
      subst (λ (e : Event). MeetsEvent new table e (bytes ++ piece) all)
      (one_event came event one is also)
      (recalled_meets first_cursor mid new table (bytes ++ piece) all
      (first_kept old mid table bytes all piece none s arrives) one
      (rw also at leaves)
      (stored_first mid.position mid.streams.kept whole) recalled)
  comes_meets event is leaves stored (NextKept cursor one some nothing also recalled) =
      let same : bytes ++ piece ≡ bytes =
      ap (λ (b : List ℕ). bytes ++ b) nothing ∙ append-nil bytes in
      subst (λ (e : Event). MeetsEvent new table e (bytes ++ piece) all)
      (one_event came event one is also)
      (subst (λ (b : List ℕ). MeetsEvent new table one b all) (sym same)
      (recalled_meets cursor old new table bytes all (rw some at s)
      one (rw also at leaves)
      (rw some at stored)
      recalled))

pub comes_to_fault : (old : Container) (table : Known) (bytes : List ℕ)
    (all : List Entry) (piece : List ℕ) (error : Error)
    → StandsOrRecalls old.cursor old.position old.joiner.taking old.streams.kept table bytes all
    → ComesToFault old piece error → FailsAt (bytes ++ piece) all error
comes_to_fault old table bytes all piece error s (InFile none fails) =
    stands_fails old.position old.joiner.taking old.streams.kept table bytes all piece error
    (rw none at s) fails
comes_to_fault old table bytes all piece error s (InFirstKept mid n none arrives fails) =
    fails_longer bytes piece n all error
    (recall_fails first_cursor mid.position mid.joiner.taking mid.streams.kept table
    (bytes ++ take n piece) all error
    (first_kept old mid table bytes all (take n piece) none s arrives) fails)
comes_to_fault old table bytes all piece error s (InNextKept cursor some fails) =
    fails_longer bytes piece 0 all error (subst (λ (b : List ℕ). FailsAt b all error)
    (sym (append-nil bytes)) (recall_fails cursor old.position old.joiner.taking
    old.streams.kept table bytes all error
    (rw some at s) fails))

-- no device failed
pub comes_of_bytes : (old : Container) (bytes : List ℕ) (error : Error)
    → ComesToFault old bytes error → IsOfBytes error
comes_of_bytes old bytes (errors.Refused fault) h = tt
comes_of_bytes old bytes errors.Memory h = tt
comes_of_bytes old bytes error (InFile none shows) = shows
comes_of_bytes old bytes error (InFirstKept mid n none arrives fails) = fails
comes_of_bytes old bytes error (InNextKept cursor some fails) = fails
