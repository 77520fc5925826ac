-- The first fault of a file stands where its reason says.
use Rattle.capture3.proofs.Common.{lengths, ◌≡◌, ◌⊎◌, ◌+◌, ◌≤◌, inl, inr, ap, arith, ℕ, List, length, refl, Reason, Stop, Item, Fault, Side, Client, Server, Version, One, Two, calls_in_turn, ConnectionShows, InTurnShows, InCalls, InReplies, MixedShows, BadSide, NoLength, TooMuch, replies_to, server_position, StreamsShow, InClientStream, InServerStream, FirstRecordFault, Judgement, RefusesRecord, PassesLimit, StreamShows, IsCut, CutsOpen, place_at, Position, SideShows, PassesBytes, CutsRecord, ShowsRecord, IsOfItem, AReply, BadCall, LongCall, OtherCall, ACall, Unasked, BadReply, LongReply, AfterConnections, Entry, FirstFault, Rule, MagicDiffers, MarkIsBad, ConnectionIsTooMany, WithinConnection, ByteAfterEnd, HasItsPlace}
use Rattle.xdr3.specs.declared.reason.Reason.TheVariants.{Short, Trailing, BadBool, BadEnum, TooLong, RpcVersion, Flavor, AuthLength}
use Rattle.capture3.specs.declared.fault.Place.TheVariants.{Record}
use Rattle.capture3.specs.Bodies as bodies
use Rattle.capture3.proofs.Lemmas.Files.FileMachineLemmas.{length_magic}
use Rattle.capture3.proofs.Lemmas.Messages.MessageReasons.{call_refused_for, reply_refused_for, start_refused_for}

abbrev IsInPlace : List ℕ → Fault → Type 0
IsInPlace file fault = HasItsPlace file fault.reason fault.place

-- ---- bodies

item_in_place : (reason : Reason) (file : List ℕ) (connection number byte : ℕ) (side : Side)
    → IsOfItem reason → HasItsPlace file reason (Record connection side number byte)
item_in_place Short file connection number byte side h = tt
item_in_place BadBool file connection number byte side h = tt
item_in_place BadEnum file connection number byte side h = tt
item_in_place TooLong file connection number byte side h = tt
item_in_place Flavor file connection number byte side h = tt
item_in_place AuthLength file connection number byte side h = tt
item_in_place reason file connection number byte side h = absurd h

-- a fault of a body on this side stands where its reason says
abbrev IsStopInPlace : Side → Stop → Type 0
IsStopInPlace side stop = (file : List ℕ) (connection number : ℕ)
    → HasItsPlace file stop.reason (Record connection side number stop.at)

item_stop : (side : Side) (stop : Stop) → IsOfItem stop.reason → IsStopInPlace side stop
item_stop side stop h file connection number =
    item_in_place stop.reason file connection number stop.at side h

abbrev RefusesInPlace : {M : Type 0} → Judgement M → Side → Type 0
RefusesInPlace {M} judge side = (before : List M) (body : List ℕ) (stop : Stop)
    → judge.refuses before body stop → IsStopInPlace side stop

left_over : (side : Side) (stop : Stop) → stop.reason ≡ Trailing → IsStopInPlace side stop
left_over side stop e file connection number = rw e tt

item_or_version : (stop : Stop)
    → IsOfItem stop.reason ⊎ ((stop.reason ≡ RpcVersion) × (stop.at ≡ 8))
    → IsStopInPlace Client stop
item_or_version stop (inl h) file connection number = item_stop Client stop h file connection number
item_or_version stop (inr (e, at)) file connection number = rw e (refl, at)

calls_in_place : RefusesInPlace calls_in_turn Client
calls_in_place before body stop (bodies.RefusesCall.BadStart r) =
    item_stop Client stop (start_refused_for body stop.at stop.reason r)
calls_in_place before body stop (AReply xid s e) =
    rw e (λ file connection number. refl)
calls_in_place before body stop (BadCall xid s r) =
    item_or_version stop (call_refused_for body stop.at stop.reason r)
calls_in_place before body stop (LongCall xid s l) = left_over Client stop l.reason_is
calls_in_place before body stop (OtherCall items id c p d e) =
    rw e (λ file connection number. (refl, refl))

replies_in_place : (calls : List (List Item)) → RefusesInPlace (replies_to calls) Server
replies_in_place calls before body stop (bodies.RefusesReply.BadStart r) =
    item_stop Server stop (start_refused_for body stop.at stop.reason r)
replies_in_place calls before body stop (ACall xid s e) =
    rw e (λ file connection number. refl)
replies_in_place calls before body stop (Unasked xid s n e) =
    rw e (λ file connection number. (refl, refl))
replies_in_place calls before body stop (BadReply xid id s p r) =
    item_stop Server stop (reply_refused_for id body stop.at stop.reason r)
replies_in_place calls before body stop (LongReply xid id s p l) = left_over Server stop l.reason_is

-- ---- the file

record_in_place : {M : Type 0} (judge : Judgement M) (connection : ℕ) (side : Side)
    (file stream : List ℕ) (messages : List M) (stop : Stop) → RefusesInPlace judge side
    → StreamShows judge stream messages stop
    → IsInPlace file (place_at connection side messages stop)
record_in_place judge connection side file stream messages stop h
    (RefusesRecord front last body split holds whole refused) =
    h messages body stop refused file connection _
record_in_place judge connection side file stream messages stop h
    (PassesLimit front last split holds long is) =
    rw is tt

cut_in_place : {M : Type 0} (judge : Judgement M) (connection : ℕ) (side : Side)
    (file stream : List ℕ) (messages : List M) (stop : Stop) → IsCut judge stream messages stop
    → IsInPlace file (place_at connection side messages stop)
cut_in_place judge connection side file stream messages stop
    (CutsOpen front last body split holds is_open is) =
    rw is tt

side_in_place : {M : Type 0} (judge : Judgement M) (side : Side) (position : Position)
    (file bytes : List ℕ) (fault : Fault) → position.start + length bytes ≤ length file
    → RefusesInPlace judge side → SideShows judge side position bytes fault
    → IsInPlace file fault
side_in_place judge side position file bytes fault within h
    (PassesBytes front last stream count split chunks word some passes is) =
    rw is (omega (lengths, within, ap length split, word.0))
side_in_place judge side position file bytes fault within h
    (CutsRecord stream messages stop closed cut is) =
    rw is (cut_in_place judge position.connection side file stream messages stop cut)
side_in_place judge side position file bytes fault within h
    (ShowsRecord front header got stream left messages stop split chunks word some shows is) =
    rw is (record_in_place judge position.connection side file _ messages stop h shows)

mixed_in_place : (context : Position) (file bytes : List ℕ) (fault : Fault)
    → context.start + length bytes ≤ length file → MixedShows context bytes fault
    → IsInPlace file fault
mixed_in_place context file bytes fault within
    (BadSide chunks front word count split joined is_word bad is) =
    rw is (omega (lengths, within, ap length split, is_word.0))
mixed_in_place context file bytes fault within (NoLength b counts e) =
    rw e (omega (lengths, within, ap length b.split, b.sided.0, counts.0))
mixed_in_place context file bytes fault within (TooMuch b count counts some passes e) =
    rw e (omega (lengths, within, ap length b.split, b.sided.0, counts.0))

first_in_place : {M : Type 0} (judge : Judgement M) (connection : ℕ) (side : Side)
    (file stream : List ℕ) (messages : List M) (stop : Stop) → RefusesInPlace judge side
    → FirstRecordFault judge stream messages stop
    → IsInPlace file (place_at connection side messages stop)
first_in_place judge connection side file stream messages stop h
    (inl (front, rest, split, shows)) =
    record_in_place judge connection side file front messages stop h shows
first_in_place judge connection side file stream messages stop h (inr cut) =
    cut_in_place judge connection side file stream messages stop cut

streams_in_place : (number : ℕ) (file bytes : List ℕ) (entries : List Entry) (fault : Fault)
    → StreamsShow number bytes entries fault → IsInPlace file fault
streams_in_place number file bytes entries fault
    (InClientStream streams calls stop mixed first same is) =
    rw is (first_in_place
    calls_in_turn number Client file streams.client calls stop calls_in_place first)
streams_in_place number file bytes entries fault
    (InServerStream streams calls replies stop mixed holds first same is) =
    rw is (first_in_place
    (replies_to calls) number Server file streams.server replies stop
    (replies_in_place calls) first)

in_turn_in_place : (context : Position) (file bytes : List ℕ) (fault : Fault)
    → context.start + length bytes ≤ length file → InTurnShows context bytes fault
    → IsInPlace file fault
in_turn_in_place context file bytes fault within (InCalls h) =
    side_in_place calls_in_turn Client context file bytes fault within calls_in_place h
in_turn_in_place context file bytes fault within
    (InReplies front last client calls split first holds h) =
    side_in_place (replies_to calls) Server (server_position context front client) file last fault
    (omega (lengths, within, ap length split)) (replies_in_place calls) h

connection_in_place : (version : Version) (context : Position) (file bytes : List ℕ)
    (fault : Fault) → context.start + length bytes ≤ length file
    → ConnectionShows version context bytes fault → IsInPlace file fault
connection_in_place One context file bytes fault within h =
    in_turn_in_place context file bytes fault within h
connection_in_place Two context file bytes fault within (inl h) =
    mixed_in_place context file bytes fault within h
connection_in_place Two context file bytes fault within (inr h) =
    streams_in_place context.connection file bytes h.0 fault h.1

-- a connection word stands in the file, and what comes after it
word_within : (file bytes : List ℕ) (b : AfterConnections bytes) → length bytes ≤ length file
    → length b.front + 4 + length b.rest ≤ length file
word_within file bytes b within =
    omega (lengths, within, ap length b.split)

rule_in_place : (file bytes : List ℕ) (fault : Fault) → length bytes ≤ length file
    → Rule bytes fault → IsInPlace file fault
rule_in_place file bytes fault within
    (MagicDiffers version front more byte due split begins differs e) =
    rw e (
      omega (lengths, length_magic version, ap length begins),
      omega (lengths, within, ap length split),
    )
rule_in_place file bytes fault within (MarkIsBad b rest bad e) =
    rw e
    (omega (arith, word_within file bytes b within))
rule_in_place file bytes fault within (ConnectionIsTooMany b rest one many e) =
    rw e
    (omega (arith, word_within file bytes b within))
rule_in_place file bytes fault within (WithinConnection b one h) =
    connection_in_place b.version _ file b.rest fault (word_within file bytes b within) h
rule_in_place file bytes fault within (ByteAfterEnd b zero one e) =
    rw e
    (omega (arith, one, word_within file bytes b within))

pub in_its_place : (file : List ℕ) (fault : Fault) → FirstFault file fault
    → HasItsPlace file fault.reason fault.place
in_its_place file fault (inl (front, rest, split, shows)) =
    rule_in_place file front fault (omega (lengths, ap length split)) shows.rule
in_its_place file fault (inr (clean, ill, e)) = rw e refl
