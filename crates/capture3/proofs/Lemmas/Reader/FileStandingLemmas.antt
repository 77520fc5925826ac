-- The machine for a capture file goes as the one that takes the capture apart, with its records
-- judged.
use Rattle.capture3.proofs.Common.{Entry, parsing_in, ◌≡◌, ℕ, zero, suc, ◌+◌, Bool, true, false, cond, nat_eq, nat_lt, List, [], ◌∷◌, ◌++◌, length, Result, Ok, Err, refl, sym, ap, subst, ◌∙◌, add-one, arith, length-append, Stop, RecordCut, RecordTooLong, Item, Joining, Between, Header, Bytes, Joined, Whole, TooLong, join_next, Next, Goes, Ends, Runs, Stops, after, landed, within, word_next, not_runs, only_stops, Side, Client, Server, ReplyItems, ShownFault, refusal, judge_call, judge_reply, Version, One, Two, Mixing, MixedEnd, MixedCloses, MixedRefuses, mixed_step, InClient, InServer, InMixed, conversing, ending, judge_replies, opened, turning, judged, recorded, Siding, SideEnd, SideRefuses, Reason, Parsing, file_next, Fault, fault_of_record, unpacking_with, siding_in, fault_in_record, reading_with}
use Rattle.capture3.specs.SideMachine as siding
use Rattle.capture3.specs.FileMachine as parsing
use Rattle.capture3.specs.machinery.FileStanding.{Judged, siding_at, parsing_at, resumed, call_judged, reply_judged, Agrees, AgreesAt, AgreesOn}
use Rattle.capture3.specs.machinery.ContainerMachine.{Opened, Magic, Digit, Mark, Length, Chunk, Mixed, Ended, Unpacking, Unpacked, connection_marked, chunk_counted, record_joined, in_chunk, mixed_at, mixed_ended, unpack_next}

-- after whole connections alone
abbrev pub whole_connections : List Entry → Judged
whole_connections entries =
    record { start = 0; before = 0; entries = entries; calls = []; replies = [] }

-- One byte takes both machines to the same place.
abbrev pub Follows : (at total connections records : ℕ) → Joining → Opened → Judged → ℕ → Type 0
Follows at total connections records joining opened j byte =
    let u = unpacking_with at total connections records opened joining in
    file_next (parsing_at u j) byte ≡ resumed j (unpack_next u byte)

-- what holds either way of a test
pub either_way : {X : Type 0} (P : X → Type 0) (b : Bool) (x y : X) → P x → P y → P (cond b x y)
either_way P true x y h k = h
either_way P false x y h k = k

-- the same of two choices by one test
both_ways : {X Y : Type 0} (R : X → Y → Type 0) (b : Bool) (x u : X) (y v : Y) → R x y → R u v
    → R (cond b x u) (cond b y v)
both_ways R true x u y v h k = h
both_ways R false x u y v h k = k

-- ---- the magic

magic_follows : (at total connections records due : ℕ) (more : List ℕ) (j : Judged) (byte : ℕ)
    → Follows at total connections records Between (Magic due more) j byte
magic_follows at total connections records due [] j byte =
    both_ways (λ n m. n ≡ resumed j m) (nat_eq byte due) _ _ _ _ refl refl
magic_follows at total connections records due (next ∷ more) j byte =
    both_ways (λ n m. n ≡ resumed j m) (nat_eq byte due) _ _ _ _ refl refl

digit_follows : (at total connections records : ℕ) (joining : Joining) (j : Judged) (byte : ℕ)
    → Follows at total connections records joining Digit j byte
digit_follows at total connections records joining j byte =
    both_ways (λ n m. n ≡ resumed j m) (nat_eq byte 49) _ _ _ _ refl
    (both_ways (λ n m. n ≡ resumed j m) (nat_eq byte 50) _ _ _ _ refl refl)

-- ---- connection words

marked_follows : (version : Version) (at total connections records : ℕ) (joining : Joining)
    (j : Judged) (w : ℕ) → joining ≡ Between
    → parsing.marked version at total connections j.entries w
    ≡ resumed j (connection_marked version at total connections records joining w)
marked_follows version at total connections records joining j zero between = refl
marked_follows One at total connections records joining j (suc zero) between =
    both_ways (λ n m. n ≡ resumed j m) (nat_lt connections 65535) _ _ _ _
    (rw (between, add-one connections) refl) refl
marked_follows Two at total connections records joining j (suc zero) between =
    both_ways (λ n m. n ≡ resumed j m) (nat_lt connections 65535) _ _ _ _
    (rw (add-one connections) refl) refl
marked_follows version at total connections records joining j (suc (suc w)) between = refl

mark_next_follows : (version : Version) (at total connections records : ℕ) (joining : Joining)
    (j : Judged) (n : Next (List ℕ) ℕ) → joining ≡ Between
    → within (λ p. parsing_in version at total connections j.entries (parsing.Mark p))
    (parsing.marked version at total connections j.entries) n
    ≡ resumed j (within (λ p. unpacking_with at total connections records (Mark version p) joining)
    (connection_marked version at total connections records joining) n)
mark_next_follows version at total connections records joining j (Goes p) between = refl
mark_next_follows version at total connections records joining j (Ends w) between =
    marked_follows version at total connections records joining j w between

-- ---- chunks of both sides

mixed_follows : (connections records : ℕ) (joining : Joining) (j : Judged)
    (n : Next Mixing MixedEnd)
    → within (λ p. parsing_in Two j.start j.before connections j.entries (parsing.Inside p))
    (parsing.closed Two connections j.entries) (within InMixed (conversing connections) n)
    ≡ resumed j (within (mixed_at connections records joining) (mixed_ended connections joining) n)
mixed_follows connections records joining j (Goes m) = refl
mixed_follows connections records joining j (Ends (MixedCloses at total streams)) = refl
mixed_follows connections records joining j (Ends (MixedRefuses fault)) = refl

-- ---- the client's side

abbrev pub at_fault : Fault → Next Parsing ShownFault
at_fault fault = Ends (refusal fault)

-- a fault of the open record, by the count and by the messages
cut_follows : (connections records byte : ℕ) (side : Side) (reason : Reason) (number : ℕ)
    → records ≡ number
    → at_fault (fault_of_record connections side
    (record { number = suc number; byte = byte; reason = reason }))
    ≡ at_fault (fault_in_record connections side (records + 1) byte reason)
cut_follows connections records byte side reason number is =
    let next : suc number ≡ records + 1 = omega arith in
    ap (λ (n : ℕ). at_fault (fault_in_record connections side n byte reason))
    next

-- the layers of the file's machine round one side
abbrev pub in_client : Judged → ℕ → Next (Siding (List Item)) (SideEnd (List Item))
    → Next Parsing ShownFault
in_client j connections n =
    within (λ p. parsing_in One j.start j.before connections j.entries (parsing.Inside p))
    (parsing.closed One connections j.entries) (within InClient turning n)

client_word_follows : (at total connections records : ℕ) (joining : Joining) (j : Judged) (w : ℕ)
    → records ≡ length j.calls
    → in_client j connections
    (siding.counted (fault_of_record connections Client) at total (reading_with j.calls joining) w)
    ≡ resumed j (chunk_counted at total connections records Client joining w)
client_word_follows at total connections records Between j zero is = refl
client_word_follows at total connections records (Header body part) j zero is =
    cut_follows connections records (length body) Client RecordCut (length j.calls) is
client_word_follows at total connections records (Bytes body last left) j zero is =
    cut_follows connections records (length body) Client RecordCut (length j.calls) is
client_word_follows at total connections records joining j (suc left) is =
    both_ways (λ n m. in_client j connections n ≡ resumed j m)
    (nat_lt 1073741824 (total + suc left)) _ _ _ _ refl refl

client_length_follows : (at total connections records : ℕ) (joining : Joining) (j : Judged)
    (n : Next (List ℕ) ℕ) → records ≡ length j.calls
    → in_client j connections (within (λ p. siding_at at total j.calls joining (siding.Length p))
    (siding.counted (fault_of_record connections Client) at total
    (reading_with j.calls joining)) n)
    ≡ resumed j (within (λ p. unpacking_with at total connections records (Length Client p) joining)
    (chunk_counted at total connections records Client joining) n)
client_length_follows at total connections records joining j (Goes p) is = refl
client_length_follows at total connections records joining j (Ends w) is =
    client_word_follows at total connections records joining j w is

call_follows : (at total connections records left : ℕ) (j : Judged) (r : Result (List Item) Stop)
    → in_client j connections (within (λ r. siding_in at total r (siding.awaiting left))
    (λ shown. Ends (SideRefuses (fault_of_record connections Client shown)))
    (judged j.calls r))
    ≡ call_judged (in_chunk at total connections (records + 1) Client left Between) j r
call_follows at total connections records zero j (Ok m) = refl
call_follows at total connections records (suc left) j (Ok m) = refl
call_follows at total connections records left j (Err stop) = refl

client_chunk_follows : (at total connections records left : ℕ) (j : Judged)
    (n : Next Joining Joined) → records ≡ length j.calls
    → in_client j connections (within (λ r. siding_in at total r (siding.awaiting left))
    (λ shown. Ends (SideRefuses (fault_of_record connections Client shown)))
    (within (reading_with j.calls) (recorded judge_call j.calls) n))
    ≡ resumed j (within (in_chunk at total connections records Client left)
    (record_joined at total connections records Client left) n)
client_chunk_follows at total connections records zero j (Goes s) is = refl
client_chunk_follows at total connections records (suc left) j (Goes s) is = refl
client_chunk_follows at total connections records left j (Ends (Whole body)) is =
    call_follows at total connections records left j (judge_call j.calls body)
client_chunk_follows at total connections records left j (Ends (TooLong byte)) is =
    cut_follows connections records byte Client RecordTooLong (length j.calls) is

-- ---- the server's side

abbrev pub in_server : Judged → ℕ → Next (Siding ReplyItems) (SideEnd ReplyItems)
    → Next Parsing ShownFault
in_server j connections n =
    within (λ p. parsing_in One j.start j.before connections j.entries (parsing.Inside p))
    (parsing.closed One connections j.entries) (within (InServer j.calls) (ending j.calls) n)

server_word_follows : (at total connections records : ℕ) (joining : Joining) (j : Judged) (w : ℕ)
    → records ≡ length j.replies
    → in_server j connections (siding.counted (fault_of_record connections Server) at total
    (reading_with j.replies joining) w)
    ≡ resumed j (chunk_counted at total connections records Server joining w)
server_word_follows at total connections records Between j zero is = refl
server_word_follows at total connections records (Header body part) j zero is =
    cut_follows connections records (length body) Server RecordCut (length j.replies) is
server_word_follows at total connections records (Bytes body last left) j zero is =
    cut_follows connections records (length body) Server RecordCut (length j.replies) is
server_word_follows at total connections records joining j (suc left) is =
    both_ways (λ n m. in_server j connections n ≡ resumed j m)
    (nat_lt 1073741824 (total + suc left)) _ _ _ _ refl refl

server_length_follows : (at total connections records : ℕ) (joining : Joining) (j : Judged)
    (n : Next (List ℕ) ℕ) → records ≡ length j.replies
    → in_server j connections (within (λ p. siding_at at total j.replies joining (siding.Length p))
    (siding.counted (fault_of_record connections Server) at total
    (reading_with j.replies joining)) n)
    ≡ resumed j (within (λ p. unpacking_with at total connections records (Length Server p) joining)
    (chunk_counted at total connections records Server joining) n)
server_length_follows at total connections records joining j (Goes p) is = refl
server_length_follows at total connections records joining j (Ends w) is =
    server_word_follows at total connections records joining j w is

reply_follows : (at total connections records left : ℕ) (j : Judged) (r : Result ReplyItems Stop)
    → in_server j connections (within (λ r. siding_in at total r (siding.awaiting left))
    (λ shown. Ends (SideRefuses (fault_of_record connections Server shown)))
    (judged j.replies r))
    ≡ reply_judged (in_chunk at total connections (records + 1) Server left Between) j r
reply_follows at total connections records zero j (Ok m) = refl
reply_follows at total connections records (suc left) j (Ok m) = refl
reply_follows at total connections records left j (Err stop) = refl

server_chunk_follows : (at total connections records left : ℕ) (j : Judged)
    (n : Next Joining Joined) → records ≡ length j.replies
    → in_server j connections (within (λ r. siding_in at total r (siding.awaiting left))
    (λ shown. Ends (SideRefuses (fault_of_record connections Server shown)))
    (within (reading_with j.replies) (recorded (judge_replies j.calls) j.replies) n))
    ≡ resumed j (within (in_chunk at total connections records Server left)
    (record_joined at total connections records Server left) n)
server_chunk_follows at total connections records zero j (Goes s) is = refl
server_chunk_follows at total connections records (suc left) j (Goes s) is = refl
server_chunk_follows at total connections records left j (Ends (Whole body)) is =
    reply_follows at total connections records left j (judge_reply j.calls body)
server_chunk_follows at total connections records left j (Ends (TooLong byte)) is =
    cut_follows connections records byte Server RecordTooLong (length j.replies) is

-- ---- any byte

byte_follows : (at total connections records : ℕ) (joining : Joining) (opened : Opened) (j : Judged)
    (byte : ℕ) → AgreesAt records joining opened j
    → Follows at total connections records joining opened j byte
byte_follows at total connections records joining (Magic due more) j byte between =
    subst (λ s. Follows at total connections records s (Magic due more) j byte) (sym between)
    (magic_follows at total connections records due more j byte)
byte_follows at total connections records joining Digit j byte between =
    digit_follows at total connections records joining j byte
byte_follows at total connections records joining (Mark version part) j byte between =
    mark_next_follows version at total connections records joining j (word_next part byte) between
byte_follows at total connections records joining (Length Client part) j byte is =
    client_length_follows at total connections records joining j (word_next part byte) is
byte_follows at total connections records joining (Length Server part) j byte is =
    server_length_follows at total connections records joining j (word_next part byte) is
byte_follows at total connections records joining (Chunk Client left) j byte is =
    client_chunk_follows at total connections records left j (join_next joining byte) is
byte_follows at total connections records joining (Chunk Server left) j byte is =
    server_chunk_follows at total connections records left j (join_next joining byte) is
byte_follows at total connections records joining (Mixed streams point) j byte between =
    mixed_follows connections records joining j (mixed_step at total streams point byte)
byte_follows at total connections records joining (Ended version) j byte agrees = refl

pub follows : (u : Unpacking) (j : Judged) (byte : ℕ) → Agrees u j
    → file_next (parsing_at u j) byte ≡ resumed j (unpack_next u byte)
follows u j byte agrees =
    byte_follows u.at u.total u.connections u.records u.joining u.opened j byte agrees

-- ---- what was judged goes on belonging to what was taken

one_more : {M : Type 0} (records : ℕ) (messages : List M) (m : M) → records ≡ length messages
    → records + 1 ≡ length (messages ++ m ∷ [])
one_more records messages m is =
    let size : length (messages ++ m ∷ []) ≡ length messages + 1 =
    length-append messages (m ∷ []) in
    omega arith

magic_agrees : (at total connections records due : ℕ) (more : List ℕ) (j : Judged) (byte : ℕ)
    → AgreesOn j
    (unpack_next (unpacking_with at total connections records (Magic due more) Between) byte)
magic_agrees at total connections records due [] j byte =
    either_way (AgreesOn j) (nat_eq byte due) _ _ refl tt
magic_agrees at total connections records due (next ∷ more) j byte =
    either_way (AgreesOn j) (nat_eq byte due) _ _ refl tt

digit_agrees : (at total connections records : ℕ) (joining : Joining) (j : Judged) (byte : ℕ)
    → joining ≡ Between
    → AgreesOn j (unpack_next (unpacking_with at total connections records Digit joining) byte)
digit_agrees at total connections records joining j byte between =
    either_way (AgreesOn j) (nat_eq byte 49) _ _ between
    (either_way (AgreesOn j) (nat_eq byte 50) _ _ between tt)

mark_agrees : (version : Version) (at total connections records : ℕ) (joining : Joining)
    (j : Judged) (n : Next (List ℕ) ℕ) → joining ≡ Between
    → AgreesOn j (within (λ p. unpacking_with at total connections records (Mark version p) joining)
    (connection_marked version at total connections records joining) n)
mark_agrees version at total connections records joining j (Goes p) between = between
mark_agrees version at total connections records joining j (Ends zero) between = tt
mark_agrees One at total connections records joining j (Ends (suc zero)) between =
    either_way (AgreesOn j) (nat_lt connections 65535) _ _ refl tt
mark_agrees Two at total connections records joining j (Ends (suc zero)) between =
    either_way (AgreesOn j) (nat_lt connections 65535) _ _ (between, refl) tt
mark_agrees version at total connections records joining j (Ends (suc (suc w))) between = tt

mixed_agrees : (connections records : ℕ) (joining : Joining) (j : Judged) (n : Next Mixing MixedEnd)
    → (joining ≡ Between) × (j.calls ≡ [])
    → AgreesOn j (within (mixed_at connections records joining) (mixed_ended connections joining) n)
mixed_agrees connections records joining j (Goes m) between = between
mixed_agrees connections records joining j (Ends (MixedCloses at total streams)) between =
    (between.0, refl, between.1)
mixed_agrees connections records joining j (Ends (MixedRefuses fault)) between = tt

-- the open stream's messages are as many as its records
abbrev pub IsCounted : Side → ℕ → Judged → Type 0
IsCounted Client records j = records ≡ length j.calls
IsCounted Server records j = records ≡ length j.replies

length_agrees : (at total connections records : ℕ) (side : Side) (joining : Joining) (j : Judged)
    (n : Next (List ℕ) ℕ) → IsCounted side records j
    → AgreesOn j (within (λ p. unpacking_with at total connections records (Length side p) joining)
    (chunk_counted at total connections records side joining) n)
length_agrees at total connections records Client joining j (Goes p) is = is
length_agrees at total connections records Server joining j (Goes p) is = is
length_agrees at total connections records Client Between j (Ends zero) is = refl
length_agrees at total connections records Server Between j (Ends zero) is = refl
length_agrees at total connections records side (Header body part) j (Ends zero) is = tt
length_agrees at total connections records side (Bytes body last left) j (Ends zero) is = tt
length_agrees at total connections records Client joining j (Ends (suc left)) is =
    either_way (AgreesOn j) (nat_lt 1073741824 (total + suc left)) _ _ tt is
length_agrees at total connections records Server joining j (Ends (suc left)) is =
    either_way (AgreesOn j) (nat_lt 1073741824 (total + suc left)) _ _ tt is

chunk_agrees : (at total connections records left : ℕ) (side : Side) (j : Judged)
    (n : Next Joining Joined) → IsCounted side records j
    → AgreesOn j (within (in_chunk at total connections records side left)
    (record_joined at total connections records side left) n)
chunk_agrees at total connections records zero Client j (Goes s) is = is
chunk_agrees at total connections records (suc left) Client j (Goes s) is = is
chunk_agrees at total connections records zero Server j (Goes s) is = is
chunk_agrees at total connections records (suc left) Server j (Goes s) is = is
chunk_agrees at total connections records zero Client j (Ends (Whole body)) is =
    (λ call. one_more records j.calls call is, add-one records ∙ ap suc is)
chunk_agrees at total connections records (suc left) Client j (Ends (Whole body)) is =
    (λ call. one_more records j.calls call is, add-one records ∙ ap suc is)
chunk_agrees at total connections records zero Server j (Ends (Whole body)) is =
    (λ reply. one_more records j.replies reply is, add-one records ∙ ap suc is)
chunk_agrees at total connections records (suc left) Server j (Ends (Whole body)) is =
    (λ reply. one_more records j.replies reply is, add-one records ∙ ap suc is)
chunk_agrees at total connections records left side j (Ends (TooLong byte)) is = tt

byte_agrees : (at total connections records : ℕ) (joining : Joining) (opened : Opened) (j : Judged)
    (byte : ℕ) → AgreesAt records joining opened j
    → AgreesOn j (unpack_next (unpacking_with at total connections records opened joining) byte)
byte_agrees at total connections records joining (Magic due more) j byte between =
    subst
    (λ s.
    AgreesOn j
    (unpack_next (unpacking_with at total connections records (Magic due more) s) byte))
    (sym between) (magic_agrees at total connections records due more j byte)
byte_agrees at total connections records joining Digit j byte between =
    digit_agrees at total connections records joining j byte between
byte_agrees at total connections records joining (Mark version part) j byte between =
    mark_agrees version at total connections records joining j (word_next part byte) between
byte_agrees at total connections records joining (Length Client part) j byte is =
    length_agrees at total connections records Client joining j (word_next part byte) is
byte_agrees at total connections records joining (Length Server part) j byte is =
    length_agrees at total connections records Server joining j (word_next part byte) is
byte_agrees at total connections records joining (Chunk Client left) j byte is =
    chunk_agrees at total connections records left Client j (join_next joining byte) is
byte_agrees at total connections records joining (Chunk Server left) j byte is =
    chunk_agrees at total connections records left Server j (join_next joining byte) is
byte_agrees at total connections records joining (Mixed streams point) j byte between =
    mixed_agrees connections records joining j (mixed_step at total streams point byte) between
byte_agrees at total connections records joining (Ended version) j byte agrees = tt

pub agrees_on : (u : Unpacking) (j : Judged) (byte : ℕ) → Agrees u j
    → AgreesOn j (unpack_next u byte)
agrees_on u j byte agrees =
    byte_agrees u.at u.total u.connections u.records u.joining u.opened j byte agrees

-- ---- lists of bytes

-- where it runs
pub runs_follow : (bytes : List ℕ) (u v : Unpacking) (j : Judged) → Agrees u j
    → after unpack_next (Runs u) bytes ≡ Runs v
    → (after file_next (Runs (parsing_at u j)) bytes ≡ Runs (parsing_at v j)) × Agrees v j
runs_follow [] u v j agrees e =
    let same : u ≡ v = cc in (
      ap (λ (w : Unpacking). Runs (parsing_at w j)) same,
      subst (λ (w : Unpacking). Agrees w j) same agrees,
    )
runs_follow (byte ∷ bytes) u v j agrees e =
    on (unpack_next u byte) (follows u j byte agrees) (agrees_on u j byte agrees) e
    (λ w. runs_follow bytes w v j)
  where
    on : (n : Next Unpacking Unpacked) → file_next (parsing_at u j) byte ≡ resumed j n
        → AgreesOn j n → after unpack_next (landed n) bytes ≡ Runs v
        → ((w : Unpacking) → Agrees w j → after unpack_next (Runs w) bytes ≡ Runs v
        → (after file_next (Runs (parsing_at w j)) bytes ≡ Runs (parsing_at v j)) × Agrees v j)
        → (after file_next (landed (file_next (parsing_at u j) byte)) bytes ≡ Runs (parsing_at v j))
        × Agrees v j
    on (Goes w) same next e more =
        let rest = more w next e in
        (ap (λ n. after file_next (landed n) bytes) same ∙ rest.0, rest.1)
    on (Ends x) same next e more = absurd (not_runs unpack_next x v bytes e)

-- where it stops
pub stops_follow : (bytes : List ℕ) (u : Unpacking) (x : Unpacked) (j : Judged) → Agrees u j
    → after unpack_next (Runs u) bytes ≡ Stops x
    → (after file_next (Runs (parsing_at u j)) bytes ≡ landed (resumed j (Ends x)))
    × AgreesOn j (Ends x)
stops_follow [] u x j agrees e = absurd (cc)
stops_follow (byte ∷ bytes) u x j agrees e =
    on (unpack_next u byte) (follows u j byte agrees) (agrees_on u j byte agrees) e
    (λ w. stops_follow bytes w x j)
  where
    on : (n : Next Unpacking Unpacked) → file_next (parsing_at u j) byte ≡ resumed j n
        → AgreesOn j n → after unpack_next (landed n) bytes ≡ Stops x
        → ((w : Unpacking) → Agrees w j → after unpack_next (Runs w) bytes ≡ Stops x
        → (after file_next (Runs (parsing_at w j)) bytes ≡ landed (resumed j (Ends x)))
        × AgreesOn j (Ends x))
        → (after file_next (landed (file_next (parsing_at u j) byte)) bytes
        ≡ landed (resumed j (Ends x))) × AgreesOn j (Ends x)
    on (Goes w) same next e more =
        let rest = more w next e in
        (ap (λ n. after file_next (landed n) bytes) same ∙ rest.0, rest.1)
    on (Ends y) same next e more =
        let (none, equal) = only_stops unpack_next y x bytes e in (
          ap (λ n. after file_next (landed n) bytes) same
              ∙ ap (λ b. after file_next (landed (resumed j (Ends y))) b) none
              ∙ ap (λ z. landed (resumed j (Ends z))) equal,
          subst (λ z. AgreesOn j (Ends z)) equal next,
        )
