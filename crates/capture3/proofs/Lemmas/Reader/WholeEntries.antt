-- Which entries are whole, as the container is taken apart and its records are judged.
use Rattle.capture3.proofs.Common.{unpacking_with, ◌≡◌, ℕ, zero, suc, ◌+◌, nat_eq, nat_lt, List, [], ◌∷◌, ◌++◌, map, refl, sym, ap, ◌∙◌, subst, append_assoc, Item, Joining, Between, Header, Bytes, Joined, Whole, TooLong, join_next, Next, Goes, Ends, Runs, Stops, after, landed, within, word_next, not_runs, only_stops, Side, Client, Server, ReplyItems, Entry, reply_entry, Version, One, Two, Mixing, MixedEnd, MixedCloses, MixedRefuses, mixed_step, Judged, client_entries, server_entries, emitted_at, EmitsOn}
use Rattle.capture3.specs.Entry as entries
use Rattle.capture3.proofs.Lemmas.Reader.FileStandingLemmas.{either_way}
use Rattle.capture3.specs.machinery.ContainerMachine.{Opened, Magic, Digit, Mark, Length, Chunk, Mixed, Ended, Unpacking, Unpacked, mixed_at, mixed_ended, connection_marked, chunk_counted, record_joined, in_chunk, unpack_next}

map_one_more : {X Y : Type 0} (f : X → Y) (xs : List X) (x : X)
    → map f (xs ++ x ∷ []) ≡ map f xs ++ f x ∷ []
map_one_more f [] x = refl
map_one_more {X} {Y} f (y ∷ xs) x = ap (λ (l : List Y). f y ∷ l) (map_one_more f xs x)

pub call_added : (before : List Entry) (calls : List (List Item)) (call : List Item)
    → before ++ client_entries (calls ++ call ∷ [])
    ≡ (before ++ client_entries calls) ++ entries.Call call ∷ []
call_added before calls call =
    ap (λ (l : List Entry). before ++ (entries.Begin ∷ l)) (map_one_more entries.Call calls call)
    ∙ sym (append_assoc before (client_entries calls) (entries.Call call ∷ []))

pub reply_added : (before : List Entry) (calls : List (List Item)) (replies : List ReplyItems)
    (reply : ReplyItems)
    → before ++ (client_entries calls ++ server_entries (replies ++ reply ∷ []))
    ≡ (before ++ (client_entries calls ++ server_entries replies)) ++ reply_entry reply ∷ []
reply_added before calls replies reply =
    ap (λ (l : List Entry). before ++ (client_entries calls ++ (entries.Turn ∷ l)))
    (map_one_more reply_entry replies reply)
    ∙ ap (λ (l : List Entry). before ++ l) (sym
    (append_assoc (client_entries calls) (server_entries replies) (reply_entry reply ∷ [])))
    ∙ sym (append_assoc before (client_entries calls ++ server_entries replies)
    (reply_entry reply ∷ []))

magic_emits : (at total connections records : ℕ) (joining : Joining) (due : ℕ) (more : List ℕ)
    (j : Judged) (byte : ℕ)
    → EmitsOn j j.entries
    (unpack_next (unpacking_with at total connections records (Magic due more) joining) byte)
magic_emits at total connections records joining due [] j byte =
    either_way (EmitsOn j j.entries) (nat_eq byte due) _ _ refl tt
magic_emits at total connections records joining due (next ∷ more) j byte =
    either_way (EmitsOn j j.entries) (nat_eq byte due) _ _ refl tt

digit_emits : (at total connections records : ℕ) (joining : Joining) (j : Judged) (byte : ℕ)
    → EmitsOn j j.entries
    (unpack_next (unpacking_with at total connections records Digit joining) byte)
digit_emits at total connections records joining j byte =
    either_way (EmitsOn j j.entries) (nat_eq byte 49) _ _ refl
    (either_way (EmitsOn j j.entries) (nat_eq byte 50) _ _ refl tt)

mark_emits : (version : Version) (at total connections records : ℕ) (joining : Joining) (j : Judged)
    (n : Next (List ℕ) ℕ)
    → EmitsOn j j.entries (within
    (λ p. unpacking_with at total connections records (Mark version p) joining)
    (connection_marked version at total connections records joining) n)
mark_emits version at total connections records joining j (Goes p) = refl
mark_emits version at total connections records joining j (Ends zero) = refl
mark_emits One at total connections records joining j (Ends (suc zero)) =
    either_way (EmitsOn j j.entries) (nat_lt connections 65535) _ _ refl tt
mark_emits Two at total connections records joining j (Ends (suc zero)) =
    either_way (EmitsOn j j.entries) (nat_lt connections 65535) _ _ refl tt
mark_emits version at total connections records joining j (Ends (suc (suc w))) = tt

mixed_emits : (connections records : ℕ) (joining : Joining) (j : Judged) (n : Next Mixing MixedEnd)
    → EmitsOn j (j.entries ++ entries.Begin ∷ [])
    (within (mixed_at connections records joining) (mixed_ended connections joining) n)
mixed_emits connections records joining j (Goes m) = refl
mixed_emits connections records joining j (Ends (MixedCloses at total streams)) = refl
mixed_emits connections records joining j (Ends (MixedRefuses fault)) = tt

length_emits : (at total connections records : ℕ) (side : Side) (joining : Joining) (part : List ℕ)
    (j : Judged) (n : Next (List ℕ) ℕ)
    → EmitsOn j (emitted_at (Length side part) j) (within
    (λ p. unpacking_with at total connections records (Length side p) joining)
    (chunk_counted at total connections records side joining) n)
length_emits at total connections records Client joining part j (Goes p) = refl
length_emits at total connections records Server joining part j (Goes p) = refl
length_emits at total connections records Client Between part j (Ends zero) =
    sym (append_assoc j.entries (client_entries j.calls) (entries.Turn ∷ []))
length_emits at total connections records Server Between part j (Ends zero) =
    sym (append_assoc j.entries (client_entries j.calls ++ server_entries j.replies)
    (entries.Close ∷ []))
length_emits at total connections records side (Header body header) part j (Ends zero) = tt
length_emits at total connections records side (Bytes body last left) part j (Ends zero) = tt
length_emits at total connections records Client joining part j (Ends (suc left)) =
    either_way (EmitsOn j (emitted_at (Length Client part) j))
    (nat_lt 1073741824 (total + suc left)) _ _ tt refl
length_emits at total connections records Server joining part j (Ends (suc left)) =
    either_way (EmitsOn j (emitted_at (Length Server part) j))
    (nat_lt 1073741824 (total + suc left)) _ _ tt refl

chunk_emits : (at total connections records left : ℕ) (side : Side) (j : Judged)
    (n : Next Joining Joined)
    → EmitsOn j (emitted_at (Chunk side left) j) (within
    (in_chunk at total connections records side left)
    (record_joined at total connections records side left) n)
chunk_emits at total connections records zero Client j (Goes s) = refl
chunk_emits at total connections records (suc left) Client j (Goes s) = refl
chunk_emits at total connections records zero Server j (Goes s) = refl
chunk_emits at total connections records (suc left) Server j (Goes s) = refl
chunk_emits at total connections records zero Client j (Ends (Whole body)) =
    λ call. call_added j.entries j.calls call
chunk_emits at total connections records (suc left) Client j (Ends (Whole body)) =
    λ call. call_added j.entries j.calls call
chunk_emits at total connections records zero Server j (Ends (Whole body)) =
    λ reply. reply_added j.entries j.calls j.replies reply
chunk_emits at total connections records (suc left) Server j (Ends (Whole body)) =
    λ reply. reply_added j.entries j.calls j.replies reply
chunk_emits at total connections records left side j (Ends (TooLong byte)) = tt

byte_emits : (at total connections records : ℕ) (joining : Joining) (opened : Opened) (j : Judged)
    (byte : ℕ)
    → EmitsOn j (emitted_at opened j)
    (unpack_next (unpacking_with at total connections records opened joining) byte)
byte_emits at total connections records joining (Magic due more) j byte =
    magic_emits at total connections records joining due more j byte
byte_emits at total connections records joining Digit j byte =
    digit_emits at total connections records joining j byte
byte_emits at total connections records joining (Mark version part) j byte =
    mark_emits version at total connections records joining j (word_next part byte)
byte_emits at total connections records joining (Length side part) j byte =
    length_emits at total connections records side joining part j (word_next part byte)
byte_emits at total connections records joining (Chunk side left) j byte =
    chunk_emits at total connections records left side j (join_next joining byte)
byte_emits at total connections records joining (Mixed streams point) j byte =
    mixed_emits connections records joining j (mixed_step at total streams point byte)
byte_emits at total connections records joining (Ended version) j byte = tt

pub emits : (u : Unpacking) (j : Judged) (byte : ℕ)
    → EmitsOn j (emitted_at u.opened j) (unpack_next u byte)
emits u j byte = byte_emits u.at u.total u.connections u.records u.joining u.opened j byte

-- where it runs nothing is whole
pub runs_emit : (bytes : List ℕ) (u v : Unpacking) (j : Judged)
    → after unpack_next (Runs u) bytes ≡ Runs v → emitted_at v.opened j ≡ emitted_at u.opened j
runs_emit [] u v j e = let same : v ≡ u = cc in ap (λ (w : Unpacking). emitted_at w.opened j) same
runs_emit (byte ∷ bytes) u v j e =
    on (unpack_next u byte) (emits u j byte) e (λ w. runs_emit bytes w v j)
  where
    on : (n : Next Unpacking Unpacked) → EmitsOn j (emitted_at u.opened j) n
        → after unpack_next (landed n) bytes ≡ Runs v
        → ((w : Unpacking) → after unpack_next (Runs w) bytes ≡ Runs v
        → emitted_at v.opened j ≡ emitted_at w.opened j)
        → emitted_at v.opened j ≡ emitted_at u.opened j
    on (Goes w) next e more = more w e ∙ next
    on (Ends x) next e more = absurd (not_runs unpack_next x v bytes e)

-- where it stops something is
pub stops_emit : (bytes : List ℕ) (u : Unpacking) (x : Unpacked) (j : Judged)
    → after unpack_next (Runs u) bytes ≡ Stops x → EmitsOn j (emitted_at u.opened j) (Ends x)
stops_emit [] u x j e = absurd (cc)
stops_emit (byte ∷ bytes) u x j e =
    on (unpack_next u byte) (emits u j byte) e (λ w. stops_emit bytes w x j)
  where
    on : (n : Next Unpacking Unpacked) → EmitsOn j (emitted_at u.opened j) n
        → after unpack_next (landed n) bytes ≡ Stops x
        → ((w : Unpacking) → after unpack_next (Runs w) bytes ≡ Stops x
        → EmitsOn j (emitted_at w.opened j) (Ends x)) → EmitsOn j (emitted_at u.opened j) (Ends x)
    on (Goes w) next e more = subst (λ (base : List Entry). EmitsOn j base (Ends x)) next (more w e)
    on (Ends y) next e more =
        let (none, equal) = only_stops unpack_next y x bytes e in
        subst (λ z. EmitsOn j (emitted_at u.opened j) (Ends z)) equal next
