-- Files from the messages of their connections.
use Rattle.canon3.proofs.Common.{◌≡◌, ℕ, suc, ◌+◌, ◌≤◌, List, [], ◌∷◌, ◌++◌, length, map, refl, sym, ap, ◌∙◌, subst, arith, append_assoc, append-nil, AllByRecursion, flat_map, Item, word_bytes, ReplyItems, Streams, max_bytes, Entry, Begin, Call, Turn, Close, End, entry_bytes, bytes_of, Joins, IsWord-big_bytes, reply_entry, connection_entries, HaveEntries, Typed}
use Rattle.std.proofs.lemmas.List.{length-map}
use Rattle.std.proofs.lemmas.List.Concat.{flat_map-append}
use Rattle.std.proofs.lemmas.List.Folds.{flat_map-map}
use Rattle.capture3.specs.Capture.{One, magic, max_connections, total_size, IsConnection}
use Rattle.canon3.proofs.Lemmas.Renaming.RenamingLemmas.{all_mapped, all_weaker}
use Rattle.canon3.proofs.Lemmas.WellFormed.Items.{all_append}
use Rattle.canon3.proofs.Lemmas.WellFormed.Conversations.{chunks_of, is_stream, Conversation, reply_items, IsSpelledCall, IsSpelledReply, AreConversing, weight, streams_of}
use Rattle.canon3.proofs.Lemmas.WellFormed.Conversing.{conversing, conversing_weight, converses_anew, small_items}

-- ---- the entries of conversations

abbrev pub entries_of : List Conversation → List Entry
entries_of [] = []
entries_of (c ∷ cs) = connection_entries c.calls c.replies ++ entries_of cs

-- all entries of a capture
abbrev pub all_of : List Conversation → List Entry
all_of cs = entries_of cs ++ End ∷ []

abbrev pub total_weight : List Conversation → ℕ
total_weight [] = 0
total_weight (c ∷ cs) = weight c + total_weight cs

-- the conversations of a capture within the limits
pub record AreCapture (cs : List Conversation) : Type 0 where
  pub converse : AllByRecursion AreConversing cs
  pub few : length cs ≤ max_connections
  pub small : total_weight cs ≤ max_bytes

-- ---- of a file

pub record Have (connections : List Streams) (front : List Entry) : Type 0 where
  pub cs : List Conversation
  pub is : front ≡ entries_of cs
  pub converse : AllByRecursion AreConversing cs
  pub count : length cs ≡ length connections
  pub light : total_weight cs ≤ total_size connections

pub have : (connections : List Streams) (front : List Entry) → HaveEntries connections front
    → Have connections front
have [] front h = record { cs = []; is = h; converse = tt; count = refl; light = omega arith }
have (streams ∷ connections) front h =
    let more = have connections h.2 h.5 in
    let c : Conversation = record { calls = h.0; replies = h.1 } in
    record {
      cs = c ∷ more.cs;
      is = h.3 ∙ ap (λ (l : List Entry). connection_entries h.0 h.1 ++ l) more.is;
      converse = (conversing streams h.0 h.1 h.4, more.converse);
      count = ap suc more.count;
      light = omega (arith, more.light, conversing_weight streams h.0 h.1 h.4);
    }

pub record Holds (file : List ℕ) (all : List Entry) (total : ℕ) : Type 0 where
  pub cs : List Conversation
  pub is : all ≡ all_of cs
  pub are : AreCapture cs
  pub light : total_weight cs ≤ total

pub holds : (file : List ℕ) (all : List Entry) (typed : Typed file all)
    → Holds file all (total_size typed.connections)
holds file all typed =
    let h = have typed.connections typed.front typed.messages in
    record {
      cs = h.cs;
      is = typed.ends ∙ ap (λ (l : List Entry). l ++ End ∷ []) h.is;
      are =
          record {
            converse = h.converse;
            few = omega (arith, h.count, typed.capture.few);
            small = omega (arith, h.light, typed.capture.small);
          };
      light = h.light;
    }

-- ---- the bytes of entries

abbrev pub client_bytes : Conversation → List ℕ
client_bytes c = chunks_of c.calls ++ word_bytes 0

abbrev pub server_bytes : Conversation → List ℕ
server_bytes c = chunks_of (reply_items c.replies) ++ word_bytes 0

connection_bytes : (c : Conversation)
    → flat_map entry_bytes (connection_entries c.calls c.replies)
    ≡ word_bytes 1 ++ (client_bytes c ++ server_bytes c)
connection_bytes c =
    let front : List Entry = Begin ∷ map Call c.calls in
    flat_map-append entry_bytes (front ++ (Turn ∷ map reply_entry c.replies)) (Close ∷ [])
    ∙ ap (λ (l : List ℕ). l ++ word_bytes 0) (flat_map-append entry_bytes front _)
    ∙ simp (flat_map-map, append_assoc)

is_connection : (c : Conversation) → AreConversing c
    → IsConnection One (word_bytes 1 ++ (client_bytes c ++ server_bytes c)) (streams_of c)
is_connection c h = record {
  mark = word_bytes 1;
  rest = client_bytes c ++ server_bytes c;
  split = refl;
  one = IsWord-big_bytes 1 (omega arith);
  both = (
    client_bytes c,
    server_bytes c,
    refl,
    is_stream c.calls (all_weaker _ _ (λ m p. p.1) c.calls h.calls_are),
    is_stream (reply_items c.replies) (small_items c.replies h.replies_are),
  );
}

joined_connections : (cs : List Conversation) → AllByRecursion AreConversing cs
    → Joins (IsConnection One) (flat_map entry_bytes (entries_of cs)) (map streams_of cs)
joined_connections [] h = refl
joined_connections (c ∷ cs) h = (
  flat_map entry_bytes (connection_entries c.calls c.replies),
  flat_map entry_bytes (entries_of cs),
  flat_map-append entry_bytes (connection_entries c.calls c.replies) (entries_of cs),
  rw (connection_bytes c) (is_connection c h.0),
  joined_connections cs h.1,
)

have_anew : (cs : List Conversation) → AllByRecursion AreConversing cs
    → HaveEntries (map streams_of cs) (entries_of cs)
have_anew [] h = refl
have_anew (c ∷ cs) h =
    (c.calls, c.replies, entries_of cs, refl, converses_anew c h.0, have_anew cs h.1)

total_anew : (cs : List Conversation) → total_size (map streams_of cs) ≡ total_weight cs
total_anew [] = refl
total_anew (c ∷ cs) = ap (λ n. weight c + n) (total_anew cs)

bytes_of_all : (cs : List Conversation)
    → bytes_of (all_of cs) ≡ magic One ++ (flat_map entry_bytes (entries_of cs) ++ word_bytes 0)
bytes_of_all [] = simp append-nil
bytes_of_all (c ∷ cs) =
    ap (λ (l : List ℕ). magic One ++ l) (flat_map-append entry_bytes (entries_of (c ∷ cs))
    (End ∷ []))

-- they are the entries of their own bytes
pub typed_anew : (cs : List Conversation) → AreCapture cs → Typed (bytes_of (all_of cs)) (all_of cs)
typed_anew cs h = record {
  version = One;
  connections = map streams_of cs;
  front = entries_of cs;
  capture = record {
    bytes = flat_map entry_bytes (entries_of cs);
    last = word_bytes 0;
    split = bytes_of_all cs;
    joined = joined_connections cs h.converse;
    closes = IsWord-big_bytes 0 (omega arith);
    few = rw length-map h.few;
    small = omega (arith, total_anew cs, h.small);
  };
  messages = have_anew cs h.converse;
  ends = refl;
}

pub total_of_anew : (cs : List Conversation) (h : AreCapture cs)
    → total_size (typed_anew cs h).connections ≡ total_weight cs
unfolding typed_anew
total_of_anew cs h = total_anew cs

pub all_regrouped : (c : Conversation) (cs : List Conversation)
    → all_of (c ∷ cs)
    ≡ Begin ∷ (map Call c.calls ++ (Turn ∷ (map reply_entry c.replies ++ (Close ∷ all_of cs))))
all_regrouped c cs = simp append_assoc

-- what holds of each message, and of each other entry, holds of all
module _ (P : Entry → Type 0) (call : (m : List Item) → IsSpelledCall m → P (Call m))
    (reply : (r : ReplyItems) → IsSpelledReply r → P (reply_entry r)) (begin : P Begin)
    (turn : P Turn) (close : P Close) (end : P End) where
  pub all_entries : (cs : List Conversation) → AllByRecursion AreConversing cs
      → AllByRecursion P (all_of cs)
  all_entries [] h = (end, tt)
  all_entries (c ∷ cs) h =
      subst (AllByRecursion P) (sym (all_regrouped c cs)) (
        begin,
        all_append P (map Call c.calls) _ (all_mapped _ P Call call c.calls h.0.calls_are) (
          turn,
          all_append P (map reply_entry c.replies) _
              (all_mapped _ P reply_entry reply c.replies h.0.replies_are)
              (close, all_entries cs h.1),
        ),
      )
