-- The entries of a well-formed capture.
use Rattle.std.specs.Prelude.{◌≡◌, ℕ, List, [], ◌∷◌, ◌++◌, map}
use Rattle.xdr3.specs.Item.{Item}
use Rattle.record_mark.specs.RecordMark.{IsRecord}
use Rattle.record_mark.specs.Word.{Joins}
use Rattle.rpc_head.specs.Messages.{procedure_in}
use Rattle.capture3.specs.Bodies.{ReplyItems, IsCall, IsReply, xid_in}
use Rattle.capture3.specs.Capture.{Version, IsCapture}
use Rattle.capture3.specs.SidedChunks.{Streams}
use Rattle.capture3.specs.Entry.{Entry, Begin, Call, Turn, Reply, Close, End}

-- a record whose body is this message (RFC 5531, section 11)
abbrev pub IsRecordOf : {M : Type 0} → (List ℕ → M → Type 0) → List ℕ → M → Type 0
IsRecordOf Is bytes message = (body : List ℕ) × IsRecord bytes body × Is body message

-- it is one of the list
abbrev pub IsIn : {X : Type 0} → X → List X → Type 0
IsIn {X} x xs = (front : List X) × (back : List X) × (xs ≡ front ++ x ∷ back)

-- calls with one xid have one procedure
abbrev pub HaveOneProcedure : List (List Item) → Type 0
HaveOneProcedure calls = (a b : List Item) → IsIn a calls → IsIn b calls → xid_in a ≡ xid_in b
    → procedure_in a ≡ procedure_in b

-- each reply has the xid and the procedure of a call
abbrev pub AnswerCalls : List (List Item) → List ReplyItems → Type 0
AnswerCalls calls replies = (reply : ReplyItems) → IsIn reply replies
    → (call : List Item) × IsIn call calls × (xid_in call ≡ xid_in reply.items)
    × (procedure_in call ≡ reply.id)

-- The streams are the records of these calls and replies. Within the connection an xid has one
-- procedure.
pub record Converses (streams : Streams) (calls : List (List Item))
    (replies : List ReplyItems) : Type 0 where
  pub client : Joins (IsRecordOf IsCall) streams.client calls
  pub server : Joins (IsRecordOf IsReply) streams.server replies
  pub one_procedure : HaveOneProcedure calls
  pub answers : AnswerCalls calls replies

abbrev pub reply_entry : ReplyItems → Entry
reply_entry reply = Reply reply.id reply.items

-- the entries of a connection
abbrev pub connection_entries : List (List Item) → List ReplyItems → List Entry
connection_entries calls replies =
    (Begin ∷ map Call calls) ++ (Turn ∷ map reply_entry replies) ++ Close ∷ []

-- the entries of connections, one after another
abbrev pub HaveEntries : List Streams → List Entry → Type 0
HaveEntries [] entries = entries ≡ []
HaveEntries (streams ∷ connections) entries =
    (calls : List (List Item)) × (replies : List ReplyItems) × (rest : List Entry)
    × (entries ≡ connection_entries calls replies ++ rest) × Converses streams calls replies
    × HaveEntries connections rest

-- The file is well formed, with these entries.
pub record Typed (file : List ℕ) (entries : List Entry) : Type 0 where
  pub version : Version
  pub connections : List Streams
  pub front : List Entry
  pub capture : IsCapture version file connections
  pub messages : HaveEntries connections front
  pub ends : entries ≡ front ++ End ∷ []

abbrev pub IsWellFormed : List ℕ → Type 0
IsWellFormed file = (entries : List Entry) × Typed file entries
