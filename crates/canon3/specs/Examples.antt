-- A small capture worked by hand, and what other ways of numbering would say of some.
use Rattle.std.specs.Prelude.{◌≡◌, ◌≢◌, ℕ, ◌+◌, List, [], ◌∷◌, ◌++◌, length, map, bytes_eq, nat_lt, codes, filter, ◌^◌}
use Rattle.std.specs.List.{flat_map}
use Rattle.xdr3.specs.Item.{Item, Word, Hyper, Opaque, Var, Handle, word_bytes}
use Rattle.xdr3.specs.Examples.{words}
use Rattle.capture3.specs.Entry.{Entry, Begin, Call, Turn, Reply, Close, End, items_of}
use Rattle.capture3.specs.OpenXids.{xid_of}
use Rattle.capture3.specs.Rank.{rank, distinct}
use Rattle.capture3.specs.Typed.{Typed}
use Rattle.canon3.specs.Values.{handles, verifiers, call_xids}
use Rattle.canon3.specs.Canonical.{numbered_message, canonical}
use Rattle.canon3.specs.Bytes.{bytes_of}
use Rattle.canon3.specs.Renaming.{Same}

-- ---- entries

-- the head of a call with AUTH_NONE (RFC 5531, section 9)
abbrev pub call_of : (prog proc xid : ℕ) → List Item → Entry
call_of prog proc xid arguments =
    Call (Word (codes "xid") xid ∷ Word (codes "mtype") 0 ∷ Word (codes "rpcvers") 2
    ∷ Word (codes "prog") prog ∷ Word (codes "vers") 3 ∷ Word (codes "proc") proc
    ∷ Word (codes "cred_flavor") 0 ∷ Opaque Var (codes "cred_body") []
    ∷ Word (codes "verf_flavor") 0 ∷ Opaque Var (codes "verf_body") [] ∷ arguments)

-- the head of a reply of success (RFC 5531, section 9)
abbrev pub success_reply : (prog proc xid : ℕ) → List Item → Entry
success_reply prog proc xid results =
    Reply (record { prog = prog; vers = 3; proc_no = proc }) (Word (codes "xid") xid
    ∷ Word (codes "mtype") 1 ∷ Word (codes "reply_stat") 0
    ∷ Word (codes "verf_flavor") 0 ∷ Opaque Var (codes "verf_body") []
    ∷ Word (codes "accept_stat") 0 ∷ results)

-- GETATTR (RFC 1813, section 3.3.1)
abbrev pub getattr : ℕ → List ℕ → Entry
getattr xid handle = call_of 100003 1 xid (Opaque Handle (codes "fh") handle ∷ [])

abbrev pub connection : (calls replies : List Entry) → List Entry
connection calls replies = (Begin ∷ calls) ++ ((Turn ∷ replies) ++ (Close ∷ []))

abbrev pub one : (calls replies : List Entry) → List Entry
one calls replies = connection calls replies ++ (End ∷ [])

-- ---- a GETATTR call of a directory, and its reply (RFC 1813, section 3.3.1)

-- The file has just these entries, and its canonical form just these bytes.
pub record IsWorked (file : List ℕ) (entries : List Entry) (form : List ℕ) : Type 0 where
  pub typed : Typed file entries
  pub form_is : bytes_of (canonical entries) ≡ form

-- a body as one chunk of one last fragment (RFC 5531, section 11)
abbrev pub chunk : List ℕ → List ℕ
chunk body = words ((4 + length body) ∷ (2 ^ 31 + length body) ∷ []) ++ body

-- a connection, whose streams have these bodies
abbrev pub streams : (client server : List (List ℕ)) → List ℕ
streams client server =
    words (1 ∷ [])
    ++ (flat_map chunk client ++ (words (0 ∷ []) ++ (flat_map chunk server ++ words (0 ∷ []))))

abbrev pub capture : (connections : List ℕ) → List ℕ
capture connections = codes "NFS3CAP1" ++ (connections ++ words (0 ∷ []))

-- a call with AUTH_NONE, and a reply of success (RFC 5531, section 9)
abbrev pub call_bytes : (prog proc xid : ℕ) → List ℕ → List ℕ
call_bytes prog proc xid arguments =
    words (xid ∷ 0 ∷ 2 ∷ prog ∷ 3 ∷ proc ∷ 0 ∷ 0 ∷ 0 ∷ 0 ∷ []) ++ arguments

abbrev pub reply_bytes : (xid : ℕ) → List ℕ → List ℕ
reply_bytes xid results = words (xid ∷ 1 ∷ 0 ∷ 0 ∷ 0 ∷ 0 ∷ []) ++ results

-- status, type, mode, nlink, uid, gid, size, used, rdev, fsid, fileid, atime, mtime and ctime
abbrev pub attribute_bytes : List ℕ
attribute_bytes =
    words (0 ∷ 2 ∷ 493 ∷ 2 ∷ 0 ∷ 0 ∷ 0 ∷ 4096 ∷ 0 ∷ 4096 ∷ 0 ∷ 0 ∷ 0 ∷ 1 ∷ 0 ∷ 2 ∷ 1 ∷ 0 ∷ 1 ∷ 0 ∷ 1
    ∷ 0 ∷ [])

abbrev pub attribute_items : List Item
attribute_items =
    Word (codes "status") 0 ∷ Word (codes "type") 2 ∷ Word (codes "mode") 493
    ∷ Word (codes "nlink") 2 ∷ Word (codes "uid") 0 ∷ Word (codes "gid") 0
    ∷ Hyper (codes "size") 4096 ∷ Hyper (codes "used") 4096 ∷ Word (codes "rdev1") 0
    ∷ Word (codes "rdev2") 0 ∷ Hyper (codes "fsid") 1 ∷ Hyper (codes "fileid") 2
    ∷ Word (codes "atime_sec") 1 ∷ Word (codes "atime_nsec") 0 ∷ Word (codes "mtime_sec") 1
    ∷ Word (codes "mtime_nsec") 0 ∷ Word (codes "ctime_sec") 1 ∷ Word (codes "ctime_nsec") 0 ∷ []

abbrev pub exchange_of : (xid : ℕ) (handle : List ℕ) → List ℕ
exchange_of xid handle =
    capture (streams (call_bytes 100003 1 xid handle ∷ []) (reply_bytes xid attribute_bytes ∷ []))

-- the handle has five bytes, and residual bytes that are not zero
abbrev pub exchange : List ℕ
exchange = exchange_of 7 (words (5 ∷ []) ++ (codes "abcde" ++ 255 ∷ 255 ∷ 255 ∷ []))

abbrev pub exchange_entries : List Entry
exchange_entries =
    one (getattr 7 (codes "abcde") ∷ []) (success_reply 100003 1 7 attribute_items ∷ [])

abbrev pub exchange_form : List ℕ
exchange_form = exchange_of 1 (words (4 ∷ 1 ∷ []))

-- ---- other ways of numbering

abbrev pub AreNotSame : List Entry → List Entry → Type 0
AreNotSame a b = Same a b → ⊥

-- the entries up to the next Begin
abbrev pub of_connection : List Entry → List Entry
of_connection [] = []
of_connection (Begin ∷ es) = []
of_connection (e ∷ es) = e ∷ of_connection es

-- numbers by rank among lists that are chosen anew at each Begin
abbrev pub numbered_by : (choose_handles choose_verifiers : List Entry
    → List (List ℕ)) (choose_xids : List Entry → List ℕ) (hs vs : List (List ℕ)) (xs : List ℕ)
    → List Entry → List Entry
numbered_by f g k hs vs xs [] = []
numbered_by f g k hs vs xs (Begin ∷ es) = Begin ∷ numbered_by f g k (f es) (g es) (k es) es
numbered_by f g k hs vs xs (Call items ∷ es) =
    Call (numbered_message hs vs xs items) ∷ numbered_by f g k hs vs xs es
numbered_by f g k hs vs xs (Reply id items ∷ es) =
    Reply id (numbered_message hs vs xs items) ∷ numbered_by f g k hs vs xs es
numbered_by f g k hs vs xs (e ∷ es) = e ∷ numbered_by f g k hs vs xs es

abbrev pub handles_anew : List Entry → List Entry
handles_anew es =
    numbered_by (λ more. handles (of_connection more)) (λ _. verifiers es) call_xids [] [] [] es

abbrev pub verifiers_anew : List Entry → List Entry
verifiers_anew es =
    numbered_by (λ _. handles es) (λ more. verifiers (of_connection more)) call_xids [] [] [] es

abbrev pub all_xids : List Entry → List ℕ
all_xids [] = []
all_xids (Call items ∷ es) = xid_of items ++ all_xids es
all_xids (_ ∷ es) = all_xids es

abbrev pub xids_across : List Entry → List Entry
xids_across es = numbered_by (λ _. handles es) (λ _. verifiers es) (λ _. all_xids es) [] [] [] es

-- each handle, empty or not, replaced by what the function gives
abbrev pub item_with : (List ℕ → List ℕ) → Item → Item
item_with f (Opaque Handle name bytes) = Opaque Handle name (f bytes)
item_with f item = item

abbrev pub entry_with : (List ℕ → List ℕ) → Entry → Entry
entry_with f (Call items) = Call (map (item_with f) items)
entry_with f (Reply id items) = Reply id (map (item_with f) items)
entry_with f e = e

-- all handles, the empty one too
abbrev pub any_handle_in : Item → List (List ℕ)
any_handle_in (Opaque Handle name bytes) = bytes ∷ []
any_handle_in _ = []

abbrev pub all_handles : List Entry → List (List ℕ)
all_handles es = flat_map (λ e. flat_map any_handle_in (items_of e)) es

abbrev pub empty_numbered : List Entry → List Entry
empty_numbered es = map (entry_with (λ h. word_bytes (rank bytes_eq h (all_handles es)))) es

-- 1 plus the number of distinct handles with a lesser first byte
abbrev pub first_byte : List ℕ → ℕ
first_byte [] = 0
first_byte (b ∷ bs) = b

abbrev pub by_bytes : List Entry → List Entry
by_bytes es =
    map (entry_with
    (λ h. word_bytes
    (1 + length
    (filter (λ k. nat_lt (first_byte k) (first_byte h)) (distinct bytes_eq (handles es)))))) es

-- A form that is equal for captures that are not the same, or not equal for captures that are.
pub data IsWrong (form : List Entry → List Entry) : Type 0 where
  joins : (a b : List Entry) → form a ≡ form b → AreNotSame a b → IsWrong form
  parts : (a b : List Entry) → Same a b → bytes_of (form a) ≢ bytes_of (form b) → IsWrong form
