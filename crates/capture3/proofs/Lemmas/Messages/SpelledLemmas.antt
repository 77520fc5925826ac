-- A body that spells a message is read without a stop, and as a message of that procedure.
use Rattle.capture3.proofs.Common.{◌≡◌, ℕ, Bool, true, false, cond, List, [], ◌∷◌, Some, None, Result, Ok, Err, ap, ◌∙◌, eq-eqb, Stop, reading, reads_whole, ProcId, MessageStart, call_layout, reply_layout, procedure_in, message_start, start_items, arguments_of, results_of, judge_call, judge_reply, read_whole, SpellsCall, SpellsReply, Item, Word, called, IsCall, IsReply, Starts, ∥∥₁_elim, xid_in, procedure_of}
use Rattle.capture3.proofs.Lemmas.Messages.BodiesLemmas.{call_accepts, call_starts, reply_accepts, reply_starts, start_of, start_read}
use Rattle.capture3.proofs.Lemmas.Messages.Layouts.{whole_read}
use mathlib.Core.HLevel.{⊥_prop}

ok_err : {A E : Type 0} (r : Result A E) (a : A) (e : E) → r ≡ Ok a → r ≡ Err e → ⊥
ok_err r a e x y = absurd (cc)

same_ok : {A E : Type 0} (r : Result A E) (a b : A) → r ≡ Ok a → r ≡ Ok b → a ≡ b
same_ok r a b x y = cc

-- ---- calls

-- the start of what begins with one is read, with its xid
pub xid_read : (body : List ℕ) (xid mtype : ℕ) (start : MessageStart) (to : ℕ)
    → Starts body xid mtype → reading message_start body 0 ≡ Ok (start_items start, to)
    → start.xid ≡ xid
xid_read body xid mtype start to starts read =
    let r = start_read body xid mtype starts in
    ap (λ (x : List Item × ℕ). xid_in x.0) (same_ok (reading message_start body 0)
    (start_items start, to) (start_of xid mtype, r.0) read r.1)

pub start_is_whole : (body : List ℕ) (stop : Stop)
    → ∥ ((xid : ℕ) × (mtype : ℕ) × Starts body xid mtype) ∥₁
    → reading message_start body 0 ≡ Err stop → ⊥
start_is_whole body stop started e =
    ∥∥₁_elim started ⊥_prop
    (λ s.
    let r = start_read body s.0 s.1 s.2 in
    ok_err (reading message_start body 0) (start_of s.0 s.1, r.0) stop r.1 e)

pub call_start : (body : List ℕ) (items : List Item) → IsCall body items
    → Starts body (xid_in items) 0
call_start body items is =
    call_starts body items [] ((reads_whole (call_layout arguments_of) body items).1 is)

call_judged : (body : List ℕ) (items : List Item) → IsCall body items
    → judge_call [] body ≡ Ok items
call_judged body items is = call_accepts [] body items (is, none_known)
  where
    none_known : (id : ProcId) → None ≡ Some id → id ≡ procedure_in items
    none_known id e = absurd (cc)

-- a body spells one call
pub one_call : (body : List ℕ) (a b : List Item) → IsCall body a → IsCall body b → a ≡ b
one_call body a b p q =
    same_ok (judge_call [] body) a b (call_judged body a p) (call_judged body b q)

pub call_never_stops : (id : ProcId) (body : List ℕ) (stop : Stop) → SpellsCall id body
    → judge_call [] body ≡ Err stop → ⊥
call_never_stops id body stop s e =
    ok_err (judge_call [] body) s.0 stop (call_judged body s.0 s.1) e

-- ---- replies

pub reply_start : (id : ProcId) (body : List ℕ) (items : List Item)
    → IsReply body (record { id = id; items = items }) → Starts body (xid_in items) 1
reply_start id body items is =
    reply_starts (results_of id) body items []
    ((reads_whole (reply_layout (results_of id)) body items).1 is)

-- and one reply of each procedure
pub one_reply : (id : ProcId) (body : List ℕ) (a b : List Item)
    → IsReply body (record { id = id; items = a }) → IsReply body (record { id = id; items = b })
    → a ≡ b
one_reply id body a b p q =
    same_ok (read_whole (reply_layout (results_of id)) body) a b
    (whole_read (reply_layout (results_of id)) body a p.0 p.1)
    (whole_read (reply_layout (results_of id)) body b q.0 q.1)

-- the items of some call with this xid and procedure
abbrev pub asking : ℕ → ProcId → List Item
asking xid id =
    Word (called "xid") xid ∷ Word (called "mtype") 0 ∷ Word (called "rpcvers") 2
    ∷ Word (called "prog") id.prog ∷ Word (called "vers") id.vers
    ∷ Word (called "proc") id.proc_no ∷ []

pub reply_never_stops : (id : ProcId) (body : List ℕ) (xid : ℕ) (own : ProcId) (stop : Stop)
    → own ≡ id
    → ((items : List Item) → IsReply body (record { id = id; items = items })
    → xid ≡ xid_in items)
    → SpellsReply id body → judge_reply (asking xid own ∷ []) body ≡ Err stop → ⊥
reply_never_stops id body xid own stop same has_xid s e =
    let calls = asking xid own ∷ [] in
    let asked : procedure_of calls (xid_in s.0) ≡ Some id =
    ap (λ (b : Bool). cond b (Some own) None) (eq-eqb xid (xid_in s.0) (has_xid s.0 s.1))
    ∙ ap (λ (p : ProcId). Some p) same in
    ok_err (judge_reply calls body) (record { id = id; items = s.0 }) stop
    (reply_accepts calls body (record { id = id; items = s.0 }) (s.1, asked)) e

pub only_one : {A : Type 0} (b : Bool) (one other : A) → cond b (Some one) None ≡ Some other
    → other ≡ one
only_one true one other e = cc
only_one false one other e = absurd (cc)
