-- Judging a body as the code does: its first two words, its side, its head, what stands after the
-- head, its end.
use Rattle.std.proofs.lemmas.Bool.{ne_eqb}
use Rattle.capture3.proofs.Common.{[], ◌∷◌, Trailing, WrongSide, NoCall, XidConflict, Stop, Layout, reading_layout, ProcId, MessageStart, call_layout, reply_layout, procedure_in, call_head, message_start, reply_head, start_items, arguments_of, results_of, procedure_of, xid_in, Item, followed_by, ◌>>=◌, reading, refused, judge_call, judge_reply, read_whole, all_of_body, agreed, agrees, answering, GetError, results_after, ◌≡◌, ◌≢◌, ℕ, Bool, true, false, not, cond, List, ◌++◌, length, Some, None, Result, Ok, Err, refl, sym, ap, ◌∙◌, append_assoc, eq-eqb, xid_of}
use Rattle.xdr3.proofs.Lemmas.Reading.Linked.{with_front}
use Rattle.rpc_head.specs.HeadScan.{procedure_in_head, success_in_head}
use Rattle.rpc_head.proofs.Messages.{call_read, call_head_refused, procedure_read, reply_read, reply_head_refused}
use Rattle.xdr3.specs.declared.reason.GetError.TheVariants as errors

-- ---- a whole layout, read in parts

whole_ends : (layout : Layout) (body : List ℕ) (front more : List Item) (end to : ℕ)
    → reading_layout layout body 0 ≡ with_front front (Ok (more, to)) → to ≡ length body
    → read_whole layout body ≡ Ok (front ++ more)
unfolding with_front
whole_ends layout body front more end to read is =
    ap (λ r. r >>= all_of_body body) read
    ∙ ap (λ b. cond b (Ok (front ++ more)) (refused to Trailing)) (eq-eqb to (length body) is)

whole_trails : (layout : Layout) (body : List ℕ) (front more : List Item) (end to : ℕ)
    → reading_layout layout body 0 ≡ with_front front (Ok (more, to)) → to ≢ length body
    → read_whole layout body ≡ refused to Trailing
unfolding with_front
whole_trails layout body front more end to read other =
    ap (λ r. r >>= all_of_body body) read
    ∙ rw (ne_eqb to (length body) other)

whole_refused : (layout : Layout) (body : List ℕ) (stop : Stop)
    → reading_layout layout body 0 ≡ Err stop → read_whole layout body ≡ Err stop
whole_refused layout body stop read = ap (λ r. r >>= all_of_body body) read

front_refused : (front : List Item) (stop : Stop) → with_front front (Err stop) ≡ Err stop
unfolding with_front
front_refused front stop = refl

-- ---- calls

-- what was read of a call: its start, and its head of this procedure
pub record CallBegins (body : List ℕ) (s : MessageStart) (id : ProcId) (front : List Item)
    (head end : ℕ) : Type 0 where
  pub start : reading message_start body 0 ≡ Ok (start_items s, head)
  pub is_call : s.is_reply ≡ false
  pub read : reading call_head body head ≡ Ok (front, end)
  pub observed : procedure_in_head front ≡ id

pub call_bad_start : (before : List (List Item)) (body : List ℕ) (stop : Stop)
    → reading message_start body 0 ≡ Err stop → judge_call before body ≡ Err stop
unfolding judge_call
call_bad_start before body stop e = rw e refl

pub call_wrong_side : (before : List (List Item)) (body : List ℕ) (s : MessageStart) (to : ℕ)
    → reading message_start body 0 ≡ Ok (start_items s, to) → s.is_reply ≡ true
    → judge_call before body ≡ refused 4 WrongSide
unfolding judge_call
call_wrong_side before body s to e is = rw (e, is) refl

-- on the right side the whole call is read
call_read_on : (before : List (List Item)) (body : List ℕ) (s : MessageStart) (to : ℕ)
    → reading message_start body 0 ≡ Ok (start_items s, to) → s.is_reply ≡ false
    → judge_call before body ≡ (read_whole (call_layout arguments_of) body >>= agreed before)
unfolding judge_call
call_read_on before body s to e is = rw (e, is) refl

pub call_bad_head : (before : List (List Item)) (body : List ℕ) (s : MessageStart) (stop : Stop)
    (head : ℕ) → reading message_start body 0 ≡ Ok (start_items s, head) → s.is_reply ≡ false
    → reading call_head body head ≡ Err stop → judge_call before body ≡ Err stop
call_bad_head before body s stop head e is read =
    call_read_on before body s head e is
    ∙ rw (whole_refused (call_layout arguments_of) body stop
    (call_head_refused arguments_of body s stop 0 head e is read))

call_laid : (body : List ℕ) (s : MessageStart) (id : ProcId) (front : List Item) (head end : ℕ)
    → CallBegins body s id front head end
    → reading_layout (call_layout arguments_of) body 0
    ≡ with_front (start_items s ++ front) (reading_layout (arguments_of id) body end)
call_laid body s id front head end b =
    call_read arguments_of body s front 0 head end b.start b.is_call b.read
    ∙ rw b.observed

pub call_bad_arguments : (before : List (List Item)) (body : List ℕ) (s : MessageStart)
    (id : ProcId) (front : List Item) (head end : ℕ) (stop : Stop)
    → CallBegins body s id front head end
    → reading_layout (arguments_of id) body end ≡ Err stop → judge_call before body ≡ Err stop
call_bad_arguments before body s id front head end stop b read =
    call_read_on before body s head b.start b.is_call
    ∙ rw (whole_refused (call_layout arguments_of) body stop (call_laid body s id front head end b
    ∙ ap (with_front (start_items s ++ front)) read
    ∙ front_refused (start_items s ++ front) stop))

pub call_trails : (before : List (List Item)) (body : List ℕ) (s : MessageStart) (id : ProcId)
    (front : List Item) (head end to : ℕ) (more : List Item)
    → CallBegins body s id front head end
    → reading_layout (arguments_of id) body end ≡ Ok (more, to) → to ≢ length body
    → judge_call before body ≡ refused to Trailing
call_trails before body s id front head end to more b read other =
    call_read_on before body s head b.start b.is_call
    ∙ rw (whole_trails (call_layout arguments_of) body (start_items s ++ front) more end to
    (call_laid body s id front head end b ∙ ap (with_front (start_items s ++ front)) read)
    other)

-- a whole call's items: its start, its head and its arguments
abbrev pub whole_call : MessageStart → List Item → List Item → List Item
whole_call s front more = followed_by (start_items s) (followed_by front more)

-- the procedure and the xid stand among its items
pub call_procedure : (body : List ℕ) (s : MessageStart) (id : ProcId) (front more : List Item)
    (head end : ℕ) → CallBegins body s id front head end
    → procedure_in (whole_call s front more) ≡ id
unfolding followed_by
call_procedure body s id front more head end b =
    procedure_read body front more head end b.read ∙ b.observed

pub call_xid : (s : MessageStart) (front more : List Item)
    → xid_in (whole_call s front more) ≡ s.xid
unfolding followed_by
call_xid s front more = refl

pub call_begins : (s : MessageStart) (front more : List Item)
    → xid_of (whole_call s front more) ≡ xid_in (whole_call s front more) ∷ []
unfolding followed_by
call_begins s front more = refl

pub call_whole : (before : List (List Item)) (body : List ℕ) (s : MessageStart) (id : ProcId)
    (front : List Item) (head end to : ℕ) (more : List Item)
    → CallBegins body s id front head end
    → reading_layout (arguments_of id) body end ≡ Ok (more, to) → to ≡ length body
    → judge_call before body
    ≡ cond (agrees (procedure_of before s.xid) id) (Ok (whole_call s front more))
    (refused 0 XidConflict)
unfolding followed_by
call_whole before body s id front head end to more b read is =
    call_read_on before body s head b.start b.is_call
    ∙ ap (λ r. r >>= agreed before)
    (whole_ends (call_layout arguments_of) body (start_items s ++ front) more end to
    (call_laid body s id front head end b ∙ ap (with_front (start_items s ++ front)) read) is
    ∙ ap (λ (items : List Item). Ok items) (append_assoc (start_items s) front more))
    ∙ rw (call_procedure body s id front more head end b)

pub call_accepted : (before : List (List Item)) (body : List ℕ) (s : MessageStart) (id : ProcId)
    (front : List Item) (head end to : ℕ) (more : List Item)
    → CallBegins body s id front head end
    → reading_layout (arguments_of id) body end ≡ Ok (more, to) → to ≡ length body
    → agrees (procedure_of before s.xid) id ≡ true
    → judge_call before body ≡ Ok (whole_call s front more)
call_accepted before body s id front head end to more b read is agree =
    call_whole before body s id front head end to more b read is
    ∙ ap (λ c. cond c (Ok (whole_call s front more)) (refused 0 XidConflict)) agree

-- ---- replies

-- what was read of a reply to a call of this procedure: its start, and its head, of a success or
-- not
pub record ReplyBegins (calls : List (List Item)) (body : List ℕ) (s : MessageStart) (id : ProcId)
    (success : Bool) (front : List Item) (head end : ℕ) : Type 0 where
  pub start : reading message_start body 0 ≡ Ok (start_items s, head)
  pub is_reply : s.is_reply ≡ true
  pub asked : procedure_of calls s.xid ≡ Some id
  pub read : reading reply_head body head ≡ Ok (front, end)
  pub observed : success_in_head front ≡ success

pub reply_bad_start : (calls : List (List Item)) (body : List ℕ) (stop : Stop)
    → reading message_start body 0 ≡ Err stop → judge_reply calls body ≡ Err stop
unfolding judge_reply
reply_bad_start calls body stop e = rw e refl

pub reply_wrong_side : (calls : List (List Item)) (body : List ℕ) (s : MessageStart) (to : ℕ)
    → reading message_start body 0 ≡ Ok (start_items s, to) → s.is_reply ≡ false
    → judge_reply calls body ≡ refused 4 WrongSide
unfolding judge_reply
reply_wrong_side calls body s to e is = rw (e, is) refl

reply_read_on : (calls : List (List Item)) (body : List ℕ) (s : MessageStart) (to : ℕ)
    → reading message_start body 0 ≡ Ok (start_items s, to) → s.is_reply ≡ true
    → judge_reply calls body ≡ answering body (procedure_of calls s.xid)
unfolding judge_reply
reply_read_on calls body s to e is = rw (e, is) refl

pub reply_unasked : (calls : List (List Item)) (body : List ℕ) (s : MessageStart) (to : ℕ)
    → reading message_start body 0 ≡ Ok (start_items s, to) → s.is_reply ≡ true
    → procedure_of calls s.xid ≡ None → judge_reply calls body ≡ refused 0 NoCall
reply_unasked calls body s to e is none =
    reply_read_on calls body s to e is ∙ ap (answering body) none

pub reply_bad_head : (calls : List (List Item)) (body : List ℕ) (s : MessageStart) (id : ProcId)
    (stop : Stop) (head : ℕ) → reading message_start body 0 ≡ Ok (start_items s, head)
    → s.is_reply ≡ true
    → procedure_of calls s.xid ≡ Some id → reading reply_head body head ≡ Err stop
    → judge_reply calls body ≡ Err stop
reply_bad_head calls body s id stop head e is asked read =
    reply_read_on calls body s head e is
    ∙ ap (answering body) asked
    ∙ rw (whole_refused (reply_layout (results_of id)) body stop
    (reply_head_refused (results_of id) body s stop 0 head e is read))

reply_laid : (calls : List (List Item)) (body : List ℕ) (s : MessageStart) (id : ProcId)
    (success : Bool) (front : List Item) (head end : ℕ)
    → ReplyBegins calls body s id success front head end
    → reading_layout (reply_layout (results_of id)) body 0
    ≡ with_front (start_items s ++ front) (reading_layout (results_after success id) body end)
reply_laid calls body s id success front head end b =
    reply_read (results_of id) body s front 0 head end b.start b.is_reply b.read
    ∙ rw b.observed

reply_answers : (calls : List (List Item)) (body : List ℕ) (s : MessageStart) (id : ProcId)
    (success : Bool) (front : List Item) (head end : ℕ)
    → ReplyBegins calls body s id success front head end
    → judge_reply calls body
    ≡ (read_whole (reply_layout (results_of id)) body >>= λ items.
    Ok (record { id = id; items = items }))
reply_answers calls body s id success front head end b =
    reply_read_on calls body s head b.start b.is_reply ∙ ap (answering body) b.asked

pub reply_bad_results : (calls : List (List Item)) (body : List ℕ) (s : MessageStart) (id : ProcId)
    (success : Bool) (front : List Item) (head end : ℕ) (stop : Stop)
    → ReplyBegins calls body s id success front head end
    → reading_layout (results_after success id) body end ≡ Err stop
    → judge_reply calls body ≡ Err stop
reply_bad_results calls body s id success front head end stop b read =
    reply_answers calls body s id success front head end b
    ∙ rw (whole_refused (reply_layout (results_of id)) body stop (reply_laid calls body s id success
    front head end b ∙ ap (with_front (start_items s ++ front)) read
    ∙ front_refused (start_items s ++ front) stop))

pub reply_trails : (calls : List (List Item)) (body : List ℕ) (s : MessageStart) (id : ProcId)
    (success : Bool) (front : List Item) (head end to : ℕ) (more : List Item)
    → ReplyBegins calls body s id success front head end
    → reading_layout (results_after success id) body end ≡ Ok (more, to) → to ≢ length body
    → judge_reply calls body ≡ refused to Trailing
reply_trails calls body s id success front head end to more b read other =
    reply_answers calls body s id success front head end b
    ∙ rw (whole_trails (reply_layout (results_of id)) body (start_items s ++ front) more end to
    (reply_laid calls body s id success front head end b
    ∙ ap (with_front (start_items s ++ front)) read) other)

-- a whole reply's items: its start, its head and its results
abbrev pub whole_reply : MessageStart → List Item → List Item → List Item
whole_reply s front more = followed_by (start_items s) (followed_by front more)

pub reply_xid : (s : MessageStart) (front more : List Item)
    → xid_in (whole_reply s front more) ≡ s.xid
unfolding followed_by
reply_xid s front more = refl

pub reply_accepted : (calls : List (List Item)) (body : List ℕ) (s : MessageStart) (id : ProcId)
    (success : Bool) (front : List Item) (head end to : ℕ) (more : List Item)
    → ReplyBegins calls body s id success front head end
    → reading_layout (results_after success id) body end ≡ Ok (more, to) → to ≡ length body
    → judge_reply calls body ≡ Ok (record { id = id; items = whole_reply s front more })
unfolding followed_by
reply_accepted calls body s id success front head end to more b read is =
    reply_answers calls body s id success front head end b
    ∙ rw (whole_ends (reply_layout (results_of id)) body (start_items s ++ front) more end to
    (reply_laid calls body s id success front head end b
    ∙ ap (with_front (start_items s ++ front)) read) is
    ∙ ap (λ (items : List Item). Ok items) (append_assoc (start_items s) front more))

-- ---- what the code hands on

-- an error that is a stop
pub refusal_judged : {X : Type 0} (error : GetError) (judged : Result X Stop) (refusal : Stop)
    → error ≡ errors.Stop refusal → judged ≡ Err refusal → (stop : Stop) → error ≡ errors.Stop stop
    → judged ≡ Err stop
refusal_judged error judged refusal is answers stop same =
    let equal : refusal ≡ stop = cc in
    answers ∙ ap (λ (s : Stop). Err s) equal

pub not_true : (b : Bool) → not b ≡ true → b ≡ false
not_true true h = sym h
not_true false h = refl

pub not_false : (b : Bool) → not b ≡ false → b ≡ true
not_false true h = refl
not_false false h = sym h
