-- Whole messages that are read and told at once: judging them by the scans of their parts.
use Rattle.std.specs.Prelude.{IfErr}
use Rattle.std.specs.Prelude.{◌<◌, ◌^◌}
use Rattle.capture3.proofs.Common.{IsErrAnd, ◌≡◌, ℕ, Bool, true, false, cond, List, [], ◌∷◌, ◌++◌, append_assoc, length, Some, None, Result, Ok, Err, refl, sym, ap, subst, ◌∙◌, eq-eqb, XidConflict, Stop, reading_layout, reading, refused, ProcId, MessageStart, call_head, message_start, reply_head, start_items, arguments_of, ScannedCall, Known, NumberedCall, procedure_in_call, procedure_of, agrees, judge_call, judge_reply, GetError, AreBytes, Item, followed_by, Adds, results_after}
use Rattle.xdr3.specs.declared.reason.GetError.TheVariants as errors
use Rattle.xdr3.specs.Scan.{ScansLayout, Stops, StopsLayout}
use Rattle.xdr3.specs.View.{View}
use Rattle.xdr3.proofs.Lemmas.Shapes.Walks.{adds_both}
use Rattle.rpc_head.specs.HeadScan.{ScansCallHead, ScansReplyHead}
use Rattle.capture3.specs.MessageVisit.{OpensMessage}
use Rattle.capture3.specs.machinery.ScannedMessages.{ScansCall, ScansReply, StopsMessage}
use Rattle.capture3.proofs.Lemmas.Messages.BodiesLemmas.{the_calls, the_replies}
use Rattle.capture3.proofs.Lemmas.Messages.BodySteps.{call_begins, CallBegins, ReplyBegins, call_accepted, call_bad_arguments, call_bad_head, call_procedure, call_whole, call_xid, refusal_judged, reply_accepted, reply_bad_head, reply_bad_results, reply_xid, whole_call, whole_reply}
use Rattle.capture3.proofs.Lemmas.Messages.SpelledLemmas.{asking}

-- ---- what the code hands on

pub stop_stops : {M X : Type 0} (r : Result M GetError) (judged : Result X Stop) (refusal : Stop)
    → IsErrAnd r (λ e. e ≡ errors.Stop refusal) → judged ≡ Err refusal
    → IfErr r (λ e. StopsMessage e judged)
stop_stops (Ok m) judged refusal h answers = absurd h
stop_stops (Err e) judged refusal h answers = refusal_judged e judged refusal h answers

pub error_stops : {M X : Type 0} (r : Result M GetError) (judged : Result X Stop) (error : GetError)
    → IsErrAnd r (λ e. e ≡ error) → StopsMessage error judged → IfErr r (λ e. StopsMessage e judged)
error_stops (Ok m) judged error h answers = absurd h
error_stops (Err e) judged error h answers = λ stop same. answers stop (sym h ∙ same)

-- the start of a message of this side was read, up to this view
pub record StartRead (body : List ℕ) (s : MessageStart) (is_reply : Bool) (view : View) : Type
    0 where
  pub start : reading message_start body 0 ≡ Ok (start_items s, view.at)
  pub side : s.is_reply ≡ is_reply
  pub same_body : view.body ≡ body

-- it was read at the body's first byte
pub start_begun : (body : List ℕ) (s : MessageStart) (is_reply : Bool) (old new : View)
    → old.body ≡ body → old.at ≡ 0
    → reading message_start old.body old.at ≡ Ok (start_items s, new.at) → new.body ≡ old.body
    → s.is_reply ≡ is_reply → StartRead body s is_reply new
start_begun body s is_reply old new body_is start_is read same side =
    record { start = rw (body_is, start_is) at read; side = side; same_body = same ∙ body_is }

-- a message that is open, and more of its items
opens_more : {V : Type 0} (rests stands : V → List Item → Type 0) (a b c : V)
    (items more : List Item) → OpensMessage rests stands a b items → Adds stands b c more
    → OpensMessage rests stands a c (items ++ more)
unfolding Adds OpensMessage
opens_more rests stands a b c items more opens adds before rested =
    rw (← append_assoc) (adds (before ++ items) (opens before rested))

-- ---- calls

pub call_head_stops : (before : List (List Item)) (body : List ℕ) (s : MessageStart) (v1 : View)
    (e : GetError) → StartRead body s false v1 → Stops call_head v1 e
    → StopsMessage e (judge_call before body)
unfolding Stops
call_head_stops before body s v1 e b h =
    λ stop is.
    call_bad_head before body s stop v1.at b.start b.side
    (subst (λ (l : List ℕ). reading call_head l v1.at ≡ Err stop) b.same_body (h stop is))

call_begun : {V : Type 0} (stands : V → List Item → Type 0) (body : List ℕ) (s : MessageStart)
    (id : ProcId) (v1 v2 : View) (n1 n2 : V) → StartRead body s false v1
    → ScansCallHead stands id (v1, n1) (v2, n2)
    → (front : List Item) × CallBegins body s id front v1.at v2.at × (v2.body ≡ body)
    × Adds stands n1 n2 front
unfolding ScansCallHead
call_begun stands body s id v1 v2 n1 n2 b h = (
  h.0,
  record {
    start = b.start;
    is_call = b.side;
    read = subst (λ (l : List ℕ). reading call_head l v1.at ≡ Ok (h.0, v2.at)) b.same_body h.1;
    observed = h.2;
  },
  h.3.same_body ∙ b.same_body,
  h.4,
)

pub arguments_stop : {V : Type 0} (stands : V → List Item → Type 0) (before : List (List Item))
    (body : List ℕ) (s : MessageStart) (id : ProcId) (v1 v2 : View) (n1 n2 : V) (e : GetError)
    → StartRead body s false v1
    → ScansCallHead stands id (v1, n1) (v2, n2) → StopsLayout (arguments_of id) v2 e
    → StopsMessage e (judge_call before body)
unfolding StopsLayout
arguments_stop stands before body s id v1 v2 n1 n2 e b h x = λ stop is.
    let c = call_begun stands body s id v1 v2 n1 n2 b h in
    call_bad_arguments before body s id c.0 v1.at v2.at stop c.1 (rw (← c.2) (x stop is))

-- a call was read up to the last view, and a visitor was passed its items
pub record CallRead {V : Type 0} (rests stands : V → List Item → Type 0) (body : List ℕ)
    (s : MessageStart) (id : ProcId) (head end : ℕ) (last : View) (old new : V) : Type 0 where
  pub front : List Item
  pub more : List Item
  pub begins : CallBegins body s id front head end
  pub read : reading_layout (arguments_of id) body end ≡ Ok (more, last.at)
  pub same_body : last.body ≡ body
  pub adds : OpensMessage rests stands old new (whole_call s front more)

pub call_told : {V : Type 0} (rests stands : V → List Item → Type 0) (body : List ℕ)
    (s : MessageStart)
    (id : ProcId) (v1 v2 v3 : View) (n0 n1 n2 n3 : V) → StartRead body s false v1
    → OpensMessage rests stands n0 n1 (start_items s)
    → ScansCallHead stands id (v1, n1) (v2, n2)
    → ScansLayout stands (arguments_of id) (v2, n2) (v3, n3)
    → CallRead rests stands body s id v1.at v2.at v3 n0 n3
unfolding ScansLayout followed_by
call_told rests stands body s id v1 v2 v3 n0 n1 n2 n3 b a h x =
    let c = call_begun stands body s id v1 v2 n1 n2 b h in
    record {
      front = c.0;
      more = x.0;
      begins = c.1;
      read =
          rw (← c.2) x.1;
      same_body = x.2.same_body ∙ c.2;
      adds =
          opens_more rests stands n0 n1 n3 (start_items s) (c.0 ++ x.0) a
          (adds_both stands n1 n2 n3 c.0 x.0 c.3 x.3);
    }

pub call_scans : {V : Type 0} (rests stands : V → List Item → Type 0) (body : List ℕ)
    (s : MessageStart)
    (id : ProcId) (head end : ℕ) (last : View) (old new : V) → AreBytes body
    → CallRead rests stands body s id head end last old new → last.at ≡ length body
    → ScansCall rests stands body (record { xid = s.xid; id = id }) old new
call_scans rests stands body s id head end last old new are r is = record {
  items = whole_call s r.front r.more;
  is_call = (the_calls.accepted [] body (whole_call s r.front r.more) are
      (call_accepted [] body s id r.front head end last.at r.more r.begins r.read is refl)).0;
  xid_is = call_xid s r.front r.more;
  begins = call_begins s r.front r.more;
  procedure_is = call_procedure body s id r.front r.more head end r.begins;
  judged = λ before. call_whole before body s id r.front head end last.at r.more r.begins r.read is;
  adds = r.adds;
}

-- a call that agrees with those before it is accepted
pub call_agrees : {V : Type 0} (rests stands : V → List Item → Type 0) (before : List (List Item))
    (body : List ℕ) (call : ScannedCall) (old new : V)
    → (s : ScansCall rests stands body call old new)
    → agrees (procedure_of before call.xid) call.id ≡ true
    → judge_call before body ≡ Ok s.items
call_agrees rests stands before body call old new s agree =
    s.judged before ∙ ap (λ (b : Bool). cond b (Ok s.items) (refused 0 XidConflict)) agree

-- ---- replies

pub reply_head_stops : (calls : List (List Item)) (body : List ℕ) (s : MessageStart) (id : ProcId)
    (v1 : View) (e : GetError) → StartRead body s true v1 → procedure_of calls s.xid ≡ Some id
    → Stops reply_head v1 e
    → StopsMessage e (judge_reply calls body)
unfolding Stops
reply_head_stops calls body s id v1 e b asked h = λ stop is.
    reply_bad_head calls body s id stop v1.at b.start b.side asked
    (subst (λ (l : List ℕ). reading reply_head l v1.at ≡ Err stop) b.same_body (h stop is))

reply_begun : {V : Type 0} (stands : V → List Item → Type 0) (calls : List (List Item))
    (body : List ℕ) (s : MessageStart) (id : ProcId) (success : Bool) (v1 v2 : View) (n1 n2 : V)
    → StartRead body s true v1
    → procedure_of calls s.xid ≡ Some id → ScansReplyHead stands success (v1, n1) (v2, n2)
    → (front : List Item) × ReplyBegins calls body s id success front v1.at v2.at × (v2.body ≡ body)
    × Adds stands n1 n2 front
unfolding ScansReplyHead
reply_begun stands calls body s id success v1 v2 n1 n2 b asked h = (
  h.0,
  record {
    start = b.start;
    is_reply = b.side;
    asked = asked;
    read = subst (λ (l : List ℕ). reading reply_head l v1.at ≡ Ok (h.0, v2.at)) b.same_body h.1;
    observed = h.2;
  },
  h.3.same_body ∙ b.same_body,
  h.4,
)

pub results_stop : {V : Type 0} (stands : V → List Item → Type 0) (calls : List (List Item))
    (body : List ℕ) (s : MessageStart) (id : ProcId) (success : Bool) (v1 v2 : View) (n1 n2 : V)
    (e : GetError)
    → StartRead body s true v1 → procedure_of calls s.xid ≡ Some id
    → ScansReplyHead stands success (v1, n1) (v2, n2) → StopsLayout (results_after success id) v2 e
    → StopsMessage e (judge_reply calls body)
unfolding StopsLayout
results_stop stands calls body s id success v1 v2 n1 n2 e b asked h x = λ stop is.
    let c = reply_begun stands calls body s id success v1 v2 n1 n2 b asked h in
    reply_bad_results calls body s id success c.0 v1.at v2.at stop c.1 (rw (← c.2) (x stop is))

-- a reply was read up to the last view, and a visitor was passed its items
pub record ReplyRead {V : Type 0} (rests stands : V → List Item → Type 0) (body : List ℕ)
    (s : MessageStart) (id : ProcId) (success : Bool) (head end : ℕ) (last : View) (old new : V) :
    Type 0 where
  pub front : List Item
  pub more : List Item
  pub begins : (calls : List (List Item)) → procedure_of calls s.xid ≡ Some id
      → ReplyBegins calls body s id success front head end
  pub read : reading_layout (results_after success id) body end ≡ Ok (more, last.at)
  pub same_body : last.body ≡ body
  pub adds : OpensMessage rests stands old new (whole_reply s front more)

-- a call with this xid and this procedure has them
asked_by : (xid : ℕ) (id : ProcId) → procedure_of (asking xid id ∷ []) xid ≡ Some id
asked_by xid id = ap (λ (b : Bool). cond b (Some id) None) (eq-eqb xid xid refl)

pub reply_told : {V : Type 0} (rests stands : V → List Item → Type 0) (body : List ℕ)
    (s : MessageStart)
    (id : ProcId) (success : Bool) (v1 v2 v3 : View) (n0 n1 n2 n3 : V)
    → StartRead body s true v1
    → OpensMessage rests stands n0 n1 (start_items s)
    → ScansReplyHead stands success (v1, n1) (v2, n2)
    → ScansLayout stands (results_after success id) (v2, n2) (v3, n3)
    → ReplyRead rests stands body s id success v1.at v2.at v3 n0 n3
unfolding ScansReplyHead ScansLayout followed_by
reply_told rests stands body s id success v1 v2 v3 n0 n1 n2 n3 b a h x =
    let same : v2.body ≡ body = h.3.same_body ∙ b.same_body in
    record {
      front = h.0;
      more = x.0;
      begins = λ calls asked. record {
        start = b.start;
        is_reply = b.side;
        asked = asked;
        read = subst (λ (l : List ℕ). reading reply_head l v1.at ≡ Ok (h.0, v2.at)) b.same_body h.1;
        observed = h.2;
      };
      read =
          rw (← same) x.1;
      same_body = x.2.same_body ∙ same;
      adds =
          opens_more rests stands n0 n1 n3 (start_items s) (h.0 ++ x.0) a
          (adds_both stands n1 n2 n3 h.0 x.0 h.4 x.3);
    }

pub reply_scans : {V : Type 0} (rests stands : V → List Item → Type 0) (table : Known)
    (body : List ℕ) (s : MessageStart) (call : NumberedCall) (success : Bool) (head end : ℕ)
    (last : View) (old new : V) → AreBytes body
    → ReplyRead rests stands body s call.id success head end last old new → last.at ≡ length body
    → s.xid < 2 ^ 32 → table.call_of s.xid ≡ Some call
    → ScansReply rests stands table body call old new
reply_scans rests stands table body s call success head end last old new are r is small asked =
    record {
      items = whole_reply s r.front r.more;
      is_reply = ((the_replies calls).accepted [] body
          (record { id = call.id; items = whole_reply s r.front r.more }) are
          (answers calls (asked_by s.xid call.id))).0;
      is_xid = subst (λ (x : ℕ). x < 2 ^ 32) (sym (reply_xid s r.front r.more)) small;
      asked = ap table.call_of (reply_xid s r.front r.more) ∙ asked;
      accepted = λ known has. answers known (sym (has s.xid small) ∙ ap procedure_in_call asked);
      adds = r.adds;
    }
  where
    calls : List (List Item)
    calls = asking s.xid call.id ∷ []

    answers : (known : List (List Item)) → procedure_of known s.xid ≡ Some call.id
        → judge_reply known body
        ≡ Ok (record { id = call.id; items = whole_reply s r.front r.more })
    answers known by =
        reply_accepted known body s call.id success r.front head end last.at r.more
        (r.begins known by)
        r.read is
