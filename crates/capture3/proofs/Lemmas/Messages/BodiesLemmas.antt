-- Bodies of calls and of replies, judged from left to right, against what they are.
use Rattle.capture3.proofs.Common.{WrongSide, XidConflict, Stop, reads_whole, ProcId, call_layout, start_of_type, reply_layout, procedure_in, arguments_of, results_of, calls_in_turn, replies_to, judge_replies, Item, Word, AreBytes, Spells, ◌>>=◌, reading, refused, complete, called, ◌≡◌, ◌≢◌, ◌⊎◌, ℕ, ◌+◌, Bool, true, false, cond, nat_eq, IsTrue, List, [], ◌∷◌, ◌++◌, length, drop, Option, Some, None, Result, Ok, Err, refl, sym, ap, ap₂, subst, ◌∙◌, append_assoc, inl, inr, arith, eqb-true, eq-eqb, ◌&&◌, Layout, ReadsLayout, word_in, Spells-split, ReplyItems, IsCall, xid_in, procedure_of, Starts, AcceptsCall, RefusesCall, AReply, BadCall, LongCall, OtherCall, AcceptsReply, RefusesReply, ACall, Unasked, BadReply, LongReply}
use Rattle.xdr3.specs.Named.{listed, word}
use Rattle.xdr3.specs.Shape.{Fits, Reads, Refuses, ◌then◌, choose, is_listed, nothing, word_named}
use Rattle.xdr3.specs.declared.reason.Reason.TheVariants.{BadEnum}
use Rattle.xdr3.proofs.Lemmas.Reading.Bytes.{ok_is}
use Rattle.xdr3.proofs.Lemmas.Reading.Decided.{both_ways}
use Rattle.rpc_head.specs.Shapes.{message_start}
use Rattle.capture3.specs.Bodies as bodies
use Rattle.capture3.specs.BodyProgram.{read_whole, is_same, agrees, agreed, call_after, answering, reply_after, judge_call, judge_reply}
use Rattle.capture3.proofs.Lemmas.Messages.BodyProgramLemmas.{Judged, by_result}
use Rattle.capture3.proofs.Lemmas.Connections.RankLemmas.{by_test}
use Rattle.capture3.proofs.Lemmas.Messages.BodySteps.{call_bad_start, reply_bad_start}
use Rattle.capture3.proofs.Lemmas.Messages.Layouts.{whole_read, refused_read, more_read, is_whole, is_refused}

-- ---- the first two words

-- the items of a message's start
abbrev pub start_of : ℕ → ℕ → List Item
start_of xid mtype = Word (called "xid") xid ∷ Word (called "mtype") mtype ∷ []

-- the start is read, and it is these two words
pub start_read : (body : List ℕ) (xid mtype : ℕ) → Starts body xid mtype
    → (to : ℕ) × (reading message_start body 0 ≡ Ok (start_of xid mtype, to))
start_read body xid mtype s = (
  0 + length s.1.front,
  (complete message_start).reads body 0
      (start_of xid mtype) s.1.front s.0 (omega arith) s.1.fits s.1.spells s.1.whole,
)

pub start_refused : (body : List ℕ) (stop : Stop) → Refuses message_start body stop.at stop.reason
    → reading message_start body 0 ≡ Err stop
start_refused body stop r =
    let same : 0 + stop.at ≡ stop.at = omega arith in
    (complete message_start).stops body 0 stop.at stop.reason (omega arith) r
    ∙ ap (λ (k : ℕ). refused k stop.reason) same

word_fits : (name : List ℕ) (items : List Item) → Fits (word_named name) items
    → (n : ℕ) × (items ≡ Word name n ∷ [])
word_fits name items f = (f.0, f.4 ∙ ap (λ (more : List Item). Word name f.0 ∷ more) f.3)

listed_fits : (name words : List ℕ) (items : List Item)
    → Fits (choose name (is_listed words) BadEnum (λ n. nothing)) items
    → (n : ℕ) × IsTrue (is_listed words n) × (items ≡ Word name n ∷ [])
listed_fits name words items f =
    (f.0, f.2, f.4 ∙ ap (λ (more : List Item). Word name f.0 ∷ more) f.3)

-- a start has two words
pub two_words : (words : List ℕ) (items : List Item)
    → Fits (word "xid" then listed "mtype" words) items
    → (xid : ℕ) × (mtype : ℕ) × IsTrue (is_listed words mtype) × (items ≡ start_of xid mtype)
two_words words items f =
    let x = word_fits (called "xid") f.0 f.2 in
    let m = listed_fits (called "mtype") words f.1 f.3 in (
      x.0,
      m.0,
      m.1,
      f.4 ∙ ap (λ (b : List Item). b ++ f.1) x.1
          ∙ ap (λ (b : List Item). Word (called "xid") x.0 ∷ b) m.2,
    )

-- an mtype that is listed
only_zero : (n : ℕ) → IsTrue (is_listed (0 ∷ []) n) → n ≡ 0
only_zero n h = grind (arith, h)

only_one : (n : ℕ) → IsTrue (is_listed (1 ∷ []) n) → n ≡ 1
only_one n h = grind (arith, h)

zero_or_one : (n : ℕ) → IsTrue (is_listed (0 ∷ 1 ∷ []) n) → (n ≡ 0) ⊎ (n ≡ 1)
zero_or_one n h = grind (arith, h)

-- a message that begins with the start has its xid and its mtype
starts_of : (mtype : ℕ) (body front left : List ℕ) (items xs ys zs : List Item)
    → IsTrue (is_listed (0 ∷ 1 ∷ []) mtype)
    → ((n : ℕ) → IsTrue (is_listed (mtype ∷ []) n) → n ≡ mtype)
    → Fits (word "xid" then listed "mtype" (mtype ∷ [])) xs
    → Spells (xs ++ ys) front → body ≡ front ++ left → items ≡ (xs ++ ys) ++ zs
    → Starts body (xid_in items) mtype
unfolding message_start
starts_of mtype body front left items xs ys zs known only fits spells whole is =
    let two = two_words (mtype ∷ []) xs fits in
    let p = Spells-split xs ys front spells in
    let xid : two.0 ≡ xid_in items =
    sym (ap xid_in (is ∙ ap (λ (b : List Item). (b ++ ys) ++ zs) two.3)) in (
      p.1 ++ left,
      record {
        front = p.0;
        fits = (
          Word (called "xid") (xid_in items) ∷ [],
          Word (called "mtype") mtype ∷ [],
          (xid_in items, [], refl, refl, refl),
          (mtype, [], known, refl, refl),
          refl,
        );
        spells =
            subst (λ (more : List Item). Spells more p.0)
            (two.3 ∙ ap₂ start_of xid (only two.1 two.2)) p.2;
        whole = whole ∙ ap (λ (b : List ℕ). b ++ left) p.4 ∙ append_assoc p.0 p.1 left;
      },
    )

pub call_starts : (body : List ℕ) (items : List Item) (left : List ℕ)
    → ReadsLayout (call_layout arguments_of) body items left → Starts body (xid_in items) 0
unfolding call_layout start_of_type
call_starts body items left r =
    let p = r.3.fits in
    starts_of 0 body r.3.front r.2 items p.0 p.1 r.1 refl only_zero p.2 (rw p.4 at r.3.spells)
    r.3.whole (rw p.4 at r.5)

pub reply_starts : (results : Layout) (body : List ℕ) (items : List Item) (left : List ℕ)
    → ReadsLayout (reply_layout results) body items left → Starts body (xid_in items) 1
unfolding reply_layout start_of_type
reply_starts results body items left r =
    let p = r.3.fits in
    starts_of 1 body r.3.front r.2 items p.0 p.1 r.1 refl only_one p.2 (rw p.4 at r.3.spells)
    r.3.whole (rw p.4 at r.5)

-- what is read of a start
pub record IsStarted (body : List ℕ) (start : List Item) : Type 0 where
  pub xid : ℕ
  pub mtype : ℕ
  pub is : start ≡ start_of xid mtype
  pub listed : (mtype ≡ 0) ⊎ (mtype ≡ 1)
  pub starts : Starts body xid mtype

pub is_started : (body : List ℕ) (start : List Item) (to : ℕ) → AreBytes body
    → reading message_start body 0 ≡ Ok (start, to) → IsStarted body start
unfolding message_start
is_started body start to are e =
    let r = (((both_ways message_start body 0 are (omega arith)).reads start to).0 e).reads in
    let two = two_words (0 ∷ 1 ∷ []) start r.fits in
    record {
      xid = two.0;
      mtype = two.1;
      is = two.3;
      listed = zero_or_one two.1 two.2;
      starts = (
        drop to body,
        subst (λ (xs : List Item). Reads message_start body xs (drop to body)) two.3 r,
      );
    }

pub is_not_started : (body : List ℕ) (stop : Stop) → AreBytes body
    → reading message_start body 0 ≡ Err stop → Refuses message_start body stop.at stop.reason
is_not_started body stop are e =
    let r = ((both_ways message_start body 0 are (omega arith)).refuses stop).0 e in
    let same : r.0 ≡ stop.at = omega (arith, r.2) in
    subst (λ (k : ℕ). Refuses message_start body k stop.reason) same r.1

-- ---- procedures

pub is_same_self : (id : ProcId) → is_same id id ≡ true
is_same_self id =
    rw (eq-eqb id.prog id.prog refl, eq-eqb id.vers id.vers refl, eq-eqb id.proc_no id.proc_no refl)
    refl

pub same_is : (a b : ProcId) → is_same a b ≡ true → a ≡ b
same_is a b e =
    go (nat_eq a.prog b.prog) (nat_eq a.vers b.vers) (nat_eq a.proc_no b.proc_no) refl refl refl e
  where
    go : (p v n : Bool) → nat_eq a.prog b.prog ≡ p → nat_eq a.vers b.vers ≡ v
        → nat_eq a.proc_no b.proc_no ≡ n → ((p && v) && n) ≡ true → a ≡ b
    go true true true p v n e =
        λ i.
        record {
          prog = eqb-true a.prog b.prog p i;
          vers = eqb-true a.vers b.vers v i;
          proc_no = eqb-true a.proc_no b.proc_no n i;
        }
    go true true false p v n e = absurd (cc)
    go true false q p v n e = absurd (cc)
    go false q r p v n e = absurd (cc)

not_same : (a b : ProcId) → a ≢ b → is_same a b ≡ false
not_same a b other = by_test (is_same a b) (λ e. absurd (other (same_is a b e))) (λ e. e)

-- ---- the client stream

-- a start with this mtype is read as its two words
started : (body : List ℕ) (xid mtype : ℕ) {A : Type 0} (later : List Item × ℕ → Result A Stop)
    → Starts body xid mtype
    → (to : ℕ) × ((reading message_start body 0 >>= later) ≡ later (start_of xid mtype, to))
started body xid mtype later s =
    let r = start_read body xid mtype s in (r.0, ap (λ x. x >>= later) r.1)

-- after the start of a call it is the whole that is judged
as_call : (before : List (List Item)) (body : List ℕ) (xid : ℕ) → Starts body xid 0
    → judge_call before body ≡ (read_whole (call_layout arguments_of) body >>= agreed before)
unfolding judge_call
as_call before body xid s = (started body xid 0 (call_after before body) s).1

pub judges_reply : (before : List (List Item)) (body : List ℕ) (xid to : ℕ)
    → reading message_start body 0 ≡ Ok (start_of xid 1, to)
    → judge_call before body ≡ refused 4 WrongSide
unfolding judge_call
judges_reply before body xid to e = ap (λ x. x >>= call_after before body) e

agreed_ok : (before : List (List Item)) (items : List Item) (known : Option ProcId)
    → ((id : ProcId) → known ≡ Some id → id ≡ procedure_in items)
    → agrees known (procedure_in items) ≡ true
agreed_ok before items None h = refl
agreed_ok before items (Some id) h =
    ap (λ (x : ProcId). is_same x (procedure_in items)) (h id refl)
    ∙ is_same_self (procedure_in items)

pub call_accepts : (before : List (List Item)) (body : List ℕ) (items : List Item)
    → AcceptsCall before body items → judge_call before body ≡ Ok items
call_accepts before body items h =
    let read = whole_read (call_layout arguments_of) body items h.0.0 h.0.1 in
    let starts =
    call_starts body items [] ((reads_whole (call_layout arguments_of) body items).1 h.0) in
    let agrees_is = agreed_ok before items (procedure_of before (xid_in items)) h.1 in
    as_call before body (xid_in items) starts
    ∙ ap (λ x. x >>= agreed before) read
    ∙ ap (λ (b : Bool). cond b (Ok items) (refused 0 XidConflict)) agrees_is

pub call_refuses : (before : List (List Item)) (body : List ℕ) (stop : Stop)
    → RefusesCall before body stop → judge_call before body ≡ Err stop
call_refuses before body stop (bodies.RefusesCall.BadStart r) =
    call_bad_start before body stop (start_refused body stop r)
call_refuses before body stop (AReply xid s is) =
    let r = start_read body xid 1 s in
    judges_reply before body xid r.0 r.1 ∙ ap (λ (x : Stop). Err x) (sym is)
call_refuses before body stop (BadCall xid s r) =
    as_call before body xid s
    ∙ ap (λ x. x >>= agreed before) (refused_read (call_layout arguments_of) body stop r)
call_refuses before body stop (LongCall xid s r) =
    as_call before body xid s
    ∙ ap (λ x. x >>= agreed before) (more_read (call_layout arguments_of) body stop r)
call_refuses before body stop (OtherCall items id is known other stop_is) =
    let starts =
    call_starts body items [] ((reads_whole (call_layout arguments_of) body items).1 is) in
    as_call before body (xid_in items) starts
    ∙ ap (λ x. x >>= agreed before) (whole_read (call_layout arguments_of) body items is.0 is.1)
    ∙ ap
    (λ (k : Option ProcId).
    cond (agrees k (procedure_in items)) (Ok items) (refused 0 XidConflict)) known
    ∙ ap (λ (b : Bool). cond b (Ok items) (refused 0 XidConflict))
    (not_same id (procedure_in items) other)
    ∙ ap (λ (x : Stop). Err x) (sym stop_is)

-- what an answer says of the body
abbrev pub SaysOfCall : List (List Item) → List ℕ → Result (List Item) Stop → Type 0
SaysOfCall before body (Ok items) = AcceptsCall before body items
SaysOfCall before body (Err stop) = RefusesCall before body stop

agreed_said : (before : List (List Item)) (body : List ℕ) (items : List Item) → IsCall body items
    → (known : Option ProcId) → procedure_of before (xid_in items) ≡ known
    → SaysOfCall before body
    (cond (agrees known (procedure_in items)) (Ok items) (refused 0 XidConflict))
agreed_said before body items is None e = (is, λ id some. absurd (cc))
agreed_said before body items is (Some id) known =
    by_test (is_same id (procedure_in items))
    (λ e. rw e (
      is,
      λ other some. let one : other ≡ id = cc in one ∙ same_is id (procedure_in items) e,
    ))
    (λ e. rw e (OtherCall items id is known
    (λ equal. let t = is_same_self id in let u = ap (is_same id) equal in cc) refl))

whole_call_said : (before : List (List Item)) (body : List ℕ) (xid : ℕ) → AreBytes body
    → Starts body xid 0
    → SaysOfCall before body (read_whole (call_layout arguments_of) body >>= agreed before)
whole_call_said before body xid are s =
    by_result (read_whole (call_layout arguments_of) body)
    (λ items e. rw e (agreed_said before body items
    (is_whole (call_layout arguments_of) body items are e) (procedure_of before (xid_in items))
    refl))
    (λ stop e. rw e (elim (is_refused (call_layout arguments_of) body stop are e)
    [ inl r ↦ BadCall xid s r | inr more ↦ LongCall xid s more ]))

pub call_said : (before : List (List Item)) (body : List ℕ) → AreBytes body
    → SaysOfCall before body (judge_call before body)
call_said before body are =
    by_result (reading message_start body 0)
    (λ x e.
    let h = is_started body x.0 x.1 are e in
    elim h.listed [
      | inl zero_is ↦
          let s = rw zero_is at h.starts in
          rw (as_call before body h.xid s) (whole_call_said before body h.xid are s)
      | inr one_is ↦
          let s = rw one_is at h.starts in
          let r = start_read body h.xid 1 s in
          rw (judges_reply before body h.xid r.0 r.1) (AReply h.xid s refl)
    ])
    (λ stop e. rw (call_bad_start before body stop e)
    (bodies.RefusesCall.BadStart (is_not_started body stop are e)))

-- a judgement by whose answers are so, and which answers what is so
abbrev pub the_calls : Judged (List Item)
the_calls = record {
  says = calls_in_turn;
  decide = judge_call;
  accepts = call_accepts;
  refuses = call_refuses;
  accepted = λ before body m are e. subst (SaysOfCall before body) e (call_said before body are);
  refused = λ before body stop are e. subst (SaysOfCall before body) e (call_said before body are);
}

-- ---- the server stream

-- after the start of a reply it is the answer to a call with its xid that is judged
as_reply : (calls : List (List Item)) (body : List ℕ) (xid : ℕ) → Starts body xid 1
    → judge_reply calls body ≡ answering body (procedure_of calls xid)
unfolding judge_reply
as_reply calls body xid s = (started body xid 1 (reply_after calls body) s).1

pub judges_call : (calls : List (List Item)) (body : List ℕ) (xid to : ℕ)
    → reading message_start body 0 ≡ Ok (start_of xid 0, to)
    → judge_reply calls body ≡ refused 4 WrongSide
unfolding judge_reply
judges_call calls body xid to e = ap (λ x. x >>= reply_after calls body) e

-- a reply of this procedure
abbrev pub replying : ProcId → Result (List Item) Stop → Result ReplyItems Stop
replying id r = r >>= λ items. Ok (record { id = id; items = items })

-- after the start of a reply to a call of this procedure it is the whole that is judged
as_answer : (calls : List (List Item)) (body : List ℕ) (xid : ℕ) (id : ProcId) → Starts body xid 1
    → procedure_of calls xid ≡ Some id
    → judge_reply calls body ≡ replying id (read_whole (reply_layout (results_of id)) body)
as_answer calls body xid id s known = as_reply calls body xid s ∙ ap (answering body) known

pub reply_accepts : (calls : List (List Item)) (body : List ℕ) (reply : ReplyItems)
    → AcceptsReply calls body reply → judge_reply calls body ≡ Ok reply
reply_accepts calls body reply h =
    let starts =
    reply_starts (results_of reply.id) body reply.items []
    ((reads_whole (reply_layout (results_of reply.id)) body reply.items).1 h.0) in
    as_answer calls body (xid_in reply.items) reply.id starts h.1
    ∙ ap (replying reply.id)
    (whole_read (reply_layout (results_of reply.id)) body reply.items h.0.0 h.0.1)

pub reply_refuses : (calls : List (List Item)) (body : List ℕ) (stop : Stop)
    → RefusesReply calls body stop → judge_reply calls body ≡ Err stop
reply_refuses calls body stop (bodies.RefusesReply.BadStart r) =
    reply_bad_start calls body stop (start_refused body stop r)
reply_refuses calls body stop (ACall xid s is) =
    let r = start_read body xid 0 s in
    judges_call calls body xid r.0 r.1 ∙ ap (λ (x : Stop). Err x) (sym is)
reply_refuses calls body stop (Unasked xid s none is) =
    as_reply calls body xid s ∙ ap (answering body) none ∙ ap (λ (x : Stop). Err x) (sym is)
reply_refuses calls body stop (BadReply xid id s known r) =
    as_answer calls body xid id s known
    ∙ ap (replying id) (refused_read (reply_layout (results_of id)) body stop r)
reply_refuses calls body stop (LongReply xid id s known r) =
    as_answer calls body xid id s known
    ∙ ap (replying id) (more_read (reply_layout (results_of id)) body stop r)

-- what an answer says of the body
abbrev pub SaysOfReply : List (List Item) → List ℕ → Result ReplyItems Stop → Type 0
SaysOfReply calls body (Ok reply) = AcceptsReply calls body reply
SaysOfReply calls body (Err stop) = RefusesReply calls body stop

whole_reply_said : (calls : List (List Item)) (body : List ℕ) (xid : ℕ) (id : ProcId)
    → AreBytes body → Starts body xid 1 → procedure_of calls xid ≡ Some id
    → SaysOfReply calls body (replying id (read_whole (reply_layout (results_of id)) body))
whole_reply_said calls body xid id are s known =
    let layout : Layout = reply_layout (results_of id) in
    by_result (read_whole layout body)
    (λ items e.
    let whole = is_whole layout body items are e in
    let starts =
    reply_starts (results_of id) body items [] ((reads_whole layout body items).1 whole) in
    let first = start_read body xid 1 s in
    let again = start_read body (xid_in items) 1 starts in
    let same : (start_of xid 1, first.0) ≡ (start_of (xid_in items) 1, again.0) =
    ok_is (start_of xid 1, first.0) (start_of (xid_in items) 1, again.0) (sym first.1 ∙ again.1) in
    let xid_is : xid ≡ xid_in items = ap (λ (x : List Item × ℕ). word_in x.0 0) same in
    rw e (whole, rw xid_is at known))
    (λ stop e. rw e (elim (is_refused layout body stop are e)
    [ inl r ↦ BadReply xid id s known r | inr more ↦ LongReply xid id s known more ]))

answered_said : (calls : List (List Item)) (body : List ℕ) (xid : ℕ) → AreBytes body
    → Starts body xid 1 → (known : Option ProcId) → procedure_of calls xid ≡ known
    → SaysOfReply calls body (answering body known)
answered_said calls body xid are s None e = Unasked xid s e refl
answered_said calls body xid are s (Some id) e = whole_reply_said calls body xid id are s e

pub reply_said : (calls : List (List Item)) (body : List ℕ) → AreBytes body
    → SaysOfReply calls body (judge_reply calls body)
reply_said calls body are =
    by_result (reading message_start body 0)
    (λ x e.
    let h = is_started body x.0 x.1 are e in
    elim h.listed [
      | inl zero_is ↦
          let s = rw zero_is at h.starts in
          let r = start_read body h.xid 0 s in
          rw (judges_call calls body h.xid r.0 r.1) (ACall h.xid s refl)
      | inr one_is ↦
          let s = rw one_is at h.starts in
          rw (as_reply calls body h.xid s)
          (answered_said calls body h.xid are s (procedure_of calls h.xid) refl)
    ])
    (λ stop e. rw (reply_bad_start calls body stop e)
    (bodies.RefusesReply.BadStart (is_not_started body stop are e)))

abbrev pub the_replies : List (List Item) → Judged ReplyItems
the_replies calls = record {
  says = replies_to calls;
  decide = judge_replies calls;
  accepts = λ _. reply_accepts calls;
  refuses = λ _. reply_refuses calls;
  accepted = λ before body m are e. subst (SaysOfReply calls body) e (reply_said calls body are);
  refused = λ before body stop are e. subst (SaysOfReply calls body) e (reply_said calls body are);
}
