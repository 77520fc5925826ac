-- Judging body by body says the same of a connection as what its messages are together.
use Rattle.capture3.proofs.Common.{◌≡◌, ◌⊎◌, ℕ, nat_eq, List, [], ◌∷◌, ◌++◌, Some, refl, sym, ap, subst, ◌∙◌, append_assoc, append-nil, inl, inr, eqb-true, eq-eqb, Item, ProcId, procedure_in, ReplyItems, IsCall, IsReply, xid_in, procedure_of, AcceptsCall, Streams, calls_in_turn, replies_to, AreMessages, Holds, IsJudgedInTurn, IsIn, IsRecordOf, Joins, Judgement, Marks, HaveOneProcedure, AnswerCalls, Converses}
use Rattle.capture3.proofs.Lemmas.Connections.RankLemmas.{by_test}

-- ---- members

IsIn-here : {X : Type 0} (x : X) (xs : List X) → IsIn x (x ∷ xs)
IsIn-here x xs = ([], xs, refl)

IsIn-there : {X : Type 0} (x y : X) (xs : List X) → IsIn x xs → IsIn x (y ∷ xs)
IsIn-there x y xs h = (y ∷ h.0, h.1, ap (λ l. y ∷ l) h.2)

IsIn-nil : {X : Type 0} (x : X) → IsIn x [] → ⊥
IsIn-nil {X} x h = go h.0 h.2
  where
    go : (front : List X) → [] ≡ front ++ x ∷ h.1 → ⊥
    go [] e = cc
    go (y ∷ front) e = cc

IsIn-cases : {X : Type 0} (x y : X) (xs : List X) → IsIn x (y ∷ xs) → (x ≡ y) ⊎ IsIn x xs
IsIn-cases {X} x y xs h = go h.0 h.2
  where
    go : (front : List X) → y ∷ xs ≡ front ++ x ∷ h.1 → (x ≡ y) ⊎ IsIn x xs
    go [] e = let same : x ≡ y = cc in inl same
    go (z ∷ front) e = let rest : xs ≡ front ++ x ∷ h.1 = cc in inr (front, h.1, rest)

IsIn-left : {X : Type 0} (x : X) (xs ys : List X) → IsIn x xs → IsIn x (xs ++ ys)
IsIn-left x xs ys h = (h.0, h.1 ++ ys, ap (λ l. l ++ ys) h.2 ∙ append_assoc h.0 (x ∷ h.1) ys)

IsIn-right : {X : Type 0} (x : X) (xs ys : List X) → IsIn x ys → IsIn x (xs ++ ys)
IsIn-right x xs ys h = (xs ++ h.0, h.1, ap (λ l. xs ++ l) h.2 ∙ sym (append_assoc xs h.0 (x ∷ h.1)))

IsIn-snoc : {X : Type 0} (x y : X) (xs : List X) → IsIn x (xs ++ y ∷ []) → IsIn x xs ⊎ (x ≡ y)
IsIn-snoc x y [] h =
    elim (IsIn-cases x y [] h) [ inl same ↦ inr same | inr none ↦ absurd (IsIn-nil x none) ]
IsIn-snoc x y (z ∷ xs) h =
    elim (IsIn-cases x z (xs ++ y ∷ []) h) [
      | inl same ↦ inl (subst (λ w. IsIn w (z ∷ xs)) (sym same) (IsIn-here z xs))
      | inr more ↦ elim (IsIn-snoc x y xs more)
          [ inl within ↦ inl (IsIn-there x z xs within) | inr same ↦ inr same ]
    ]

-- ---- the procedure of an xid

-- it is that of a call
pub known_call : (calls : List (List Item)) (xid : ℕ) (id : ProcId)
    → procedure_of calls xid ≡ Some id
    → (call : List Item) × IsIn call calls × (xid_in call ≡ xid) × (procedure_in call ≡ id)
known_call [] xid id e = absurd (cc)
known_call (call ∷ calls) xid id e =
    by_test (nat_eq (xid_in call) xid)
    (λ h.
    let f = rw h at e in
    let same : procedure_in call ≡ id = cc in
    (call, IsIn-here call calls, eqb-true (xid_in call) xid h, same))
    (λ h.
    let m = known_call calls xid id (rw h at e) in (m.0, IsIn-there m.0 call calls m.1, m.2, m.3))

-- a call's xid has the procedure of one of the calls
pub call_is_known : (calls : List (List Item)) (call : List Item) → IsIn call calls
    → (id : ProcId) × (procedure_of calls (xid_in call) ≡ Some id)
call_is_known [] call h = absurd (IsIn-nil call h)
call_is_known (first ∷ calls) call h =
    by_test (nat_eq (xid_in first) (xid_in call)) (λ e. (procedure_in first, rw e))
    (λ e.
    elim (IsIn-cases call first calls h) [
      | inl same ↦
          let t = eq-eqb (xid_in first) (xid_in call) (ap xid_in (sym same)) in absurd (cc)
      | inr within ↦ let k = call_is_known calls call within in (k.0, rw e k.1)
    ])

-- where calls with one xid have one procedure, it is that of each
pub procedure_is : (calls : List (List Item)) (call : List Item) → HaveOneProcedure calls
    → IsIn call calls → procedure_of calls (xid_in call) ≡ Some (procedure_in call)
procedure_is calls call one h =
    let k = call_is_known calls call h in
    let m = known_call calls (xid_in call) k.0 k.1 in
    k.1 ∙ ap (λ (id : ProcId). Some id) (sym m.3 ∙ one m.0 call m.1 h m.2)

-- ---- calls

-- bodies that are accepted are records of their messages
records_are : {M : Type 0} (judge : Judgement M) (Is : List ℕ → M → Type 0)
    → ((before : List M) (body : List ℕ) (m : M) → judge.accepts before body m → Is body m)
    → (bodies : List (List ℕ)) (before messages : List M) (stream : List ℕ) → Marks stream bodies
    → AreMessages judge before bodies messages → Joins (IsRecordOf Is) stream messages
records_are judge Is is [] before messages stream marks h = rw h marks
records_are judge Is is (body ∷ bodies) before messages stream marks h =
    rw h.2 (
      marks.0,
      marks.1,
      marks.2,
      (body, marks.3, is before body h.0 h.3),
      records_are judge Is is bodies (before ++ h.0 ∷ []) h.1 marks.1 marks.4 h.4,
    )

-- after the messages before, the stream is records with accepted bodies
abbrev HoldsAfter : {M : Type 0} → Judgement M → List M → List ℕ → List M → Type 0
HoldsAfter judge before stream messages = (bodies : List (List ℕ)) × Marks stream bodies
    × AreMessages judge before bodies messages

-- one record more at its start
holds_more : {M : Type 0} (judge : Judgement M) (Is : List ℕ → M → Type 0)
    (before messages : List M)
    (m : M) (stream front rest : List ℕ) → stream ≡ front ++ rest
    → (of : IsRecordOf Is front m) → judge.accepts before of.0 m
    → HoldsAfter judge (before ++ m ∷ []) rest messages
    → HoldsAfter judge before stream (m ∷ messages)
holds_more judge Is before messages m stream front rest split (body, whole, is) accepts later = (
  body ∷ later.0,
  (front, rest, split, whole, later.1),
  (m, messages, refl, accepts, later.2),
)

one_more : (before : List (List Item)) (body : List ℕ) (call : List Item) → HaveOneProcedure before
    → AcceptsCall before body call → HaveOneProcedure (before ++ call ∷ [])
one_more before body call one h a b in_a in_b same =
    go (IsIn-snoc a call before in_a) (IsIn-snoc b call before in_b)
  where
    new : (c : List Item) → IsIn c before → xid_in c ≡ xid_in call
        → procedure_in c ≡ procedure_in call
    new c within e =
        h.1 (procedure_in c) (ap (procedure_of before) (sym e) ∙ procedure_is before c one within)

    go : IsIn a before ⊎ (a ≡ call) → IsIn b before ⊎ (b ≡ call) → procedure_in a ≡ procedure_in b
    go (inl p) (inl q) = one a b p q same
    go (inl p) (inr q) = new a p (same ∙ ap xid_in q) ∙ ap procedure_in (sym q)
    go (inr p) (inl q) = ap procedure_in p ∙ sym (new b q (sym same ∙ ap xid_in p))
    go (inr p) (inr q) = ap procedure_in (p ∙ sym q)

calls_have_one : (bodies : List (List ℕ)) (before calls : List (List Item))
    → HaveOneProcedure before → AreMessages calls_in_turn before bodies calls
    → HaveOneProcedure (before ++ calls)
calls_have_one [] before calls one h =
    rw (h, append-nil) one
calls_have_one (body ∷ bodies) before calls one h =
    rw (← (append_assoc before (h.0 ∷ []) h.1 ∙ ap (λ l. before ++ l) (sym h.2)))
    (calls_have_one bodies (before ++ h.0 ∷ []) h.1 (one_more before body h.0 one h.3) h.4)

calls_in_order : (calls before : List (List Item)) (stream : List ℕ)
    → HaveOneProcedure (before ++ calls) → Joins (IsRecordOf IsCall) stream calls
    → HoldsAfter calls_in_turn before stream calls
calls_in_order [] before stream one h = ([], h, refl)
calls_in_order (call ∷ calls) before stream one (front, rest, split, of, more) =
    holds_more calls_in_turn IsCall before calls call stream front rest split of (
      of.2,
      λ id known.
          let m = known_call before (xid_in call) id known in
          sym m.3
          ∙ one m.0 call (IsIn-left m.0 before (call ∷ calls) m.1)
          (IsIn-right call before (call ∷ calls) (IsIn-here call calls)) m.2,
    )
    (calls_in_order calls (before ++ call ∷ []) rest
    (subst HaveOneProcedure (sym (append_assoc before (call ∷ []) calls)) one) more)

-- ---- replies

replies_answer : (calls : List (List Item)) (bodies : List (List ℕ))
    (before replies : List ReplyItems) → AreMessages (replies_to calls) before bodies replies
    → AnswerCalls calls replies
replies_answer calls [] before replies h reply member =
    absurd (IsIn-nil reply (subst (IsIn reply) h member))
replies_answer calls (body ∷ bodies) before replies h reply member =
    elim (IsIn-cases reply h.0 h.1 (subst (IsIn reply) h.2 member)) [
      | inl same ↦ known_call calls (xid_in reply.items) reply.id (rw same h.3.1)
      | inr more ↦ replies_answer calls bodies (before ++ h.0 ∷ []) h.1 h.4 reply more
    ]

replies_in_order : (calls : List (List Item)) (replies before : List ReplyItems)
    (stream : List ℕ) → HaveOneProcedure calls → AnswerCalls calls replies
    → Joins (IsRecordOf IsReply) stream replies
    → HoldsAfter (replies_to calls) before stream replies
replies_in_order calls [] before stream one answers h = ([], h, refl)
replies_in_order calls (reply ∷ replies) before stream one answers (front, rest, split, of, more) =
    let a = answers reply (IsIn-here reply replies) in
    holds_more (replies_to calls) IsReply before replies reply stream front rest split of (
      of.2,
      ap (procedure_of calls) (sym a.2) ∙ procedure_is calls a.0 one a.1
          ∙ ap (λ (id : ProcId). Some id) a.3,
    )
    (replies_in_order calls replies (before ++ reply ∷ []) rest one
    (λ other member. answers other (IsIn-there other reply replies member)) more)

-- ---- both

pub conversed : (streams : Streams) (calls : List (List Item)) (replies : List ReplyItems)
    → Holds calls_in_turn streams.client calls → Holds (replies_to calls) streams.server replies
    → Converses streams calls replies
conversed streams calls replies client server = record {
  client =
      records_are calls_in_turn IsCall (λ before body m h. h.0) client.0 [] calls streams.client
      client.1 client.2;
  server =
      records_are (replies_to calls) IsReply (λ before body m h. h.0) server.0 [] replies
      streams.server server.1 server.2;
  one_procedure =
      calls_have_one client.0 [] calls (λ a b in_a in_b same. absurd (IsIn-nil a in_a)) client.2;
  answers = replies_answer calls server.0 [] replies server.2;
}

pub calls_hold : (streams : Streams) (calls : List (List Item)) (replies : List ReplyItems)
    → Converses streams calls replies → Holds calls_in_turn streams.client calls
calls_hold streams calls replies h = calls_in_order calls [] streams.client h.one_procedure h.client

pub replies_hold : (streams : Streams) (calls : List (List Item)) (replies : List ReplyItems)
    → Converses streams calls replies → Holds (replies_to calls) streams.server replies
replies_hold streams calls replies h =
    replies_in_order calls replies [] streams.server h.one_procedure h.answers h.server

pub is_judged_in_turn : (streams : Streams) (calls : List (List Item)) (replies : List ReplyItems)
    → IsJudgedInTurn streams calls replies
is_judged_in_turn streams calls replies = (
  (λ h.
      (calls_hold streams calls replies h, replies_hold streams calls replies h)),
  (λ h. conversed streams calls replies h.0 h.1),
)
