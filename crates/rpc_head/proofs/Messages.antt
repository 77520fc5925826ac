-- A message is read as its parts are: its first two words, its head, and what the head chooses.
use Rattle.rpc_head.proofs.Common.{◌≡◌, ℕ, Bool, true, false, cond, List, [], ◌∷◌, ◌++◌, Ok, Err, refl, sym, ap, subst, ◌∙◌, Stop, Item, Word, called, BadEnum, RpcVersion, ◌>>=◌, number_at, reading, refused, word_at, MessageStart, start_items}
use Rattle.xdr3.specs.Layout.{Layout, after, exactly, reading_layout}
use Rattle.xdr3.specs.Named.{listed, word}
use Rattle.xdr3.specs.Shape.{Shape, ◌then◌, both, choose, is_any, is_listed, nothing, word_named}
use Rattle.xdr3.specs.View.{word_of}
use Rattle.xdr3.proofs.Lemmas.Reading.Bytes.{accept_ok, bind_ok, ok_is}
use Rattle.xdr3.proofs.Lemmas.Reading.Linked.{with_front}
use Rattle.rpc_head.specs.declared.values.call.ProcId.{ProcId}
use Rattle.rpc_head.specs.HeadScan.{procedure_in_head, success_in_head}
use Rattle.rpc_head.specs.Messages.{call_layout, start_of_type, has_results, procedure_in, reply_layout}
use Rattle.rpc_head.specs.Shapes.{call_head, credential, message_start, reply_head, verifier}

-- ---- the first two words

-- a listed word is read in the same way where fewer words are listed, and it is one of them
word_narrowed : (words fewer body : List ℕ) (n at to : ℕ)
    → word_at (is_listed words) BadEnum body at ≡ Ok (n, to) → is_listed fewer n ≡ true
    → word_at (is_listed fewer) BadEnum body at ≡ Ok (n, to)
word_narrowed words fewer body n at to e is =
    let b =
    bind_ok (number_at 4 body at) (λ x. cond (is_listed words x.0) (Ok x) (refused at BadEnum))
    (n, to) e in
    let g =
    accept_ok (is_listed words b.0.0) (record { at = at; reason = BadEnum }) b.0 (n, to) b.2 in
    let whole : number_at 4 body at ≡ Ok (n, to) = b.1 ∙ ap (λ (x : ℕ × ℕ). Ok x) g.1 in
    rw (whole, is) refl

both_read : (a b : Shape) (body : List ℕ) (at : ℕ) (z : List Item × ℕ)
    → reading (both a b) body at ≡ Ok z
    → (x : List Item × ℕ) × (y : List Item × ℕ) × (reading a body at ≡ Ok x)
    × (reading b body x.1 ≡ Ok y) × ((x.0 ++ y.0, y.1) ≡ z)
unfolding reading
both_read a b body at z e =
    let x =
    bind_ok (reading a body at) (λ x. reading b body x.1 >>= λ y. Ok (x.0 ++ y.0, y.1)) z e in
    let y = bind_ok (reading b body x.0.1) (λ y. Ok (x.0.0 ++ y.0, y.1)) z x.2 in
    (x.0, y.0, x.1, y.1, ok_is (x.0.0 ++ y.0.0, y.0.1) z y.2)

one_read : (name : List ℕ) (accepted : ℕ → Bool) (body : List ℕ) (at : ℕ) (z : List Item × ℕ)
    → reading (choose name accepted BadEnum (λ n. nothing)) body at ≡ Ok z
    → (n : ℕ × ℕ) × (word_at accepted BadEnum body at ≡ Ok n) × ((Word name n.0 ∷ [], n.1) ≡ z)
unfolding reading
one_read name accepted body at z e =
    let n = bind_ok (word_at accepted BadEnum body at) (λ n. Ok (Word name n.0 ∷ [], n.1)) z e in
    (n.0, n.1, ok_is (Word name n.0.0 ∷ [], n.0.1) z n.2)

types_narrowed : (fewer body : List ℕ) (s : MessageStart) (at to : ℕ)
    → reading message_start body at ≡ Ok (start_items s, to)
    → is_listed fewer (word_of s.is_reply) ≡ true
    → reading (word "xid" then listed "mtype" fewer) body at
    ≡ Ok (start_items s, to)
unfolding message_start reading
types_narrowed fewer body s at to e is =
    let z =
    both_read (word "xid") (listed "mtype" (0 ∷ 1 ∷ [])) body at
    (start_items s, to) e in
    let x = one_read (called "xid") is_any body at z.0 z.2 in
    let y = one_read (called "mtype") (is_listed (0 ∷ 1 ∷ [])) body z.0.1 z.1 z.3 in
    let whole : (Word (called "xid") x.0.0 ∷ Word (called "mtype") y.0.0 ∷ [], y.0.1)
    ≡ (start_items s, to) =
    ap (λ (v : List Item × ℕ). (Word (called "xid") x.0.0 ∷ v.0, v.1)) y.2
    ∙ ap (λ (v : List Item × ℕ). (v.0 ++ z.1.0, z.1.1)) x.2 ∙ z.4 in
    let mtype : y.0.0 ≡ word_of s.is_reply = cc (ap (λ (v : List Item × ℕ). v.0) whole) in
    let accepted : is_listed fewer y.0.0 ≡ true =
    subst (λ n. is_listed fewer n ≡ true) (sym mtype) is in
    let place : z.0.1 ≡ x.0.1 = sym (ap (λ (v : List Item × ℕ). v.1) x.2) in
    let narrow =
    subst (λ p. word_at (is_listed fewer) BadEnum body p ≡ Ok y.0) place
    (word_narrowed (0 ∷ 1 ∷ []) fewer body y.0.0 z.0.1 y.0.1 y.1 accepted) in
    rw (x.1, narrow) (ap (λ (v : List Item × ℕ). Ok v) whole)

pub call_started : (body : List ℕ) (s : MessageStart) (at to : ℕ)
    → reading message_start body at ≡ Ok (start_items s, to) → s.is_reply ≡ false
    → reading (start_of_type 0) body at ≡ Ok (start_items s, to)
unfolding start_of_type
call_started body s at to e is = types_narrowed (0 ∷ []) body s at to e (rw is refl)

pub reply_started : (body : List ℕ) (s : MessageStart) (at to : ℕ)
    → reading message_start body at ≡ Ok (start_items s, to) → s.is_reply ≡ true
    → reading (start_of_type 1) body at ≡ Ok (start_items s, to)
unfolding start_of_type
reply_started body s at to e is = types_narrowed (1 ∷ []) body s at to e (rw is refl)

-- ---- whole messages

layout_read : (start head : Shape) (next : List Item → Layout) (body : List ℕ) (xs ys : List Item)
    (at then_at end : ℕ) → reading start body at ≡ Ok (xs, then_at)
    → reading head body then_at ≡ Ok (ys, end)
    → reading_layout (after (start then head) next) body at
    ≡ with_front (xs ++ ys) (reading_layout (next (xs ++ ys)) body end)
unfolding reading_layout reading with_front
layout_read start head next body xs ys at then_at end x y = rw (x, y) refl

head_refused : (start head : Shape) (next : List Item → Layout) (body : List ℕ) (xs : List Item)
    (stop : Stop) (at then_at : ℕ) → reading start body at ≡ Ok (xs, then_at)
    → reading head body then_at ≡ Err stop
    → reading_layout (after (start then head) next) body at ≡ Err stop
unfolding reading_layout reading
head_refused start head next body xs stop at then_at x y = rw (x, y) refl

-- ---- calls

then_word : (name : List ℕ) (b : Shape) (body : List ℕ) (at : ℕ) (z : List Item × ℕ)
    → reading (both (word_named name) b) body at ≡ Ok z
    → (n : ℕ) × (y : List Item × ℕ) × (to : ℕ) × (reading b body to ≡ Ok y)
    × (z.0 ≡ Word name n ∷ y.0)
then_word name b body at z e =
    let r = both_read (word_named name) b body at z e in
    let o = one_read name is_any body at r.0 r.2 in (
      o.0.0,
      r.1,
      r.0.1,
      r.3,
      ap (λ (v : List Item × ℕ). v.0) (sym r.4)
          ∙ ap (λ (v : List Item × ℕ). v.0 ++ r.1.0) (sym o.2),
    )

-- what follows a call's head changes nothing of its procedure
pub procedure_read : (body : List ℕ) (xs more : List Item) (at to : ℕ)
    → reading call_head body at ≡ Ok (xs, to)
    → procedure_in_head (xs ++ more) ≡ procedure_in_head xs
unfolding reading call_head
procedure_read body xs more at to e =
    let last = credential then verifier in
    let n =
    bind_ok (word_at (is_listed (2 ∷ [])) RpcVersion body at)
    (λ n.
    reading
    (word "prog" then word "vers" then word "proc" then last)
    body n.1 >>= λ l. Ok (Word (called "rpcvers") n.0 ∷ l.0, l.1)) (xs, to) e in
    let m =
    bind_ok
    (reading
    (word "prog" then word "vers" then word "proc" then last)
    body n.0.1) (λ l. Ok (Word (called "rpcvers") n.0.0 ∷ l.0, l.1)) (xs, to) n.2 in
    let all = ok_is (Word (called "rpcvers") n.0.0 ∷ m.0.0, m.0.1) (xs, to) m.2 in
    let prog =
    then_word (called "prog") (word "vers" then word "proc" then last) body n.0.1
    m.0 m.1 in
    let vers =
    then_word (called "vers") (word "proc" then last) body prog.2 prog.1 prog.3 in
    let proc = then_word (called "proc") last body vers.2 vers.1 vers.3 in
    let are : Word (called "rpcvers") n.0.0 ∷ Word (called "prog") prog.0
    ∷ Word (called "vers") vers.0 ∷ Word (called "proc") proc.0 ∷ proc.1.0 ≡ xs =
    ap
    (λ (l : List Item).
    Word (called "rpcvers") n.0.0 ∷ Word (called "prog") prog.0
    ∷ Word (called "vers") vers.0 ∷ l) (sym proc.4)
    ∙ ap (λ (l : List Item). Word (called "rpcvers") n.0.0 ∷ Word (called "prog") prog.0 ∷ l)
    (sym vers.4)
    ∙ ap (λ (l : List Item). Word (called "rpcvers") n.0.0 ∷ l) (sym prog.4)
    ∙ ap (λ (v : List Item × ℕ). v.0) all in
    subst (λ (l : List Item). procedure_in_head (l ++ more) ≡ procedure_in_head l) are refl

pub call_read : (arguments : ProcId → Layout) (body : List ℕ) (s : MessageStart) (xs : List Item)
    (at head end : ℕ) → reading message_start body at ≡ Ok (start_items s, head)
    → s.is_reply ≡ false → reading call_head body head ≡ Ok (xs, end)
    → reading_layout (call_layout arguments) body at
    ≡ with_front (start_items s ++ xs) (reading_layout (arguments (procedure_in_head xs)) body end)
unfolding call_layout
call_read arguments body s xs at head end start is read =
    layout_read (start_of_type 0) call_head (λ items. arguments (procedure_in items)) body
    (start_items s) xs at head end (call_started body s at head start is) read

pub call_head_refused : (arguments : ProcId → Layout) (body : List ℕ) (s : MessageStart)
    (stop : Stop) (at head : ℕ) → reading message_start body at ≡ Ok (start_items s, head)
    → s.is_reply ≡ false → reading call_head body head ≡ Err stop
    → reading_layout (call_layout arguments) body at ≡ Err stop
unfolding call_layout
call_head_refused arguments body s stop at head start is read =
    head_refused (start_of_type 0) call_head (λ items. arguments (procedure_in items)) body
    (start_items s) stop at head (call_started body s at head start is) read

-- ---- replies

pub reply_read : (results : Layout) (body : List ℕ) (s : MessageStart) (xs : List Item)
    (at head end : ℕ) → reading message_start body at ≡ Ok (start_items s, head)
    → s.is_reply ≡ true → reading reply_head body head ≡ Ok (xs, end)
    → reading_layout (reply_layout results) body at
    ≡ with_front (start_items s ++ xs)
    (reading_layout (cond (success_in_head xs) results (exactly nothing)) body end)
unfolding reply_layout
reply_read results body s xs at head end start is read =
    layout_read (start_of_type 1) reply_head
    (λ items. cond (has_results items) results (exactly nothing)) body (start_items s) xs at head
    end (reply_started body s at head start is) read

pub reply_head_refused : (results : Layout) (body : List ℕ) (s : MessageStart) (stop : Stop)
    (at head : ℕ) → reading message_start body at ≡ Ok (start_items s, head) → s.is_reply ≡ true
    → reading reply_head body head ≡ Err stop
    → reading_layout (reply_layout results) body at ≡ Err stop
unfolding reply_layout
reply_head_refused results body s stop at head start is read =
    head_refused (start_of_type 1) reply_head
    (λ items. cond (has_results items) results (exactly nothing)) body (start_items s) stop at
    head (reply_started body s at head start is) read
