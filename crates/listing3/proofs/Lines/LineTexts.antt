-- What lines tell: where two listings are equal, so are the messages of the connections.
use Rattle.std.specs.Prelude.{◌==◌, ◌&&◌, nat_le}
use Rattle.listing3.proofs.Common.{◌≡◌, ◌≢◌, ◌≤◌, ◌<◌, ◌^◌, ℕ, zero, suc, ◌+◌, Bool, true, false, List, [], ◌∷◌, ◌++◌, length, map, slice_index, Option, refl, sym, ap, ap₂, ◌∙◌, subst, append_assoc, arith, decimal, if◌then◌else◌, AllByRecursion, list_all, and_parts, leb-true, decimal_injective, Item, ProcId, procedure_in, Entry, Call, Turn, Close, Conversation, ReplyItems, xid_in, client, line, lines_after, message_text, named, prefix, procedure_name, server, shown_item, shown_items}
use Rattle.procs3.specs.Table.{Procedure, mount_procedures, name_in, name_of_procedure, nfs_procedures, procedures_of}
use Rattle.capture3.specs.Typed.{HaveOneProcedure, IsIn, reply_entry}
use Rattle.canon3.proofs.Lemmas.WellFormed.Files.{all_of, all_regrouped}
use Rattle.listing3.proofs.NamedItems.{AreNamed}
use Rattle.listing3.proofs.Texts.{decimal_digits, Ends, IsSpellable, items_end, same_digits, same_item, same_items, same_runs, Stops}

-- ---- names of procedures

abbrev IsInWord : ℕ → Type 0
IsInWord c = 33 ≤ c

abbrev is_word : List ℕ → Bool
is_word l = list_all (λ c. nat_le 33 c) l

word_run : (l : List ℕ) → is_word l ≡ true → AllByRecursion IsInWord l
word_run [] h = tt
word_run (c ∷ l) h =
    let p = and_parts (nat_le 33 c) (is_word l) h in
    (leb-true 33 c p.0, word_run l p.1)

abbrev IsWordName : Option (List ℕ) → Type 0
IsWordName name = is_word (named name) ≡ true

-- the names of a table's rows are words
abbrev AreWordRows : List Procedure → Type 0
AreWordRows rows = AllByRecursion (λ row. is_word row.0 ≡ true) rows

name_of_row : (rows : List Procedure) (n : ℕ) → AreWordRows rows → IsWordName (name_in rows n)
name_of_row [] n h = refl
name_of_row (row ∷ rows) zero h = h.0
name_of_row (row ∷ rows) (suc n) h = name_of_row rows n h.1

rows_if : (b : Bool) (xs ys : List Procedure) → AreWordRows xs → AreWordRows ys
    → AreWordRows (if b then xs else ys)
rows_if true xs ys h k = h
rows_if false xs ys h k = k

nfs_names : AreWordRows nfs_procedures
unfolding nfs_procedures
nfs_names = assumption

mount_names : AreWordRows mount_procedures
unfolding mount_procedures
mount_names = assumption

id_word : (id : ProcId) → IsWordName (name_of_procedure id)
id_word id =
    name_of_row (procedures_of id) id.proc_no
    (rows_if (id.prog == 100003 && id.vers == 3) nfs_procedures _ nfs_names
    (rows_if (id.prog == 100005 && id.vers == 3) mount_procedures [] mount_names tt))

procedure_run : (id : ProcId) → AllByRecursion IsInWord (procedure_name id)
procedure_run id = word_run (procedure_name id) (id_word id)

-- ---- the head of a line

head_text : (c k : ℕ) (s m : List ℕ)
    → prefix c s k ++ m ≡ decimal c ++ (32 ∷ (s ++ (32 ∷ (decimal k ++ m))))
head_text c k s m =
    append_assoc (decimal c) (32 ∷ (s ++ (32 ∷ decimal k))) m
    ∙ ap (λ (l : List ℕ). decimal c ++ (32 ∷ l)) (append_assoc s (32 ∷ decimal k) m)

same_head : (c d k l : ℕ) (s r m n : List ℕ) → c < 2 ^ 64 → d < 2 ^ 64 → k < 2 ^ 64 → l < 2 ^ 64
    → AllByRecursion IsInWord s → AllByRecursion IsInWord r → Ends m → Ends n
    → prefix c s k ++ m ≡ prefix d r l ++ n
    → (c ≡ d) × (s ≡ r) × (m ≡ n)
same_head c d k l s r m n cs ds ks ls sw ow me ne e =
    let e1 : decimal c ++ (32 ∷ (s ++ (32 ∷ (decimal k ++ m))))
    ≡ decimal d ++ (32 ∷ (r ++ (32 ∷ (decimal l ++ n)))) =
    sym (head_text c k s m) ∙ (e ∙ head_text d l r n) in
    let p =
    same_digits (decimal c) (decimal d) (32 ∷ (s ++ (32 ∷ (decimal k ++ m))))
    (32 ∷ (r ++ (32 ∷ (decimal l ++ n)))) (decimal_digits c cs) (decimal_digits d ds)
    (omega arith) (omega arith) e1 in
    let p1 : 32 ∷ (s ++ (32 ∷ (decimal k ++ m))) ≡ 32 ∷ (r ++ (32 ∷ (decimal l ++ n))) = p.1 in
    let e2 : s ++ (32 ∷ (decimal k ++ m)) ≡ r ++ (32 ∷ (decimal l ++ n)) = cc in
    let q =
    same_runs IsInWord s r (32 ∷ (decimal k ++ m)) (32 ∷ (decimal l ++ n)) sw ow
    (λ h. absurd (omega arith)) (λ h. absurd (omega arith)) e2 in
    let q1 : 32 ∷ (decimal k ++ m) ≡ 32 ∷ (decimal l ++ n) = q.1 in
    let e3 : decimal k ++ m ≡ decimal l ++ n = cc in
    let t =
    same_digits (decimal k) (decimal l) m n (decimal_digits k ks) (decimal_digits l ls) me ne e3 in
    (decimal_injective c d cs ds p.0, q.0, t.1)

client_run : AllByRecursion IsInWord client
client_run = word_run client refl

server_run : AllByRecursion IsInWord server
server_run = word_run server refl

two_sides : server ≡ client → ⊥
two_sides e =
    let first : slice_index server 0 ≡ slice_index client 0 =
    ap (λ (l : List ℕ). slice_index l 0) e in
    absurd (omega (arith, first))

-- ---- a message

-- items of a message, whose text tells them
pub record IsDetermined (items : List Item) : Type 0 where
  pub are_named : AreNamed items
  pub spell : AllByRecursion IsSpellable items
  pub some : items ≢ []

message_ends : (id : ProcId) (items : List Item) (t : List ℕ) → IsDetermined items
    → Ends (message_text id items ++ t)
message_ends id [] t h = absurd (h.some refl)
message_ends id (i ∷ items) t h = omega arith

message_is : (id : ProcId) (i : Item) (items : List Item) (t : List ℕ)
    → message_text id (i ∷ items) ++ t
    ≡ shown_item i ++ (32 ∷ (procedure_name id ++ (shown_items items ++ (10 ∷ t))))
message_is id i items t =
    append_assoc (shown_item i) (32 ∷ (procedure_name id ++ (shown_items items ++ 10 ∷ []))) t
    ∙ ap (λ (l : List ℕ). shown_item i ++ (32 ∷ l)) (append_assoc (procedure_name id)
    (shown_items items ++ 10 ∷ []) t
    ∙ ap (λ (l : List ℕ). procedure_name id ++ l)
    (append_assoc (shown_items items) (10 ∷ []) t))

stop_word : (l : List ℕ) → Ends l → Stops IsInWord l
stop_word [] s = s
stop_word (c ∷ l) s = λ h. absurd (omega arith)

same_message : (id other : ProcId) (a b : List Item) (t u : List ℕ) → IsDetermined a
    → IsDetermined b
    → message_text id a ++ t ≡ message_text other b ++ u → (a ≡ b) × (t ≡ u)
same_message id other [] b t u h k e = absurd (h.some refl)
same_message id other (i ∷ a) [] t u h k e = absurd (k.some refl)
same_message id other (i ∷ a) (j ∷ b) t u h k e =
    let x = shown_items a ++ (10 ∷ t) in
    let y = shown_items b ++ (10 ∷ u) in
    let p =
    same_item i j (32 ∷ (procedure_name id ++ x)) (32 ∷ (procedure_name other ++ y)) h.are_named.0
    k.are_named.0 h.spell.0 k.spell.0 (omega arith) (omega arith)
    (sym (message_is id i a t) ∙ (e ∙ message_is other j b u)) in
    let p1 : 32 ∷ (procedure_name id ++ x) ≡ 32 ∷ (procedure_name other ++ y) = p.1 in
    let e1 : procedure_name id ++ x ≡ procedure_name other ++ y = cc in
    let q =
    same_runs IsInWord (procedure_name id) (procedure_name other) x y (procedure_run id)
    (procedure_run other) (stop_word x (items_end a t)) (stop_word y (items_end b u)) e1 in
    let r = same_items a b t u h.are_named.1 k.are_named.1 h.spell.1 k.spell.1 q.1 in
    (ap₂ (λ (z : Item) (l : List Item). z ∷ l) p.0 r.0, r.1)

-- ---- lines

-- a list does not begin with a line of this side of this connection
abbrev NoLine : ℕ → List ℕ → List ℕ → Type 0
NoLine c side text = (k : ℕ) (m : List ℕ) → k < 2 ^ 64 → Ends m → text ≡ prefix c side k ++ m → ⊥

line_is : (c k : ℕ) (s : List ℕ) (id : ProcId) (items : List Item) (t : List ℕ)
    → line c s k id items ++ t ≡ prefix c s k ++ (message_text id items ++ t)
line_is c k s id items t = append_assoc (prefix c s k) (message_text id items) t

same_line : (c k : ℕ) (s : List ℕ) (id other : ProcId) (a b : List Item) (t u : List ℕ) → c < 2 ^ 64
    → k < 2 ^ 64 → AllByRecursion IsInWord s → IsDetermined a → IsDetermined b
    → line c s k id a ++ t ≡ line c s k other b ++ u → (a ≡ b) × (t ≡ u)
same_line c k s id other a b t u cs ks w h g e =
    let p =
    same_head c c k k s s (message_text id a ++ t) (message_text other b ++ u) cs cs ks ks w w
    (message_ends id a t h) (message_ends other b u g)
    (sym (line_is c k s id a t) ∙ (e ∙ line_is c k s other b u)) in
    same_message id other a b t u h g p.2

not_line : (c k : ℕ) (s : List ℕ) (id : ProcId) (a : List Item) (t u : List ℕ) → k < 2 ^ 64
    → IsDetermined a → NoLine c s u → u ≡ line c s k id a ++ t → ⊥
not_line c k s id a t u ks h none e =
    none k (message_text id a ++ t) ks (message_ends id a t h) (e ∙ line_is c k s id a t)

nonempty : (x y t : List ℕ) → [] ≡ x ++ (32 ∷ t) → ⊥
nonempty [] y t e = absurd cc
nonempty (c ∷ x) y t e = absurd cc

some_line : (c k : ℕ) (s m : List ℕ) → [] ≡ prefix c s k ++ m → ⊥
some_line c k s m e = nonempty (decimal c) [] (s ++ (32 ∷ (decimal k ++ m))) (e ∙ head_text c k s m)

-- ---- the lines of a connection, before other text

abbrev pub calls_text : (c k : ℕ) → List (List Item) → List ℕ → List ℕ
calls_text c k [] t = t
calls_text c k (m ∷ calls) t =
    line c client (k + 1) (procedure_in m) m ++ calls_text c (k + 1) calls t

abbrev pub replies_text : (c k : ℕ) → List ReplyItems → List ℕ → List ℕ
replies_text c k [] t = t
replies_text c k (r ∷ replies) t =
    line c server (k + 1) r.id r.items ++ replies_text c (k + 1) replies t

-- the lines of connections, after so many
abbrev pub all_text : ℕ → List Conversation → List ℕ
all_text n [] = []
all_text n (c ∷ cs) =
    calls_text (n + 1) 0 c.calls (replies_text (n + 1) 0 c.replies (all_text (n + 1) cs))

lines_calls : (n k : ℕ) (calls : List (List Item)) (es : List Entry) (t : List ℕ)
    → ((l : ℕ) → lines_after n l es ≡ t)
    → lines_after n k (map Call calls ++ es) ≡ calls_text n k calls t
lines_calls n k [] es t h = h k
lines_calls n k (m ∷ calls) es t h =
    ap (λ (l : List ℕ). line n client (k + 1) (procedure_in m) m ++ l) (ap
    (λ j. lines_after j (k + 1) (map Call calls ++ es)) (omega arith)
    ∙ lines_calls n (k + 1) calls es t h)

lines_replies : (n k : ℕ) (replies : List ReplyItems) (es : List Entry) (t : List ℕ)
    → ((l : ℕ) → lines_after n l es ≡ t)
    → lines_after n k (map reply_entry replies ++ es) ≡ replies_text n k replies t
lines_replies n k [] es t h = h k
lines_replies n k (r ∷ replies) es t h =
    ap (λ (l : List ℕ). line n server (k + 1) r.id r.items ++ l) (ap
    (λ j. lines_after j (k + 1) (map reply_entry replies ++ es)) (omega arith)
    ∙ lines_replies n (k + 1) replies es t h)

pub lines_all : (n k : ℕ) (cs : List Conversation) → lines_after n k (all_of cs) ≡ all_text n cs
lines_all n k [] = refl
lines_all n k (c ∷ cs) =
    let close : (l : ℕ) → lines_after (n + 1) l (Close ∷ all_of cs) ≡ all_text (n + 1) cs =
    λ l. ap (λ j. lines_after j l (all_of cs)) (omega arith) ∙ lines_all (n + 1) l cs in
    let turn : (l : ℕ)
    → lines_after (n + 1) l (Turn ∷ (map reply_entry c.replies ++ (Close ∷ all_of cs)))
    ≡ replies_text (n + 1) 0 c.replies (all_text (n + 1) cs) =
    λ l.
    ap (λ j. lines_after j 0 (map reply_entry c.replies ++ (Close ∷ all_of cs))) (omega arith)
    ∙ lines_replies (n + 1) 0 c.replies (Close ∷ all_of cs) (all_text (n + 1) cs) close in
    ap (lines_after n k) (all_regrouped c cs)
    ∙ (ap
    (λ j.
    lines_after j 0
    (map Call c.calls ++ (Turn ∷ (map reply_entry c.replies ++ (Close ∷ all_of cs)))))
    (omega arith)
    ∙ lines_calls (n + 1) 0 c.calls (Turn ∷ (map reply_entry c.replies ++ (Close ∷ all_of cs)))
    (replies_text (n + 1) 0 c.replies (all_text (n + 1) cs)) turn)

-- ---- conversations

-- the reply's procedure is that of a call with its xid
abbrev IsAnswered : List (List Item) → ReplyItems → Type 0
IsAnswered calls reply = (call : List Item) × IsIn call calls × (xid_in call ≡ xid_in reply.items)
    × (procedure_in call ≡ reply.id)

abbrev pub IsDeterminedReply : List (List Item) → ReplyItems → Type 0
IsDeterminedReply calls reply = IsDetermined reply.items × IsAnswered calls reply

pub record IsDeterminedConversation (c : Conversation) : Type 0 where
  pub calls_told : AllByRecursion IsDetermined c.calls
  pub replies_told : AllByRecursion (IsDeterminedReply c.calls) c.replies
  pub one_procedure : HaveOneProcedure c.calls
  pub few_calls : length c.calls < 2 ^ 32
  pub few_replies : length c.replies < 2 ^ 32

-- ---- what does not begin with a line

-- another connection, or another side
abbrev AreApart : (c : ℕ) (s : List ℕ) (d : ℕ) (r : List ℕ) → Type 0
AreApart c s d r = (c ≡ d) → (s ≡ r) → ⊥

module _ (c d : ℕ) (s : List ℕ) (small : c < 2 ^ 64) (other_small : d < 2 ^ 64)
    (w : AllByRecursion IsInWord s) (t : List ℕ) (none : NoLine c s t) where
  no_call : (k : ℕ) (calls : List (List Item)) → k + length calls < 2 ^ 64 → AreApart d client c s
      → AllByRecursion IsDetermined calls → NoLine c s (calls_text d k calls t)
  no_call k [] few apart h = none
  no_call k (m ∷ calls) few apart h = λ l n ls ne e.
      let rest = calls_text d (k + 1) calls t in
      let p =
      same_head d c (k + 1) l client s (message_text (procedure_in m) m ++ rest) n other_small small
      (omega arith) ls client_run w (message_ends (procedure_in m) m rest h.0) ne
      (sym (line_is d (k + 1) client (procedure_in m) m rest) ∙ e) in
      apart p.0 p.1

  no_reply : (k : ℕ) (calls : List (List Item)) (replies : List ReplyItems)
      → k + length replies < 2 ^ 64 → AreApart d server c s
      → AllByRecursion (IsDeterminedReply calls) replies → NoLine c s (replies_text d k replies t)
  no_reply k calls [] few apart h = none
  no_reply k calls (r ∷ replies) few apart h = λ l n ls ne e.
      let rest = replies_text d (k + 1) replies t in
      let p =
      same_head d c (k + 1) l server s (message_text r.id r.items ++ rest) n other_small small
      (omega arith) ls server_run w (message_ends r.id r.items rest h.0.0) ne
      (sym (line_is d (k + 1) server r.id r.items rest) ∙ e) in
      apart p.0 p.1

none_later : (n c : ℕ) (s : List ℕ) (cs : List Conversation) → AllByRecursion IsInWord s → c ≤ n
    → n + length cs < 2 ^ 32 → AllByRecursion IsDeterminedConversation cs
    → NoLine c s (all_text n cs)
none_later n c s [] w le few h = λ k m ks me e. some_line c k s m e
none_later n c s (x ∷ cs) w le few h =
    let later = none_later (n + 1) c s cs w (omega arith) (omega arith) h.1 in
    no_call c (n + 1) s (omega arith) (omega arith) w
    (replies_text (n + 1) 0 x.replies (all_text (n + 1) cs))
    (no_reply c (n + 1) s (omega arith) (omega arith) w (all_text (n + 1) cs) later 0 x.calls
    x.replies (omega (arith, h.0.few_replies)) (λ a b. absurd (omega arith)) h.0.replies_told)
    0 x.calls (omega (arith, h.0.few_calls)) (λ a b. absurd (omega arith)) h.0.calls_told

-- ---- equal text

same_calls : (c k : ℕ) (a b : List (List Item)) (t u : List ℕ) → c < 2 ^ 64 → k + length a < 2 ^ 64
    → k + length b < 2 ^ 64 → AllByRecursion IsDetermined a → AllByRecursion IsDetermined b
    → NoLine c client t
    → NoLine c client u
    → calls_text c k a t ≡ calls_text c k b u → (a ≡ b) × (t ≡ u)
same_calls c k [] [] t u small la lb h g s r e = (refl, e)
same_calls c k [] (o ∷ b) t u small la lb h g s r e =
    absurd (not_line c (k + 1) client (procedure_in o) o (calls_text c (k + 1) b u) t (omega arith)
    g.0 s e)
same_calls c k (m ∷ a) [] t u small la lb h g s r e =
    absurd (not_line c (k + 1) client (procedure_in m) m (calls_text c (k + 1) a t) u (omega arith)
    h.0 r (sym e))
same_calls c k (m ∷ a) (o ∷ b) t u small la lb h g s r e =
    let p =
    same_line c (k + 1) client (procedure_in m) (procedure_in o) m o (calls_text c (k + 1) a t)
    (calls_text c (k + 1) b u) small (omega arith) client_run h.0 g.0 e in
    let q = same_calls c (k + 1) a b t u small (omega arith) (omega arith) h.1 g.1 s r p.1 in
    (ap₂ (λ (x : List Item) (l : List (List Item)). x ∷ l) p.0 q.0, q.1)

same_id : (calls : List (List Item)) (r o : ReplyItems) → HaveOneProcedure calls
    → IsAnswered calls r → IsAnswered calls o → r.items ≡ o.items → r ≡ o
same_id calls r o one p q e =
    let ids : r.id ≡ o.id = sym p.3 ∙ (one p.0 q.0 p.1 q.1 (p.2 ∙ (ap xid_in e ∙ sym q.2)) ∙ q.3) in
    ap₂ (λ (i : ProcId) (l : List Item). record { id = i; items = l }) ids e

same_replies : (c k : ℕ) (calls : List (List Item)) (a b : List ReplyItems) (t u : List ℕ)
    → c < 2 ^ 64 → k + length a < 2 ^ 64 → k + length b < 2 ^ 64 → HaveOneProcedure calls
    → AllByRecursion (IsDeterminedReply calls) a → AllByRecursion (IsDeterminedReply calls) b
    → NoLine c server t → NoLine c server u
    → replies_text c k a t ≡ replies_text c k b u → (a ≡ b) × (t ≡ u)
same_replies c k calls [] [] t u small la lb one h g s r e = (refl, e)
same_replies c k calls [] (o ∷ b) t u small la lb one h g s r e =
    absurd (not_line c (k + 1) server o.id o.items (replies_text c (k + 1) b u) t (omega arith)
    g.0.0 s e)
same_replies c k calls (m ∷ a) [] t u small la lb one h g s r e =
    absurd (not_line c (k + 1) server m.id m.items (replies_text c (k + 1) a t) u (omega arith)
    h.0.0 r (sym e))
same_replies c k calls (m ∷ a) (o ∷ b) t u small la lb one h g s r e =
    let p =
    same_line c (k + 1) server m.id o.id m.items o.items (replies_text c (k + 1) a t)
    (replies_text c (k + 1) b u) small (omega arith) server_run h.0.0 g.0.0 e in
    let q =
    same_replies c (k + 1) calls a b t u small (omega arith) (omega arith) one h.1 g.1 s r p.1 in (
      ap₂ (λ (x : ReplyItems) (l : List ReplyItems). x ∷ l) (same_id calls m o one h.0.1 g.0.1 p.0)
          q.0,
      q.1,
    )

-- ---- connections without messages

abbrev pub nobody : Conversation
nobody = record { calls = []; replies = [] }

abbrev pub quiet : ℕ → List Conversation
quiet zero = []
quiet (suc n) = nobody ∷ quiet n

no_calls : (c k : ℕ) (calls : List (List Item)) (t : List ℕ) → [] ≡ calls_text c k calls t
    → (calls ≡ []) × ([] ≡ t)
no_calls c k [] t e = (refl, e)
no_calls c k (m ∷ calls) t e =
    absurd (some_line c (k + 1) client
    (message_text (procedure_in m) m ++ calls_text c (k + 1) calls t)
    (e ∙ line_is c (k + 1) client (procedure_in m) m (calls_text c (k + 1) calls t)))

no_replies : (c k : ℕ) (replies : List ReplyItems) (t : List ℕ) → [] ≡ replies_text c k replies t
    → (replies ≡ []) × ([] ≡ t)
no_replies c k [] t e = (refl, e)
no_replies c k (r ∷ replies) t e =
    absurd (some_line c (k + 1) server
    (message_text r.id r.items ++ replies_text c (k + 1) replies t)
    (e ∙ line_is c (k + 1) server r.id r.items (replies_text c (k + 1) replies t)))

all_quiet : (n : ℕ) (cs : List Conversation) → [] ≡ all_text n cs → (i : ℕ) × (cs ≡ quiet i)
all_quiet n [] e = (0, refl)
all_quiet n (c ∷ cs) e =
    let p = no_calls (n + 1) 0 c.calls (replies_text (n + 1) 0 c.replies (all_text (n + 1) cs)) e in
    let q = no_replies (n + 1) 0 c.replies (all_text (n + 1) cs) p.1 in
    let r = all_quiet (n + 1) cs q.1 in
    let is : c ≡ nobody =
    ap₂ (λ (x : List (List Item)) (y : List ReplyItems). record { calls = x; replies = y }) p.0 q.0
    in
    (suc r.0, ap₂ (λ (x : Conversation) (l : List Conversation). x ∷ l) is r.1)

-- equal up to those at the ends
pub record AreAlike (cs ds : List Conversation) : Type 0 where
  pub same : List Conversation
  pub first_quiet : ℕ
  pub second_quiet : ℕ
  pub first : cs ≡ same ++ quiet first_quiet
  pub second : ds ≡ same ++ quiet second_quiet

alike_after : (c d : Conversation) (cs ds : List Conversation) → c ≡ d → AreAlike cs ds
    → AreAlike (c ∷ cs) (d ∷ ds)
alike_after c d cs ds is h = record {
  same = c ∷ h.same;
  first_quiet = h.first_quiet;
  second_quiet = h.second_quiet;
  first = ap (λ (l : List Conversation). c ∷ l) h.first;
  second = ap₂ (λ (x : Conversation) (l : List Conversation). x ∷ l) (sym is) h.second;
}

pub same_text : (n : ℕ) (cs ds : List Conversation) → n + length cs < 2 ^ 32
    → n + length ds < 2 ^ 32 → AllByRecursion IsDeterminedConversation cs
    → AllByRecursion IsDeterminedConversation ds → all_text n cs ≡ all_text n ds → AreAlike cs ds
same_text n [] ds few many h g e =
    let q = all_quiet n ds e in
    record { same = []; first_quiet = 0; second_quiet = q.0; first = refl; second = q.1 }
same_text n (c ∷ cs) [] few many h g e =
    let q = all_quiet n (c ∷ cs) (sym e) in
    record { same = []; first_quiet = q.0; second_quiet = 0; first = q.1; second = refl }
same_text n (c ∷ cs) (d ∷ ds) few many h g e =
    let t = all_text (n + 1) cs in
    let u = all_text (n + 1) ds in
    let small : n + 1 < 2 ^ 64 = omega arith in
    let after_calls =
    no_reply (n + 1) (n + 1) client small small client_run t
    (none_later (n + 1) (n + 1) client cs client_run (omega arith) (omega arith) h.1) 0 c.calls
    c.replies (omega (arith, h.0.few_replies)) (λ a b. two_sides b) h.0.replies_told in
    let other_calls =
    no_reply (n + 1) (n + 1) client small small client_run u
    (none_later (n + 1) (n + 1) client ds client_run (omega arith) (omega arith) g.1) 0 d.calls
    d.replies (omega (arith, g.0.few_replies)) (λ a b. two_sides b) g.0.replies_told in
    let p =
    same_calls (n + 1) 0 c.calls d.calls (replies_text (n + 1) 0 c.replies t)
    (replies_text (n + 1) 0 d.replies u) small (omega (arith, h.0.few_calls))
    (omega (arith, g.0.few_calls)) h.0.calls_told g.0.calls_told after_calls other_calls e in
    let other_told : AllByRecursion (IsDeterminedReply c.calls) d.replies =
    subst (λ (l : List (List Item)). AllByRecursion (IsDeterminedReply l) d.replies) (sym p.0)
    g.0.replies_told in
    let q =
    same_replies (n + 1) 0 c.calls c.replies d.replies t u small (omega (arith, h.0.few_replies))
    (omega (arith, g.0.few_replies)) h.0.one_procedure h.0.replies_told other_told
    (none_later (n + 1) (n + 1) server cs server_run (omega arith) (omega arith) h.1)
    (none_later (n + 1) (n + 1) server ds server_run (omega arith) (omega arith) g.1) p.1 in
    alike_after c d cs ds
    (ap₂ (λ (x : List (List Item)) (y : List ReplyItems). record { calls = x; replies = y }) p.0
    q.0) (same_text (n + 1) cs ds (omega arith) (omega arith) h.1 g.1 q.1)
