-- Messages whose items become others are messages of the same procedures, and no longer.
use Rattle.canon3.proofs.Common.{◌≡◌, ℕ, ◌<◌, ◌≤◌, ◌^◌, List, [], ◌∷◌, ◌++◌, length, refl, sym, ap, ◌∙◌, subst, arith, if◌then◌else◌, false, nat_eq, Item, Word, Opaque, Spells, zero_spelling, more, ProcId, call_head, reply_head, arguments_of, results_of, Decides-eqb}
use Rattle.capture3.proofs.Lemmas.Connections.RankLemmas.{by_test}
use Rattle.xdr3.specs.Item.{Var, called}
use Rattle.xdr3.specs.Named.{listed, word}
use Rattle.xdr3.specs.Shape.{Shape, ◌then◌, both, nothing, Fits, word_named}
use Rattle.xdr3.specs.Layout.{Layout, exactly, FitsLayout}
use Rattle.rpc_head.specs.Messages.{has_results, procedure_in}
use Rattle.rpc_head.specs.Shapes.{accept, credential, verifier}
use Rattle.canon3.proofs.Lemmas.Changes.Shapes.{Become, IsSpelledAnew, RowTakes, Takes, WordStays, become_append, fits_become, row_becomes, spelled_anew}
use Rattle.canon3.proofs.Lemmas.WellFormed.Messages.{BeginsWithWord, FitsCall, FitsReply, IsHeaded, call_next, headed_call_fits, headed_reply_fits, is_headed_call, is_headed_reply, reply_next}

-- ---- the words that choose a layout

first_word : (name : List ℕ) (s : Shape) (items : List Item) → Fits (both (word_named name) s) items
    → (n : ℕ) × (back : List Item) × Fits s back × (items ≡ Word name n ∷ back)
first_word name s items p = (
  p.2.0,
  p.1,
  p.3,
  rw (p.4, p.2.4, p.2.3) refl,
)

pub mtype_is : (types : List ℕ) (items : List Item) → Fits (listed "mtype" types) items
    → (n : ℕ) × (items ≡ Word (called "mtype") n ∷ [])
mtype_is types items p = (p.0, rw (p.4, p.3) refl)

-- the words of a call before its credential
abbrev pub four_words : (version prog vers proc : ℕ) → List Item → List Item
four_words version prog vers proc back =
    Word (called "rpcvers") version ∷ Word (called "prog") prog ∷ Word (called "vers") vers
    ∷ Word (called "proc") proc ∷ back

call_words : (head : List Item) → Fits call_head head
    → (version prog vers proc : ℕ) × (back : List Item)
    × (head ≡ four_words version prog vers proc back)
unfolding call_head
call_words head p =
    let a =
    first_word (called "prog")
    (word "vers" then word "proc" then credential then verifier) p.1 p.3 in
    let b =
    first_word (called "vers") (word "proc" then credential then verifier) a.1 a.2 in
    let c = first_word (called "proc") (credential then verifier) b.1 b.2 in
    (p.0, a.0, b.0, c.0, c.1, cc (p.4, a.3, b.3, c.3))

-- the items of a reply's head up to the word that tells whether it has results
abbrev accepted_words : (flavor : ℕ) (body : List ℕ) (stat : ℕ) → List Item → List Item
accepted_words flavor body stat back =
    Word (called "reply_stat") 0 ∷ Word (called "verf_flavor") flavor
    ∷ Opaque Var (called "verf_body") body ∷ Word (called "accept_stat") stat ∷ back

are_accepted : (items : List Item) → Fits (verifier then accept) items
    → (flavor : ℕ) × (body : List ℕ) × (stat : ℕ) × (back : List Item)
    × (Word (called "reply_stat") 0 ∷ items ≡ accepted_words flavor body stat back)
unfolding verifier accept
are_accepted items p =
    let v = p.2 in
    let a = p.3 in (v.0, v.3.0, a.0, a.1, rw (p.4, v.4, v.3.2, a.4) refl)

module _ (R : Item → Item → Type 0) where
  -- the words of heads that choose what follows
  pub record HeadsStay : Type 0 where
    pub prog : WordStays R (called "prog")
    pub vers : WordStays R (called "vers")
    pub proc : WordStays R (called "proc")
    pub reply_stat : WordStays R (called "reply_stat")
    pub accept_stat : WordStays R (called "accept_stat")

  -- its first word may become any other
  pub record ChangesTo (items others : List Item) : Type 0 where
    pub first : BeginsWithWord items
    pub number : ℕ
    pub later : List Item
    pub each : Become R first.more later
    pub is : others ≡ Word first.name number ∷ later

  -- ---- a layout whose first word is any

  module _ (name : List ℕ) (s t : Shape) (next : List Item → Layout) (starts : Takes R s)
      (heads : Takes R t) (rows : (l : List Item) → RowTakes R (next l))
      (same : (m n : ℕ) (start head front : List Item) → Fits s start → Fits t head
      → Become R (start ++ head) front
      → next (Word name n ∷ front) ≡ next (Word name m ∷ (start ++ head))) where
    headed_becomes : (items others : List Item) → IsHeaded name s t next items
        → ChangesTo items others → IsHeaded name s t next others
    headed_becomes items others h c =
        let e : Word c.first.name c.first.number ∷ c.first.more
        ≡ Word name h.number ∷ ((h.start ++ h.head) ++ h.back) =
        sym c.first.is ∙ h.is in
        let a = become_append R (h.start ++ h.head) h.back c.first.more c.later (cc e) c.each in
        let b = become_append R h.start h.head _ a.0 refl a.2 in
        let fits =
        row_becomes R _ h.back a.1 (rows (Word name h.number ∷ (h.start ++ h.head))) h.back_fits
        a.3 in
        let front_same =
        same h.number c.number h.start h.head a.0 h.start_fits h.head_fits a.2 in
        record {
          number = c.number;
          start = b.0;
          head = b.1;
          back = a.1;
          start_fits = fits_become R s h.start b.0 starts h.start_fits b.2;
          head_fits = fits_become R t h.head b.1 heads h.head_fits b.3;
          back_fits =
              subst (λ l. FitsLayout (next (Word name c.number ∷ l)) a.1) b.4
              (subst (λ k. FitsLayout k a.1) (sym front_same) fits);
          is = cc (c.is, e, a.4, b.4);
        }

  -- ---- calls and replies

  module _ (stay : HeadsStay) where
    procedure_stays : (name : List ℕ) (x y mtype version prog vers proc : ℕ)
        (back later : List Item)
        → Become R (Word (called "mtype") mtype ∷ four_words version prog vers proc back) later
        → procedure_in (Word name y ∷ later)
        ≡ procedure_in (Word name x ∷ Word (called "mtype") mtype
        ∷ four_words version prog vers proc back)
    procedure_stays name x y mtype version prog vers proc back later
        (more a (more b (more p (more v (more q r))))) =
        rw (stay.prog prog _ p, stay.vers vers _ v, stay.proc proc _ q) refl

    results_stay : (name : List ℕ) (x y mtype flavor : ℕ) (body : List ℕ) (stat : ℕ)
        (back later : List Item)
        → Become R (Word (called "mtype") mtype ∷ accepted_words flavor body stat back) later
        → has_results (Word name y ∷ later)
        ≡ has_results (Word name x ∷ Word (called "mtype") mtype
        ∷ accepted_words flavor body stat back)
    results_stay name x y mtype flavor body stat back later
        (more a (more b (more c (more d (more s r))))) =
        rw (stay.reply_stat 0 _ b, stay.accept_stat stat _ s) refl

    denial_stays : (name : List ℕ) (x y mtype stat : ℕ) (back later : List Item)
        → Become R (Word (called "mtype") mtype ∷ Word (called "reply_stat") stat ∷ back) later
        → nat_eq stat 0 ≡ false
        → has_results (Word name y ∷ later)
        ≡ has_results (Word name x ∷ Word (called "mtype") mtype
        ∷ Word (called "reply_stat") stat ∷ back)
    denial_stays name x y mtype stat back later (more a (more s r)) f =
        rw (stay.reply_stat stat _ s, f) refl

    module _ (starts : (types : List ℕ) → Takes R (listed "mtype" types)) where
      pub call_becomes : Takes R call_head → ((id : ProcId) → RowTakes R (arguments_of id))
          → (items others : List Item) → FitsCall items → ChangesTo items others
          → FitsCall others
      call_becomes heads rows items others p c =
          headed_call_fits others (headed_becomes (called "xid")
          (listed "mtype" (0 ∷ [])) call_head call_next (starts (0 ∷ [])) heads
          (λ l. rows (procedure_in l))
          (λ m n start head front q r k.
          let s = mtype_is (0 ∷ []) start q in
          let w = call_words head r in
          ap arguments_of (rw (s.1, w.5) (procedure_stays (called "xid") m n s.0 w.0 w.1 w.2 w.3 w.4
          front (rw (s.1, w.5) at k)))) items others (is_headed_call items p) c)

      pub reply_becomes : Takes R reply_head
          → ((id : ProcId) (l : List Item) → RowTakes R (reply_next id l)) → (id : ProcId)
          → (items others : List Item) → FitsReply id items → ChangesTo items others
          → FitsReply id others
      unfolding reply_head
      reply_becomes heads rows id items others p c =
          headed_reply_fits id others (headed_becomes (called "xid")
          (listed "mtype" (1 ∷ [])) reply_head (reply_next id) (starts (1 ∷ [])) heads
          (rows id)
          (λ m n start head front q r k.
          let s = mtype_is (1 ∷ []) start q in
          ap (λ b. if b then results_of id else exactly nothing) (by_test (nat_eq r.0 0)
          (λ t.
          let w = are_accepted r.1 (rw t at r.3) in
          let zero : r.0 ≡ 0 = (Decides-eqb r.0 0).0 t in
          let is : head ≡ accepted_words w.0 w.1 w.2 w.3 = cc (r.4, zero, w.4) in
          rw (s.1, is) (results_stay (called "xid") m n s.0 w.0 w.1 w.2 w.3 front
          (rw (s.1, is) at k)))
          (λ f.
          rw (s.1, r.4) (denial_stays (called "xid") m n s.0 r.0 r.1 front
          (rw (s.1, r.4) at k) f)))) items others (is_headed_reply id items p) c)

    pub procedure_becomes : (items others : List Item) → FitsCall items → ChangesTo items others
        → procedure_in others ≡ procedure_in items
    procedure_becomes items others p c =
        let h = is_headed_call items p in
        let s = mtype_is (0 ∷ []) h.start h.start_fits in
        let w = call_words h.head h.head_fits in
        let e : c.first.more
        ≡ Word (called "mtype") s.0 ∷ four_words w.0 w.1 w.2 w.3 (w.4 ++ h.back) =
        cc (c.first.is, h.is, s.1, w.5) in
        rw (c.is, c.first.is, e)
        (procedure_stays c.first.name c.first.number c.number s.0 w.0 w.1 w.2 w.3 (w.4 ++ h.back)
        c.later (rw e at c.each))

  -- ---- spellings

  pub message_anew : IsSpelledAnew R → (items others : List Item) (bytes : List ℕ)
      (c : ChangesTo items others) → c.number < 2 ^ 32 → Spells items bytes
      → Spells others (zero_spelling others)
      × (length (zero_spelling others) ≤ length (zero_spelling items))
  message_anew each items others bytes c small p =
      let q = rw c.first.is at p in
      let later = spelled_anew R each c.first.more c.later q.1 q.3 c.each in
      rw (c.is, c.first.is) ((_, _, (small, refl), later.0, refl), omega (arith, later.1))
