-- A line, and what is held after it.
use Rattle.std.proofs.Common.{◌+◌}
use Rattle.listing3.proofs.Common.{◌≡◌, ◌⊎◌, inl, inr, ℕ, List, [], ◌∷◌, ◌++◌, ◌<◌, length, drop, refl, sym, ap, ap₂, ◌∙◌, subst, append_assoc, append-nil, length-append, arith, Result, Ok, Err, Appends, AppendsFront, PlainField, Item, Word, Opaque, Handle, run_items, ProcId, called, ◌^◌, Option, codes, decimal, OnErr, OnOk, Appends-trans, Spells, Adds, Keeps, procedure_in, Entry, Begin, Call, Turn, Reply, Close, End, Gap, ItemsText, is_headed_call, is_headed_reply, front_of_second, filled, IsTextOfBody, TextStands, always, after_front, HasLineUnderWay, LineRests, items_before, LineStands, SkipsOthers, entry_line, line, opening, prefix, procedure_name, shown, shown_items, WritesText}
use Rattle.capture3.specs.declared.reader.entry.Kind.{Kind}
use Rattle.capture3.specs.declared.reader.entry.Kind.TheVariants as kinds
use Rattle.capture3.specs.declared.fault.Error.{Error}
use Rattle.capture3.specs.machinery.Stepping.{IsOfKind}
use Rattle.capture3.specs.Entry.{items_of}
use Rattle.capture3.specs.MessageVisit.{HasHeard, OpensMessage}
use Rattle.xdr3.specs.View.{word_of}
use Rattle.rpc_head.specs.MessageStart.{start_items}
use Rattle.rpc_head.specs.declared.values.message_start.MessageStart.{MessageStart}
use Rattle.canon3.specs.HandleTable.{all_items}
use Rattle.listing3.specs.declared.line_writer.LineWriter.{LineWriter}
use Rattle.capture3.specs.declared.reader.progress.Progress.{Progress}
use Rattle.std.specs.Prelude.{MatchResult}
use Rattle.canon3.specs.Laws.{AreFirst}
use Rattle.capture3.specs.Progress.{HasPassed}
use Rattle.canon3.proofs.Lemmas.Progress.ProgressLemmas.{records_within}
use Rattle.canon3.specs.Values.{handles_in}
use Rattle.canon3.proofs.Lemmas.Numbers.HandleTableLemmas.{none_in_run}
use Rattle.canon3.proofs.Lemmas.WellFormed.Laid.{IsLaidOut, last_laid}
use Rattle.xdr3.specs.Visit.{AddsSome}
use Rattle.xdr3.proofs.Lemmas.Shapes.Walks.{some_none}
use Rattle.listing3.proofs.Lines.ItemsTexts.{filled_more}
use Rattle.listing3.proofs.ListingLemmas.{shown_push}

-- ---- pieces of a line

abbrev xid_text : ℕ → List ℕ
xid_text xid = opening (codes "xid") ++ decimal xid

pub composed : (connection : ℕ) (side : List ℕ) (number xid : ℕ) (id : ProcId) (rest : List Item)
    (head text : List ℕ)
    → head ≡ prefix connection side number ++ (xid_text xid ++ (32 ∷ procedure_name id))
    → text ≡ shown_items rest ++ 10 ∷ []
    → head ++ text ≡ line connection side number id (Word (called "xid") xid ∷ rest)
unfolding called
composed connection side number xid id rest head text head_is text_is =
    let p = prefix connection side number in
    let n : List ℕ = shown_items rest ++ 10 ∷ [] in
    ap (λ (l : List ℕ). head ++ l) text_is ∙ ap (λ (l : List ℕ). l ++ n) head_is
    ∙ append_assoc p (xid_text xid ++ (32 ∷ procedure_name id)) n
    ∙ ap (λ (l : List ℕ). p ++ l) (append_assoc (xid_text xid) (32 ∷ procedure_name id) n)

-- ---- items in front

same_front : (a b items more : List Item) → length a ≡ length b → a ++ items ≡ b ++ more
    → (a ≡ b) × (items ≡ more)
same_front [] [] items more n e = (refl, e)
same_front [] (y ∷ b) items more n e = absurd (omega arith)
same_front (x ∷ a) [] items more n e = absurd (omega arith)
same_front (x ∷ a) (y ∷ b) items more n e =
    let tails : a ++ items ≡ b ++ more = cc in
    let r = same_front a b items more (omega arith) tails in
    let head : x ≡ y = cc in
    (ap (λ (l : List Item). x ∷ l) r.0 ∙ ap (λ i. i ∷ b) head, r.1)

module _ {H : Type 0} (gathers : H → List Item → Type 0) (writer : LineWriter H) where
  pub is_after : (front items : List Item) → LineStands gathers writer (after_front front items)
      → HasLineUnderWay gathers writer front items
  is_after front items (other, own, are, is) =
      let many : length front ≡ length other = cc in
      let all : front ++ items ≡ other ++ own = cc in
      let same = same_front front other items own many all in
      subst (λ (l : List Item). HasLineUnderWay gathers writer l items) (sym same.0)
      (subst (HasLineUnderWay gathers writer other) (sym same.1) is)

  pub gathered_between : (front : List Item) → LineRests gathers writer (after_front front [])
      → gathers writer.handles front
  gathered_between front (other, are, is) =
      let many : length front ≡ length other = cc in
      let all : front ++ [] ≡ other ++ [] = cc in
      subst (gathers writer.handles) (sym (same_front front other [] [] many all).0) is

-- ---- one item more

pub after_front-append : (front items more : List Item)
    → after_front front items ++ more ≡ after_front front (items ++ more)
after_front-append front items more =
    ap (λ (l : List Item). Word [] (length front) ∷ l) (append_assoc front items more)

module _ {H : Type 0} (gathers : H → List Item → Type 0) (writer : LineWriter H) (table : H)
    (text : ItemsText) where
  abbrev pub with_both : LineWriter H
  with_both =
      record { handles = table; xid = writer.xid; items = text; head = writer.head }

  pub adds : (more : List Item)
      → ((front : List Item) → gathers writer.handles front → gathers table (front ++ more))
      → Adds TextStands writer.items text more → Adds (LineStands gathers) writer with_both more
  unfolding Adds
  adds more gathered write all (front, items, are, is) = (
    front,
    items ++ more,
    ap (λ (l : List Item). l ++ more) are ∙ after_front-append front items more,
    record {
      gathered =
          subst (gathers table) (append_assoc front items more)
          (gathered (front ++ items) is.gathered);
      rest = is.rest ++ more;
      begins = ap (λ (l : List Item). l ++ more) is.begins;
      text = write is.rest is.text;
    },
  )

  pub kept_both : Keeps gathers writer.handles table → Keeps TextStands writer.items text
      → Keeps (LineStands gathers) writer with_both
  unfolding Keeps
  kept_both kept still all (front, items, are, is) = (
    front,
    items,
    are,
    record {
      gathered = kept (front ++ items) is.gathered;
      rest = is.rest;
      begins = is.begins;
      text = still is.rest is.text;
    },
  )

  -- the text and the table with the handle
  pub adds_both : (name bytes : List ℕ)
      → Adds TextStands writer.items text (Opaque Handle name bytes ∷ [])
      → Adds gathers writer.handles table (Opaque Handle name bytes ∷ [])
      → Adds (LineStands gathers) writer with_both (Opaque Handle name bytes ∷ [])
  unfolding Adds
  adds_both name bytes write gathered = adds (Opaque Handle name bytes ∷ []) gathered write

module _ {H : Type 0} (gathers : H → List Item → Type 0) (skips : SkipsOthers gathers)
    (writer : LineWriter H) (text : ItemsText) where
  pub adds_plain : (i : Item) → handles_in (i ∷ []) ≡ []
      → Adds TextStands writer.items text (i ∷ [])
      → Adds (LineStands gathers) writer (with_both gathers writer writer.handles text) (i ∷ [])
  adds_plain i none =
      adds gathers writer writer.handles text (i ∷ [])
      (λ front h. skips writer.handles front (i ∷ []) none h)

  pub adds_run : (all : List PlainField) (run : List ℕ)
      → Adds TextStands writer.items text (run_items all run)
      → Adds (LineStands gathers) writer (with_both gathers writer writer.handles text)
      (run_items all run)
  adds_run all run =
      adds gathers writer writer.handles text (run_items all run)
      (λ front h. skips writer.handles front (run_items all run) (none_in_run all run) h)

  -- a message begins, and its mtype is in the text, which was empty
  pub opens : (s : MessageStart) (empty : ItemsText) → TextStands empty []
      → Adds TextStands empty text (Word (called "mtype") (word_of s.is_reply) ∷ [])
      → OpensMessage (LineRests gathers) (LineStands gathers) writer
      (record { handles = writer.handles; xid = s.xid; items = text; head = writer.head })
      (start_items s)
  unfolding Adds OpensMessage
  opens s empty none write all (front, are, is) = (
    front,
    start_items s,
    ap (λ (l : List Item). l ++ start_items s) are ∙ after_front-append front [] (start_items s),
    record {
      gathered = skips writer.handles front (start_items s) refl is;
      rest = Word (called "mtype") (word_of s.is_reply) ∷ [];
      begins = refl;
      text = write [] none;
    },
  )

pub keeps_text : {H : Type 0} (gathers : H → List Item → Type 0) (writer : LineWriter H)
    (text : ItemsText) → Keeps TextStands writer.items text
    → Keeps (LineStands gathers) writer (with_both gathers writer writer.handles text)
unfolding Keeps
keeps_text gathers writer text = kept_both gathers writer writer.handles text (λ items h. h)

-- a run that fails
pub run_kept : {H : Type 0} (gathers : H → List Item → Type 0) (writer : LineWriter H)
    (text : ItemsText) (items : List Item) → text ≡ writer.items
    → AddsSome (LineStands gathers) writer (with_both gathers writer writer.handles text) items
unfolding Keeps
run_kept gathers writer text items same =
    some_none (LineStands gathers) writer (with_both gathers writer writer.handles text) items
    (keeps_text gathers writer text (rw same (λ before h. h)))

-- ---- what a result says

pub writes_same : {X : Type 0} {old new : Option (List ℕ)} {text other : List ℕ}
    (result : Result X Error) → text ≡ other → WritesText old new text result
    → WritesText old new other result
writes_same {X} {old} {new} result same =
    subst (λ (l : List ℕ). WritesText old new l result) same

module _ {T E : Type 0} (result : Result T E) (P : Type 0) where
  pub told_ok : (x : T) → Ok x ≡ result → OnOk result P → P
  told_ok x is p = subst (λ (r : Result T E). OnOk r P) (sym is) p

  pub told_err : (e : E) → Err e ≡ result → OnErr result P → P
  told_err e is p = subst (λ (r : Result T E). OnErr r P) (sym is) p

-- ---- an entry's line

module _ {H : Type 0} (gathers : H → List Item → Type 0) (writer : LineWriter H)
    (entries : List Entry) where
  pub in_line : (items : List Item) → LineStands gathers writer (items_before entries ++ items)
      → LineStands gathers writer (after_front (all_items entries) items)
  in_line items =
      subst (LineStands gathers writer) (after_front-append (all_items entries) [] items)

  -- what is gathered once the entry was passed
  pub gathered_after : (one : Entry)
      → HasHeard (LineRests gathers) (LineStands gathers) writer (items_before entries) one
      → gathers writer.handles (all_items entries ++ items_of one)
  gathered_after (Call items) told =
      (is_after gathers writer (all_items entries) items (in_line items told)).gathered
  gathered_after (Reply id items) told =
      (is_after gathers writer (all_items entries) items (in_line items told)).gathered
  gathered_after _ told =
      rw append-nil (gathered_between gathers writer (all_items entries) told)

-- the text with its gap filled, and the end of the line
line_ends : (items : ItemsText) (rest : List Item) (gap : Option Gap) (text body back : List ℕ)
    → IsTextOfBody items rest back → text ≡ items.text ++ 10 ∷ [] → gap ≡ items.gap → body ≡ back
    → filled gap text body ≡ shown_items rest ++ 10 ∷ []
line_ends items rest gap text body back of text_is gap_is body_is =
    ap (λ g. filled g text body) gap_is
    ∙ (ap₂ (λ (t b : List ℕ). filled items.gap t b) text_is (body_is ∙ sym (append-nil back))
    ∙ (filled_more items.gap items.text (10 ∷ []) back [] of.within
    ∙ ap (λ (l : List ℕ). l ++ 10 ∷ []) of.shows))

pub is_line : {H : Type 0} (gathers : H → List Item → Type 0) (writer : LineWriter H)
    (connection : ℕ) (side : List ℕ) (number : ℕ) (id : ProcId) (front rest : List Item)
    (n : ℕ) (head text body : List ℕ) (gap : Option Gap) → Spells (Word (called "xid") n ∷ rest)
    body → length body < 2 ^ 64
    → LineStands gathers writer (after_front front (Word (called "xid") n ∷ rest))
    → head ≡ prefix connection side number ++ (xid_text writer.xid ++ (32 ∷ procedure_name id))
    → text ≡ writer.items.text ++ 10 ∷ [] → gap ≡ writer.items.gap
    → head ++ filled gap text (drop 4 body)
    ≡ line connection side number id (Word (called "xid") n ∷ rest)
is_line gathers writer connection side number id front rest n head text body gap
    (first, back, word, spells, split) few stands head_is text_is gap_is =
    let u = is_after gathers writer front (Word (called "xid") n ∷ rest) stands in
    let same : writer.xid ≡ n = cc (u.begins) in
    let after : u.rest ≡ rest = cc (u.begins) in
    let text_of = subst (TextStands writer.items) after u.text in
    let left : drop 4 body ≡ back =
    ap (drop 4) (split ∙ ap (λ (k : List ℕ). k ++ back) word.1) in
    let short : length back < 2 ^ 64 = omega (arith, few, ap length split, length-append first back)
    in
    composed connection side number n id rest head (filled gap text (drop 4 body))
    (head_is
    ∙ ap (λ k. prefix connection side number ++ (xid_text k ++ (32 ∷ procedure_name id)))
    same)
    (line_ends writer.items rest gap text (drop 4 body) back (text_of back spells short) text_is
    gap_is
    left)

module _ (P : Entry → Type 0) (entries : List Entry) (one : Entry) (kind : Kind)
    (of : IsOfKind kind one) (first : AreFirst (entries ++ one ∷ [])) where
  pub listed_call : (id : ProcId) → kind ≡ kinds.Call id
      → ((n : ℕ) (rest : List Item) → id ≡ procedure_in (Word (called "xid") n ∷ rest)
      → P (Call (Word (called "xid") n ∷ rest))) → P one
  listed_call id is p =
      let (items, asks, this) = subst (λ k. IsOfKind k one) is of in
      let h = is_headed_call items (subst IsLaidOut this (last_laid entries one first)) in
      subst P (sym this) (subst (λ (l : List Item). P (Call l)) (sym h.is)
      (p h.number ((h.start ++ h.head) ++ h.back) (asks ∙ ap procedure_in h.is)))

  pub listed_reply : (id : ProcId) → kind ≡ kinds.Reply id
      → ((n : ℕ) (rest : List Item) → P (Reply id (Word (called "xid") n ∷ rest))) → P one
  listed_reply id is p =
      let (items, this) = subst (λ k. IsOfKind k one) is of in
      let h = is_headed_reply id items (subst IsLaidOut this (last_laid entries one first)) in
      subst P (sym this) (subst (λ (l : List Item). P (Reply id l)) (sym h.is)
      (p h.number ((h.start ++ h.head) ++ h.back)))

  -- any other entry has none
  pub no_line : (kind ≡ kinds.Begin)
      ⊎ ((kind ≡ kinds.Turn) ⊎ ((kind ≡ kinds.Close) ⊎ (kind ≡ kinds.End))) → P Begin → P Turn
      → P Close → P End → P one
  no_line (inl is) p q r s =
      let this : one ≡ Begin = subst (λ k. IsOfKind k one) is of in
      subst P (sym this) p
  no_line (inr (inl is)) p q r s =
      let this : one ≡ Turn = subst (λ k. IsOfKind k one) is of in
      subst P (sym this) q
  no_line (inr (inr (inl is))) p q r s =
      let this : one ≡ Close = subst (λ k. IsOfKind k one) is of in
      subst P (sym this) r
  no_line (inr (inr (inr is))) p q r s =
      let this : one ≡ End = subst (λ k. IsOfKind k one) is of in
      subst P (sym this) s

-- the next record has a number of 32 bits
pub next_is_small : (progress : Progress) (entries : List Entry) (one : Entry)
    → HasPassed progress entries → length (entries ++ one ∷ []) < 2 ^ 32
    → progress.records + 1 < 2 ^ 32
next_is_small progress entries one passed few =
    omega (
      arith,
      few,
      passed.place.records_are,
      records_within 0 entries,
      length-append entries (one ∷ []),
    )

-- one entry more
pub listed_more : {H X : Type 0} (gathers : H → List Item → Type 0) (now : LineWriter H)
    (old between after : Option (List ℕ)) (progress : Progress) (entries : List Entry)
    (one : Entry) (r : Result X Error) → HasPassed progress entries
    → Appends old between (shown entries)
    → LineRests gathers now (items_before (entries ++ one ∷ []))
    → WritesText between after (entry_line progress.connections progress.records one) r
    → MatchResult r (λ _. always now × LineRests gathers now (items_before (entries ++ one ∷ []))
    × Appends old after (shown (entries ++ one ∷ [])))
    (λ _. AppendsFront old after (shown (entries ++ one ∷ [])))
listed_more gathers now old between after progress entries one (Ok x) came written stands more = (
  tt,
  stands,
  subst (Appends old after) (sym (shown_push entries one progress.connections progress.records
      came.place.connections_are came.place.records_are))
      (Appends-trans old between after (shown entries)
      (entry_line progress.connections progress.records one) written more.ok),
)
listed_more gathers now old between after progress entries one (Err e) came written stands more =
    front_of_second old between after (shown entries)
    (entry_line progress.connections progress.records one) (shown (entries ++ one ∷ []))
    (shown_push entries one progress.connections progress.records came.place.connections_are
    came.place.records_are) written more.err
