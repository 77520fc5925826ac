-- Each visit adds its item to the message, and notes what it becomes with numbers.
use Rattle.canon3.proofs.Common.{◌≡◌, ◌≢◌, ℕ, ◌+◌, ◌<◌, ◌≤◌, ◌^◌, List, [], ◌∷◌, ◌++◌, drop, length, length-append, append_assoc, append-nil, refl, sym, ap, ap₂, ◌∙◌, subst, arith, min, Result, Ok, Err, Bool, true, Decides, AllByRecursion, flat_map, flat_map-append, Decides-eqb, bytes_eq-Decides, PlainField, run_items, run_size, Adds, MessageWriter, numbered_item, items_after, HoldsHandles, here, number_limit, rank, HoldsDistinct, handle_in, verifier_in, handles_in, verifiers_in, bytes_eq, OnOk, ◌==◌, big_bytes, Noted, IsPlain}
use Rattle.std.proofs.lemmas.List.{nil_from_length}
use Rattle.xdr3.specs.declared.plain.PlainField.TheVariants as fields
use Rattle.xdr3.specs.View.{word_of}
use Rattle.rpc_head.specs.MessageStart.{start_items}
use Rattle.rpc_head.specs.declared.values.message_start.MessageStart.{MessageStart}
use Rattle.capture3.specs.MessageVisit.{OpensMessage}
use Rattle.xdr3.specs.Item.{Item, Fixed, Hyper, Word, WriteVerf, Opaque, Rest, Kind, Handle, residue, word_bytes, called}
use Rattle.nfs3_types.specs.declared.values.handle.Handle as declared
use Rattle.canon3.specs.machinery.MessageWriter.{AreFew, Before, IsNotedAs, IsNotedMessage, in_front_of, items_of_writer, WriterRests, WriterStands}
use Rattle.canon3.proofs.Lemmas.Canonical.CanonicalStreamLemmas.{items_after-push}
use Rattle.canon3.proofs.Lemmas.Canonical.OneFormLemmas.{plain_handle, plain_verifier, plain_numbered}
use Rattle.canon3.proofs.Lemmas.Numbers.RankLemmas.{member-append_right, rank-le-length}
use Rattle.canon3.proofs.Lemmas.Writing.Noting.{ClearsRun, KeepsRun, Notes, ReplacesRun, bytes_fixed, hyper_fixed, noted_none, notes_handle, notes_kept, notes_padded, notes_verifier, plain_fixed, rest_fixed, run_fixed, word_fixed}

pub is_none : (l : List ℕ) (b : Bool) → b ≡ (length l == 0) → b ≡ true → l ≡ []
is_none l b e t = nil_from_length l ((Decides-eqb (length l) 0).0 (sym e ∙ t))

-- ---- items in front of a message's own

listed-append : (xs : List (List ℕ)) (items more : List Item)
    → in_front_of xs (items ++ more) ≡ in_front_of xs items ++ more
listed-append [] items more = refl
listed-append (x ∷ xs) items more =
    ap (λ (l : List Item). Rest [] x ∷ l) (listed-append xs items more)

pub items_of_writer-append : (before : Before) (items more : List Item)
    → items_of_writer before (items ++ more) ≡ items_of_writer before items ++ more
items_of_writer-append before items more =
    ap (in_front_of before.handles) (listed-append before.verifiers items more)
    ∙ listed-append before.handles (in_front_of before.verifiers items) more

listed-same : (xs ys : List (List ℕ)) (items more : List Item)
    → in_front_of xs items ≡ in_front_of ys more → (xs ≡ ys) × (items ≡ more)
listed-same [] [] items more e = (refl, cc)
listed-same [] (y ∷ ys) items more e = absurd cc
listed-same (x ∷ xs) [] items more e = absurd cc
listed-same (x ∷ xs) (y ∷ ys) items more e =
    let tails : in_front_of xs items ≡ in_front_of ys more = cc in
    let r = listed-same xs ys items more tails in
    let head : x ≡ y = cc in
    (ap₂ (λ a (b : List (List ℕ)). a ∷ b) head r.0, r.1)

-- the items in front tell all
pub items_of_writer-same : (a b : Before) (items more : List Item)
    → items_of_writer a items ≡ items_of_writer b more → (a ≡ b) × (items ≡ more)
items_of_writer-same a b items more e =
    let h = listed-same a.handles b.handles _ _ e in
    let v = listed-same a.verifiers b.verifiers items more h.1 in
    let handles : a.handles ≡ b.handles = h.0 in
    let verifiers : a.verifiers ≡ b.verifiers = v.0 in
    (λ i. record { handles = handles i; verifiers = verifiers i }, v.1)

-- ---- one more item

values-push : (f : Item → List (List ℕ)) (l : List (List ℕ)) (items : List Item) (i : Item)
    → l ++ flat_map f (items ++ i ∷ []) ≡ (l ++ flat_map f items) ++ f i
values-push f l items i = simp (flat_map-append, append_assoc, append-nil)

few_before : (f : Item → List (List ℕ)) (l : List (List ℕ)) (items more : List Item)
    → length (l ++ flat_map f (items ++ more)) < 2 ^ 32 → length (l ++ flat_map f items) < 2 ^ 32
few_before f l items more few =
    let all = simp (flat_map-append, length-append) at few in
    simp length-append (omega arith)

are_few_before : (hs vs : List (List ℕ)) (items more : List Item)
    → AreFew (hs ++ handles_in (items ++ more)) (vs ++ verifiers_in (items ++ more))
    → AreFew (hs ++ handles_in items) (vs ++ verifiers_in items)
are_few_before hs vs items more few =
    (few_before handle_in hs items more few.0, few_before verifier_in vs items more few.1)

notes_more : (old new : Noted) (before : Before) (items : List Item) (i j : Item)
    → (AreFew (before.handles ++ handles_in (items ++ i ∷ []))
    (before.verifiers ++ verifiers_in (items ++ i ∷ []))
    → j
    ≡ numbered_item ((before.handles ++ handles_in items) ++ handle_in i)
    ((before.verifiers ++ verifiers_in items) ++ verifier_in i) i)
    → Notes old new (i ∷ []) (j ∷ []) → IsNotedMessage old before items
    → IsNotedMessage new before (items ++ i ∷ [])
notes_more old new before items i j is notes noted few =
    subst (λ (l : List Item). IsNotedAs new (items ++ i ∷ []) l)
    (ap (λ k. items_after before.handles before.verifiers items ++ k ∷ []) (is few)
    ∙ sym (items_after-push items before.handles before.verifiers i))
    (notes items (items_after before.handles before.verifiers items)
    (noted (are_few_before before.handles before.verifiers items (i ∷ []) few)))

module _ {S H : Type 0} (old new : MessageWriter S H) (i : Item) where
  -- what a visit keeps, besides its writing
  pub record Follows : Type 0 where
    pub handles : (hs : List (List ℕ)) → HoldsHandles old.handles hs
        → HoldsHandles new.handles (hs ++ handle_in i)
    pub verifiers : (vs : List (List ℕ)) → HoldsDistinct bytes_eq old.verfs vs
        → HoldsDistinct bytes_eq new.verfs (vs ++ verifier_in i)

  -- the item with its number is written
  pub adds : (j : Item) → Follows → new.failed ≡ old.failed
      → ((hs vs : List (List ℕ)) → HoldsHandles old.handles hs → HoldsDistinct bytes_eq old.verfs vs
      → AreFew (hs ++ handle_in i) (vs ++ verifier_in i)
      → j ≡ numbered_item (hs ++ handle_in i) (vs ++ verifier_in i) i)
      → Notes old.patches new.patches (i ∷ []) (j ∷ []) → Adds WriterStands old new (i ∷ [])
  unfolding Adds
  adds j f failed is notes all stands going =
      let b = stands (sym failed ∙ going) in
      let u = b.under_way in
      let hs = b.before.handles ++ handles_in u.rest in
      let vs = b.before.verifiers ++ verifiers_in u.rest in
      record {
        before = b.before;
        items = b.items ++ i ∷ [];
        are =
            ap (λ (l : List Item). l ++ i ∷ []) b.are
            ∙ sym (items_of_writer-append b.before b.items (i ∷ []));
        under_way = record {
          name = u.name;
          xid = u.xid;
          rest = u.rest ++ i ∷ [];
          begins = ap (λ (l : List Item). l ++ i ∷ []) u.begins;
          handles = rw (values-push handle_in b.before.handles u.rest i) (f.handles hs u.handles);
          verifiers =
              rw (values-push verifier_in b.before.verifiers u.rest i) (f.verifiers vs u.verifiers);
          noted =
              notes_more old.patches new.patches b.before u.rest i j
              (λ few. is hs vs u.handles u.verifiers (rw (
                values-push handle_in b.before.handles u.rest i,
                values-push verifier_in b.before.verifiers u.rest i,
              ) at few))
              notes u.noted;
        };
      }

-- a number of a table that is not full
uncapped : {K : Type 0} (same : K → K → Bool) → ((x y : K) → Decides (same x y) (x ≡ y))
    → (l : List K) (x : K) (n : ℕ) → length (l ++ x ∷ []) < 2 ^ 32
    → n ≡ min (rank same x (l ++ x ∷ [])) number_limit → n ≡ rank same x (l ++ x ∷ [])
uncapped same decides l x n few e =
    let within : rank same x (l ++ x ∷ []) ≤ length (l ++ x ∷ []) =
    rank-le-length same decides (member-append_right l here) in
    omega arith

-- ---- items as they are

module _ {S H : Type 0} (n : MessageWriter S H) (noted : Noted) where
  abbrev pub with_patches : MessageWriter S H
  with_patches = record n { patches = noted }

  follows_plain : (i : Item) → IsPlain i → Follows n with_patches i
  follows_plain i plain = record {
    handles = λ hs h. rw (plain_handle i plain, append-nil hs) h;
    verifiers = λ vs h. rw (plain_verifier i plain, append-nil vs) h;
  }

  adds_plain : (i : Item) → IsPlain i → Notes n.patches noted (i ∷ []) (i ∷ [])
      → Adds WriterStands n with_patches (i ∷ [])
  adds_plain i plain =
      adds n with_patches i i (follows_plain i plain) refl
      (λ hs vs h g few. sym (plain_numbered (hs ++ handle_in i) (vs ++ verifier_in i) i plain))

  pub adds_word : (name : List ℕ) (x : ℕ) → KeepsRun n.patches noted 4
      → Adds WriterStands n with_patches (Word name x ∷ [])
  adds_word name x keeps =
      adds_plain (Word name x) tt
      (notes_kept n.patches noted (Word name x ∷ []) 4 (word_fixed name x) keeps)

  pub adds_hyper : (name : List ℕ) (x : ℕ) → KeepsRun n.patches noted 8
      → Adds WriterStands n with_patches (Hyper name x ∷ [])
  adds_hyper name x keeps =
      adds_plain (Hyper name x) tt
      (notes_kept n.patches noted (Hyper name x ∷ []) 8 (hyper_fixed name x) keeps)

  pub adds_fixed : (name bytes : List ℕ) → KeepsRun n.patches noted 8
      → Adds WriterStands n with_patches (Fixed name bytes ∷ [])
  adds_fixed name bytes keeps =
      adds_plain (Fixed name bytes) tt
      (notes_kept n.patches noted (Fixed name bytes ∷ []) 8 (bytes_fixed name bytes) keeps)

  pub adds_rest : (name bytes : List ℕ) → KeepsRun n.patches noted (length bytes)
      → Adds WriterStands n with_patches (Rest name bytes ∷ [])
  adds_rest name bytes keeps =
      adds_plain (Rest name bytes) tt
      (notes_kept n.patches noted
      (Rest name bytes ∷ []) (length bytes) (rest_fixed name bytes) keeps)

  -- a run without residual bytes, and one with some
  pub adds_whole_run : (kind : Kind) (name bytes : List ℕ) (len count : ℕ)
      → IsPlain (Opaque kind name bytes) → length bytes ≡ len → count ≡ residue len → count ≡ 0
      → KeepsRun n.patches noted (4 + len)
      → Adds WriterStands n with_patches (Opaque kind name bytes ∷ [])
  adds_whole_run kind name bytes len count plain size is none keeps =
      adds_plain (Opaque kind name bytes) plain
      (notes_kept n.patches noted (Opaque kind name bytes ∷ []) (4 + length bytes)
      (run_fixed kind name bytes (ap residue size ∙ (sym is ∙ none)))
      (subst (λ k. KeepsRun n.patches noted (4 + k)) (sym size) keeps))

  pub adds_padded_run : (mid : Noted) (kind : Kind) (name bytes : List ℕ) (len count : ℕ)
      → IsPlain (Opaque kind name bytes) → length bytes ≡ len → count ≡ residue len
      → KeepsRun n.patches mid (4 + len)
      → ClearsRun mid noted count
      → Adds WriterStands n with_patches (Opaque kind name bytes ∷ [])
  adds_padded_run mid kind name bytes len count plain size is keeps clears =
      adds_plain (Opaque kind name bytes) plain
      (notes_padded n.patches mid noted kind name bytes
      (subst (λ k. KeepsRun n.patches mid (4 + k)) (sym size) keeps)
      (subst (ClearsRun mid noted) (is ∙ ap residue (sym size)) clears))

  -- the empty handle stays
  pub adds_empty_handle : (name handle : List ℕ) → handle ≡ [] → KeepsRun n.patches noted 4
      → Adds WriterStands n with_patches (Opaque Handle name handle ∷ [])
  adds_empty_handle name [] none keeps =
      adds_plain (Opaque Handle name []) tt
      (notes_kept n.patches
      noted (Opaque Handle name [] ∷ []) 4 (run_fixed Handle name [] refl) keeps)
  adds_empty_handle name (b ∷ bs) none keeps = absurd cc

-- ---- the start

module _ {S H : Type 0} (n : MessageWriter S H) (noted : Noted) where
  -- the xid is passed over, and the mtype stays
  pub opens : (s : MessageStart) → KeepsRun n.patches noted 4
      → OpensMessage WriterRests WriterStands n (with_patches n noted) (start_items s)
  unfolding OpensMessage
  opens s keeps all rests going =
      let b = rests going in
      let mtype = Word (called "mtype") (word_of s.is_reply) in
      record {
        before = b.before;
        items = start_items s;
        are =
            ap (λ (l : List Item). l ++ start_items s) b.are
            ∙ sym (items_of_writer-append b.before [] (start_items s));
        under_way = record {
          name = (called "xid");
          xid = s.xid;
          rest = mtype ∷ [];
          begins = refl;
          handles = rw append-nil b.holds.handles;
          verifiers = rw append-nil b.holds.verifiers;
          noted =
              λ few. notes_kept n.patches noted (mtype ∷ []) 4
              (word_fixed (called "mtype") (word_of s.is_reply)) keeps [] []
              (noted_none n.patches b.fresh);
        };
      }

-- ---- runs of plain fields

items_after-plain : (l more : List Item) (hs vs : List (List ℕ)) → AllByRecursion IsPlain more
    → items_after hs vs (l ++ more) ≡ items_after hs vs l ++ more
items_after-plain [] [] hs vs all = refl
items_after-plain [] (i ∷ more) hs vs all =
    rw (
      plain_numbered (hs ++ handle_in i) (vs ++ verifier_in i) i all.0,
      items_after-plain [] more (hs ++ handle_in i) (vs ++ verifier_in i) all.1,
    )
items_after-plain (j ∷ l) more hs vs all =
    rw (items_after-plain l more (hs ++ handle_in j) (vs ++ verifier_in j) all)

no_values : (f : Item → List (List ℕ)) → ((i : Item) → IsPlain i → f i ≡ []) → (l : List Item)
    → AllByRecursion IsPlain l → flat_map f l ≡ []
no_values f none [] all = refl
no_values f none (i ∷ l) all = rw (none i all.0) (no_values f none l all.1)

same_values : (f : Item → List (List ℕ)) → ((i : Item) → IsPlain i → f i ≡ [])
    → (l more : List Item) → AllByRecursion IsPlain more → flat_map f (l ++ more) ≡ flat_map f l
same_values f none l more all =
    rw (flat_map-append f l more, no_values f none more all, append-nil)

all_plain : (all : List PlainField) (run : List ℕ) → AllByRecursion IsPlain (run_items all run)
all_plain [] run = tt
all_plain (fields.Word name ∷ all) run = (tt, all_plain all (drop 4 run))
all_plain (fields.Hyper name ∷ all) run = (tt, all_plain all (drop 8 run))

module _ {S H : Type 0} (n : MessageWriter S H) (noted : Noted) where
  -- a run stays as it is
  pub adds_run : (all : List PlainField) (run : List ℕ) (count : ℕ) → count ≡ run_size all
      → KeepsRun n.patches noted count
      → Adds WriterStands n (with_patches n noted) (run_items all run)
  unfolding Adds
  adds_run all run count size keeps observed stands going =
      let b = stands going in
      let u = b.under_way in
      let more = run_items all run in
      let plain = all_plain all run in
      let notes =
      notes_kept n.patches noted more (run_size all) (plain_fixed all run)
      (subst (KeepsRun n.patches noted) size keeps) in
      let hs = b.before.handles in
      let vs = b.before.verifiers in
      record {
        before = b.before;
        items = b.items ++ more;
        are =
            ap (λ (l : List Item). l ++ more) b.are
            ∙ sym (items_of_writer-append b.before b.items more);
        under_way = record {
          name = u.name;
          xid = u.xid;
          rest = u.rest ++ more;
          begins = ap (λ (l : List Item). l ++ more) u.begins;
          handles = rw (same_values handle_in plain_handle u.rest more plain) u.handles;
          verifiers = rw (same_values verifier_in plain_verifier u.rest more plain) u.verifiers;
          noted =
              λ few. subst (λ (l : List Item). IsNotedAs noted (u.rest ++ more) l)
              (sym (items_after-plain u.rest more hs vs plain))
              (notes u.rest (items_after hs vs u.rest)
              (u.noted (are_few_before hs vs u.rest more few)));
        };
      }

-- ---- numbers in place of values

module _ {S H : Type 0} (n : MessageWriter S H) (noted : Noted) where
  pub adds_handle : (table : List declared.Handle) (handle put : List ℕ) (number : ℕ) → handle ≢ []
      → ((hs : List (List ℕ)) → HoldsHandles n.handles hs
      → number ≡ min (rank bytes_eq handle (hs ++ handle ∷ [])) number_limit)
      → ((hs : List (List ℕ)) → HoldsHandles n.handles hs → HoldsHandles table (hs ++ handle ∷ []))
      → put ≡ word_bytes 4 ++ word_bytes number
      → ReplacesRun n.patches noted (4 + (length handle + residue (length handle))) put
      → (name : List ℕ)
      → Adds WriterStands n
      (record n { handles = table; patches = noted }) (Opaque Handle name handle ∷ [])
  adds_handle table [] put number some is given is_put replaces name = absurd (some refl)
  adds_handle table (b ∷ bs) put number some is given is_put replaces name =
      adds n
      (record n { handles = table; patches = noted }) (Opaque Handle name (b ∷ bs))
      (Opaque Handle name (word_bytes number))
      (record {
        handles = given;
        verifiers = λ vs h. rw append-nil h;
      })
      refl
      (λ hs vs h g few.
      ap (λ k. Opaque Handle name (word_bytes k))
      (uncapped bytes_eq bytes_eq-Decides hs (b ∷ bs) number few.0 (is hs h)))
      (notes_handle n.patches noted name (b ∷ bs) put (word_bytes number) refl is_put replaces)

  pub adds_verifier : (table : List (List ℕ)) (verifier put : List ℕ) (number : ℕ)
      → ((vs : List (List ℕ)) → HoldsDistinct bytes_eq n.verfs vs
      → number ≡ min (rank bytes_eq verifier (vs ++ verifier ∷ [])) number_limit)
      → ((vs : List (List ℕ)) → HoldsDistinct bytes_eq n.verfs vs
      → HoldsDistinct bytes_eq table (vs ++ verifier ∷ []))
      → put ≡ big_bytes 8 number → ReplacesRun n.patches noted 8 put → (name : List ℕ)
      → Adds WriterStands n
      (record n { verfs = table; patches = noted }) (WriteVerf name verifier ∷ [])
  adds_verifier table verifier put number is given is_put replaces name =
      adds n
      (record n { verfs = table; patches = noted }) (WriteVerf name verifier) (WriteVerf name put)
      (record {
        handles = λ hs h. rw append-nil h;
        verifiers = given;
      }) refl
      (λ hs vs h g few.
      ap (WriteVerf name) (is_put
      ∙ ap (big_bytes 8)
      (uncapped bytes_eq bytes_eq-Decides vs verifier number few.1 (is vs g))))
      (notes_verifier n.patches noted name verifier put replaces)

-- ---- after errors

pub settled : {T E V : Type 0} (P : V → Type 0) (written result : Result T E) (between new : V)
    → result ≡ written → OnOk written (new ≡ between) → OnOk written (P between)
    → OnOk result (P new)
settled P (Ok x) result between new same stays p = rw same (subst P (sym stays) p)
settled P (Err e) result between new same stays p = rw same tt
