-- Messages: how they begin, and what is so of each of their items.
use Rattle.canon3.proofs.Common.{◌≡◌, ℕ, List, [], ◌∷◌, ◌++◌, refl, if◌then◌else◌, AllByRecursion, Item, Word, ProcId, call_head, reply_head, arguments_of, results_of}
use Rattle.xdr3.specs.Named.{listed}
use Rattle.xdr3.specs.Shape.{Shape, ◌then◌, both, nothing, Fits, word_named}
use Rattle.xdr3.specs.Layout.{Layout, exactly, after, FitsLayout}
use Rattle.xdr3.proofs.Lemmas.Shapes.ShapeParts.{HasParts, Part, RowHasParts, parts_weaker, row_weaker}
use Rattle.xdr3.specs.Item.{called}
use Rattle.rpc_head.specs.Messages.{procedure_in, start_of_type, call_layout, reply_layout, has_results}
use Rattle.procs3.proofs.HeadParts.{call_head_parts, reply_head_parts, start_parts}
use Rattle.procs3.proofs.ProcedureParts.{IsProtocolRow, arguments_have_parts, reply_has_parts}
use Rattle.procs3.proofs.ProtocolParts.{AreProtocolParts, IsProtocolPart}
use Rattle.canon3.proofs.Lemmas.WellFormed.Items.{all_in_message, short_part, IsEach, IsShort}

-- ---- a layout whose first word is any

module _ (name : List ℕ) (s t : Shape) (next : List Item → Layout) where
  abbrev headed : Layout
  headed = after (both (both (word_named name) s) t) next

  pub record IsHeaded (items : List Item) : Type 0 where
    pub number : ℕ
    pub start : List Item
    pub head : List Item
    pub back : List Item
    pub start_fits : Fits s start
    pub head_fits : Fits t head
    pub back_fits : FitsLayout (next (Word name number ∷ (start ++ head))) back
    pub is : items ≡ Word name number ∷ ((start ++ head) ++ back)

  pub is_headed : (items : List Item) → FitsLayout headed items → IsHeaded items
  is_headed items p =
      let first = p.2 in
      let w = first.2 in
      let f : p.0 ≡ Word name w.2.0 ∷ (w.1 ++ first.1) = rw (first.4, w.4, w.2.4, w.2.3) refl in
      record {
        number = w.2.0;
        start = w.1;
        head = first.1;
        back = p.1;
        start_fits = w.3;
        head_fits = first.3;
        back_fits = rw f at p.3;
        is = rw (p.4, f) refl;
      }

  pub headed_fits : (items : List Item) → IsHeaded items → FitsLayout headed items
  headed_fits items h = (
    Word name h.number ∷ (h.start ++ h.head),
    h.back,
    (
      Word name h.number ∷ h.start,
      h.head,
      (Word name h.number ∷ [], h.start, (h.number, [], refl, refl, refl), h.start_fits, refl),
      h.head_fits,
      refl,
    ),
    h.back_fits,
    h.is,
  )

-- ---- calls and replies

abbrev pub call_next : List Item → Layout
call_next items = arguments_of (procedure_in items)

abbrev pub IsHeadedCall : List Item → Type 0
IsHeadedCall items =
    IsHeaded (called "xid") (listed "mtype" (0 ∷ [])) call_head call_next items

abbrev pub reply_next : ProcId → List Item → Layout
reply_next id items = if has_results items then results_of id else exactly nothing

abbrev pub IsHeadedReply : ProcId → List Item → Type 0
IsHeadedReply id items =
    IsHeaded (called "xid") (listed "mtype" (1 ∷ [])) reply_head (reply_next id) items

abbrev pub FitsCall : List Item → Type 0
FitsCall items = FitsLayout (call_layout arguments_of) items

abbrev pub FitsReply : ProcId → List Item → Type 0
FitsReply id items = FitsLayout (reply_layout (results_of id)) items

pub is_headed_call : (items : List Item) → FitsCall items → IsHeadedCall items
unfolding call_layout start_of_type
is_headed_call items p =
    is_headed (called "xid") (listed "mtype" (0 ∷ [])) call_head call_next items p

pub headed_call_fits : (items : List Item) → IsHeadedCall items → FitsCall items
unfolding call_layout start_of_type
headed_call_fits items p =
    headed_fits (called "xid") (listed "mtype" (0 ∷ [])) call_head call_next items p

pub is_headed_reply : (id : ProcId) (items : List Item) → FitsReply id items
    → IsHeadedReply id items
unfolding reply_layout start_of_type
is_headed_reply id items p =
    is_headed (called "xid") (listed "mtype" (1 ∷ [])) reply_head (reply_next id) items p

pub headed_reply_fits : (id : ProcId) (items : List Item) → IsHeadedReply id items
    → FitsReply id items
unfolding reply_layout start_of_type
headed_reply_fits id items p =
    headed_fits (called "xid") (listed "mtype" (1 ∷ [])) reply_head (reply_next id) items p

-- ---- what is so of each item of a message

module _ (P : Item → Type 0) (each : (part : Part) → IsProtocolPart part → IsEach P part) where
  each_fitting : (s : Shape) → AreProtocolParts s → HasParts (IsEach P) s
  each_fitting s h = parts_weaker IsProtocolPart (IsEach P) each s h

  each_in_row : (layout : Layout) → IsProtocolRow layout → RowHasParts (IsEach P) layout
  each_in_row layout h = row_weaker IsProtocolPart (IsEach P) each layout h

  pub each_of_call : ((version : ℕ) → P (Word (called "rpcvers") version)) → (items : List Item)
      → FitsCall items → AllByRecursion P items
  unfolding call_layout
  each_of_call version items p =
      all_in_message P (start_of_type 0 then call_head) call_next items
      (each_fitting (start_of_type 0) (start_parts 0), call_head_parts (IsEach P) each version)
      (λ front. each_in_row (call_next front) (arguments_have_parts (procedure_in front))) p

  pub each_of_reply : (id : ProcId) (items : List Item) → FitsReply id items
      → AllByRecursion P items
  unfolding reply_layout
  each_of_reply id items p =
      all_in_message P (start_of_type 1 then reply_head) (reply_next id) items
      (each_fitting (start_of_type 1 then reply_head) (start_parts 1, reply_head_parts))
      (λ front. each_in_row (reply_next id front) (reply_has_parts id front)) p

each_short : (part : Part) → IsProtocolPart part → IsEach IsShort part
each_short part is = short_part part is.room

pub call_short : (items : List Item) → FitsCall items → AllByRecursion IsShort items
call_short items p = each_of_call IsShort each_short (λ version. tt) items p

pub reply_short : (id : ProcId) (items : List Item) → FitsReply id items
    → AllByRecursion IsShort items
reply_short id items p = each_of_reply IsShort each_short id items p

-- ---- what begins with a word

-- the first item is a word, and what is after it
pub record BeginsWithWord (items : List Item) : Type 0 where
  pub name : List ℕ
  pub number : ℕ
  pub more : List Item
  pub is : items ≡ Word name number ∷ more

pub call_begins : (items : List Item) → FitsCall items → BeginsWithWord items
call_begins items p = record { name = _; number = _; more = _; is = (is_headed_call items p).is }

pub reply_begins : (id : ProcId) (items : List Item) → FitsReply id items → BeginsWithWord items
reply_begins id items p =
    record { name = _; number = _; more = _; is = (is_headed_reply id items p).is }
