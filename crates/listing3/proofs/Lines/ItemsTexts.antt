-- One item more in a text of items.
use Rattle.listing3.proofs.Common.{◌≡◌, ℕ, ◌+◌, ◌%◌, ◌<◌, List, [], ◌∷◌, ◌++◌, length, take, drop, refl, sym, ap, ◌∙◌, subst, append_assoc, append-nil, arith, flat_map-append, encode_lower, encode_with, Item, Word, Hyper, Fixed, WriteVerf, Opaque, Rest, PlainField, run_items, opening, shown_item, shown_items, ◌^◌, Option, None, Some, drop-append-le, length-append, length-drop, take-append-le, take_all, drop_all, drop-append_seam, take-append_seam, Kind, Spells, Var, residue, word_bytes, run_size, Adds, Keeps, Gap, ItemsText, filled, HasData, IsTextOfBody, IsWithin, TextStands}
use Rattle.xdr3.proofs.Lemmas.Reading.Items.{Spells-single, Spells-split}
use Rattle.canon3.proofs.Lemmas.Writing.Noting.{bytes_fixed, hyper_fixed, opaque_size, plain_fixed, rest_fixed, word_fixed}

-- the text as it is
abbrev pub TextOf : List ℕ → List Item → Type 0
TextOf text items = text ≡ shown_items items

-- all spellings of the items have so many bytes
abbrev pub HasSize : List Item → (count : ℕ) → Type 0
HasSize items count = (bytes : List ℕ) → Spells items bytes → length bytes ≡ count

-- ---- text after a gap

within_more : (gap : Option Gap) (text more body rest : List ℕ) → IsWithin gap text body
    → IsWithin gap (text ++ more) (body ++ rest)
within_more None text more body rest within = tt
within_more (Some gap) text more body rest within = (
  omega (arith, within.0, length-append text more),
  omega (arith, within.1, length-append body rest),
)

pub filled_more : (gap : Option Gap) (text more body rest : List ℕ) → IsWithin gap text body
    → filled gap (text ++ more) (body ++ rest) ≡ filled gap text body ++ more
filled_more None text more body rest within = refl
filled_more (Some gap) text more body rest within =
    let front = take gap.at text in
    let back = drop gap.at text in
    let digits = encode_lower (take gap.len (drop gap.skipped body)) in
    let kept : take gap.len (drop gap.skipped (body ++ rest)) ≡ take gap.len (drop gap.skipped body)
    =
    ap (take gap.len) (drop-append-le gap.skipped body rest (omega (arith, within.1)))
    ∙ take-append-le gap.len (drop gap.skipped body) rest
    (omega (arith, within.1, length-drop gap.skipped body)) in
    rw (take-append-le gap.at text more within.0, drop-append-le gap.at text more within.0, kept)
    (ap (λ (l : List ℕ). front ++ l) (sym (append_assoc digits back more))
    ∙ sym (append_assoc front (digits ++ back) more))

-- ---- items whose text is there

module _ (old : ItemsText) (text : List ℕ) where
  pub adds_text : (seen count : ℕ) (more : List Item) → HasSize more count
      → Adds TextOf old.text text more → seen ≡ (old.seen + count) % 2 ^ 64
      → Adds TextStands old (record { text = text; seen = seen; gap = old.gap }) more
  unfolding Adds
  adds_text seen count more size write next items stands body spells few =
      let (a, b, front, back, split) = Spells-split items more body spells in
      let all : length (a ++ b) < 2 ^ 64 = subst (λ (k : List ℕ). length k < 2 ^ 64) split few in
      let o = stands a front (omega (arith, all, length-append a b)) in
      let is = write o.others o.text in
      let grown : text ≡ old.text ++ shown_items more =
      is
      ∙ (flat_map-append shown_item o.others more
      ∙ ap (λ (l : List ℕ). l ++ shown_items more) (sym o.text)) in
      let now : ItemsText = record { text = text; seen = seen; gap = old.gap } in
      subst (IsTextOfBody now (items ++ more)) (sym split) (record {
        others = o.others ++ more;
        text = is;
        shows =
            ap (λ (l : List ℕ). filled old.gap l (a ++ b)) grown
            ∙ (filled_more old.gap old.text (shown_items more) a b o.within
            ∙ (ap (λ (l : List ℕ). l ++ shown_items more) o.shows
            ∙ sym (flat_map-append shown_item items more)));
        within =
            subst (λ (l : List ℕ). IsWithin old.gap l (a ++ b)) (sym grown)
            (within_more old.gap old.text (shown_items more) a b o.within);
        seen = omega (arith, next, o.seen, size b back, length-append a b, all);
      })

  pub keeps_still : Keeps TextOf old.text text
      → Keeps TextStands old (record { text = text; seen = old.seen; gap = old.gap })
  unfolding Keeps
  keeps_still kept items stands body spells few =
      let o = stands body spells few in
      let same : text ≡ old.text = kept o.others o.text ∙ sym o.text in
      record {
        others = o.others;
        text = kept o.others o.text;
        shows = ap (λ (l : List ℕ). filled old.gap l body) same ∙ o.shows;
        within = subst (λ (l : List ℕ). IsWithin old.gap l body) (sym same) o.within;
        seen = o.seen;
      }

  -- ---- an item whose digits are left out

  pub adds_gap : (i : Item) (name bytes : List ℕ) (before size place skipped seen : ℕ)
      → HasData i name bytes before size → old.gap ≡ None
      → text ≡ old.text ++ opening name → place ≡ length text
      → skipped ≡ (old.seen + before) % 2 ^ 64 → seen ≡ (old.seen + size) % 2 ^ 64
      → Adds TextStands old
      (record {
        text = text;
        seen = seen;
        gap = Some (record { at = place; skipped = skipped; len = length bytes });
      }) (i ∷ [])
  unfolding Adds encode_with
  adds_gap i name bytes before size place skipped seen holds none grown last begins next items
      stands
      body spells few =
      let (a, b, front, back, split) = Spells-split items (i ∷ []) body spells in
      let all : length (a ++ b) < 2 ^ 64 = subst (λ (k : List ℕ). length k < 2 ^ 64) split few in
      let o = stands a front (omega (arith, all, length-append a b)) in
      let (word, residual, cut, start_is, size_is) = holds.spelled b back in
      let ahead = a ++ word in
      let left = bytes ++ residual in
      let whole : body ≡ ahead ++ left =
      split ∙ (ap (λ (l : List ℕ). a ++ l) cut ∙ sym (append_assoc a word left)) in
      let long : length body ≡ length a + length b = ap length split ∙ length-append a b in
      let within : length b ≡ length word + length left = ap length cut ∙ length-append word left in
      let start : skipped ≡ length ahead =
      omega (arith, begins, o.seen, start_is, long, within, few, length-append a word) in
      let kept : take (length bytes) (drop skipped body) ≡ bytes =
      ap (λ n. take (length bytes) (drop n body)) start
      ∙ (ap (λ (l : List ℕ). take (length bytes) (drop (length ahead) l)) whole
      ∙ (ap (take (length bytes)) (drop-append_seam ahead left)
      ∙ take-append_seam bytes residual)) in
      let so_far : old.text ≡ shown_items items =
      ap (λ g. filled g old.text a) (sym none) ∙ o.shows in
      record {
        others = o.others ++ Opaque Var name [] ∷ [];
        text =
            grown
            ∙ (ap (λ (l : List ℕ). l ++ opening name) o.text
            ∙ (ap (λ (l : List ℕ). shown_items o.others ++ l)
            (sym (append-nil (opening name ++ []) ∙ append-nil (opening name)))
            ∙ sym (flat_map-append shown_item o.others (Opaque Var name [] ∷ []))));
        shows =
            rw (
              take_all place text (omega (arith, last)),
              drop_all place text (omega (arith, last)),
              kept,
            )
            (ap (λ (l : List ℕ). text ++ l) (append-nil (encode_lower bytes))
            ∙ (ap (λ (l : List ℕ). l ++ encode_lower bytes)
            (grown ∙ ap (λ (l : List ℕ). l ++ opening name) so_far)
            ∙ (append_assoc (shown_items items) (opening name) (encode_lower bytes)
            ∙ (ap (λ (l : List ℕ). shown_items items ++ l)
            (sym holds.shown ∙ sym (append-nil (shown_item i)))
            ∙ sym (flat_map-append shown_item items (i ∷ []))))));
        within = (
          omega (arith, last),
          omega (
            arith,
            start,
            ap length whole,
            length-append ahead left,
            length-append bytes residual,
          ),
        );
        seen = omega (arith, next, o.seen, size_is, long, few);
      }

-- ---- no items

pub no_text : (of : ItemsText) → of.text ≡ [] → of.seen ≡ 0 → of.gap ≡ None → TextStands of []
no_text of text seen gap body none few = record {
  others = [];
  text = text;
  shows = ap (λ g. filled g of.text body) gap ∙ text;
  within = subst (λ g. IsWithin g of.text body) (sym gap) tt;
  seen = seen ∙ sym (ap length none);
}

-- ---- how many bytes spell items

pub word_size : (name : List ℕ) (n : ℕ) → HasSize (Word name n ∷ []) 4
word_size name n bytes spells = (word_fixed name n bytes spells).1

pub hyper_size : (name : List ℕ) (n : ℕ) → HasSize (Hyper name n ∷ []) 8
hyper_size name n bytes spells = (hyper_fixed name n bytes spells).1

pub fixed_size : (name b : List ℕ) → HasSize (Fixed name b ∷ []) 8
fixed_size name b bytes spells = (bytes_fixed name b bytes spells).1

pub verf_size : (name b : List ℕ) → HasSize (WriteVerf name b ∷ []) 8
verf_size name b bytes spells =
    let one = Spells-single (WriteVerf name b) bytes spells in
    ap length one.2 ∙ one.0

pub rest_size : (name b : List ℕ) → HasSize (Rest name b ∷ []) (length b)
rest_size name b bytes spells = (rest_fixed name b bytes spells).1

pub data_size : (kind : Kind) (name b : List ℕ) (count : ℕ)
    → count ≡ 4 + (length b + residue (length b)) → HasSize (Opaque kind name b ∷ []) count
data_size kind name b count is bytes spells =
    opaque_size kind name b bytes (Spells-single (Opaque kind name b) bytes spells) ∙ sym is

pub plain_size : (all : List PlainField) (run : List ℕ) (count : ℕ) → count ≡ run_size all
    → HasSize (run_items all run) count
plain_size all run count is bytes spells = (plain_fixed all run bytes spells).1 ∙ sym is

-- ---- where their data begin

pub var_data : (name bytes : List ℕ) (size : ℕ)
    → size ≡ 4 + (length bytes + residue (length bytes))
    → HasData (Opaque Var name bytes) name bytes 4 size
var_data name bytes size is = record {
  shown = refl;
  spelled = data_of;
}
  where
    data_of : (body : List ℕ) → Spells (Opaque Var name bytes ∷ []) body
        → (front : List ℕ) × (back : List ℕ) × (body ≡ front ++ (bytes ++ back))
        × (length front ≡ 4) × (length body ≡ size)
    data_of body spells =
        let one = Spells-single (Opaque Var name bytes) body spells in (
          word_bytes (length bytes),
          one.0,
          one.5,
          refl,
          opaque_size Var name bytes body one ∙ sym is,
        )

pub rest_data : (name bytes : List ℕ) → HasData (Rest name bytes) name bytes 0 (length bytes)
rest_data name bytes = record {
  shown = refl;
  spelled = data_of;
}
  where
    data_of : (body : List ℕ) → Spells (Rest name bytes ∷ []) body
        → (front : List ℕ) × (back : List ℕ) × (body ≡ front ++ (bytes ++ back))
        × (length front ≡ 0) × (length body ≡ length bytes)
    data_of body spells =
        let is = (Spells-single (Rest name bytes) body spells).1 in
        ([], [], is ∙ sym (append-nil bytes), refl, ap length is)

-- ---- text that was appended, and after an error

pub text_appended : (old new : List ℕ) (i : Item) → new ≡ old ++ shown_item i
    → Adds TextOf old new (i ∷ [])
unfolding Adds
text_appended old new i is items t =
    is
    ∙ (ap (λ (l : List ℕ). l ++ shown_item i) t
    ∙ sym (flat_map-append shown_item items (i ∷ [])
    ∙ ap (λ (l : List ℕ). shown_items items ++ l) (append-nil (shown_item i))))

-- what was appended is cut off
pub text_cut : (old between more new : List ℕ) (before : ℕ) → new ≡ take before between
    → before ≡ length old → between ≡ old ++ more → new ≡ old
text_cut old between more new before cut size is =
    cut
    ∙ (ap (λ n. take n between) size
    ∙ (ap (take (length old)) is ∙ take-append_seam old more))

pub same_text : (old new : List ℕ) → new ≡ old → Keeps TextOf old new
unfolding Keeps
same_text old new same items t = same ∙ t
