-- Messages with masked values and texts are messages of the same procedures, and no longer.
use Rattle.masking3.proofs.Common.{◌≡◌, ℕ, ◌<◌, ◌≤◌, ◌^◌, Bool, List, [], ◌∷◌, length, refl, sym, ap, ◌∙◌, arith, IsTrue, nat_eq, Option, None, Some, big_bytes, length-bytes_high_first, Item, Word, Hyper, Fixed, Text, Spells, SpellsItem, zero_spelling, zero_spelling_of, Layout, exactly, remaining, after, ProcId, procedure_in, called, arguments_of, Side, Client, Server, max_bytes, Decides-eqb, ⊤, none, more, Class, ItemSpot, InCall, InReply, Way, Keep, Zero, Number, Ways, class_of, class_of_word, class_value, by_way, is_zero_that_stays, masked_item, masked_items, substitute, with_value, with_text, text_by, raw_by, next_spot, way_of, Raw, Part, fixed_part, hyper_part, opaque_part, rest_part, size_part, word_part, write_verf_part, parts_weaker, call_head, reply_head, FitsCall, FitsReply, is_headed_call, is_headed_reply, reply_next, Shape, both, choose, fixed, hyper, linked, listed, nothing, opaque, sized, write_verf, before, IsEach, are_bytes_of_number, zero_spelled_one, cond_either, equivalence, length-with_keys}
use Rattle.canon3.proofs.Lemmas.Changes.Conversations.{IsLike}
use Rattle.canon3.proofs.Lemmas.Changes.Messages.{ChangesTo, HeadsStay, call_becomes, message_anew, procedure_becomes, reply_becomes}
use Rattle.canon3.proofs.Lemmas.Changes.Shapes.{Become, IsSpelledAnew, ItemStaysAsLong, RowTakes, Takes, WordStays, size_stays}
use Rattle.capture3.proofs.Lemmas.Connections.RankLemmas.{length-before}
use Rattle.masking3.proofs.Lemmas.Classes.SpotLemmas.{IsOn, on_next, xid_free}
use Rattle.masking3.proofs.Lemmas.Masked.MaskedLemmas.{unmasked}
use Rattle.masking3.proofs.Lemmas.Masked.MaskedShapes.{KeepsSize, RowTakesOn, TakesOn, TakesWord, arguments_take, call_head_takes, mtype_takes, reply_head_takes, reply_takes}
use Rattle.masking3.proofs.Lemmas.Unnamed.TextSpellings.{item_length, item_spelled, with_texts}
use Rattle.masking3.proofs.Lemmas.Unnamed.TextsLemmas.{text_shorter}

module _ (ways : Ways) (seen : Class → List ℕ) where
  -- ---- kinds and names stay

  word_with : (name : List ℕ) (n : ℕ) (o : Option ℕ)
      → (m : ℕ) × (with_value (Word name n) o ≡ Word name m)
  word_with name n None = (n, refl)
  word_with name n (Some m) = (m, refl)

  hyper_with : (name : List ℕ) (n : ℕ) (o : Option ℕ)
      → (m : ℕ) × (with_value (Hyper name n) o ≡ Hyper name m)
  hyper_with name n None = (n, refl)
  hyper_with name n (Some m) = (m, refl)

  fixed_with : (name bytes : List ℕ) (o : Option ℕ)
      → (b : List ℕ) × (with_value (Fixed name bytes) o ≡ Fixed name b)
  fixed_with name bytes None = (bytes, refl)
  fixed_with name bytes (Some m) = (big_bytes 8 m, refl)

  -- a word that is accepted becomes one that is, and chooses the same
  chosen : (spot : ItemSpot) (name : List ℕ) (accepted : ℕ → Bool) (next : ℕ → Shape)
      (o : Option Class)
      → class_of_word spot name ≡ o → TakesWord o accepted next → (n : ℕ) → IsTrue (accepted n)
      → (m : ℕ) × (masked_item ways seen spot (Word name n) ≡ Word name m) × IsTrue (accepted m)
      × (next m ≡ next n)
  chosen spot name accepted next None is takes n a =
      (n, unmasked ways seen spot (Word name n) is, a, refl)
  chosen spot name accepted next (Some d) is takes n a =
      let w = word_with name n (substitute ways seen (class_of_word spot name) n) in
      (w.0, w.1, takes.0 w.0, takes.1 w.0 ∙ sym (takes.1 n))

  -- ---- what an item becomes

  -- what stands for its value
  abbrev stands : ItemSpot → Item → Option ℕ
  stands spot i = substitute ways seen (class_of spot i) (class_value i)

  -- it is masked at some spot of the side, and then its text
  abbrev IsMasked : Side → Item → Item → Type 0
  IsMasked side i j =
      (spot : ItemSpot) × IsOn side spot × (j ≡ with_text ways (masked_item ways seen spot i))

  abbrev pub masks : ItemSpot → List Item → List Item
  masks spot items = with_texts ways (masked_items ways seen spot items)

  become_masked : (side : Side) (spot : ItemSpot) → IsOn side spot → (items : List Item)
      → Become (IsMasked side) items (masks spot items)
  become_masked side spot on [] = none
  become_masked side spot on (i ∷ items) =
      more (spot, on, refl) (become_masked side (next_spot spot i) (on_next side spot i on) items)

  -- ---- shapes

  module _ (side : Side) where
    abbrev IsFreeOn : List ℕ → Type 0
    IsFreeOn name = (spot : ItemSpot) → IsOn side spot → class_of_word spot name ≡ None

    word_stays : (name : List ℕ) → IsFreeOn name → WordStays (IsMasked side) name
    word_stays name free n j r =
        r.2 ∙ ap (with_text ways) (unmasked ways seen r.0 (Word name n) (free r.0 r.1))

    stays_as_long : (part : Part) → KeepsSize part
        → IsEach (ItemStaysAsLong (IsMasked side)) part
    stays_as_long (fixed_part name) h = absurd h
    stays_as_long (rest_part name) h = absurd h
    stays_as_long (opaque_part Text name max) h = λ bytes le j r. rw (r.2, h.0, h.1) refl
    stays_as_long (hyper_part name) h = λ n j r.
        let w = hyper_with name n (stands r.0 (Hyper name n)) in rw (r.2, w.1) (omega arith)
    stays_as_long (word_part name reason) h = λ n j r.
        let w = word_with name n (stands r.0 (Word name n)) in rw (r.2, w.1) (omega arith)
    stays_as_long (size_part name s) h = λ n j r.
        let w = word_with name n (stands r.0 (Word name n)) in rw (r.2, w.1) (omega arith)
    stays_as_long (opaque_part kind name max) h = λ bytes le j r. rw r.2 refl
    stays_as_long (write_verf_part name) h = λ bytes j r. rw r.2 refl

    module _ (start : ItemSpot) (on : IsOn side start) where
      takes : (s : Shape) → TakesOn side s → Takes (IsMasked side) s
      takes (choose name accepted reason next) h = (
        (λ n j a r.
            let w =
            chosen r.0 name accepted next (class_of_word r.0 name) refl (h r.0 r.1).0 n a in
            (w.0, r.2 ∙ ap (with_text ways) w.1, w.2, w.3)),
        (λ n. takes (next n) (λ t o. (h t o).1 n)),
      )
      takes (hyper name) h = λ n j r.
          let w = hyper_with name n (stands r.0 (Hyper name n)) in rw (r.2, w.1) (w.0, refl)
      takes (fixed name) h = λ bytes j r.
          let w = fixed_with name bytes (stands r.0 (Fixed name bytes)) in
          rw (r.2, w.1) (w.0, refl)
      takes (write_verf name) h = λ bytes j r. rw r.2 (bytes, refl)
      takes (opaque Text name max) h = λ bytes j le r.
          rw r.2 (text_by ways name bytes, omega (arith, le, text_shorter ways name bytes), refl)
      takes (opaque kind name max) h = λ bytes j le r. rw r.2 (bytes, le, refl)
      takes nothing h = tt
      takes (both a b) h = (takes a (λ t o. (h t o).0), takes b (λ t o. (h t o).1))
      takes (linked name s) h =
          (word_stays name (λ t o. (h t o).0), takes s (λ t o. (h t o).1))
      takes (sized name s) h = (
        word_stays name (λ t o. (h t o).0),
        size_stays (IsMasked side) s (parts_weaker KeepsSize
            (IsEach (ItemStaysAsLong (IsMasked side))) stays_as_long s (h start on).1),
        takes s (λ t o. (h t o).2),
      )

      row_takes : (layout : Layout) → RowTakesOn side layout → RowTakes (IsMasked side) layout
      row_takes (exactly s) h = takes s h
      row_takes (remaining name) h = λ bytes j r. (raw_by (way_of ways Raw) bytes, r.2)
      row_takes (after s next) h = absurd (h start on)

      starts : (types : List ℕ) → Takes (IsMasked side) (listed "mtype" types)
      starts types = takes (listed "mtype" types) (λ t o. mtype_takes t types)

    heads_stay : HeadsStay (IsMasked side)
    unfolding called
    heads_stay = record {
      prog = word_stays (called "prog") (λ t o. refl);
      vers = word_stays (called "vers") (λ t o. refl);
      proc = word_stays (called "proc") (λ t o. refl);
      reply_stat = word_stays (called "reply_stat") (λ t o. refl);
      accept_stat = word_stays (called "accept_stat") (λ t o. refl);
    }

  -- ---- calls and replies

  abbrev change : (side : Side) (spot : ItemSpot) → IsOn side spot
      → (x : ℕ) (items back : List Item)
      → items ≡ Word (called "xid") x ∷ back → ChangesTo (IsMasked side) items (masks spot items)
  change side spot on x items back is = record {
    first = record { name = (called "xid"); number = x; more = back; is = is };
    number = x;
    later = masks spot back;
    each = become_masked side spot on back;
    is = rw (
      is,
      unmasked ways seen spot (Word (called "xid") x) (xid_free.classless spot),
      xid_free.moves_not spot x,
    ) refl;
  }

  abbrev call_changes : (items : List Item) → FitsCall items
      → ChangesTo (IsMasked Client) items (masks InCall items)
  call_changes items p =
      let h = is_headed_call items p in change Client InCall tt h.number items _ h.is

  abbrev reply_changes : (id : ProcId) (items : List Item) → FitsReply id items
      → ChangesTo (IsMasked Server) items (masks InReply items)
  reply_changes id items p =
      let h = is_headed_reply id items p in change Server InReply tt h.number items _ h.is

  pub call_masked : (items : List Item) → FitsCall items → FitsCall (masks InCall items)
  call_masked items p =
      call_becomes (IsMasked Client) (heads_stay Client) (starts Client InCall tt)
      (takes Client InCall tt call_head call_head_takes)
      (λ id. row_takes Client InCall tt (arguments_of id) (λ t o. arguments_take t id)) items
      (masks InCall items) p (call_changes items p)

  pub procedure_masked : (items : List Item) → FitsCall items
      → procedure_in (masks InCall items) ≡ procedure_in items
  procedure_masked items p =
      procedure_becomes (IsMasked Client) (heads_stay Client) items (masks InCall items) p
      (call_changes items p)

  pub reply_masked : (id : ProcId) (items : List Item) → FitsReply id items
      → FitsReply id (masks InReply items)
  reply_masked id items p =
      reply_becomes (IsMasked Server) (heads_stay Server) (starts Server InReply tt)
      (takes Server InReply tt reply_head (λ t o. reply_head_takes t))
      (λ k l. row_takes Server InReply tt (reply_next k l) (λ t o. reply_takes t o k l)) id items
      (masks InReply items) p (reply_changes id items p)

  -- ---- spellings

  module _ (few : (d : Class) → length (seen d) ≤ max_bytes) where
    abbrev IsSmall : Option ℕ → Type 0
    IsSmall None = ⊤
    IsSmall (Some m) = m < 2 ^ 32

    way_small : (w : Way) (d : Class) (n : ℕ) → IsSmall (by_way w (seen d) d n)
    way_small Keep d n = tt
    way_small Zero d n = omega arith
    way_small Number d n =
        cond_either (λ (m : ℕ). m < 2 ^ 32) (is_zero_that_stays d n) (omega arith)
        (let same = equivalence nat_eq Decides-eqb in
        let fewer = length-before nat_eq same n (seen d) in
        omega (arith, few d, length-with_keys nat_eq same (before nat_eq n (seen d)) []))

    substitute_small : (o : Option Class) (n : ℕ) → IsSmall (substitute ways seen o n)
    substitute_small None n = tt
    substitute_small (Some d) n = way_small (way_of ways d) d n

    with_spelled : (i : Item) (bytes : List ℕ) (o : Option ℕ) → IsSmall o → SpellsItem i bytes
        → SpellsItem (with_value i o) (zero_spelling_of (with_value i o))
        × (length (zero_spelling_of (with_value i o)) ≡ length (zero_spelling_of i))
    with_spelled i bytes None low p = (zero_spelled_one i bytes p, refl)
    with_spelled (Word name n) bytes (Some m) low p = ((low, refl), omega arith)
    with_spelled (Hyper name n) bytes (Some m) low p = ((omega arith, refl), omega arith)
    with_spelled (Fixed name b) bytes (Some m) low p =
        ((length-bytes_high_first 8 m, are_bytes_of_number 8 m, refl), omega (arith, p.0))
    with_spelled i bytes (Some m) low p = (zero_spelled_one i bytes p, refl)

    is_spelled : (side : Side) → IsSpelledAnew (IsMasked side)
    is_spelled side i j bytes r p =
        let small = substitute_small (class_of r.0 i) (class_value i) in
        let w = with_spelled i bytes (stands r.0 i) small p in
        let k : Item = masked_item ways seen r.0 i in
        rw r.2 (
          item_spelled ways k (zero_spelling_of k) w.0,
          omega (arith, w.1, item_length ways k),
        )

    message_masked : (side : Side) (m n : List Item) (c : ChangesTo (IsMasked side) m n)
        → c.first.number ≡ c.number → Spells m (zero_spelling m) → IsLike (λ x. x) m n
    message_masked side m n c same p =
        let q = rw c.first.is at p in
        let low : c.number < 2 ^ 32 = rw same at q.2.0 in
        let a = message_anew (IsMasked side) (is_spelled side) m n (zero_spelling m) c low p in
        record { spelled = a.0; no_longer = a.1; xid = rw (c.is, c.first.is, same) refl }

    pub call_is_like : (m : List Item) → FitsCall m → Spells m (zero_spelling m)
        → IsLike (λ x. x) m (masks InCall m)
    call_is_like m p s = message_masked Client m (masks InCall m) (call_changes m p) refl s

    pub reply_is_like : (id : ProcId) (m : List Item) → FitsReply id m
        → Spells m (zero_spelling m) → IsLike (λ x. x) m (masks InReply m)
    reply_is_like id m p s =
        message_masked Server m (masks InReply m) (reply_changes id m p) refl s
