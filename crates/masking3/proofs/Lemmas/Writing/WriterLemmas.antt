-- A message is masked item by item.
use Rattle.masking3.proofs.Common.{HasMaskedUnderWay, ◌≡◌, ℕ, List, [], ◌∷◌, ◌++◌, length, map, refl, sym, ap, ap₂, ◌∙◌, subst, append_assoc, append-nil, arith, Option, None, Some, flat_map, flat_map-append, map-append, Item, Word, Hyper, zero_spelling, Side, Client, Entry, Begin, Call, Turn, Reply, Close, End, items_of, called, ItemSpot, Ways, Class, class_of, class_value, masked_item, masked_items, substitute, value_in, value_where, values_in, with_value, with_text, HoldsAt, HoldsValues, position, with_one, handle_in, handles_in, member-append_right, BeginsOn, first_spot, next_spot, side_by, spot_after, Adds, Keeps, Gathers, HoldsHandles, after_messages, HoldsMasked, HasMemory, MaskRests, MaskStands, visited_items, visited_value, values_so_far}
use Rattle.nfs3_types.specs.declared.values.handle.Handle as handles
use Rattle.canon3.proofs.Lemmas.Numbers.HandleTableLemmas.{gathers_none}
use Rattle.masking3.specs.declared.values.class_tables.ClassTables.{ClassTables}
use Rattle.masking3.specs.declared.masking_writer.MaskingWriter.{MaskingWriter}
use Rattle.std.proofs.lemmas.List.Sums.{fold-append}
use Rattle.std.specs.Option.{unwrap_or}
use Rattle.masking3.proofs.Lemmas.Classes.ClassLemmas.{holds_without, seen_alike}
use Rattle.capture3.specs.MessageVisit.{HasHeard, OpensMessage}
use Rattle.rpc_head.specs.MessageStart.{start_items}
use Rattle.rpc_head.specs.declared.values.message_start.MessageStart.{MessageStart}
use Rattle.masking3.proofs.Lemmas.Classes.KnownFieldLemmas.{AllStay, free_stays, kept_handles, kept_put, kept_spot, kept_values}
use Rattle.masking3.proofs.Lemmas.Classes.MessageSpotLemmas.{IsBegun, begins_more, entry_side, mtype_by, one_side}
use Rattle.masking3.proofs.Lemmas.Classes.SpotLemmas.{IsNoWord, masked_items-append, mtype_free, still_after, values_in-append, xid_free}
use Rattle.masking3.proofs.Lemmas.Masked.MaskedLemmas.{ItemsAreAmong, items_among, items_stay}
use Rattle.masking3.proofs.Lemmas.Writing.VisitedItems.{visited_handles, visited_values}

-- the bytes spell the items
abbrev pub Spells : List ℕ → List Item → Type 0
Spells bytes items = bytes ≡ zero_spelling items

-- a number with what replaces it
pub word_with : (ways : Ways) (name : List ℕ) (v n m : ℕ) (o : Option ℕ) → n ≡ v
    → m ≡ unwrap_or o n → with_text ways (with_value (Word name v) o) ≡ Word name m
word_with ways name v n m None same is = ap (Word name) (sym (is ∙ same))
word_with ways name v n m (Some k) same is = ap (Word name) (sym is)

pub hyper_with : (ways : Ways) (name : List ℕ) (v n m : ℕ) (o : Option ℕ) → n ≡ v
    → m ≡ unwrap_or o n → with_text ways (with_value (Hyper name v) o) ≡ Hyper name m
hyper_with ways name v n m None same is = ap (Hyper name) (sym (is ∙ same))
hyper_with ways name v n m (Some k) same is = ap (Hyper name) (sym is)

-- ---- items in front

same_front : (a b items more : List Item) → length a ≡ length b → a ++ items ≡ b ++ more
    → (a ≡ b) × (items ≡ more)
same_front [] [] items more n e = (refl, e)
same_front [] (y ∷ b) items more n e = absurd (omega arith)
same_front (x ∷ a) [] items more n e = absurd (omega arith)
same_front (x ∷ a) (y ∷ b) items more n e =
    let tails : a ++ items ≡ b ++ more = cc in
    let r = same_front a b items more (omega arith) tails in
    let head : x ≡ y = cc in
    (ap (λ (l : List Item). x ∷ l) r.0 ∙ ap (λ i. i ∷ b) head, r.1)

pub after_messages-append : (front items more : List Item)
    → after_messages front items ++ more ≡ after_messages front (items ++ more)
after_messages-append front items more =
    ap (λ (l : List Item). Word [] (length front) ∷ l) (append_assoc front items more)

-- ---- the values so far

module _ (side : Side) where
  -- where an item after these stands
  abbrev spot_of_next : List Item → ItemSpot
  spot_of_next items = spot_after (first_spot side) items

  -- the values so far with those of more items
  abbrev grown : (front items more : List Item) → Class → List ℕ
  grown front items more d =
      values_so_far front side items d ++ values_in d (spot_of_next items) more

  so_far_grown : (front items more : List Item)
      → grown front items more ≡ values_so_far front side (items ++ more)
  so_far_grown front items more =
      seen_alike (grown front items more) (values_so_far front side (items ++ more))
      (λ d.
      append_assoc (flat_map (visited_value d) front) (values_in d (first_spot side) items)
      (values_in d (spot_of_next items) more)
      ∙ ap (λ (l : List ℕ). flat_map (visited_value d) front ++ l)
      (sym (values_in-append d (first_spot side) items more)))

  among_so_far : (front items : List Item)
      → ItemsAreAmong (values_so_far front side items) (first_spot side) items
  among_so_far front items =
      items_among (values_so_far front side items) (first_spot side) items
      (λ d x m. member-append_right (flat_map (visited_value d) front) m)

  abbrev passed : List Item → List Item
  passed items = visited_items (first_spot side) items

  -- a message is over, and another one may begin
  so_far_over : (front : List Item) (other : Side) (items : List Item)
      → values_so_far front side items ≡ values_so_far (front ++ passed items) other []
  so_far_over front other items =
      seen_alike (values_so_far front side items) (values_so_far (front ++ passed items) other [])
      (λ d.
      sym (append-nil (flat_map (visited_value d) (front ++ passed items))
      ∙ flat_map-append (visited_value d) front (passed items)
      ∙ ap (λ (l : List ℕ). flat_map (visited_value d) front ++ l)
      (visited_values d (first_spot side) items)))

  handles_over : (front items : List Item)
      → handles_in (front ++ items) ≡ handles_in ((front ++ passed items) ++ [])
  handles_over front items =
      flat_map-append handle_in front items
      ∙ sym (ap handles_in (append-nil (front ++ passed items))
      ∙ flat_map-append handle_in front (passed items)
      ∙ ap (λ (l : List (List ℕ)). handles_in front ++ l)
      (visited_handles (first_spot side) items))

-- ---- what is held

module _ {P S H : Type 0} (ways : Ways) (w : MaskingWriter P S H) where
  pub held_after : (front items other own : List Item) (side : Side)
      → after_messages front items ≡ after_messages other own
      → HoldsMasked ways w other side own → HoldsMasked ways w front side items
  held_after front items other own side are h =
      let many : length front ≡ length other = cc in
      let all : front ++ items ≡ other ++ own = cc in
      let same = same_front front other items own many all in
      subst (λ (l : List Item). HoldsMasked ways w l side items) (sym same.0)
      (subst (HoldsMasked ways w other side) (sym same.1) h)

  own_items : (front items other own : List Item)
      → after_messages front items ≡ after_messages other own → items ≡ own
  own_items front items other own are =
      let many : length front ≡ length other = cc in
      let all : front ++ items ≡ other ++ own = cc in
      (same_front front other items own many all).1

  -- no message is open
  pub rested : (front : List Item) → HasMemory w → MaskRests ways w (after_messages front [])
      → HoldsMasked ways w front Client []
  rested front going rests =
      let u = rests going in held_after front [] u.front [] Client u.are u.holds

  -- a message is open, which is of this side
  stood : (front items : List Item) (side : Side) → BeginsOn side items → HasMemory w
      → MaskStands ways w (after_messages front [] ++ items) → HoldsMasked ways w front side items
  stood front items side begins going stands =
      let u = stands going in
      let are : after_messages front items ≡ after_messages u.front u.items =
      sym (after_messages-append front [] items) ∙ u.are in
      let same : u.side ≡ side =
      one_side u.side side items
      (subst (BeginsOn u.side) (sym (own_items front items u.front u.items are)) u.begins)
      begins in
      subst (λ s. HoldsMasked ways w front s items) same
      (held_after front items u.front u.items u.side are u.holds)

  -- what is held after an entry, whose items the writer was passed
  pub heard : (front : List Item) (one : Entry) → IsBegun one → HasMemory w
      → HasHeard (MaskRests ways) (MaskStands ways) w (after_messages front []) one
      → HoldsMasked ways w front (entry_side one) (items_of one)
  heard front Begin begun going rests = rested front going rests
  heard front (Call items) begun going stands = stood front items Client begun going stands
  heard front Turn begun going rests = rested front going rests
  heard front (Reply id items) begun going stands =
      stood front items (entry_side (Reply id items)) begun going stands
  heard front Close begun going rests = rested front going rests
  heard front End begun going rests = rested front going rests

  abbrev pub with_parts : List handles.Handle → ClassTables S H → List ℕ → ItemSpot
      → MaskingWriter P S H
  with_parts gathered classes bytes spot =
      record {
        handles = gathered;
        classes = classes;
        writer = bytes;
        spot = spot;
        failed = w.failed;
        plan = w.plan;
      }

  -- the message is let go
  pub ended : (front items : List Item) (side : Side) (bytes : List ℕ) → bytes ≡ []
      → HoldsMasked ways w front side items
      → MaskRests ways (with_parts w.handles w.classes bytes w.spot)
      (after_messages (front ++ visited_items (first_spot side) items) [])
  ended front items side bytes empty h going = record {
    front = front ++ visited_items (first_spot side) items;
    are = refl;
    holds = record {
      ways_are = h.ways_are;
      tables =
          subst (HoldsValues ways w.classes.numbers.items) (so_far_over side front Client items)
          h.tables;
      handles = subst (HoldsHandles w.handles) (handles_over side front items) h.handles;
      written = empty;
    };
  }

  -- the bytes stay, or spell what they did
  pub keeps_spelled : (bytes : List ℕ) → Keeps Spells w.writer bytes
      → Keeps (MaskStands ways) w (with_parts w.handles w.classes bytes w.spot)
  unfolding Keeps
  keeps_spelled bytes keeps all stands going =
      let u = stands going in
      let h = u.holds in record {
        front = u.front;
        side = u.side;
        items = u.items;
        are = u.are;
        begins = u.begins;
        spot_is = u.spot_is;
        holds = record {
          ways_are = h.ways_are;
          tables = h.tables;
          handles = h.handles;
          written =
              keeps
              (map (with_text ways) (masked_items ways (values_so_far u.front u.side u.items)
              (first_spot u.side) u.items)) h.written;
        };
      }

  -- ---- more items

  module _ (gathered : List handles.Handle) (classes : ClassTables S H) (bytes : List ℕ)
      (spot : ItemSpot) where
    abbrev later_writer : MaskingWriter P S H
    later_writer = with_parts gathered classes bytes spot

    -- what is written for items after these
    abbrev put : (front own : List Item) → Side → List Item → List Item
    put front own side items =
        map (with_text ways) (masked_items ways (grown side front own items) (spot_of_next side own)
        items)

    held_on : (front own items : List Item) (side : Side) → HoldsMasked ways w front side own
        → classes.ways ≡ ways → HoldsValues ways classes.numbers.items (grown side front own items)
        → Gathers gathered (front ++ (own ++ items))
        → Adds Spells w.writer bytes (put front own side items)
        → HoldsMasked ways later_writer front side (own ++ items)
    unfolding Adds
    held_on front own items side h are tables gathers write =
        let texts : List Item → List Item = map (with_text ways) in
        let so_far : Class → List ℕ = values_so_far front side own in
        let first : ItemSpot = first_spot side in
        let later : ItemSpot = spot_of_next side own in
        let seen : Class → List ℕ = grown side front own items in
        let before : List Item = masked_items ways so_far first own in
        let all : before ++ masked_items ways seen later items
        ≡ masked_items ways seen first (own ++ items) =
        ap (λ (l : List Item). l ++ masked_items ways seen later items)
        (sym (items_stay ways so_far (λ d. values_in d later items) first own
        (among_so_far side front own)))
        ∙ sym (masked_items-append ways seen first own items) in
        let whole : texts before ++ put front own side items
        ≡ texts (masked_items ways seen first (own ++ items)) =
        sym (map-append (with_text ways) before (masked_items ways seen later items))
        ∙ ap texts all in
        let now = so_far_grown side front own items in
        record {
          ways_are = are;
          tables = subst (HoldsValues ways classes.numbers.items) now tables;
          handles = gathers;
          written =
              subst
              (λ (k : Class → List ℕ).
              bytes
              ≡ zero_spelling (texts (masked_items ways k first (own ++ items))))
              now (write (texts before) h.written ∙ ap zero_spelling whole);
        }

    -- the open message goes on with these items
    goes_on : (all items : List Item) (u : HasMaskedUnderWay ways w all)
        → spot ≡ spot_after w.spot items
        → HoldsMasked ways later_writer u.front u.side (u.items ++ items)
        → HasMaskedUnderWay ways later_writer (all ++ items)
    goes_on all items u moved holds = record {
      front = u.front;
      side = u.side;
      items = u.items ++ items;
      are =
          ap (λ (l : List Item). l ++ items) u.are
          ∙ after_messages-append u.front u.items items;
      begins = begins_more u.side u.items items u.begins;
      spot_is =
          moved ∙ ap (λ (s : ItemSpot). spot_after s items) u.spot_is
          ∙ sym (fold-append next_spot (first_spot u.side) u.items items);
      holds = holds;
    }

    -- ---- one of this class

    module _ (own : Option Class) (i : Item) where
      -- the class is that at the writer's spot, and what follows is at the next one
      abbrev pub IsFound : Type 0
      IsFound = (own ≡ class_of w.spot i) × (spot ≡ next_spot w.spot i)

      abbrev Held : (Class → List ℕ) → Type 0
      Held seen = HoldsValues w.classes.ways w.classes.numbers.items seen

      -- what is written for it
      abbrev put_one : Ways → (Class → List ℕ) → Item
      put_one by seen =
          with_text by
          (with_value i (substitute by (with_one seen own (class_value i)) own (class_value i)))

      adds : classes.ways ≡ w.classes.ways → IsFound
          → ((seen : Class → List ℕ) → Held seen
          → HoldsValues classes.ways classes.numbers.items (with_one seen own (class_value i)))
          → ((items : List Item) → Gathers w.handles items → Gathers gathered (items ++ i ∷ []))
          → ((seen : Class → List ℕ) → Held seen
          → Adds Spells w.writer bytes (put_one w.classes.ways seen ∷ []))
          → Adds (MaskStands ways) w later_writer (i ∷ [])
      unfolding Adds
      adds same found tables gathers write all stands going =
          let u = stands going in
          let h = u.holds in
          let so_far : Class → List ℕ = values_so_far u.front u.side u.items in
          let later : ItemSpot = spot_of_next u.side u.items in
          let held : Held so_far =
          subst (λ k. HoldsValues k w.classes.numbers.items so_far) (sym h.ways_are) h.tables in
          let class : own ≡ class_of later i =
          found.0 ∙ ap (λ (s : ItemSpot). class_of s i) u.spot_is in
          let seen : Class → List ℕ = grown u.side u.front u.items (i ∷ []) in
          let now : with_one so_far own (class_value i) ≡ seen =
          seen_alike (with_one so_far own (class_value i)) seen
          (λ d.
          ap (λ (l : List ℕ). so_far d ++ l)
          (ap (λ o. value_where d o (class_value i)) class
          ∙ sym (append-nil (value_in d later i)))) in
          let item : put_one ways so_far ≡ with_text ways (masked_item ways seen later i) =
          ap₂
          (λ (k : Class → List ℕ) (o : Option Class).
          with_text ways (with_value i (substitute ways k o (class_value i)))) now class in
          goes_on all (i ∷ []) u found.1
          (held_on u.front u.items (i ∷ []) u.side h (same ∙ h.ways_are)
          (subst (HoldsValues ways classes.numbers.items) now
          (subst
          (λ k. HoldsValues k classes.numbers.items (with_one so_far own (class_value i)))
          (same ∙ h.ways_are) (tables so_far held)))
          (subst (Gathers gathered) (append_assoc u.front u.items (i ∷ []))
          (gathers (u.front ++ u.items) h.handles))
          (subst (λ j. Adds Spells w.writer bytes (j ∷ [])) item
          (subst (λ k. Adds Spells w.writer bytes (put_one k so_far ∷ [])) h.ways_are
          (write so_far held))))

  -- an item that may have a class, and has no handle
  pub adds_of_class : (own : Option Class) (n : ℕ) (classes : ClassTables S H) (bytes : List ℕ)
      (spot : ItemSpot) (i j : Item) → n ≡ class_value i → handles_in (i ∷ []) ≡ []
      → classes.ways ≡ w.classes.ways → IsFound w.handles classes bytes spot own i
      → ((seen : Class → List ℕ) → HoldsValues w.classes.ways w.classes.numbers.items seen
      → HoldsValues classes.ways classes.numbers.items (with_one seen own n))
      → ((seen : Class → List ℕ) → HoldsValues w.classes.ways w.classes.numbers.items seen
      → with_text w.classes.ways
      (with_value i (substitute w.classes.ways (with_one seen own n) own n)) ≡ j)
      → Adds Spells w.writer bytes (j ∷ [])
      → Adds (MaskStands ways) w (with_parts w.handles classes bytes spot) (i ∷ [])
  adds_of_class own n classes bytes spot i j value none same found tables is write =
      adds w.handles classes bytes spot own i same found
      (λ seen h.
      subst (λ m. HoldsValues classes.ways classes.numbers.items (with_one seen own m)) value
      (tables seen h)) (λ items g. gathers_none w.handles items (i ∷ []) none g)
      (λ seen h.
      subst
      (λ m.
      Adds Spells w.writer bytes (with_text w.classes.ways
      (with_value i (substitute w.classes.ways (with_one seen own m) own m)) ∷ []))
      value (subst (λ k. Adds Spells w.writer bytes (k ∷ [])) (sym (is seen h)) write))

  -- ---- an item that is no word moves nowhere

  pub stays_found : (i : Item) → IsNoWord i → w.spot ≡ next_spot w.spot i
  stays_found i other = sym (still_after w.spot i other)

  -- an item of no class
  abbrev pub IsClassless : Item → Type 0
  IsClassless i = (spot : ItemSpot) → class_of spot i ≡ None

  adds_classless : (gathered : List handles.Handle) (bytes : List ℕ) (i : Item) → IsNoWord i
      → IsClassless i
      → ((items : List Item) → Gathers w.handles items → Gathers gathered (items ++ i ∷ []))
      → Adds Spells w.writer bytes (with_text w.classes.ways i ∷ [])
      → Adds (MaskStands ways) w (with_parts gathered w.classes bytes w.spot) (i ∷ [])
  adds_classless gathered bytes i other none gathers write =
      adds gathered w.classes bytes w.spot None i refl
      (sym (none w.spot), stays_found i other)
      (λ seen h.
      holds_without w.classes.ways w.classes.numbers.items seen None (class_value i) refl h)
      gathers (λ seen h. write)

  pub adds_plain : (bytes : List ℕ) (i : Item) → IsNoWord i → IsClassless i
      → handles_in (i ∷ []) ≡ [] → Adds Spells w.writer bytes (with_text w.classes.ways i ∷ [])
      → Adds (MaskStands ways) w (with_parts w.handles w.classes bytes w.spot) (i ∷ [])
  adds_plain bytes i other none empty write =
      adds_classless w.handles bytes i other none
      (λ items g. gathers_none w.handles items (i ∷ []) empty g) write

  pub adds_handle : (gathered : List handles.Handle) (bytes : List ℕ) (i : Item) → IsNoWord i
      → IsClassless i → Adds Gathers w.handles gathered (i ∷ [])
      → Adds Spells w.writer bytes (with_text w.classes.ways i ∷ [])
      → Adds (MaskStands ways) w (with_parts gathered w.classes bytes w.spot) (i ∷ [])
  unfolding Adds
  adds_handle gathered bytes i other none gathers write =
      adds_classless gathered bytes i other none gathers write

  -- ---- words that stay

  held_more : (front own : List Item) (side : Side) (bytes : List ℕ) (spot : ItemSpot)
      (items : List Item) → AllStay ways items → HoldsMasked ways w front side own
      → Adds Spells w.writer bytes items
      → HoldsMasked ways (with_parts w.handles w.classes bytes spot) front side (own ++ items)
  held_more front own side bytes spot items kept h write =
      let later : ItemSpot = spot_of_next side own in
      held_on w.handles w.classes bytes spot front own items side h h.ways_are
      (λ d numbered.
      subst (HoldsAt w.classes.numbers.items (position d))
      (sym (ap (λ (l : List ℕ). values_so_far front side own d ++ l)
      (kept_values ways d later items numbered kept)
      ∙ append-nil (values_so_far front side own d))) (h.tables d numbered))
      (subst (Gathers w.handles) (append_assoc front own items)
      (gathers_none w.handles (front ++ own) items (kept_handles ways items kept) h.handles))
      (subst (Adds Spells w.writer bytes)
      (sym (kept_put ways (grown side front own items) later items kept)) write)

  pub adds_kept : (bytes : List ℕ) (items : List Item) → AllStay w.classes.ways items
      → Adds Spells w.writer bytes items
      → Adds (MaskStands ways) w (with_parts w.handles w.classes bytes w.spot) items
  unfolding Adds
  adds_kept bytes items all_kept write all stands going =
      let u = stands going in
      let kept : AllStay ways items = subst (λ k. AllStay k items) u.holds.ways_are all_kept in
      goes_on w.handles w.classes bytes w.spot all items u
      (sym (kept_spot ways w.spot items kept))
      (held_more u.front u.items u.side bytes w.spot items kept u.holds write)

  -- ---- a message begins

  start_stays : (s : MessageStart) → AllStay ways (start_items s)
  start_stays s = (
    free_stays ways (called "xid") xid_free s.xid,
    (free_stays ways (called "mtype") mtype_free _, tt),
  )

  pub opens : (bytes : List ℕ) (spot : ItemSpot) (s : MessageStart)
      → spot ≡ first_spot (side_by s.is_reply) → OpensMessage Spells Spells w.writer bytes
      (start_items s)
      → OpensMessage (MaskRests ways) (MaskStands ways) w (with_parts w.handles w.classes bytes
      spot)
      (start_items s)
  unfolding OpensMessage Adds
  opens bytes spot s spot_is write all rests going =
      let u = rests going in
      let side = side_by s.is_reply in
      let h : HoldsMasked ways w u.front side [] = of_any_side u.front side u.holds in
      record {
        front = u.front;
        side = side;
        items = start_items s;
        are =
            ap (λ (l : List Item). l ++ start_items s) u.are
            ∙ after_messages-append u.front [] (start_items s);
        begins = (
          s.xid,
          [],
          ap (λ n. Word (called "xid") s.xid ∷ Word (called "mtype") n ∷ []) (mtype_by s.is_reply),
        );
        spot_is = spot_is ∙ sym (kept_spot ways (first_spot side) (start_items s) (start_stays s));
        holds = held_more u.front [] side bytes spot (start_items s) (start_stays s) h write;
      }
    where
      of_any_side : (front : List Item) (side : Side) → HoldsMasked ways w front Client []
          → HoldsMasked ways w front side []
      of_any_side front side h = record {
        ways_are = h.ways_are;
        tables = h.tables;
        handles = h.handles;
        written = h.written;
      }
