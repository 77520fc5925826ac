-- What was written of the masked form, entry by entry.
use Rattle.masking3.proofs.Common.{◌≡◌, ℕ, List, [], ◌∷◌, ◌++◌, Option, refl, sym, ap, ◌∙◌, subst, append_assoc, flat_map, zero_spelling, Entry, Call, Reply, items_of, AreFirst, AppendsFront, Class, InCall, Ways, named_entry, first_spot, body_by, Appends, chunk_bytes, entry_bytes, record_bytes, masked_bytes, masked_entry, visited_entry, values_so_far, written_as, are_some, magic_unless, magic_before, way_of, Machines}
use Rattle.std.proofs.KnownBytes.{Appends-trans}
use Rattle.capture3.specs.declared.reader.entry.Kind.{Kind}
use Rattle.capture3.specs.declared.reader.entry.Kind.TheVariants as kinds
use Rattle.capture3.specs.machinery.Stepping.{IsOfKind}
use Rattle.canon3.specs.Parting.{connections}
use Rattle.canon3.proofs.Lemmas.Canonical.CanonicalFormLemmas.{the_magic}
use Rattle.canon3.proofs.Lemmas.Writing.SinkWritesLemmas.{front_of_first, front_of_second, whole_front}
use Rattle.canon3.proofs.Lemmas.WellFormed.Laid.{IsLaidOut, last_laid}
use Rattle.masking3.proofs.Lemmas.Masked.MaskedLemmas.{form_grows, last_bytes}
use Rattle.masking3.proofs.Lemmas.Masked.MaskedMessages.{call_masked, masks}
use Rattle.masking3.proofs.Lemmas.Classes.MessageSpotLemmas.{IsBegun, begins_call, begins_reply, entry_side}
use Rattle.masking3.proofs.Lemmas.Writing.VisitedItems.{values_with_last}
use Rattle.masking3.proofs.Lemmas.Unnamed.UnnamedCalls.{named_bytes_of}

-- ---- the bytes of an entry

laid_begins : (one : Entry) → IsLaidOut one → IsBegun one
laid_begins (Call m) f = begins_call m f
laid_begins (Reply id m) f = begins_reply id m f
laid_begins e f = tt

pub last_begins : (entries : List Entry) (one : Entry) → AreFirst (entries ++ one ∷ [])
    → IsBegun one
last_begins entries one first = laid_begins one (last_laid entries one first)

module _ (ways : Ways) (seen : Class → List ℕ) (body : List ℕ) where
  abbrev IsWrittenAs : Kind → Entry → Type 0
  IsWrittenAs kind one =
      IsLaidOut one
      → body ≡ zero_spelling (masks ways seen (first_spot (entry_side one)) (items_of one))
      → written_as (way_of ways Machines) kind body
      ≡ entry_bytes (named_entry ways (masked_entry ways seen one))

  of_kind : (kind : Kind) (one : Entry) → IsOfKind kind one → IsWrittenAs kind one
  of_kind (kinds.Call id) one (items, asks, is) =
      subst (IsWrittenAs (kinds.Call id)) (sym is) (λ f b.
      ap (λ (l : List ℕ). chunk_bytes (record_bytes l)) (ap (body_by (way_of ways Machines)) b
      ∙ named_bytes_of (way_of ways Machines) (masks ways seen InCall items)
      (call_masked ways seen items f)))
  of_kind (kinds.Reply id) one (items, is) =
      subst (IsWrittenAs (kinds.Reply id)) (sym is)
      (λ f b. ap (λ (l : List ℕ). chunk_bytes (record_bytes l)) b)
  of_kind kind one is = subst (IsWrittenAs kind) (sym is) (λ f b. refl)

pub entry_is : (ways : Ways) (body : List ℕ) (kind : Kind) (entries : List Entry) (one : Entry)
    → IsOfKind kind one → AreFirst (entries ++ one ∷ [])
    → body
    ≡ zero_spelling (masks ways
    (values_so_far (flat_map visited_entry entries) (entry_side one) (items_of one))
    (first_spot (entry_side one)) (items_of one))
    → written_as (way_of ways Machines) kind body ≡ last_bytes ways entries one
entry_is ways body kind entries one of first is =
    of_kind ways (values_so_far (flat_map visited_entry entries) (entry_side one) (items_of one))
    body
    kind one of (last_laid entries one first) is
    ∙ ap (λ (seen : Class → List ℕ). entry_bytes (named_entry ways (masked_entry ways seen one)))
    (values_with_last entries one)

-- ---- one entry more, where the sink had the old bytes first, and then these in turn

module _ (ways : Ways) (old before between after : Option (List ℕ)) (entries : List Entry)
    (one : Entry) (count : ℕ) (first : AreFirst (entries ++ one ∷ []))
    (counted : count ≡ connections entries)
    (so_far : Appends old before (masked_bytes ways entries)) where
  abbrev form : List ℕ
  form = masked_bytes ways entries

  abbrev whole : List ℕ
  whole = masked_bytes ways (entries ++ one ∷ [])

  abbrev magic_bytes : List ℕ
  magic_bytes = magic_unless (are_some entries)

  -- nothing more was written
  pub nothing_more : AppendsFront old before whole
  nothing_more =
      front_of_first old before form (magic_bytes ++ last_bytes ways entries one) whole
      (form_grows ways entries one
      ∙ append_assoc form magic_bytes (last_bytes ways entries one))
      (whole_front old before form so_far)

  with_magic : Appends before between (magic_before count)
      → Appends old between (form ++ magic_bytes)
  with_magic magic =
      Appends-trans old before between form magic_bytes so_far
      (subst (Appends before between) (the_magic entries one count first counted) magic)

  -- the magic was cut
  pub cut_in_magic : AppendsFront before between (magic_before count)
      → AppendsFront old between whole
  cut_in_magic cut =
      front_of_first old between (form ++ magic_bytes) (last_bytes ways entries one) whole
      (form_grows ways entries one)
      (front_of_second old before between form magic_bytes (form ++ magic_bytes) refl so_far
      (subst (AppendsFront before between) (the_magic entries one count first counted) cut))

  -- the entry was cut
  pub cut_in_entry : (bytes : List ℕ) → bytes ≡ last_bytes ways entries one
      → Appends before between (magic_before count) → AppendsFront between after bytes
      → AppendsFront old after whole
  cut_in_entry bytes is magic cut =
      front_of_second old between after (form ++ magic_bytes) (last_bytes ways entries one) whole
      (form_grows ways entries one) (with_magic magic)
      (subst (AppendsFront between after) is cut)

  -- the entry was written
  pub all_written : (bytes : List ℕ) → bytes ≡ last_bytes ways entries one
      → Appends before between (magic_before count) → Appends between after bytes
      → Appends old after whole
  all_written bytes is magic written =
      subst (Appends old after) (sym (form_grows ways entries one))
      (Appends-trans old between after (form ++ magic_bytes) (last_bytes ways entries one)
      (with_magic magic) (subst (Appends between after) is written))
