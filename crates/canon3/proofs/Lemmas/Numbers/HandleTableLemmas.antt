-- Tables that gather the handles of items.
use Rattle.canon3.proofs.Common.{◌≡◌, ◌≢◌, ℕ, List, [], ◌∷◌, ◌++◌, drop, length, map, refl, ap, ◌∙◌, append-nil, flat_map-append, PlainField, run_items, Item, Opaque, Handle, Entry, all_items, handles, handles_in, handle_bytes, Gathers, same_handle, distinct}
use Rattle.std.specs.Prelude.{bytes_eq}
use Rattle.std.proofs.lemmas.List.{map-append}
use Rattle.xdr3.specs.declared.plain.PlainField.TheVariants as fields
use Rattle.nfs3_types.specs.declared.values.handle.Handle as handles
use Rattle.canon3.proofs.Lemmas.Numbers.RankLemmas.{distinct_mapped}

-- ---- along items

-- items without handles add none
none_more : (items more : List Item) → handles_in more ≡ []
    → handles_in items ≡ handles_in (items ++ more)
none_more items more none =
    simp (flat_map-append, none, append-nil)

-- one handle more
one_more : (given : List handles.Handle) (handle : handles.Handle) (name bytes : List ℕ)
    (items : List Item) → handle_bytes handle ≡ bytes → bytes ≢ []
    → map handle_bytes given ≡ handles_in items
    → map handle_bytes (given ++ handle ∷ []) ≡ handles_in (items ++ Opaque Handle name bytes ∷ [])
one_more given handle name [] items is some are = absurd (some refl)
one_more given handle name (b ∷ bs) items is some are =
    simp (map-append, are, is, flat_map-append)

pub gathers_none : (table : List handles.Handle) (items more : List Item) → handles_in more ≡ []
    → Gathers table items → Gathers table (items ++ more)
gathers_none table items more none (given, stands, are) =
    (given, stands, are ∙ none_more items more none)

-- plain fields hold no handle
pub none_in_run : (all : List PlainField) (run : List ℕ) → handles_in (run_items all run) ≡ []
none_in_run [] run = refl
none_in_run (fields.Word name ∷ all) run = none_in_run all (drop 4 run)
none_in_run (fields.Hyper name ∷ all) run = none_in_run all (drop 8 run)

-- as many handles as bytes of them
pub distinct_held : {hs : List (List ℕ)} (given : List handles.Handle) → map handle_bytes given ≡ hs
    → length (distinct same_handle given) ≡ length (distinct bytes_eq hs)
distinct_held given are =
    distinct_mapped bytes_eq handle_bytes given
    ∙ ap (λ (l : List (List ℕ)). length (distinct bytes_eq l)) are

pub count_gathered : (table : List handles.Handle) (items : List Item) (g : Gathers table items)
    → length (distinct same_handle g.0) ≡ length (distinct bytes_eq (handles_in items))
count_gathered table items (given, stands, are) = distinct_held given are

-- ---- of all entries

pub handles_of_all : (entries : List Entry) → handles_in (all_items entries) ≡ handles entries
handles_of_all [] = refl
handles_of_all (entry ∷ entries) = simp (flat_map-append, handles_of_all entries)
