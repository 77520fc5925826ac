-- The first entries of a well-formed file have xids of no class, and room for the numbers of their
-- values.
use Rattle.masking3.proofs.Common.{◌<◌, ◌^◌, List, [], ◌∷◌, length, map, sym, subst, arith, ap, ◌∙◌, AllByRecursion, Item, Word, Entry, Call, Reply, AreFirst, Same, all_entries, holds, is_headed_call, is_headed_reply, Class, Way, Keep, Ways, masked, masked_values, values, with_text, ReplyItems, bytes_of, IsSpelledCall, IsSpelledReply, SameBut, named_by, names_by, unnamed_items, MaskedBytesDecide, MaskedFormsDecide, way_of, Machines}
use Rattle.canon3.proofs.Lemmas.Renaming.Equality.{same_reflexive, same_symmetric, same_transitive}
use Rattle.canon3.proofs.Lemmas.Order.Closing.{all_front}
use Rattle.canon3.proofs.Lemmas.Order.First.{first_in_order, same_from_bytes}
use Rattle.canon3.proofs.Lemmas.Canonical.OneFormLemmas.{canonical-same}
use Rattle.masking3.proofs.Lemmas.Classes.FewValues.{few_of_first}
use Rattle.masking3.proofs.Lemmas.Classes.SpotLemmas.{xid_free}
use Rattle.masking3.proofs.Lemmas.Masked.MaskedFiles.{masked_is_file}
use Rattle.masking3.proofs.Lemmas.Masked.MaskedLemmas.{after, masked-append}
use Rattle.masking3.proofs.Lemmas.Masked.SameButLemmas.{HasFreeXid, StartsFree, same_but_from_same, same_from_same_but, same_masked}
use Rattle.masking3.proofs.Lemmas.Unnamed.UnnamedLemmas.{all_values, values_of_named}
use Rattle.masking3.proofs.Lemmas.Unnamed.UnnamedRenamings.{same_named}

free_call : (m : List Item) → IsSpelledCall m → StartsFree m
free_call m s = let h = is_headed_call m s.0.0 in subst StartsFree (sym h.is) xid_free

free_reply : (r : ReplyItems) → IsSpelledReply r → StartsFree r.items
free_reply r s = let h = is_headed_reply r.id r.items s.0.0 in subst StartsFree (sym h.is) xid_free

xids_free : (a : List Entry) → AreFirst a → AllByRecursion HasFreeXid a
xids_free a first =
    let h = holds first.file first.all first.typed in
    let all : AllByRecursion HasFreeXid first.all =
    subst (AllByRecursion HasFreeXid) (sym h.is)
    (all_entries HasFreeXid free_call free_reply tt tt tt tt h.cs h.are.converse) in
    all_front HasFreeXid a first.more (subst (AllByRecursion HasFreeXid) first.split all)

pub room_of : (a : List Entry) → AreFirst a → (d : Class) → length (values a d) < 2 ^ 64
room_of a first d = omega (arith, few_of_first d a first)

-- ---- with masked names

first_free : (m : List Item) → StartsFree m → StartsFree (unnamed_items m)
first_free (Word name n ∷ m) f = f
first_free (i ∷ m) f = absurd f
first_free [] f = absurd f

named_xid_free : (way : Way) (m : List Item) → StartsFree m → StartsFree (named_by way m)
named_xid_free Keep m f = f
named_xid_free way m f = first_free m f

module _ (by : Ways) where
  texts_free : (m : List Item) → StartsFree m → StartsFree (map (with_text by) m)
  texts_free (Word name n ∷ m) f = f
  texts_free (i ∷ m) f = absurd f
  texts_free [] f = absurd f

  free_names : (a : List Entry) → AllByRecursion HasFreeXid a
      → AllByRecursion HasFreeXid (names_by by a)
  free_names [] h = tt
  free_names (Call m ∷ a) h = (
    named_xid_free (way_of by Machines) (map (with_text by) m) (texts_free m h.0),
    free_names a h.1,
  )
  free_names (Reply id m ∷ a) h = (texts_free m h.0, free_names a h.1)
  free_names (e ∷ a) h = (tt, free_names a h.1)

module _ (ways : Ways) (a : List Entry) (first : AreFirst a) where
  abbrev without : List Entry
  without = names_by ways a

  room_without : (d : Class) → length (values without d) < 2 ^ 64
  room_without d = subst (λ l. length l < 2 ^ 64) (sym (all_values d ways a)) (room_of a first d)

  free_without : AllByRecursion HasFreeXid without
  free_without = free_names ways a (xids_free a first)

pub decided : (ways : Ways) (a b : List Entry) → AreFirst a → AreFirst b
    → MaskedFormsDecide ways a b
decided ways a b first second =
    let c = without ways a first in
    let d = without ways b second in
    let there = values_of_named ways ways a in
    let back = values_of_named ways ways b in (
      (λ s.
          same_but_from_same ways c d (room_without ways a first) (room_without ways b second)
          (free_without ways a first) (subst (λ l. Same l (masked_values ways d)) (sym there)
          (subst (Same (masked ways a)) (sym back) s))),
      (λ s.
          subst (λ l. Same l (masked ways b)) there (subst (Same (masked_values ways c)) back
          (same_from_same_but ways c d (free_without ways a first) s))),
    )

-- ---- masked entries are first entries too

pub masked_first : (ways : Ways) (a : List Entry) → AreFirst a → AreFirst (masked ways a)
masked_first ways a first = record {
  file = bytes_of (masked ways first.all);
  all = masked ways first.all;
  more = after ways a first.more;
  typed = (masked_is_file ways first.file first.all first.typed).0;
  split = ap (masked ways) first.split ∙ masked-append ways a first.more;
}

pub bytes_decide : (ways : Ways) (a b : List Entry) → AreFirst a → AreFirst b
    → MaskedBytesDecide ways a b
bytes_decide ways a b first second = (
  (λ e. (decided ways a b first second).0 (same_from_bytes (masked ways a) (masked ways b)
      (masked_first ways a first) (masked_first ways b second) e)),
  (λ s. ap bytes_of (canonical-same ((decided ways a b first second).1 s))),
)

-- ---- up to less

pub same_but_from_all : (ways : Ways) (a b : List Entry) → AreFirst a → AreFirst b → Same a b
    → SameBut ways a b
same_but_from_all ways a b first second s =
    (decided ways a b first second).0 (same_named ways (same_masked ways a b (xids_free a first) s))

pub same_but_reflexive : (ways : Ways) (a : List Entry) → AreFirst a → SameBut ways a a
same_but_reflexive ways a first =
    same_but_from_all ways a a first first (same_reflexive a (first_in_order a first))

pub same_but_symmetric : (ways : Ways) (a b : List Entry) → AreFirst a → AreFirst b
    → SameBut ways a b → SameBut ways b a
same_but_symmetric ways a b first second s =
    (decided ways b a second first).0
    (same_symmetric (masked ways a) (masked ways b) ((decided ways a b first second).1 s))

pub same_but_transitive : (ways : Ways) (a b c : List Entry) → AreFirst a → AreFirst b → AreFirst c
    → SameBut ways a b → SameBut ways b c → SameBut ways a c
same_but_transitive ways a b c first second third s t =
    (decided ways a c first third).0 (same_transitive (masked ways a) (masked ways b)
    (masked ways c) ((decided ways a b first second).1 s)
    ((decided ways b c second third).1 t))
