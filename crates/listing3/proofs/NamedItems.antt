-- The name of an item tells which kind of item it is.
use Rattle.listing3.proofs.Common.{ℕ, List, refl, AllByRecursion, Item, Word, Hyper, Fixed, WriteVerf, Opaque, Rest, ProcId, called, item_name, FitsCall, FitsReply, each_of_call, each_of_reply}
use Rattle.xdr3.proofs.Lemmas.Shapes.ShapeParts.{Part, fixed_part, hyper_part, opaque_part, rest_part, size_part, word_part, write_verf_part}
use Rattle.procs3.proofs.ProtocolParts.{AWord, AHyper, AFixed, AWriteVerf, ARest, AnOpaque, IsNamedPart, IsNameOf, IsProtocolPart, ItemKind}
use Rattle.canon3.proofs.Lemmas.WellFormed.Items.{IsEach}

abbrev pub kind_in : Item → ItemKind
kind_in (Word name n) = AWord
kind_in (Hyper name n) = AHyper
kind_in (Fixed name bytes) = AFixed
kind_in (WriteVerf name bytes) = AWriteVerf
kind_in (Opaque kind name bytes) = AnOpaque kind
kind_in (Rest name bytes) = ARest

abbrev pub IsNamed : Item → Type 0
IsNamed item = IsNameOf (item_name item) (kind_in item)

abbrev pub AreNamed : List Item → Type 0
AreNamed items = AllByRecursion IsNamed items

named_part : (part : Part) → IsNamedPart part → IsEach IsNamed part
named_part (word_part name reason) h = λ n. h
named_part (hyper_part name) h = λ n. h
named_part (fixed_part name) h = λ bytes. h
named_part (write_verf_part name) h = λ bytes. h
named_part (rest_part name) h = λ bytes. h
named_part (opaque_part kind name max) h = λ bytes le. h
named_part (size_part name shape) h = λ n. h

each_named : (part : Part) → IsProtocolPart part → IsEach IsNamed part
each_named part is = named_part part is.name

version_named : (version : ℕ) → IsNamed (Word (called "rpcvers") version)
unfolding called
version_named version = (refl, refl)

pub call_named : (items : List Item) → FitsCall items → AreNamed items
call_named items p = each_of_call IsNamed each_named version_named items p

pub reply_named : (id : ProcId) (items : List Item) → FitsReply id items → AreNamed items
reply_named id items p = each_of_reply IsNamed each_named id items p
