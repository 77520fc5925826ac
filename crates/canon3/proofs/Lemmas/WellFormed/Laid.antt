-- The messages of a capture have their layouts.
use Rattle.canon3.proofs.Common.{List, [], ◌∷◌, ◌++◌, sym, ◌∙◌, subst, append_assoc, ⊤, AllByRecursion, Entry, Call, Reply, AreFirst}
use Rattle.canon3.proofs.Lemmas.WellFormed.Conversations.{of_all}
use Rattle.canon3.proofs.Lemmas.WellFormed.Files.{all_entries, holds}
use Rattle.canon3.proofs.Lemmas.WellFormed.Messages.{FitsCall, FitsReply}

abbrev pub IsLaidOut : Entry → Type 0
IsLaidOut (Call items) = FitsCall items
IsLaidOut (Reply id items) = FitsReply id items
IsLaidOut _ = ⊤

pub last_laid : (entries : List Entry) (one : Entry) → AreFirst (entries ++ one ∷ [])
    → IsLaidOut one
last_laid entries one first =
    let h = holds first.file first.all first.typed in
    let all : AllByRecursion IsLaidOut first.all =
    subst (AllByRecursion IsLaidOut) (sym h.is)
    (all_entries IsLaidOut (λ m s. s.0.0) (λ r s. s.0.0) tt tt tt tt h.cs h.are.converse) in
    of_all IsLaidOut first.all one all
    (entries, first.more, first.split ∙ append_assoc entries (one ∷ []) first.more)
