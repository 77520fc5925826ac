-- A head that chooses a layout by its first word.
use Rattle.std.specs.Prelude.{ℕ, Bool, List}
use Rattle.xdr3.specs.declared.reason.Reason.{Reason}
use Rattle.xdr3.specs.Shape.{choose, nothing}
use Rattle.xdr3.specs.Layout.{Layout, after, word_in}

-- ---- layouts that words choose

-- a word that is accepted, and then the layout that it chooses
abbrev pub by_word : List ℕ → (ℕ → Bool) → Reason → (ℕ → Layout) → Layout
by_word name accepted other next =
    after (choose name accepted other (λ n. nothing)) (λ items. next (word_in items 0))
