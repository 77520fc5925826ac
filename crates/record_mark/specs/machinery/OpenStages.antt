-- Stages in which bytes of a record are to come.
use Rattle.record_mark.specs.declared.join.Stage.{Stage}
use Rattle.record_mark.specs.declared.join.Stage.TheVariants.{Unbegun, Header, Fragment}

-- more bytes of the record are to come
abbrev pub IsOpenAt : Stage → Type 0
IsOpenAt Unbegun = Unit {0}
IsOpenAt (Header part) = Unit {0}
IsOpenAt (Fragment left is_last) = Unit {0}
IsOpenAt _ = ⊥
