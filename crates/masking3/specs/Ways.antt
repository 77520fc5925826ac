-- What becomes of the values of each class.
use Rattle.std.specs.Prelude.{get_or, map, slice_set}
use Rattle.masking3.specs.declared.values.class.Class.{Class}
use Rattle.masking3.specs.declared.values.ways.Way.{Way}
use Rattle.masking3.specs.declared.values.ways.Way.TheVariants.{Keep}
use Rattle.masking3.specs.declared.values.ways.Ways.{Ways}
use Rattle.masking3.specs.Classes.{classes, position, row}

abbrev pub way_of : Ways → Class → Way
way_of ways class = get_or ways.by_class (position class) Keep

-- the ways with another one for a class
abbrev pub with_way : Ways → Class → Way → Ways
with_way ways class way = record { by_class = slice_set ways.by_class (position class) way }

-- names and bodies have no numbers: they stay, or change
abbrev pub unless_kept : {A : Type 0} → Way → (A → A) → A → A
unless_kept Keep change x = x
unless_kept _ change x = change x

-- what two ordinary runs of one script never share
abbrev pub usual : Ways
usual = record { by_class = map (λ class. (row class).usual) classes }
