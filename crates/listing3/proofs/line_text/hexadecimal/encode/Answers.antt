use Rattle.listing3.proofs.Common.{rules, sym, ap, subst, ◌∙◌, lower_digits, AreHalves, map, slice_index}
use Rattle.listing3.proofs.HalvesLemmas.{digits_of_halves, halves_below}
use Rattle.listing3.proofs.line_text.hexadecimal.encode.Goals as goal

pub spell-requires : goal.spell-requires
spell-requires c =
    subst AreHalves (sym c.split.ensures) (halves_below c.args.bytes.now (search rules))

pub returns : goal.returns
returns c =
    c.spell.ensures ∙ ap (map (slice_index lower_digits)) c.split.ensures
    ∙ digits_of_halves c.args.bytes.now (search rules)
