use Rattle.listing3.proofs.Common.{◌≡◌, true, take, All, HasShortName}
use Rattle.listing3.proofs.line_text.run.are_short.Given as goal

abbrev pub invariant-loop-field : goal.invariant-loop-field
invariant-loop-field l = l.short ≡ true → All HasShortName (take l.field-index l.fields)
