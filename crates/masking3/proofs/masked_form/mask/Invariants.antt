use Rattle.masking3.proofs.masked_form.mask.Given as goal

abbrev pub ghosts-mask_by_plan : goal.ghosts-mask_by_plan
ghosts-mask_by_plan g a = record { ways = a.ways }
