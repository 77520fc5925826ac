use Rattle.masking3.proofs.Lemmas.Masked.MaskingMore.{same_but_more}
use Rattle.masking3.proofs.laws.masking_more.Goals as goal

pub returns : goal.returns
returns c ways others a b much s = same_but_more ways others a b much s
