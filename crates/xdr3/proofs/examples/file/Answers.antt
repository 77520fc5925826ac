use Rattle.xdr3.proofs.Common.{refl, reading_layout, reading}
use Rattle.xdr3.proofs.examples.file.Goals as goal

pub returns : goal.returns
unfolding reading reading_layout
returns c = record {
  read = refl;
  residual = refl;
  spelled = refl;
  no_length = (refl, (refl, (refl, (refl, tt))));
  no_name = (refl, (refl, (refl, (refl, tt))));
  no_data = (refl, (refl, (refl, tt)));
  no_such_kind = refl;
  long_owner = refl;
  one_byte_more = refl;
}
