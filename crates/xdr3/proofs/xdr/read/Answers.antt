use Rattle.xdr3.proofs.Lemmas.Reading.Decided.{shape_is_read}
use Rattle.xdr3.proofs.Lemmas.Reading.Within.{given_within}
use Rattle.xdr3.proofs.xdr.read.Goals as goal

pub returns-clause-read : goal.returns-clause-read
returns-clause-read g c =
    shape_is_read g.T.Xdr.shape g.T.Walk.items c.args.input.now c.get.new.input c.get.result
    c.at.ensures.bytes c.at.ensures.within c.get.ensures.read

pub returns-clause-limit : goal.returns-clause-limit
returns-clause-limit g c =
    given_within g.T.Xdr.shape g.T.Walk.items c.args.input.now.body c.args.input.now.at
    c.get.new.input.at c.get.result c.at.ensures.bytes c.at.ensures.within c.at.ensures.limit
    c.get.ensures.read
