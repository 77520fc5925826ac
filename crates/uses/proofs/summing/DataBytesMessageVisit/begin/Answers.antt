use Rattle.std.proofs.Common.{[], ◌∷◌, ◌++◌, append_assoc, refl, subst}
use Rattle.xdr3.specs.Item.{Word, called}
use Rattle.xdr3.specs.View.{word_of}
use Rattle.capture3.specs.MessageVisit.{OpensMessage}
use Rattle.uses.specs.Summing.{HasSummed}
use Rattle.uses.proofs.SummingLemmas.{no_data}
use Rattle.uses.proofs.summing.DataBytesMessageVisit.begin.Goals as goal

pub returns : goal.returns
unfolding OpensMessage
returns c before sum =
    let v = c.args.self.now in
    let xid = Word (called "xid") c.args._start.xid in
    let mtype = Word (called "mtype") (word_of c.args._start.is_reply) in
    subst (HasSummed v) (append_assoc before (xid ∷ []) (mtype ∷ []))
    (no_data v (before ++ xid ∷ []) mtype refl (no_data v before xid refl sum))
