use Rattle.std.proofs.Common.{◌∙◌, ap, sym}
use Rattle.connections3.specs.Connections.{flow_of}
use Rattle.connections3.specs.machinery.Table.{numbers_in}
use Rattle.connections3.proofs.GroupsLemmas.{numbers_there}
use Rattle.connections3.proofs.connections.numbers_at.Goals as goal

pub returns : goal.returns
returns c =
    let one = c.index-connections-index.result in
    c.numbers_in.ensures
    ∙ (ap (λ x. numbers_in (flow_of x c.args.end)) c.index-connections-index.is
    ∙ sym (numbers_there c.args.connections.now c.args.end c.args.index one c.requires))
