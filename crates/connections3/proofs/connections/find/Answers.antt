use Rattle.std.proofs.Common.{◌∙◌, ap, length}
use Rattle.connections3.specs.Groups.{chosen}
use Rattle.connections3.specs.machinery.Table.{flow_numbers_at}
use Rattle.connections3.proofs.GroupsLemmas.{recent_found, table_inside}
use Rattle.connections3.proofs.connections.find.Goals as goal

pub choose-requires-clause-newest : goal.choose-requires-clause-newest
choose-requires-clause-newest c =
    (table_inside c.args.recent.now c.args.connections.now c.args.packet.now.ends
    c.in-Some.recent.now c.requires.table c.in-Some.ensures.value).0

pub choose-requires-clause-older : goal.choose-requires-clause-older
choose-requires-clause-older c =
    (table_inside c.args.recent.now c.args.connections.now c.args.packet.now.ends
    c.in-Some.recent.now c.requires.table c.in-Some.ensures.value).1

pub returns-in-Some-clause-chosen : goal.returns-in-Some-clause-chosen
returns-in-Some-clause-chosen c =
    let cs = c.args.connections.now in
    let p = c.args.packet.now in
    let found = recent_found c.args.recent.now cs p.ends c.in-Some.recent.now c.requires.table
    c.in-Some.ensures.value in
    c.choose.ensures.chosen
    ∙ ap (λ o. chosen o (flow_numbers_at cs) (length cs) p) found
