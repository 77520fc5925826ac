use Rattle.procs3.proofs.Common.{layout_is_read, layout_given_within, results_items}
use Rattle.procs3.specs.Table.{results_of}
use Rattle.procs3.proofs.values.results.Results.get.Goals as goal

pub returns-clause-relations : goal.returns-clause-relations
returns-clause-relations c =
    layout_is_read (results_of c.args.id) results_items c.args.input.now c.of_procedure.new.input
    c.of_procedure.result c.at.ensures.bytes c.at.ensures.within c.of_procedure.ensures.read

pub returns-clause-limit : goal.returns-clause-limit
returns-clause-limit c =
    layout_given_within (results_of c.args.id) results_items c.args.input.now.body
    c.args.input.now.at c.of_procedure.new.input.at c.of_procedure.result c.at.ensures.bytes
    c.at.ensures.within c.at.ensures.limit c.of_procedure.ensures.read
