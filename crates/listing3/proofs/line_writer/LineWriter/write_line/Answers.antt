use Rattle.listing3.proofs.Common.{rules, ◌+◌}
use Rattle.listing3.proofs.Lines.LineLemmas.{is_line, writes_same}
use Rattle.listing3.proofs.line_writer.LineWriter.write_line.Goals as goal

pub returns-in-Ok-clause-writes : goal.returns-in-Ok-clause-writes
returns-in-Ok-clause-writes g c front rest n few spells stands =
    let p = c.args.progress in
    writes_same c.hand_over.result
    (is_line g.H.Visit.stands c.args.self.now p.connections c.args.side.now (p.records + 1)
    c.args.id front rest n c.compose.new.self.head c.compose.new.self.items.text
    c.args.body.now c.compose.new.self.items.gap spells (search rules) stands
    (c.in-Ok.ensures.head few) c.in-Ok.ensures.items c.in-Ok.ensures.gap)
    c.hand_over.ensures.writes
