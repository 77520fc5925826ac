use Rattle.listing3.proofs.Common.{all_items}
use Rattle.listing3.proofs.Lines.LineLemmas.{gathered_between}
use Rattle.listing3.proofs.line_writer.LineWriterEntryWriter.counts.Goals as goal

pub returns : goal.returns
returns g c bytes entries typed passed goes rests =
    let (going, ended) =
    g.met.H.Counting.ends c.args.self.now.handles entries
    (gathered_between g.H.Visit.stands c.args.self.now (all_items entries) rests) in
    c.counts.ensures bytes entries typed passed going ended
