use Rattle.packing3.proofs.Connections.{writes_pair}
use Rattle.packing3.proofs.packing.Packing.write_pair.Goals as goal

pub returns-clause-writes : goal.returns-clause-writes
returns-clause-writes g c =
    writes_pair c.args.self.now _ _ _ c.write_connection.result c.write_connection.ensures.writes
