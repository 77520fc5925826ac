use Rattle.std.proofs.Common.{[], refl}
use Rattle.connections3.proofs.connection.Connection.new.Goals as goal

pub returns-clause-ok : goal.returns-clause-ok
returns-clause-ok c =
    c.in_ok-take.ensures.ok c.args.packet.now.ends []
    (record { ends = refl; client = refl; lower = refl; higher = refl })
