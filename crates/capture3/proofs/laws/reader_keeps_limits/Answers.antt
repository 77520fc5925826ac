use Rattle.capture3.proofs.laws.reader_keeps_limits.Goals as goal

pub returns : goal.returns
returns g c given handed stands = stands.limits
