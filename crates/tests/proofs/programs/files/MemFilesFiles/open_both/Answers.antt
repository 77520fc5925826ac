use Rattle.std.proofs.Common.{Some, refl}
use Rattle.tests.proofs.programs.files.MemFilesFiles.open_both.Goals as goal

pub returns-in-Ok-clause-opened : goal.returns-in-Ok-clause-opened
returns-in-Ok-clause-opened c =
    c.new.ensures (λ _. Some c.args.self.now.bytes.now) refl
