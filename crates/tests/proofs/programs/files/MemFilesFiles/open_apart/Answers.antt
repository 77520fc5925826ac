use Rattle.std.proofs.Common.{Some, refl}
use Rattle.tests.proofs.programs.files.MemFilesFiles.open_apart.Goals as goal

pub returns-clause-opened : goal.returns-clause-opened
returns-clause-opened c =
    c.new.ensures (λ _. Some c.args.self.now.bytes.now) refl
