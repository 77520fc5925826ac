use Rattle.std.proofs.Common.{Some, refl}
use Rattle.tests.proofs.programs.files.MemFilesFiles.open.Goals as goal

pub returns : goal.returns
returns c =
    record { opened = c.new.ensures (λ _. Some c.args.self.now.bytes.now) refl }
