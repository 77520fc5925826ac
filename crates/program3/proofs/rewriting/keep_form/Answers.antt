use Rattle.program3.proofs.Common.{Ok, refl, subst, WritesAllCounted, IsByFailedRead, reading_under}
use Rattle.program3.proofs.FilesLemmas.{keeps_none, keeps_whole}
use Rattle.program3.proofs.rewriting.keep_form.Goals as goal

pub returns-in_ok-finish_file-in-Ok-Ok-default-clause-keeps :
    goal.returns-in_ok-finish_file-in-Ok-Ok-default-clause-keeps
returns-in_ok-finish_file-in-Ok-Ok-default-clause-keeps g c whole name bytes unread may fresh =
    let form = g.J.Rewriting.form c.args.rewriting in
    let counts = g.J.Rewriting.counts in
    let it = c.in-Ok-Ok-default in
    let written = g.F.Output.Write.contents it.file in
    keeps_whole counts form bytes (g.F.Files.name_of c.args.made.place)
    (g.F.Files.finished c.args.files.now) it.summary written
    (g.F.Files.finished c.finish_file.new.files)
    (subst (λ old. WritesAllCounted counts form bytes (old, written) (Ok it.summary)) fresh
    (subst
    (WritesAllCounted counts form bytes (g.F.Output.Write.contents c.args.made.file, written))
    it.field-0-0-is (it.ensures.writes whole name bytes unread may)))
    c.in_ok-finish_file-in-Ok-Ok-default.ensures.ok

pub returns-in-Ok-Err-default-clause-keeps : goal.returns-in-Ok-Err-default-clause-keeps
returns-in-Ok-Err-default-clause-keeps g c whole name bytes unread may fresh =
    let form = g.J.Rewriting.form c.args.rewriting in
    let counts = g.J.Rewriting.counts in
    let it = c.in-Ok-Err-default in
    let empty = g.F.Output.Write.contents c.args.made.file in
    let written = g.F.Output.Write.contents it._file in
    keeps_none counts form bytes (g.F.Files.name_of c.args.made.place)
    (g.F.Files.finished c.args.files.now) it.error empty written
    (g.F.Files.finished c.args.files.now)
    (subst (WritesAllCounted counts form bytes (empty, written)) it.field-0-0-is
    (it.ensures.writes whole name bytes unread may)) refl

pub returns-in-Ok-Err-default-clause-read : goal.returns-in-Ok-Err-default-clause-read
returns-in-Ok-Err-default-clause-read g c name none =
    let it = c.in-Ok-Err-default in
    subst (IsByFailedRead (reading_under name c.write_form.new.source)) it.field-0-0-is
    (it.ensures.read name none)
