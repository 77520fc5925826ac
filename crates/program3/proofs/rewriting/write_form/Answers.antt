use Rattle.program3.proofs.Common.{ap, subst, sym, ◌∙◌, append_known, WritesAllCounted, reading_under}
use Rattle.std.specs.Io.Buffered.{writer_buffer, writer_contents}
use Rattle.program3.proofs.FilesLemmas.{append_none, failed_out, given_of, one_failed, prefix_of, written_all}
use Rattle.program3.proofs.rewriting.write_form.Goals as goal

-- The buffer held nothing.
pub returns-clause-writes : goal.returns-clause-writes
returns-clause-writes g c whole name bytes unread may =
    let form = g.J.Rewriting.form c.args.rewriting in
    let counts = g.J.Rewriting.counts in
    let contents = g.W.Write.contents in
    let came = c.rewrite-came in
    let (given, gave) = given_of counts form _ _ _ _ came.result came.ensures.writes in
    let prefix =
    prefix_of g.R.Read.remaining whole name c.args.source.now came.new.source unread given bytes
    gave may in
    let held =
    ap (λ s. writer_contents contents s.device) c.new-sink.ensures
    ∙ ap (λ inner. append_known (contents inner) (writer_buffer c.in-Ok.buffer))
    c.in-Ok.ensures.inner
    ∙ ap (λ gathered. append_known (contents c.args.output) gathered) c.in-Ok.ensures.empty
    ∙ append_none (contents c.args.output) in
    let all =
    subst
    (λ old.
    WritesAllCounted counts form bytes (old, writer_contents contents came.new.sink.device)
    came.result) held (came.ensures.whole bytes prefix) in
    let back =
    subst
    (λ buffer.
    WritesAllCounted counts form bytes (contents c.args.output, writer_contents contents buffer)
    came.result) (sym c.into_inner.ensures) all in
    written_all counts form bytes (contents c.args.output)
    (writer_contents contents c.into_inner.result) (contents c.write_out.result.1) came.result
    c.write_out.result.0 back c.write_out.ensures.came c.write_out.ensures.written

pub returns-clause-read : goal.returns-clause-read
returns-clause-read g c name unread =
    let came = c.rewrite-came in
    failed_out (reading_under name came.new.source) came.result c.write_out.result.0 _ _
    (one_failed name c.args.source.now.failures came.new.source unread came.result
    came.ensures.read) c.write_out.ensures.came c.write_out.ensures.written
