use Rattle.nfs3canon.proofs.Common.{[], ◌∷◌, ◌∙◌, ap, reading_in, reading_under}
use Rattle.nfs3canon.proofs.FilesLemmas.{counts_read}
use Rattle.nfs3canon.proofs.files.run_check.Goals as goal

pub returns-in-Ok : goal.returns-in-Ok
returns-in-Ok g c =
    let (named, unread) = c.in-Ok.ensures.opened in
    let came = c.check-came in
    let is = c.close.ensures ∙ ap (λ n. reading_under n came.new.source) named in
    record {
      counts =
          counts_read g.F.Input.Read.remaining (record {
            holds = g.F.Files.holds c.args.files.now;
            readings = reading_in c.close.result ∷ [];
            finished = (g.F.Files.finished c.args.files.now, g.F.Files.finished c.args.files.now);
          }) c.args.name.now c.in-Ok.opened.source came.new.source
          unread came.result (ap (λ r. r ∷ []) is) came.ensures.read came.ensures.write
          came.ensures.concludes came.ensures.whole;
    }
