use Rattle.nfs3canon.proofs.Common.{[], ◌∷◌, ◌∙◌, ap, ap₂, reading_in, reading_under}
use Rattle.nfs3canon.proofs.FilesLemmas.{compares_read}
use Rattle.nfs3canon.proofs.files.run_same.Goals as goal

pub returns : goal.returns
returns g c =
    let (named, unread) = c.in-Ok.ensures.opened in
    let (other_named, other_unread) = c.in-Ok-open.ensures.opened in
    let came = c.same-came in
    let is = c.close.ensures ∙ ap (λ n. reading_under n came.new.first) named in
    let other_is = c.close-2.ensures ∙ ap (λ n. reading_under n came.new.second) other_named in
    record {
      compares =
          compares_read g.F.Input.Read.remaining (record {
            holds = g.F.Files.holds c.args.files.now;
            readings = reading_in c.close.result ∷ reading_in c.close-2.result ∷ [];
            finished = (g.F.Files.finished c.args.files.now, g.F.Files.finished c.args.files.now);
          }) c.args.first.now
          c.args.second.now c.in-Ok.opened.source came.new.first c.in-Ok-open.other.source
          came.new.second unread other_unread came.result (ap₂ (λ r s. r ∷ s ∷ []) is other_is)
          came.ensures.read_first came.ensures.read_second came.ensures.write came.ensures.gave;
    }
