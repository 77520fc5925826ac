use Rattle.nfs3canon.proofs.Common.{◌∙◌, ap, inl, refl, subst, sym, IsByFailedRead, MayContain, reading_in}
use Rattle.nfs3canon.proofs.listing.run_show.Goals as goal

pub returns-in-Ok-write_form : goal.returns-in-Ok-write_form
returns-in-Ok-write_form g c =
    let it = c.in-Ok-write_form in
    let (named, unread) = c.in-Ok.ensures.opened in
    let name = c.in-Ok.opened.name.bytes in
    let whole = g.F.Files.holds c.args.files.now c.args.name.now in
    record {
      lists =
          inl (
            it.output,
            refl,
            (
              reading_in c.close.result,
              refl,
              ap (λ r. r.name) c.close.ensures ∙ named,
              subst (λ r. IsByFailedRead r it.came) (sym c.close.ensures)
                  (it.ensures.read name unread.failures),
              λ bytes may.
                  it.ensures.writes whole name bytes unread
                  (subst (λ r. MayContain whole r bytes) c.close.ensures may),
            ),
          );
    }
