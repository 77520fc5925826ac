use Rattle.program3.proofs.Common.{◌∙◌, ap, inl, refl, subst, sym, IsByFailedRead, MayContain, reading_in}
use Rattle.program3.specs.Files.{KeepsForm}
use Rattle.program3.proofs.rewriting.run_rewriting.Goals as goal

pub returns-in-Ok : goal.returns-in-Ok
returns-in-Ok g c =
    let it = c.in-Ok.ensures in
    let came = c.keep_form-came in
    let name = c.in-Ok.opened.name.bytes in
    let whole = g.F.Files.holds c.args.files.now c.args.input.now in
    record {
      rewrites =
          inl (
            reading_in c.close.result,
            refl,
            ap (λ r. r.name) c.close.ensures ∙ it.opened.0,
            subst (λ r. IsByFailedRead r came.result) (sym c.close.ensures)
                (came.ensures.read name it.opened.1.failures),
            λ bytes may.
                subst
                (λ output.
                KeepsForm g.J.Rewriting.counts (g.J.Rewriting.form c.args.rewriting) output bytes
                (g.F.Files.finished c.args.files.now, g.F.Files.finished came.new.files)
                came.result) it.made.1
                (came.ensures.keeps whole name bytes it.opened.1
                (subst (λ r. MayContain whole r bytes) c.close.ensures may) it.made.0),
          );
    }
