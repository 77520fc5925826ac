use Rattle.masking3.proofs.Common.{OnErr, ⊎_elim, subst, sym, chunk_bytes, record_bytes, AppendsFront, Way, body_by}
use Rattle.masking3.proofs.masking_writer.write_call.Goals as goal

pub returns-in-Zero-clause-err : goal.returns-in-Zero-clause-err
returns-in-Zero-clause-err g c =
    let Fronts : Way → Type 0 = λ w.
    OnErr c.write_unnamed.result (AppendsFront (g.W.Sink.written c.args.sink.now)
    (g.W.Sink.written c.write_unnamed.new.sink)
    (chunk_bytes (record_bytes (body_by w c.args.body.now)))) in
    ⊎_elim (λ is. subst Fronts (sym is) c.write_unnamed.ensures.err)
    (λ is. subst Fronts (sym is) c.write_unnamed.ensures.err) c.in-Zero.is
