use Rattle.std.proofs.lemmas.List.{take_rest}
use Rattle.std.specs.Prelude.{take}
use Rattle.masking3.proofs.Common.{List, [], ℕ, OnErr, ap, append-nil, drop, length, refl, subst, ◌++◌, ◌+◌, ◌-◌, ◌∙◌, ◌≡◌, AppendsFront, chunk_bytes, record_bytes, unnamed_body}
use Rattle.masking3.proofs.masking_writer.unnamed_body.write_unnamed.Goals as goal

pub returns-in-Some-clause-err : goal.returns-in-Some-clause-err
returns-in-Some-clause-err g c =
    let body = c.args.body.now in
    let at = 40 + c.in-Some.room in
    let unnamed : c.unnamed_head.result ++ drop at body ≡ unnamed_body body =
    rw (c.in-Some.ensures.room.0, c.unnamed_head.ensures, c.in-Some.ensures.room.1) refl in
    let written : c.unnamed_head.result ++ take (length body - at) (drop at body)
    ≡ unnamed_body body =
    ap (λ (l : List ℕ). c.unnamed_head.result ++ l) (take_rest body at) ∙ unnamed in
    subst
    (λ (l : List ℕ).
    OnErr c.write_message.result (AppendsFront (g.W.Sink.written c.args.sink.now)
    (g.W.Sink.written c.write_message.new.sink) (chunk_bytes (record_bytes l)))) written
    c.write_message.ensures.err

pub returns-in-None-clause-err : goal.returns-in-None-clause-err
returns-in-None-clause-err g c =
    let body = c.args.body.now in
    let written : body ++ [] ≡ unnamed_body body = rw (c.in-None.ensures.room) (append-nil body) in
    subst
    (λ (l : List ℕ).
    OnErr c.write_message-in-None.result (AppendsFront (g.W.Sink.written c.args.sink.now)
    (g.W.Sink.written c.write_message-in-None.new.sink) (chunk_bytes (record_bytes l)))) written
    c.write_message-in-None.ensures.err
