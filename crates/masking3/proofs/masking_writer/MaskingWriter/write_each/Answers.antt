use Rattle.std.proofs.Common.{◌∙◌, ap}
use Rattle.std.proofs.lemmas.List.{take_rest}
use Rattle.xdr3.proofs.Lemmas.Shapes.PlainLemmas.{passing_ends, passing_next}
use Rattle.masking3.proofs.Common.{MaskStands}
use Rattle.masking3.proofs.masking_writer.MaskingWriter.write_each.Goals as goal
use Rattle.masking3.proofs.masking_writer.MaskingWriter.write_each.Goals.{in-Word+in_ok-word-in-Word, in-Hyper+in_ok-hyper-in-Hyper}

pub loop-field-preserved : goal.loop-field-preserved
loop-field-preserved g c =
    let stands = MaskStands g.P.Plan.ways in
    elim c.match-field.branch [
      | in-Word+in_ok-word-in-Word w ↦
          passing_next stands c.args.fields.now c.args.bytes.now c.loop-field.rest.now
          c.match-field.rest.now c.args.self.now c.loop-field.self w.word.new.self
          c.match-field.self c.loop-field.field-index _ _ c.loop-field.invariant
          c.loop-field-test.true w.in-Word.is
          (rw w.read_u32.ensures at w.in_ok-word-in-Word.ensures.ok)
          (ap (λ r. r.now) w.rest-is ∙ take_rest c.loop-field.rest.now 4) w.self-is
      | in-Hyper+in_ok-hyper-in-Hyper w ↦
          passing_next stands c.args.fields.now c.args.bytes.now c.loop-field.rest.now
          c.match-field.rest.now c.args.self.now c.loop-field.self w.hyper.new.self
          c.match-field.self c.loop-field.field-index _ _ c.loop-field.invariant
          c.loop-field-test.true w.in-Hyper.is
          (rw w.read_u64.ensures at w.in_ok-hyper-in-Hyper.ensures.ok)
          (ap (λ r. r.now) w.rest-is ∙ take_rest c.loop-field.rest.now 8) w.self-is
    ]

pub returns : goal.returns
returns g c =
    passing_ends (MaskStands g.P.Plan.ways) c.args.fields.now c.args.bytes.now
    c.loop-field.rest.now c.args.self.now c.loop-field.self c.loop-field.field-index
    c.loop-field.invariant c.loop-field-test.false
