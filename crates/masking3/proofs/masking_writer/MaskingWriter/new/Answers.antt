use Rattle.masking3.proofs.Common.{[], refl, subst, ◌∙◌, HoldsValues, no_values}
use Rattle.masking3.proofs.masking_writer.MaskingWriter.new.Goals as goal

pub returns-clause-rests : goal.returns-clause-rests
returns-clause-rests g c going =
    let are = c.new-2.ensures.ways ∙ c.requires in
    record {
      front = [];
      are = refl;
      holds = record {
        ways_are = are;
        tables =
            subst (λ k. HoldsValues k (c.new-2.result.numbers.items) no_values) are
            c.new-2.ensures.holds;
        handles = c.new.ensures;
        written = c.new-3.ensures;
      };
    }
