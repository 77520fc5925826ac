use Rattle.std.proofs.Common.{Some, ap, codes, inl, inr, sym, ◌∙◌}
use Rattle.clap.specs.Words.{found_of, rows_of}
use Rattle.clap.proofs.WalkLemmas.{first_value-rows}
use Rattle.std.specs.Cmp.Lexicographic.{other_text, same_text}
use Rattle.nfs3streams.proofs.LineLemmas.{no_name}
use Rattle.nfs3streams.proofs.line.command.job_found.Goals.{in_default-via-in-Some+in_default, in_default-via-in_default}
use Rattle.nfs3streams.proofs.line.command.job_found.Goals as goal

pub returns-in_default-clause-refused : goal.returns-in_default-clause-refused
returns-in_default-clause-refused c =
    let found = found_of c.args.matches.now in
    no_name (rows_of found) c.usage.result c.usage.ensures
    (elim c.in_default.branch [
      | in_default-via-in-Some+in_default w ↦
          inr (sym (w.in_default.ensures' ∙ first_value-rows found (codes "OUT")))
      | in_default-via-in_default w ↦
          inl (sym (w.in_default.ensures ∙ first_value-rows found (codes "RECORDING")))
    ])

pub returns-then-eq-clause-refused : goal.returns-then-eq-clause-refused
returns-then-eq-clause-refused c =
    let it = c.in-Some-Some in
    let found = found_of c.args.matches.now in
    record {
      name = it.recording.now;
      recording = sym (it.ensures ∙ first_value-rows found (codes "RECORDING"));
      output = sym (it.ensures' ∙ first_value-rows found (codes "OUT"))
          ∙ ap Some (sym (same_text it.recording.now it.output.now c.if-eq.ensures));
    }

pub returns-in-Ok-clause-asked : goal.returns-in-Ok-clause-asked
returns-in-Ok-clause-asked c =
    let it = c.in-Some-Some in
    let found = found_of c.args.matches.now in
    record {
      recording = sym (it.ensures ∙ first_value-rows found (codes "RECORDING"));
      output = sym (it.ensures' ∙ first_value-rows found (codes "OUT"));
      wanted = c.wanted.ensures;
      ports = c.in-Ok.ensures.ok;
      distinct = other_text it.recording.now it.output.now c.if-eq.ensures;
    }
