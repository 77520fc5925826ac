use Rattle.nfs3mask.proofs.Common.{ap, ◌≡◌, ◌∷◌, map, string_bytes, change_word}
use Rattle.nfs3mask.proofs.LineLemmas.{same_said, tail_of, told}
use Rattle.nfs3mask.proofs.line.command.of_two_files.Goals as goal

pub returns-in-Err-clause-refused : goal.returns-in-Err-clause-refused
returns-in-Err-clause-refused c = λ line said.
    told line c.change_fault.result c.change_fault.ensures (λ input output changes is.
    let e : c.args.input.now ∷ c.args.output.now ∷ map string_bytes c.args.changes.now
    ≡ input ∷ output ∷ map change_word changes = same_said line _ _ said is in
    c.in-Err.ensures.err changes (ap (λ l. tail_of (tail_of l)) e))
