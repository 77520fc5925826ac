use Rattle.nfs3mask.proofs.Common.{arith, rules, ◌≡◌, length, map, string_bytes}
use Rattle.std.proofs.lemmas.List.{length-map}
use Rattle.nfs3mask.proofs.ChangeLemmas.{names_first}
use Rattle.nfs3mask.proofs.LineLemmas.{line_of, no_form_so_short, told}
use Rattle.nfs3mask.proofs.line.command.mask_job_of.Goals as goal

pub returns-in_default-clause-refused : goal.returns-in_default-clause-refused
returns-in_default-clause-refused c = λ line are.
    let many : length (map string_bytes c.args.words.now) ≡ length c.args.words.now =
    length-map c.args.words.now string_bytes in
    told line c.usage.result c.usage.ensures
    (no_form_so_short line (map string_bytes c.args.words.now) are (omega (arith, many)))

pub returns-in-len3-up-clause-asked : goal.returns-in-len3-up-clause-asked
returns-in-len3-up-clause-asked c = λ line are.
    let w =
    names_first c.args.words.now c.input-item.result c.output-item.result c.as_str.result.now
    c.as_str-in-len3-up.result.now c.in-len3-up.len_at_least c.input-item.is c.output-item.is
    (search rules) (search rules) in
    c.of_two_files.ensures.asked line
    (line_of line (map string_bytes c.args.words.now) w.0 _ are w.1)

pub returns-in-len3-up-clause-refused : goal.returns-in-len3-up-clause-refused
returns-in-len3-up-clause-refused c = λ line are.
    let w =
    names_first c.args.words.now c.input-item.result c.output-item.result c.as_str.result.now
    c.as_str-in-len3-up.result.now c.in-len3-up.len_at_least c.input-item.is c.output-item.is
    (search rules) (search rules) in
    c.of_two_files.ensures.refused line
    (line_of line (map string_bytes c.args.words.now) w.0 _ are w.1)
