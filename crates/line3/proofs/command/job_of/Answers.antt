use Rattle.line3.proofs.Common.{rules, refl, arith, map, string_bytes, ◌≡◌, length, length-map}
use Rattle.line3.proofs.LineLemmas.{four_words, line_of, many_words, no_form_so_short, three_words, told}
use Rattle.line3.proofs.command.job_of.Goals as goal

pub returns-in_default-clause-refused : goal.returns-in_default-clause-refused
returns-in_default-clause-refused c = λ line are.
    let many : length (map string_bytes c.args.words.now) ≡ length c.args.words.now =
    length-map c.args.words.now string_bytes in
    told line c.usage.result c.usage.ensures
    (no_form_so_short line (map string_bytes c.args.words.now) are (omega (arith, many)))

pub returns-in-len3-clause-asked : goal.returns-in-len3-clause-asked
returns-in-len3-clause-asked c = λ line are.
    let w =
    three_words c.args.words.now c.command-item.result c.file-item.result c.as_str.result.now
    c.as_str-in-len3.result.now c.in-len3.len_at_least c.in-len3.len_below c.command-item.is
    c.file-item.is (search rules) (search rules) in
    c.of_one_file.ensures.asked line
    (line_of line (map string_bytes c.args.words.now) w.0 _ _ are w.1)

pub returns-in-len3-clause-refused : goal.returns-in-len3-clause-refused
returns-in-len3-clause-refused c = λ line are.
    let w =
    three_words c.args.words.now c.command-item.result c.file-item.result c.as_str.result.now
    c.as_str-in-len3.result.now c.in-len3.len_at_least c.in-len3.len_below c.command-item.is
    c.file-item.is (search rules) (search rules) in
    c.of_one_file.ensures.refused line
    (line_of line (map string_bytes c.args.words.now) w.0 _ _ are w.1)

pub returns-in-len4-clause-asked : goal.returns-in-len4-clause-asked
returns-in-len4-clause-asked c = λ line are.
    let w =
    four_words c.args.words.now c.command-item-then-words-lt5.result c.first-item.result
    c.second-item.result c.as_str-in-len4.result.now c.as_str-in-len4-2.result.now
    c.as_str-in-len4-3.result.now c.in-len4.len_at_least c.in-len4.len_below
    c.command-item-then-words-lt5.is c.first-item.is c.second-item.is (search rules)
    (search rules) (search rules) in
    c.of_two_files.ensures.asked line
    (line_of line (map string_bytes c.args.words.now) w.0 _ _ are w.1)

pub returns-in-len4-clause-refused : goal.returns-in-len4-clause-refused
returns-in-len4-clause-refused c = λ line are.
    let w =
    four_words c.args.words.now c.command-item-then-words-lt5.result c.first-item.result
    c.second-item.result c.as_str-in-len4.result.now c.as_str-in-len4-2.result.now
    c.as_str-in-len4-3.result.now c.in-len4.len_at_least c.in-len4.len_below
    c.command-item-then-words-lt5.is c.first-item.is c.second-item.is (search rules)
    (search rules) (search rules) in
    c.of_two_files.ensures.refused line
    (line_of line (map string_bytes c.args.words.now) w.0 _ _ are w.1)

pub returns-in-len3-up-clause-asked : goal.returns-in-len3-up-clause-asked
returns-in-len3-up-clause-asked c = λ line are.
    let w =
    many_words c.args.words.now c.command-item-2.result c.output-item.result
    c.as_str-in-len3-up.result.now (string_bytes c.output-item.result) c.in-len3-up.len_at_least
    c.command-item-2.is c.output-item.is (search rules) refl in
    c.of_streams.ensures.asked line
    (line_of line (map string_bytes c.args.words.now) w.0 _ _ are w.1)

pub returns-in-len3-up-clause-refused : goal.returns-in-len3-up-clause-refused
returns-in-len3-up-clause-refused c = λ line are.
    let w =
    many_words c.args.words.now c.command-item-2.result c.output-item.result
    c.as_str-in-len3-up.result.now (string_bytes c.output-item.result) c.in-len3-up.len_at_least
    c.command-item-2.is c.output-item.is (search rules) refl in
    c.of_streams.ensures.refused line
    (line_of line (map string_bytes c.args.words.now) w.0 _ _ are w.1)
