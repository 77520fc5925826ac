use Rattle.line3.proofs.Common.{arith, ap, ◌≡◌, ◌≤◌, ◌∙◌, length, map, string_bytes, length-map, App, app_of, takes}
use Rattle.clap.specs.Lexer.{usize_max}
use Rattle.line3.proofs.GrammarLemmas.{refuses}
use Rattle.line3.proofs.command.job.Goals as goal

pub returns-in-Err-try_words-clause-refused : goal.returns-in-Err-try_words-clause-refused
returns-in-Err-try_words-clause-refused c =
    let words = map string_bytes c.args.words.now.items in
    let many : length words ≡ length c.args.words.now.items =
    length-map c.args.words.now.items string_bytes in
    let few : length words ≤ usize_max = omega (arith, many) in
    let (usage, memory) = c.in-Err-try_words.ensures.refused in
    refuses words c.in-Err-try_words.fault few usage
    (λ taken.
    memory
    (ap (λ l. takes (app_of c.in-Ok.command) (map string_bytes l)) c.as_slice.ensures.value
    ∙ ap (λ (a : App). takes a words) c.in-Ok.ensures ∙ taken))
