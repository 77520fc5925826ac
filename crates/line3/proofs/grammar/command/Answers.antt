use Rattle.line3.proofs.Common.{rules, ap, ap₂, sym, refl, ◌≡◌, ◌∙◌, ◌&&◌, Bool, true, false, not, App, app_of, with_subcommand}
use Rattle.std.proofs.lemmas.Result.{IfOk-weaker}
use Rattle.line3.specs.Grammar.{bare}
use Rattle.line3.proofs.grammar.command.Goals as goal

both : (a b : Bool) → (a && b) ≡ true → (a ≡ true) × (b ≡ true)
both true b e = (refl, e)
both false b e = absurd (search rules)

is_false : (b : Bool) → not b ≡ true → b ≡ false
is_false true e = sym e
is_false false e = refl

pub returns : goal.returns
returns c =
    let start : app_of c.program.result ≡ bare = c.program.ensures in
    let one_is = c.in_ok-of_one_file.ensures in
    let two_is = c.in_ok-of_one_file-2.ensures in
    let three_is = c.in_ok-rewriting.ensures in
    let four_is = c.in_ok-comparison.ensures in
    let five_is = c.in_ok-packing.ensures in
    let one =
    c.in_ok-subcommand.ensures.shape (is_false
    _ (both _ _ (both _ _ (both _ _ (ap (λ (a : App). a.top.is_plain) one_is)).1).1).0)
    ∙ ap₂ with_subcommand start (ap (λ (a : App). a.top) one_is) in
    let two =
    c.in_ok-subcommand-2.ensures.shape (is_false
    _ (both _ _ (both _ _ (both _ _ (ap (λ (a : App). a.top.is_plain) two_is)).1).1).0)
    ∙ ap₂ with_subcommand one (ap (λ (a : App). a.top) two_is) in
    let three =
    c.in_ok-subcommand-3.ensures.shape (is_false
    _ (both
    _ _ (both _ _ (both _ _ (ap (λ (a : App). a.top.is_plain) three_is)).1).1).0)
    ∙ ap₂ with_subcommand two (ap (λ (a : App). a.top) three_is) in
    let four =
    c.in_ok-subcommand-4.ensures.shape (is_false
    _ (both _ _ (both _ _ (both _ _ (ap (λ (a : App). a.top.is_plain) four_is)).1).1).0)
    ∙ ap₂ with_subcommand three (ap (λ (a : App). a.top) four_is) in
    IfOk-weaker c.subcommand-5.result
    _ _ (λ m h.
    h.shape (is_false
    _ (both
    _ _ (both
    _ _ (both _ _ (ap (λ (a : App). a.top.is_plain) five_is)).1).1).0)
    ∙ ap₂ with_subcommand four (ap (λ (a : App). a.top) five_is)) c.subcommand-5.ensures
