use Rattle.listing3.proofs.Common.{◌≡◌, ℕ, List, [], ◌∷◌, ◌++◌, append-nil, length, sym, ap, ◌∙◌, arith, rules, on_ok_weaker, encode_lower, encode_with, opening}
use Rattle.listing3.proofs.line_text.LineText.append_hex.Goals as goal

-- the text of no bytes is the name alone
no_digits : (now before name bytes : List ℕ) → length bytes ≡ 0 → now ≡ before ++ opening name
    → now ≡ before ++ (opening name ++ encode_lower bytes)
unfolding encode_with
no_digits now before name [] none is =
    is ∙ ap (λ (l : List ℕ). before ++ l) (sym (append-nil (opening name)))
no_digits now before name (x ∷ bytes) none is = absurd (omega (arith, none))

pub returns-then-is_empty-clause-ok : goal.returns-then-is_empty-clause-ok
returns-then-is_empty-clause-ok c =
    let none : length c.args.bytes.now ≡ 0 = search rules in
    on_ok_weaker c.append_name.result
    (no_digits c.append_name.new.self c.args.self.now c.args.name.now c.args.bytes.now none)
    c.append_name.ensures.ok
