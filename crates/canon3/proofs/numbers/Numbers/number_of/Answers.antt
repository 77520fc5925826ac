use Rattle.canon3.proofs.Common.{◌≡◌, ap, ◌∙◌, sym, min, arith, rules, true, [], common_steps, list_any, position_or_len, distinct, with_key}
use Rattle.capture3.proofs.Lemmas.Connections.RankLemmas.{rank-push, distinct-push, any-distinct}
use Rattle.canon3.proofs.numbers.Numbers.number_of.Goals as goal

pub returns-in_err-index-clause-known : goal.returns-in_err-index-clause-known
returns-in_err-index-clause-known g c given h e =
    let eq = g.K.PartialEq.eq in
    let there : list_any (eq c.args.key) c.args.self.now ≡ true =
    ap (list_any (eq c.args.key)) h ∙ any-distinct eq g.met.K.Eq.laws c.args.key given [] e in
    search rules

pub returns-clause-number : goal.returns-clause-number
returns-clause-number g c given h =
    let eq = g.K.PartialEq.eq in
    let number = rank-push eq g.met.K.Eq.laws c.args.key given in
    let index : c.in_ok-index.index ≡ position_or_len (eq c.args.key) (distinct eq given) =
    c.in_ok-index.ensures.index ∙ ap (position_or_len (eq c.args.key)) (c.self.view_is ∙ h) in
    let capped : c.unwrap_or.result ≡ min c.in_ok-index.index 4294967295 =
    first_of (search rules, grind (arith, common_steps)) in
    omega (arith, number, index, capped, c.saturating_add.ensures)

pub returns-clause-given : goal.returns-clause-given
returns-clause-given g c given h =
    let eq = g.K.PartialEq.eq in
    c.in_ok-index.ensures.keys
    ∙ (ap (λ keys. with_key eq keys c.args.key) (c.self.view_is ∙ h)
    ∙ sym (distinct-push eq g.met.K.Eq.laws c.args.key given))
