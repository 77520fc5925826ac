use Rattle.masking3.proofs.Common.{◌∙◌, sym, subst, HoldsValues, with_one}
use Rattle.masking3.proofs.Lemmas.Classes.ClassLemmas.{holds_numbered}
use Rattle.masking3.proofs.values.class_tables.ClassTables.substitute.Goals as goal

pub returns-in_ok-number-in-Number-clause-holds : goal.returns-in_ok-number-in-Number-clause-holds
returns-in_ok-number-in-Number-clause-holds g c seen held =
    let d = c.in-Some.class in
    let old = c.args.self.now.numbers.items in
    let new = c.number.new.self.numbers.items in
    let given =
    c.in_ok-number-in-Number.ensures.holds (seen d) (held d (sym c.way.ensures ∙ c.in-Number.is)) in
    subst (λ w. HoldsValues w new (with_one seen c.args.class c.args.n)) (sym c.number.ensures.ways)
    (holds_numbered c.args.self.now.ways old new seen c.args.class c.args.n d c.in-Some.is given
    c.number.ensures.others held)
