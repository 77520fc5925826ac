use Rattle.canon3.proofs.Common.{ap, ◌∙◌, min, number_limit}
use Rattle.canon3.proofs.Lemmas.Numbers.HandleTableLemmas.{count_gathered}
use Rattle.canon3.proofs.numbers.handles.HandleTable.len.Goals as goal

pub returns : goal.returns
returns g c items h =
    c.len.ensures h.0 (c.self.view_is ∙ h.1)
    ∙ ap (λ n. min n number_limit) (count_gathered c.args.self.now items h)
