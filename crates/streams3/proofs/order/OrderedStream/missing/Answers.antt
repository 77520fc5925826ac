use Rattle.std.proofs.Common.{Option, None, Some, MatchOption, subst}
use Rattle.streams3.specs.Order.{HasNoGap, IsGap}
use Rattle.streams3.proofs.OrderLemmas.{IsLimit, first_missing, none_missing}
use Rattle.streams3.proofs.order.OrderedStream.missing.Goals as goal

match_map : {A : Type 0} {P Q : Type 0} {F G : A → Type 0} (o : Option A) → (P → Q)
    → ((x : A) → F x → G x) → MatchOption o P F → MatchOption o Q G
match_map None f g h = f h
match_map (Some x) f g h = g x h

pub returns : goal.returns
returns c =
    let stream = c.args.self.now in
    let limit = c.end_of_sent.result in
    let is : IsLimit stream limit = c.end_of_sent.ensures in
    match_map c.gap.result
    (λ none. none_missing stream limit is
    (subst (λ n. HasNoGap stream.runs n limit) c.begin.ensures none))
    (λ g some. first_missing stream limit g is
    (subst (λ n. IsGap stream.runs n limit g.begin g.end) c.begin.ensures some)) c.gap.ensures
