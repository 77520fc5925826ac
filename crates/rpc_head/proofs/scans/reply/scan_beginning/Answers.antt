use Rattle.rpc_head.proofs.Common.{◌<◌, ◌≤◌, ◌∙◌, ℕ, subst, sym, called}
use Rattle.rpc_head.proofs.HeadScanLemmas.{accepted_begins, denied_begins, flavor_refused_there, is_zero, reject_refused, stat_refused}
use Rattle.rpc_head.proofs.scans.reply.scan_beginning.Goals as goal

pub returns-then-reply_stat-gt1-clause-err : goal.returns-then-reply_stat-gt1-clause-err
returns-then-reply_stat-gt1-clause-err g c =
    rw (c.stop.ensures, c.at-at.ensures.place) (stat_refused c.args.input.now c.run.new.self
    c.in-Some.run'.now c.in-Some.ensures.read
    (subst (λ (n : ℕ). 1 < n) c.word_in-reply_stat.ensures c.if-reply_stat-gt1.true))

pub returns-then-second-gt1-clause-err : goal.returns-then-second-gt1-clause-err
returns-then-second-gt1-clause-err g c =
    rw (c.stop-then-second-gt1.ensures, c.at-at.ensures.place) (reject_refused c.args.input.now
    c.run.new.self c.in-Some.run'.now c.in-Some.ensures.read
    (sym c.word_in-reply_stat.ensures ∙ c.if-reply_stat-eq1.true)
    (subst (λ (n : ℕ). 1 < n) c.word_in-second.ensures c.if-second-gt1.true))

pub returns-then-reply_stat-eq1-clause-ok : goal.returns-then-reply_stat-eq1-clause-ok
unfolding called
returns-then-reply_stat-eq1-clause-ok g c =
    rw c.word_in-second.ensures (denied_begins g.V.Visit.stands c.in-Some.run'.now c.args.input.now
    c.run.new.self c.args.visitor.now c.plain.new.self c.in-Some.ensures.read
    c.in-Some.ensures.moves (sym c.word_in-reply_stat.ensures ∙ c.if-reply_stat-eq1.true)
    (subst (λ (n : ℕ). n ≤ 1) c.word_in-second.ensures c.if-second-gt1.false)
    c.in_ok-plain.ensures.ok)

pub returns-then-second-ne0-clause-err : goal.returns-then-second-ne0-clause-err
returns-then-second-ne0-clause-err g c =
    rw (c.stop-then-second-ne0.ensures, c.at-at.ensures.place) (flavor_refused_there
    c.args.input.now c.run.new.self c.in-Some.run'.now c.in-Some.ensures.read
    (sym c.word_in-reply_stat.ensures
    ∙ is_zero c.word_in-reply_stat.result c.if-reply_stat-gt1.false
    c.if-reply_stat-eq1.false)
    (λ is. c.if-second-ne0.true (c.word_in-second.ensures ∙ is)))

pub returns-clause-ok : goal.returns-clause-ok
unfolding called
returns-clause-ok g c =
    accepted_begins g.V.Visit.stands c.in-Some.run'.now c.args.input.now c.run.new.self
    c.args.visitor.now c.plain-2.new.self c.in-Some.ensures.read c.in-Some.ensures.moves
    (sym c.word_in-reply_stat.ensures
    ∙ is_zero c.word_in-reply_stat.result c.if-reply_stat-gt1.false
    c.if-reply_stat-eq1.false) (sym c.word_in-second.ensures ∙ c.if-second-ne0.false)
    c.in_ok-plain-2.ensures.ok
