use Rattle.xdr3.specs.Item.{called}
use Rattle.rpc_head.proofs.HeadScanLemmas.{accept_alone, accept_versions}
use Rattle.rpc_head.proofs.scans.reply.scan_accept.Goals as goal

pub returns-then-stat-ne2-clause-ok : goal.returns-then-stat-ne2-clause-ok
returns-then-stat-ne2-clause-ok g c =
    accept_alone g.V.Visit.stands c.in_ok-stat.stat c.args.input.now c.scan_accept_stat.new.input
    c.args.visitor.now c.scan_accept_stat.new.visitor c.in_ok-stat.ensures.ok c.if-stat-ne2.true

pub returns-clause-ok : goal.returns-clause-ok
unfolding called
returns-clause-ok g c =
    accept_versions g.V.Visit.stands c.in_ok-stat.stat c.in_ok-scan_word.field-0
    c.in_ok-scan_word-2.field-0
    c.args.input.now c.scan_accept_stat.new.input c.scan_word.new.input c.scan_word-2.new.input
    c.args.visitor.now c.scan_accept_stat.new.visitor c.scan_word.new.visitor
    c.scan_word-2.new.visitor
    c.in_ok-stat.ensures.ok c.if-stat-ne2.false c.in_ok-scan_word.ensures.ok
    c.in_ok-scan_word-2.ensures.ok
