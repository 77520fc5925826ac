use Rattle.capture3.proofs.Common.{arith, ◌≡◌, ◌≢◌, length, Some, None, Err, ap, refl, sym, ◌∙◌, true, NoCall, WrongSide, Stop, procedure_in_call, procedure_of, false≢true}
use Rattle.capture3.proofs.Lemmas.Messages.BodySteps.{not_false, not_true, refusal_judged, reply_bad_start, reply_trails, reply_unasked, reply_wrong_side}
use Rattle.capture3.proofs.Lemmas.Messages.MessageScanLemmas.{start_begun, error_stops, reply_head_stops, reply_scans, reply_told, results_stop, stop_stops}
use Rattle.capture3.proofs.message.scan.scan_reply.Goals as goal

pub returns-in_err-start-clause-err : goal.returns-in_err-start-clause-err
returns-in_err-start-clause-err g c before table =
    stop_stops _ _ c.in_err-start.field-0.0 c.from_residual.ensures.1
    (reply_bad_start before c.args.body.now c.in_err-start.field-0.0
    (rw (c.new-input.ensures.body, c.new-input.ensures.start) at c.in_err-start.ensures.read))

pub returns-then-not-start-clause-err : goal.returns-then-not-start-clause-err
returns-then-not-start-clause-err g c before table =
    let start =
    rw (c.new-input.ensures.body, c.new-input.ensures.start) at c.in_ok-start.ensures.read in
    refusal_judged _ _ (record { at = 4; reason = WrongSide }) c.stop.ensures
    (reply_wrong_side before c.args.body.now c.in_ok-start.start _ start
    (not_true _ c.if-not-start.true))

pub returns-in_default-clause-err : goal.returns-in_default-clause-err
returns-in_default-clause-err g c before table =
    let start =
    rw (c.new-input.ensures.body, c.new-input.ensures.start) at c.in_ok-start.ensures.read in
    let none : procedure_of before c.in_ok-start.start.xid ≡ None =
    sym (table c.in_ok-start.start.xid (omega arith))
    ∙ ap procedure_in_call (sym c.call_of.ensures ∙ c.in_default.is) in
    refusal_judged _ _ (record { at = 0; reason = NoCall }) c.stop-in_default.ensures
    (reply_unasked before c.args.body.now c.in_ok-start.start _ start
    (not_false _ c.if-not-start.false) none)

pub returns-in_err-success-clause-err : goal.returns-in_err-success-clause-err
returns-in_err-success-clause-err g c before table =
    let begun =
    start_begun _ c.in_ok-start.start true _ _ c.new-input.ensures.body c.new-input.ensures.start
    c.in_ok-start.ensures.read c.in_ok-start.ensures.moves.same_body
    (not_false _ c.if-not-start.false) in
    let asked : procedure_of before c.in_ok-start.start.xid ≡ Some c.in-Some.call.id =
    sym (table c.in_ok-start.start.xid (omega arith))
    ∙ ap procedure_in_call (sym c.call_of.ensures ∙ c.in-Some.is) in
    error_stops _ _ c.in_err-success.field-0.0 c.from_residual-in_err-success.ensures.1
    (reply_head_stops before _ _ _ _ c.in_err-success.field-0.0 begun asked
    c.in_err-success.ensures.err)

pub returns-in_err-scan_results_after-clause-err : goal.returns-in_err-scan_results_after-clause-err
returns-in_err-scan_results_after-clause-err g c before table =
    let begun =
    start_begun _ c.in_ok-start.start true _ _ c.new-input.ensures.body c.new-input.ensures.start
    c.in_ok-start.ensures.read c.in_ok-start.ensures.moves.same_body
    (not_false _ c.if-not-start.false) in
    let asked : procedure_of before c.in_ok-start.start.xid ≡ Some c.in-Some.call.id =
    sym (table c.in_ok-start.start.xid (omega arith))
    ∙ ap procedure_in_call (sym c.call_of.ensures ∙ c.in-Some.is) in
    error_stops _ _ c.in_err-scan_results_after.field-0.0
    c.from_residual-in_err-scan_results_after.ensures.1
    (results_stop g.V.Visit.stands before _ _ _ c.in_ok-success.success _ _ _ _
    c.in_err-scan_results_after.field-0.0 begun asked c.in_ok-success.ensures.ok
    c.in_err-scan_results_after.ensures.err)

pub returns-in_err-end-clause-err : goal.returns-in_err-end-clause-err
returns-in_err-end-clause-err g c before table =
    let begun =
    start_begun _ c.in_ok-start.start true _ _ c.new-input.ensures.body c.new-input.ensures.start
    c.in_ok-start.ensures.read c.in_ok-start.ensures.moves.same_body
    (not_false _ c.if-not-start.false) in
    let asked : procedure_of before c.in_ok-start.start.xid ≡ Some c.in-Some.call.id =
    sym (table c.in_ok-start.start.xid (omega arith))
    ∙ ap procedure_in_call (sym c.call_of.ensures ∙ c.in-Some.is) in
    let r =
    reply_told g.V.MessageVisit.rests g.V.Visit.stands _ _ c.in-Some.call.id
    c.in_ok-success.success _ _ _ _ _ _ _ begun
    c.in_ok-begin.ensures c.in_ok-success.ensures.ok
    c.in_ok-scan_results_after.ensures.ok in
    let other : c.scan_results_after.new.input.at ≢ length c.args.body.now =
    λ e. false≢true (c.in_err-end.ensures.ok.1 (e ∙ ap length (sym r.same_body))) in
    stop_stops _ _ c.in_err-end.field-0.0 c.from_residual-in_err-end.ensures.1
    (reply_trails before _ c.in_ok-start.start _ _ _ _ _ _ r.more (r.begins before asked) r.read
    other
    ∙ ap (λ (s : Stop). Err s) (sym c.in_err-end.ensures.err))

pub returns-clause-ok : goal.returns-clause-ok
returns-clause-ok g c =
    let begun =
    start_begun _ c.in_ok-start.start true _ _ c.new-input.ensures.body c.new-input.ensures.start
    c.in_ok-start.ensures.read c.in_ok-start.ensures.moves.same_body
    (not_false _ c.if-not-start.false) in
    let r =
    reply_told g.V.MessageVisit.rests g.V.Visit.stands _ _ c.in-Some.call.id
    c.in_ok-success.success _ _ _ _ _ _ _ begun
    c.in_ok-begin.ensures c.in_ok-success.ensures.ok
    c.in_ok-scan_results_after.ensures.ok in
    reply_scans g.V.MessageVisit.rests g.V.Visit.stands _ _ c.in_ok-start.start c.in-Some.call _ _
    _ _ _ _
    (λ i. omega (arith, c.type_inv.body i)) r
    (c.in_ok-end.ensures.ok.0 refl ∙ ap length r.same_body)
    (omega arith) (sym c.call_of.ensures ∙ c.in-Some.is)
