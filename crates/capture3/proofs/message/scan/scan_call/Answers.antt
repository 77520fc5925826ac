use Rattle.capture3.proofs.Common.{arith, ◌≢◌, length, Err, ap, refl, sym, ◌∙◌, false, WrongSide, Stop, false≢true}
use Rattle.capture3.proofs.Lemmas.Messages.BodySteps.{call_bad_start, call_trails, call_wrong_side, refusal_judged}
use Rattle.capture3.proofs.Lemmas.Messages.MessageScanLemmas.{start_begun, arguments_stop, call_head_stops, call_scans, call_told, error_stops, stop_stops}
use Rattle.capture3.proofs.message.scan.scan_call.Goals as goal

pub returns-in_err-start-clause-err : goal.returns-in_err-start-clause-err
returns-in_err-start-clause-err g c before =
    stop_stops _ _ c.in_err-start.field-0.0 c.from_residual.ensures.1
    (call_bad_start before c.args.body.now c.in_err-start.field-0.0
    (rw (c.new-input.ensures.body, c.new-input.ensures.start) at c.in_err-start.ensures.read))

pub returns-then-start-clause-err : goal.returns-then-start-clause-err
returns-then-start-clause-err g c before =
    let start =
    rw (c.new-input.ensures.body, c.new-input.ensures.start) at c.in_ok-start.ensures.read in
    refusal_judged _ _ (record { at = 4; reason = WrongSide }) c.stop.ensures
    (call_wrong_side before c.args.body.now c.in_ok-start.start _ start c.if-start.true)

pub returns-in_err-id-clause-err : goal.returns-in_err-id-clause-err
returns-in_err-id-clause-err g c before =
    let begun =
    start_begun _ c.in_ok-start.start false _ _ c.new-input.ensures.body c.new-input.ensures.start
    c.in_ok-start.ensures.read c.in_ok-start.ensures.moves.same_body c.if-start.false in
    error_stops _ _ c.in_err-id.field-0.0 c.from_residual-in_err-id.ensures.1
    (call_head_stops before _ _ _ c.in_err-id.field-0.0 begun c.in_err-id.ensures.err)

pub returns-in_err-scan_arguments-clause-err : goal.returns-in_err-scan_arguments-clause-err
returns-in_err-scan_arguments-clause-err g c before =
    let begun =
    start_begun _ c.in_ok-start.start false _ _ c.new-input.ensures.body c.new-input.ensures.start
    c.in_ok-start.ensures.read c.in_ok-start.ensures.moves.same_body c.if-start.false in
    error_stops _ _ c.in_err-scan_arguments.field-0.0
    c.from_residual-in_err-scan_arguments.ensures.1
    (arguments_stop g.V.Visit.stands before _ _ c.in_ok-id.id _ _ _ _
    c.in_err-scan_arguments.field-0.0 begun c.in_ok-id.ensures.ok
    c.in_err-scan_arguments.ensures.err)

pub returns-in_err-end-clause-err : goal.returns-in_err-end-clause-err
returns-in_err-end-clause-err g c before =
    let begun =
    start_begun _ c.in_ok-start.start false _ _ c.new-input.ensures.body c.new-input.ensures.start
    c.in_ok-start.ensures.read c.in_ok-start.ensures.moves.same_body c.if-start.false in
    let r =
    call_told g.V.MessageVisit.rests g.V.Visit.stands _ _ c.in_ok-id.id _ _ _ _ _ _ _ begun
    c.in_ok-begin.ensures
    c.in_ok-id.ensures.ok c.in_ok-scan_arguments.ensures.ok in
    let other : c.scan_arguments.new.input.at ≢ length c.args.body.now =
    λ e. false≢true (c.in_err-end.ensures.ok.1 (e ∙ ap length (sym r.same_body))) in
    stop_stops _ _ c.in_err-end.field-0.0 c.from_residual-in_err-end.ensures.1
    (call_trails before _ c.in_ok-start.start _ _ _ _ _ r.more r.begins r.read other
    ∙ ap (λ (s : Stop). Err s) (sym c.in_err-end.ensures.err))

pub returns-clause-ok : goal.returns-clause-ok
returns-clause-ok g c =
    let begun =
    start_begun _ c.in_ok-start.start false _ _ c.new-input.ensures.body c.new-input.ensures.start
    c.in_ok-start.ensures.read c.in_ok-start.ensures.moves.same_body c.if-start.false in
    let r =
    call_told g.V.MessageVisit.rests g.V.Visit.stands _ _ c.in_ok-id.id _ _ _ _ _ _ _ begun
    c.in_ok-begin.ensures
    c.in_ok-id.ensures.ok c.in_ok-scan_arguments.ensures.ok in
    call_scans g.V.MessageVisit.rests g.V.Visit.stands _ c.in_ok-start.start _ _ _ _ _ _
    (λ i. omega (arith, c.type_inv.body i)) r
    (c.in_ok-end.ensures.ok.0 refl ∙ ap length r.same_body)
