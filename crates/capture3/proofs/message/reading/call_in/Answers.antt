use Rattle.capture3.proofs.Lemmas.Messages.ValueNames.{arith, ◌≡◌, ◌≢◌, [], Bool, length, Ok, Err, ap, refl, sym, ◌∙◌, false≢true, WrongSide, Stop, call_head_items, judge_call, the_calls, error_stops, stop_stops, CallMsg, args_items}
use Rattle.capture3.proofs.Lemmas.Messages.BodySteps.{CallBegins, call_accepted, call_bad_arguments, call_bad_head, call_bad_start, call_trails, call_wrong_side, refusal_judged, whole_call}
use Rattle.capture3.proofs.Lemmas.Messages.ValueLemmas.{procedure_of_head, no_call}
use Rattle.capture3.proofs.message.reading.call_in.Goals as goal

pub returns-in_err-start-clause-err : goal.returns-in_err-start-clause-err
returns-in_err-start-clause-err c =
    no_call c.from_residual.result c.args.body.now
    (stop_stops c.from_residual.result (judge_call [] c.args.body.now) c.in_err-start.field-0.0
    c.from_residual.ensures.1
    (call_bad_start [] c.args.body.now c.in_err-start.field-0.0
    (rw (c.new-input.ensures.body, c.new-input.ensures.start) at c.in_err-start.ensures.read)))

pub returns-then-start-clause-err : goal.returns-then-start-clause-err
returns-then-start-clause-err c =
    let start =
    rw (c.new-input.ensures.body, c.new-input.ensures.start) at c.in_ok-start.ensures.read in
    no_call {M = CallMsg} (Err c.wrong_side.result) c.args.body.now
    (refusal_judged c.wrong_side.result (judge_call [] c.args.body.now)
    (record { at = 4; reason = WrongSide }) c.wrong_side.ensures
    (call_wrong_side [] c.args.body.now c.in_ok-start.start c.start.new.input.at start
    c.if-start.true))

pub returns-in_err-head-clause-err : goal.returns-in_err-head-clause-err
returns-in_err-head-clause-err c =
    let start =
    rw (c.new-input.ensures.body, c.new-input.ensures.start) at c.in_ok-start.ensures.read in
    let body : c.start.new.input.body ≡ c.args.body.now =
    c.in_ok-start.ensures.moves.same_body ∙ c.new-input.ensures.body in
    no_call c.from_residual-in_err-head.result c.args.body.now
    (error_stops c.from_residual-in_err-head.result (judge_call [] c.args.body.now)
    c.in_err-head.field-0.0 c.from_residual-in_err-head.ensures.1
    (λ stop is.
    call_bad_head [] c.args.body.now c.in_ok-start.start stop c.start.new.input.at start
    c.if-start.false (rw body at (c.in_err-head.ensures.read stop is))))

pub returns-in_err-args-clause-err : goal.returns-in_err-args-clause-err
returns-in_err-args-clause-err c =
    let start =
    rw (c.new-input.ensures.body, c.new-input.ensures.start) at c.in_ok-start.ensures.read in
    let body : c.start.new.input.body ≡ c.args.body.now =
    c.in_ok-start.ensures.moves.same_body ∙ c.new-input.ensures.body in
    let after : c.get.new.input.body ≡ c.args.body.now =
    c.in_ok-head.ensures.moves.same_body ∙ body in
    let begins : CallBegins c.args.body.now c.in_ok-start.start c.in_ok-head.head.id
    (call_head_items c.in_ok-head.head) c.start.new.input.at c.get.new.input.at =
    record {
      start = start;
      is_call = c.if-start.false;
      read = rw body at c.in_ok-head.ensures.read;
      observed = procedure_of_head c.in_ok-head.head;
    } in
    no_call c.from_residual-in_err-args.result c.args.body.now
    (error_stops c.from_residual-in_err-args.result (judge_call [] c.args.body.now)
    c.in_err-args.field-0.0 c.from_residual-in_err-args.ensures.1
    (λ stop is.
    call_bad_arguments [] c.args.body.now c.in_ok-start.start c.in_ok-head.head.id
    (call_head_items c.in_ok-head.head) c.start.new.input.at c.get.new.input.at stop begins
    (rw after at (c.in_err-args.ensures.read stop is))))

pub returns-in_err-end-clause-err : goal.returns-in_err-end-clause-err
returns-in_err-end-clause-err c =
    let start =
    rw (c.new-input.ensures.body, c.new-input.ensures.start) at c.in_ok-start.ensures.read in
    let body : c.start.new.input.body ≡ c.args.body.now =
    c.in_ok-start.ensures.moves.same_body ∙ c.new-input.ensures.body in
    let after : c.get.new.input.body ≡ c.args.body.now =
    c.in_ok-head.ensures.moves.same_body ∙ body in
    let last : c.get-2.new.input.body ≡ c.args.body.now =
    c.in_ok-args.ensures.moves.same_body ∙ after in
    let begins : CallBegins c.args.body.now c.in_ok-start.start c.in_ok-head.head.id
    (call_head_items c.in_ok-head.head) c.start.new.input.at c.get.new.input.at =
    record {
      start = start;
      is_call = c.if-start.false;
      read = rw body at c.in_ok-head.ensures.read;
      observed = procedure_of_head c.in_ok-head.head;
    } in
    let other : c.get-2.new.input.at ≢ length c.args.body.now =
    λ e. false≢true (c.in_err-end.ensures.ok.1 (e ∙ ap length (sym last))) in
    no_call c.from_residual-in_err-end.result c.args.body.now
    (stop_stops c.from_residual-in_err-end.result (judge_call [] c.args.body.now)
    c.in_err-end.field-0.0 c.from_residual-in_err-end.ensures.1
    (call_trails [] c.args.body.now c.in_ok-start.start c.in_ok-head.head.id
    (call_head_items c.in_ok-head.head) c.start.new.input.at c.get.new.input.at
    c.get-2.new.input.at (args_items c.in_ok-args.args) begins
    (rw after at c.in_ok-args.ensures.read) other
    ∙ ap (λ (s : Stop). Err s) (sym c.in_err-end.ensures.err)))

-- judged after no calls, which tells that the body is a call
pub returns-clause-call : goal.returns-clause-call
returns-clause-call c =
    let start =
    rw (c.new-input.ensures.body, c.new-input.ensures.start) at c.in_ok-start.ensures.read in
    let body : c.start.new.input.body ≡ c.args.body.now =
    c.in_ok-start.ensures.moves.same_body ∙ c.new-input.ensures.body in
    let after : c.get.new.input.body ≡ c.args.body.now =
    c.in_ok-head.ensures.moves.same_body ∙ body in
    let last : c.get-2.new.input.body ≡ c.args.body.now =
    c.in_ok-args.ensures.moves.same_body ∙ after in
    let begins : CallBegins c.args.body.now c.in_ok-start.start c.in_ok-head.head.id
    (call_head_items c.in_ok-head.head) c.start.new.input.at c.get.new.input.at =
    record {
      start = start;
      is_call = c.if-start.false;
      read = rw body at c.in_ok-head.ensures.read;
      observed = procedure_of_head c.in_ok-head.head;
    } in
    let is : c.get-2.new.input.at ≡ length c.args.body.now =
    c.in_ok-end.ensures.ok.0 refl ∙ ap length last in
    (the_calls.accepted [] c.args.body.now _ (λ i. omega (arith, c.type_inv.body i))
    (call_accepted [] c.args.body.now c.in_ok-start.start c.in_ok-head.head.id
    (call_head_items c.in_ok-head.head) c.start.new.input.at c.get.new.input.at
    c.get-2.new.input.at (args_items c.in_ok-args.args) begins
    (rw after at c.in_ok-args.ensures.read) is refl
    ∙ ap
    (λ (b : Bool).
    Ok (whole_call (record { xid = c.in_ok-start.start.xid; is_reply = b })
    (call_head_items c.in_ok-head.head) (args_items c.in_ok-args.args)))
    c.if-start.false)).0
