use Rattle.capture3.proofs.Lemmas.Messages.ValueNames.{arith, ◌≡◌, ◌≢◌, List, [], Bool, length, Some, Ok, Err, ap, refl, sym, ◌∙◌, false≢true, WrongSide, Stop, Item, reply_head_items, procedure_of, xid_in, judge_reply, the_replies, error_stops, stop_stops, is_success, items_after_head}
use Rattle.capture3.proofs.Lemmas.Messages.BodySteps.{ReplyBegins, not_false, not_true, refusal_judged, reply_accepted, reply_bad_head, reply_bad_results, reply_bad_start, reply_trails, reply_wrong_side, whole_reply}
use Rattle.capture3.specs.declared.message.values.ReplyMsg.{ReplyMsg}
use Rattle.capture3.proofs.Lemmas.Messages.ValueLemmas.{asked, asked_by, no_reply, success_of_head, the_call}
use Rattle.capture3.proofs.message.reading.reply_in.Goals as goal

pub returns-in_err-start-clause-err : goal.returns-in_err-start-clause-err
returns-in_err-start-clause-err c =
    no_reply c.from_residual.result c.args.id c.args.body.now (λ items spelled.
    stop_stops c.from_residual.result
    (judge_reply (the_call (xid_in items) c.args.id) c.args.body.now) c.in_err-start.field-0.0
    c.from_residual.ensures.1
    (reply_bad_start (the_call (xid_in items) c.args.id) c.args.body.now c.in_err-start.field-0.0
    (rw (c.new-input.ensures.body, c.new-input.ensures.start) at c.in_err-start.ensures.read)))

pub returns-then-not-start-clause-err : goal.returns-then-not-start-clause-err
returns-then-not-start-clause-err c =
    let start =
    rw (c.new-input.ensures.body, c.new-input.ensures.start) at c.in_ok-start.ensures.read in
    no_reply {M = ReplyMsg} (Err c.wrong_side.result) c.args.id c.args.body.now (λ items spelled.
    refusal_judged c.wrong_side.result
    (judge_reply (the_call (xid_in items) c.args.id) c.args.body.now)
    (record { at = 4; reason = WrongSide }) c.wrong_side.ensures
    (reply_wrong_side (the_call (xid_in items) c.args.id) c.args.body.now c.in_ok-start.start
    c.start.new.input.at start (not_true c.in_ok-start.start.is_reply c.if-not-start.true)))

pub returns-in_err-head-clause-err : goal.returns-in_err-head-clause-err
returns-in_err-head-clause-err c =
    let start =
    rw (c.new-input.ensures.body, c.new-input.ensures.start) at c.in_ok-start.ensures.read in
    let body : c.start.new.input.body ≡ c.args.body.now =
    c.in_ok-start.ensures.moves.same_body ∙ c.new-input.ensures.body in
    no_reply c.from_residual-in_err-head.result c.args.id c.args.body.now (λ items spelled.
    error_stops c.from_residual-in_err-head.result
    (judge_reply (the_call (xid_in items) c.args.id) c.args.body.now) c.in_err-head.field-0.0
    c.from_residual-in_err-head.ensures.1
    (λ stop is.
    reply_bad_head (the_call (xid_in items) c.args.id) c.args.body.now c.in_ok-start.start
    c.args.id stop c.start.new.input.at start
    (not_false c.in_ok-start.start.is_reply c.if-not-start.false)
    (asked c.args.id c.args.body.now items c.in_ok-start.start c.start.new.input.at spelled
    start) (rw body at (c.in_err-head.ensures.read stop is))))

pub returns-in_err-results-clause-err : goal.returns-in_err-results-clause-err
returns-in_err-results-clause-err c =
    let start =
    rw (c.new-input.ensures.body, c.new-input.ensures.start) at c.in_ok-start.ensures.read in
    let body : c.start.new.input.body ≡ c.args.body.now =
    c.in_ok-start.ensures.moves.same_body ∙ c.new-input.ensures.body in
    let after : c.get.new.input.body ≡ c.args.body.now =
    c.in_ok-head.ensures.moves.same_body ∙ body in
    no_reply c.from_residual-in_err-results.result c.args.id c.args.body.now (λ items spelled.
    let begins : ReplyBegins (the_call (xid_in items) c.args.id) c.args.body.now c.in_ok-start.start
    c.args.id (is_success c.in_ok-head.head) (reply_head_items c.in_ok-head.head)
    c.start.new.input.at c.get.new.input.at =
    record {
      start = start;
      is_reply = not_false c.in_ok-start.start.is_reply c.if-not-start.false;
      asked =
          asked c.args.id c.args.body.now items c.in_ok-start.start c.start.new.input.at
          spelled start;
      read = rw body at c.in_ok-head.ensures.read;
      observed = success_of_head c.in_ok-head.head;
    } in
    error_stops c.from_residual-in_err-results.result
    (judge_reply (the_call (xid_in items) c.args.id) c.args.body.now) c.in_err-results.field-0.0
    c.from_residual-in_err-results.ensures.1
    (λ stop is.
    reply_bad_results (the_call (xid_in items) c.args.id) c.args.body.now c.in_ok-start.start
    c.args.id (is_success c.in_ok-head.head) (reply_head_items c.in_ok-head.head)
    c.start.new.input.at c.get.new.input.at stop begins
    (rw after at (c.in_err-results.ensures.read stop is))))

pub returns-in_err-end-clause-err : goal.returns-in_err-end-clause-err
returns-in_err-end-clause-err c =
    let start =
    rw (c.new-input.ensures.body, c.new-input.ensures.start) at c.in_ok-start.ensures.read in
    let body : c.start.new.input.body ≡ c.args.body.now =
    c.in_ok-start.ensures.moves.same_body ∙ c.new-input.ensures.body in
    let after : c.get.new.input.body ≡ c.args.body.now =
    c.in_ok-head.ensures.moves.same_body ∙ body in
    let last : c.results_in.new.input.body ≡ c.args.body.now =
    c.in_ok-results.ensures.moves.same_body ∙ after in
    let other : c.results_in.new.input.at ≢ length c.args.body.now =
    λ e. false≢true (c.in_err-end.ensures.ok.1 (e ∙ ap length (sym last))) in
    no_reply c.from_residual-in_err-end.result c.args.id c.args.body.now (λ items spelled.
    let begins : ReplyBegins (the_call (xid_in items) c.args.id) c.args.body.now c.in_ok-start.start
    c.args.id (is_success c.in_ok-head.head) (reply_head_items c.in_ok-head.head)
    c.start.new.input.at c.get.new.input.at =
    record {
      start = start;
      is_reply = not_false c.in_ok-start.start.is_reply c.if-not-start.false;
      asked =
          asked c.args.id c.args.body.now items c.in_ok-start.start c.start.new.input.at
          spelled start;
      read = rw body at c.in_ok-head.ensures.read;
      observed = success_of_head c.in_ok-head.head;
    } in
    stop_stops c.from_residual-in_err-end.result
    (judge_reply (the_call (xid_in items) c.args.id) c.args.body.now) c.in_err-end.field-0.0
    c.from_residual-in_err-end.ensures.1
    (reply_trails (the_call (xid_in items) c.args.id) c.args.body.now c.in_ok-start.start c.args.id
    (is_success c.in_ok-head.head) (reply_head_items c.in_ok-head.head) c.start.new.input.at
    c.get.new.input.at c.results_in.new.input.at (items_after_head c.in_ok-results.results)
    begins (rw after at c.in_ok-results.ensures.read) other
    ∙ ap (λ (s : Stop). Err s) (sym c.in_err-end.ensures.err)))

-- judged after a call of the procedure, which tells that the body is a reply
pub returns-clause-reply : goal.returns-clause-reply
returns-clause-reply c =
    let start =
    rw (c.new-input.ensures.body, c.new-input.ensures.start) at c.in_ok-start.ensures.read in
    let body : c.start.new.input.body ≡ c.args.body.now =
    c.in_ok-start.ensures.moves.same_body ∙ c.new-input.ensures.body in
    let after : c.get.new.input.body ≡ c.args.body.now =
    c.in_ok-head.ensures.moves.same_body ∙ body in
    let last : c.results_in.new.input.body ≡ c.args.body.now =
    c.in_ok-results.ensures.moves.same_body ∙ after in
    let calls : List (List Item) = the_call c.in_ok-start.start.xid c.args.id in
    let known : procedure_of calls c.in_ok-start.start.xid ≡ Some c.args.id =
    asked_by c.in_ok-start.start.xid c.args.id in
    let begins : ReplyBegins calls c.args.body.now c.in_ok-start.start c.args.id
    (is_success c.in_ok-head.head) (reply_head_items c.in_ok-head.head) c.start.new.input.at
    c.get.new.input.at =
    record {
      start = start;
      is_reply = not_false c.in_ok-start.start.is_reply c.if-not-start.false;
      asked = known;
      read = rw body at c.in_ok-head.ensures.read;
      observed = success_of_head c.in_ok-head.head;
    } in
    let is : c.results_in.new.input.at ≡ length c.args.body.now =
    c.in_ok-end.ensures.ok.0 refl ∙ ap length last in
    ((the_replies calls).accepted [] c.args.body.now _ (λ i. omega (arith, c.type_inv.body i))
    (reply_accepted calls c.args.body.now c.in_ok-start.start c.args.id
    (is_success c.in_ok-head.head) (reply_head_items c.in_ok-head.head) c.start.new.input.at
    c.get.new.input.at c.results_in.new.input.at (items_after_head c.in_ok-results.results)
    begins (rw after at c.in_ok-results.ensures.read) is
    ∙ ap
    (λ (b : Bool).
    Ok (record {
      id = c.args.id;
      items =
          whole_reply (record { xid = c.in_ok-start.start.xid; is_reply = b })
          (reply_head_items c.in_ok-head.head)
          (items_after_head c.in_ok-results.results);
    }))
    (not_false c.in_ok-start.start.is_reply c.if-not-start.false))).0
