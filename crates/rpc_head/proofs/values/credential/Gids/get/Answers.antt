use Rattle.std.proofs.Common.{◌≡◌, ◌+◌, [], ◌∷◌, length, take, set, refl, ap, ◌∙◌, arith, rules, Ok, Err}
use Rattle.rpc_head.proofs.Common.{flat_map, Word, reading, word, count_items, group_items, called, gids}
use Rattle.std.proofs.lemmas.List.{length-set, length-take, take_more_set}
use Rattle.std.proofs.lemmas.Result.{err_from_is_err_and}
use Rattle.xdr3.proofs.Lemmas.Reading.Counted.{times_start, times_more, times_stop, times_done}
use Rattle.xdr3.specs.Shape.{array_named}
use Rattle.rpc_head.proofs.values.credential.Gids.get.Goals as goal

pub loop-i-init : goal.loop-i-init
loop-i-init c =
    let moves = c.at_most.ensures.moves in
    record {
      same_body = moves.same_body;
      forward = moves.forward;
      within = moves.within;
      whole = refl;
      few = c.in_ok-count.ensures.accepted;
      so_far =
          times_start (word "group") c.in_ok-count.count c.args.input.now.body
          c.at_most.new.self.at;
    }

pub loop-i-preserved : goal.loop-i-preserved
unfolding reading
loop-i-preserved c =
    let moves = c.word.ensures.moves in
    let kept = c.loop-i.invariant in
    let read : reading (word "group") c.loop-i.input.body c.loop-i.input.at
    ≡ Ok (Word (called "group") c.in_ok-word.word ∷ [], c.word.new.self.at) =
    rw c.in_ok-word.ensures.read refl in
    record {
      same_body = moves.same_body ∙ kept.same_body;
      forward = omega (arith, moves.forward, kept.forward);
      within = moves.within;
      whole = length-set c.loop-i.words c.loop-i.i c.in_ok-word.word ∙ kept.whole;
      few = kept.few;
      so_far =
          times_more group_items (word "group") (take c.loop-i.i c.loop-i.words)
          (take (c.loop-i.i + 1) (set c.loop-i.words c.loop-i.i c.in_ok-word.word))
          c.in_ok-word.word c.in_ok-count.count c.loop-i.i c.args.input.now.body
          c.loop-i.input.body c.at_most.new.self.at c.loop-i.input.at c.word.new.self.at
          (take_more_set c.loop-i.words c.loop-i.i c.in_ok-word.word
          (omega (arith, kept.whole, kept.few, c.loop-i-test.true))) kept.same_body
          c.loop-i-test.true kept.so_far read;
    }

pub returns-in_err-count-clause-read : goal.returns-in_err-count-clause-read
unfolding reading gids array_named
returns-in_err-count-clause-read c = search rules

pub returns-in_err-word-clause-read : goal.returns-in_err-word-clause-read
unfolding reading gids
returns-in_err-word-clause-read c =
    let p =
    err_from_is_err_and c.from_residual-in_err-word.result c.from_residual-in_err-word.ensures.1 in
    let kept = c.loop-i.invariant in
    let stop : reading (word "group") c.loop-i.input.body c.loop-i.input.at
    ≡ Err c.in_err-word.field-0.0 = rw c.in_err-word.ensures.read refl in
    rw (p.1, p.2) (times_stop (called "gids") (word "group")
    (flat_map group_items (take c.loop-i.i c.loop-i.words)) c.in_err-word.field-0.0 16
    c.in_ok-count.count c.loop-i.i c.args.input.now.body c.loop-i.input.body
    c.args.input.now.at c.at_most.new.self.at c.loop-i.input.at kept.same_body
    c.loop-i-test.true c.in_ok-count.ensures.read kept.so_far stop)

pub returns-clause-read : goal.returns-clause-read
unfolding gids
returns-clause-read c =
    let kept = c.loop-i.invariant in
    let all : c.loop-i.i ≡ c.in_ok-count.count =
    omega (arith, c.loop-i-test.false, c.loop-i.auto.i-end) in
    let count : length (take c.loop-i.i c.loop-i.words) ≡ c.loop-i.i =
    omega (arith, length-take c.loop-i.i c.loop-i.words, kept.whole, kept.few, c.loop-i.auto.i-end)
    in
    times_done (called "gids") group_items (word "group") (take c.loop-i.i c.loop-i.words)
    16 c.in_ok-count.count c.loop-i.i c.args.input.now.body c.args.input.now.at
    c.at_most.new.self.at c.loop-i.input.at count c.loop-i.auto.i-end c.loop-i-test.false
    c.in_ok-count.ensures.read kept.so_far
    ∙ ap (λ k. Ok (count_items (take k c.loop-i.words), c.loop-i.input.at)) all
