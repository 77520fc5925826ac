use Rattle.canon3.proofs.Lemmas.Writing.SpellingLemmas.{begin_spelled, call_spelled, reply_spelled, word_spelled}
use Rattle.canon3.proofs.canonical_form.spelling.spelling_of_entry.Goals as goal

pub returns-in-Begin : goal.returns-in-Begin
returns-in-Begin g c entries one of first stands =
    begin_spelled c.args.message_writer.now entries c.args.entry one c.in-Begin.is of
    c.in_ok-unless_failed.ensures stands

pub returns-in-Call : goal.returns-in-Call
returns-in-Call g c entries one of first stands =
    rw c.set_number.ensures
    (call_spelled c.args.message_writer.now entries c.args.entry one c.in-Call.call c.in-Call.is
    of first c.in_ok-unless_failed.ensures stands)

pub returns-in-Reply : goal.returns-in-Reply
returns-in-Reply g c entries one of first stands =
    rw c.set_number-in-Reply.ensures
    (reply_spelled c.args.message_writer.now entries c.args.entry one c.in-Reply.reply
    c.in-Reply.is of first c.in_ok-unless_failed.ensures stands)

pub returns-in-Turn : goal.returns-in-Turn
returns-in-Turn g c entries one of first stands =
    word_spelled c.args.message_writer.now entries c.args.entry one c.in-Turn.is of
    c.in_ok-unless_failed.ensures stands
