use Rattle.canon3.proofs.Lemmas.Numbers.Tables.{number_by_bytes}
use Rattle.canon3.proofs.canonical_form.message_writer.number_of_handle.Goals as goal

pub returns-clause-number : goal.returns-clause-number
returns-clause-number g c hs h =
    number_by_bytes c.number_of.result h.0 c.from_short.result hs c.args.bytes.now h.2
    c.from_short.ensures (c.number_of.ensures.number h.0 h.1)
