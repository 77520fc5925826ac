use Rattle.std.proofs.Common.{◌≡◌, ◌∙◌, ap, arith, length, length-take, refl, take, drop, take-append-drop, sym, vec_len}
use Rattle.std.proofs.lemmas.List.{with_items_is}
use Rattle.capture3.proofs.Lemmas.Container.BytesOf.{split_bytes}
use Rattle.capture3.proofs.Lemmas.Reader.EntriesLemmas.{front_range, has_failed, has_read}
use Rattle.capture3.proofs.reader.entries.Entries.refill.Goals as goal

pub returns-in-Ok-clause-has_read : goal.returns-in-Ok-clause-has_read
returns-in-Ok-clause-has_read g c given handed s =
    let bytes = c.read_block.new.block in
    let same : length bytes ≡ vec_len c.args.self.now.block =
    omega (arith, c.read_block.auto.block, c.deref_mut.ensures.len) in
    let block =
    front_range _ c.in-Ok.count
    ∙ ap (take c.in-Ok.count) (with_items_is c.args.self.now.block bytes same) in
    let used_up = c.if-not-is_used_up.ensures.used_up refl in
    has_read g.R.Source.observed c.args.self.now _ given (take c.in-Ok.count bytes) handed
    c.requires.reading c.requires.reading used_up.0 used_up.1 (refl, refl, refl, refl)
    refl refl block
    (split_bytes bytes (take c.in-Ok.count bytes) (drop c.in-Ok.count bytes)
    (sym (take-append-drop c.in-Ok.count bytes)) c.read_block.ensures.fit).0
    (omega (arith, length-take c.in-Ok.count bytes, c.in-Ok.ensures.within, same))
    c.in-Ok.ensures.bytes.0 s

pub returns-in-Err-clause-has_read : goal.returns-in-Err-clause-has_read
returns-in-Err-clause-has_read g c given handed s =
    let used_up = c.if-not-is_used_up.ensures.used_up refl in
    has_failed g.R.Source.observed c.args.self.now _ given handed c.requires.reading refl refl refl
    refl
    used_up.0 used_up.1 c.in-Err.ensures.bytes s
