use Rattle.std.proofs.Common.{◌≡◌, ◌∙◌, ◌++◌, ◌+◌, ◌^◌, ◌≤◌, List, ℕ, ap, arith, drop, length, length-append, length-drop, length-take, refl, take, vec_len}
use Rattle.std.proofs.lemmas.List.{take-append-le, take_all}
use Rattle.canon3.proofs.Common.{word_bytes, chunk_bytes, record_bytes}
use Rattle.canon3.proofs.Lemmas.Writing.SinkWritesLemmas.{chunk_of_head}
use Rattle.canon3.proofs.canonical_form.message_writer.MessageWriter.compose_chunk.Goals as goal

pub returns-clause-chunk : goal.returns-clause-chunk
returns-clause-chunk g c =
    let room = c.compose_behind_head.new.self.room.items in
    let size = vec_len c.compose_behind_head.new.self.room in
    let end = c.in_ok-end.end in
    let rest = c.in_ok-end.rest.now in
    let head = c.chunk_head.result in
    let slice = c.set_head.new.room in
    let message = drop 8 (take end room ++ rest) in
    let whole : length room ≡ size =
    omega (arith, c.deref_mut.ensures.len, ap length c.deref_mut.ensures.value) in
    let within : end ≤ length room = omega (arith, whole, c.in_ok-end.ensures.within) in
    let headed : slice ≡ head ++ drop 8 room =
    c.set_head.ensures ∙ ap (λ (l : List ℕ). head ++ drop 8 l) c.deref_mut.ensures.value in
    let same : length slice ≡ length room =
    rw (headed, length-append) (simp length-drop (omega (
      arith,
      ap length c.chunk_head.ensures,
      within,
      c.in_ok-end.ensures.from,
    ))) in
    let left : length (slice ++ drop (length slice) room) ≤ size =
    simp (length-append, length-drop) (omega (arith, same, whole)) in
    let fits : end ≤ length slice = omega (arith, same, within) in
    let kept : take end (take size (slice ++ drop (length slice) room))
    ≡ take end (head ++ drop 8 room) =
    ap (take end) (take_all size (slice ++ drop (length slice) room) left)
    ∙ take-append-le end slice (drop (length slice) room) fits ∙ ap (take end) headed in
    let counted : c.saturating_add-len.result ≡ length message =
    simp (length-drop, length-append, length-take) (omega (
      arith,
      c.in_ok-end.ensures.from,
      within,
      c.saturating_add-len.ensures,
      c.if-len.false,
    )) in
    let spelled =
    c.chunk_head.ensures ∙ ap (λ (n : ℕ). word_bytes (4 + n) ++ word_bytes (2 ^ 31 + n)) counted in
    ap (λ (l : List ℕ). l ++ rest) kept
    ∙ chunk_of_head head room rest message end c.in_ok-end.ensures.from within refl spelled
    ∙ ap (λ (l : List ℕ). chunk_bytes (record_bytes l)) c.in_ok-end.ensures.message
