use Rattle.std.proofs.Common.{◌≡◌, ◌≤◌, List, length, subst, arith}
use Rattle.std.proofs.lemmas.Bool.Decides.{Decides-eqb}
use Rattle.std.proofs.lemmas.Slice.Eq.{slice_eq-Decides}
use Rattle.payload3.specs.Readings.{Allow, OffsetRead}
use Rattle.payload3.proofs.TrailLemmas.{allow_append}
use Rattle.conversion3.proofs.ChoiceLemmas.{HasRead, has_read, has_words, read_16, read_within, words_are}
use Rattle.conversion3.proofs.choice.has_call_words.Goals as goal

pub returns-then-count-eq-HEAD_SIZE-clause-more : goal.returns-then-count-eq-HEAD_SIZE-clause-more
returns-then-count-eq-HEAD_SIZE-clause-more g c = λ file allows.
    let both =
    allow_append file c.args.recorded.now.readings c.fill-filled.new.source.readings
    (subst (λ (l : List OffsetRead). Allow l file) c.note_payload.ensures.noted allows) in
    both.0

pub returns-then-count-eq-HEAD_SIZE-clause-call : goal.returns-then-count-eq-HEAD_SIZE-clause-call
returns-then-count-eq-HEAD_SIZE-clause-call g c = λ file allows.
    let both =
    allow_append file c.args.recorded.now.readings c.fill-filled.new.source.readings
    (subst (λ (l : List OffsetRead). Allow l file) c.note_payload.ensures.noted allows) in
    let block = c.fill-filled.new.block in
    let count = c.in_ok-count.count in
    let size : length block ≡ 17 = c.fill-filled.ensures.size in
    let few : count ≤ 17 = omega (arith, size, c.in_ok-count.ensures.within) in
    let read : HasRead file c.args.runs.now block count =
    has_read file c.payload-payload.result c.fill-filled.new.source c.args.runs.now block count
    c.payload-payload.ensures size few
    (λ lt. (c.in_ok-count.ensures.end (omega (arith, lt, size))).0) c.in_ok-count.ensures.bytes.1
    (c.gives.ensures file both.1) in
    let decides = slice_eq-Decides Decides-eqb _ _ _ c.eq.ensures in (
      λ yes.
          has_words file c.args.runs.now block count c.if-count-eq-HEAD_SIZE.true read
          (decides.0 yes),
      λ has.
          decides.1
          (words_are file c.args.runs.now block count c.if-count-eq-HEAD_SIZE.true read has),
    )

pub returns-then-count-eq-HEAD_SIZE-clause-within :
    goal.returns-then-count-eq-HEAD_SIZE-clause-within
returns-then-count-eq-HEAD_SIZE-clause-within g c = λ file allows.
    let both =
    allow_append file c.args.recorded.now.readings c.fill-filled.new.source.readings
    (subst (λ (l : List OffsetRead). Allow l file) c.note_payload.ensures.noted allows) in
    let block = c.fill-filled.new.block in
    let count = c.in_ok-count.count in
    let size : length block ≡ 17 = c.fill-filled.ensures.size in
    let few : count ≤ 17 = omega (arith, size, c.in_ok-count.ensures.within) in
    let read : HasRead file c.args.runs.now block count =
    has_read file c.payload-payload.result c.fill-filled.new.source c.args.runs.now block count
    c.payload-payload.ensures size few
    (λ lt. (c.in_ok-count.ensures.end (omega (arith, lt, size))).0) c.in_ok-count.ensures.bytes.1
    (c.gives.ensures file both.1) in
    read_within file c.args.runs.now block count read

pub returns-else-count-eq-HEAD_SIZE-clause-more : goal.returns-else-count-eq-HEAD_SIZE-clause-more
returns-else-count-eq-HEAD_SIZE-clause-more g c = λ file allows.
    let both =
    allow_append file c.args.recorded.now.readings c.fill-filled.new.source.readings
    (subst (λ (l : List OffsetRead). Allow l file) c.note_payload.ensures.noted allows) in
    both.0

pub returns-else-count-eq-HEAD_SIZE-clause-call : goal.returns-else-count-eq-HEAD_SIZE-clause-call
returns-else-count-eq-HEAD_SIZE-clause-call g c = λ file allows.
    let both =
    allow_append file c.args.recorded.now.readings c.fill-filled.new.source.readings
    (subst (λ (l : List OffsetRead). Allow l file) c.note_payload.ensures.noted allows) in
    let block = c.fill-filled.new.block in
    let count = c.in_ok-count.count in
    let size : length block ≡ 17 = c.fill-filled.ensures.size in
    let few : count ≤ 17 = omega (arith, size, c.in_ok-count.ensures.within) in
    let read : HasRead file c.args.runs.now block count =
    has_read file c.payload-payload.result c.fill-filled.new.source c.args.runs.now block count
    c.payload-payload.ensures size few
    (λ lt. (c.in_ok-count.ensures.end (omega (arith, lt, size))).0) c.in_ok-count.ensures.bytes.1
    (c.gives.ensures file both.1) in (
      λ yes. absurd (c.if-count-eq-HEAD_SIZE.false ((Decides-eqb count 16).0 yes)),
      λ has.
          absurd (c.if-count-eq-HEAD_SIZE.false
          (read_16 file c.args.runs.now block count few read has)),
    )

pub returns-else-count-eq-HEAD_SIZE-clause-within :
    goal.returns-else-count-eq-HEAD_SIZE-clause-within
returns-else-count-eq-HEAD_SIZE-clause-within g c = λ file allows.
    let both =
    allow_append file c.args.recorded.now.readings c.fill-filled.new.source.readings
    (subst (λ (l : List OffsetRead). Allow l file) c.note_payload.ensures.noted allows) in
    let block = c.fill-filled.new.block in
    let count = c.in_ok-count.count in
    let size : length block ≡ 17 = c.fill-filled.ensures.size in
    let few : count ≤ 17 = omega (arith, size, c.in_ok-count.ensures.within) in
    let read : HasRead file c.args.runs.now block count =
    has_read file c.payload-payload.result c.fill-filled.new.source c.args.runs.now block count
    c.payload-payload.ensures size few
    (λ lt. (c.in_ok-count.ensures.end (omega (arith, lt, size))).0) c.in_ok-count.ensures.bytes.1
    (c.gives.ensures file both.1) in
    read_within file c.args.runs.now block count read
