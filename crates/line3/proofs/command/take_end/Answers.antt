use Rattle.line3.proofs.Common.{rules, ap, sym, ◌≡◌, ◌<◌, ◌≤◌, ◌∙◌, true, false, length, map, slice_index_or, string_bytes, is_end, without_end}
use Rattle.line3.proofs.LineLemmas.{has_none, pass_by, taken_out}
use Rattle.line3.proofs.command.take_end.Goals as goal

pub returns-then-eq : goal.returns-then-eq
returns-then-eq c =
    let same : c.loop-place.words ≡ c.args.words.now = c.loop-place.invariant.0 in
    let low : c.loop-place.place < length c.loop-place.words.items = search rules in
    let is : c.index.result.now
    ≡ slice_index_or c.loop-place.words.items c.loop-place.place c.index.result.now =
    search rules in
    let yes : is_end (string_bytes c.index.result.now) ≡ true = search rules in
    ap (map string_bytes) c.remove.ensures.items
    ∙ taken_out c.loop-place.words.items c.loop-place.place c.index.result.now low is yes
    ∙ c.loop-place.invariant.1
    ∙ ap (λ w. without_end c.args.first (map string_bytes w.items)) same

pub loop-place-preserved : goal.loop-place-preserved
loop-place-preserved c =
    let same : c.loop-place.words ≡ c.args.words.now = c.loop-place.invariant.0 in
    let low : c.loop-place.place < length c.loop-place.words.items = search rules in
    let is : c.index.result.now
    ≡ slice_index_or c.loop-place.words.items c.loop-place.place c.index.result.now =
    search rules in
    let no : is_end (string_bytes c.index.result.now) ≡ false = search rules in (
      same,
      sym (pass_by c.loop-place.words.items c.loop-place.place c.index.result.now low is no)
          ∙ c.loop-place.invariant.1,
    )

pub returns : goal.returns
returns c =
    let same : c.loop-place.words ≡ c.args.words.now = c.loop-place.invariant.0 in
    let past : length c.loop-place.words.items ≤ c.loop-place.place = search rules in
    has_none c.loop-place.words.items c.loop-place.place past
    ∙ c.loop-place.invariant.1
    ∙ ap (λ w. without_end c.args.first (map string_bytes w.items)) same
