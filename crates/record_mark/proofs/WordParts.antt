-- Parts of words, and headers that are read by parts.
use Rattle.record_mark.proofs.Common.{◌≡◌, ℕ, ◌<◌, List, ◌++◌, length, take, refl, ap, ◌∙◌, arith, length-append, length-take, Runs, after, landed, Header, headed, join_next, to_be_bytes, w32}
use Rattle.record_mark.specs.declared.word_part.WordPart.{WordPart}
use Rattle.record_mark.specs.declared.word_part.Word.TheVariants.{Part, Whole}
use Rattle.record_mark.specs.WordPart.{bytes_so_far, TakesWord}
use Rattle.record_mark.proofs.Steps.{header_goes_on, header_ends}

pub short_part : (part : WordPart) → length (bytes_so_far part) < 4
short_part part =
    let short = part.short in
    let size = length-take part.count (to_be_bytes w32 part.word) in
    omega arith

pub header_part : (body bytes : List ℕ) (header longer : WordPart) (count : ℕ)
    → TakesWord header bytes count (Part longer)
    → after join_next (Runs (Header body (bytes_so_far header))) (take count bytes)
    ≡ Runs (Header body (bytes_so_far longer))
header_part body bytes header longer count word =
    let sum = ap length word.0 ∙ length-append (bytes_so_far header) (take count bytes) in
    let short = short_part longer in
    header_goes_on body (bytes_so_far header) (take count bytes) (bytes_so_far longer) word.0
    (omega arith)

pub header_whole : (body bytes : List ℕ) (header : WordPart) (count n : ℕ)
    → TakesWord header bytes count (Whole n)
    → after join_next (Runs (Header body (bytes_so_far header))) (take count bytes)
    ≡ landed (headed body n)
header_whole body bytes header count n word =
    let sum = length-append (bytes_so_far header) (take count bytes) in
    header_ends body (bytes_so_far header) (take count bytes)
    (bytes_so_far header ++ take count bytes) refl (short_part header) (omega (arith, word.0))
    ∙ ap (λ (n : ℕ). landed (headed body n)) word.1
