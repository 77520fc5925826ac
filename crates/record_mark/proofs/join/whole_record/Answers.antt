use Rattle.std.proofs.Common.{◌%◌, ◌+◌, Some, ap, sym, arith}
use Rattle.record_mark.specs.Word.{number}
use Rattle.record_mark.proofs.Steps.{last_header, whole_in_one}
use Rattle.record_mark.proofs.join.whole_record.Goals as goal

pub returns-clause-record : goal.returns-clause-record
unfolding number
returns-clause-record c =
    whole_in_one c.args.piece.now c.read_u32-word.result (c.read_u32-word.result % 2147483648)
    (sym c.read_u32-word.ensures) (omega arith) (omega arith) (omega arith)

pub returns-then-word-lt2147483648-clause-exactly :
    goal.returns-then-word-lt2147483648-clause-exactly
unfolding number
returns-then-word-lt2147483648-clause-exactly c len header within fits =
    let says =
    last_header c.args.piece.now c.read_u32-word.result len (sym c.read_u32-word.ensures) header in
    absurd (omega (arith, says.0))

pub returns-then-len-gt-BODY_LIMIT-clause-exactly :
    goal.returns-then-len-gt-BODY_LIMIT-clause-exactly
unfolding number
returns-then-len-gt-BODY_LIMIT-clause-exactly c len header within fits =
    let says =
    last_header c.args.piece.now c.read_u32-word.result len (sym c.read_u32-word.ensures) header in
    absurd (omega (arith, says.1))

pub returns-clause-exactly : goal.returns-clause-exactly
unfolding number
returns-clause-exactly c len header within fits =
    let says =
    last_header c.args.piece.now c.read_u32-word.result len (sym c.read_u32-word.ensures) header in
    ap (λ n. Some (4 + n)) says.1
