use Rattle.std.proofs.Common.{◌∙◌, ap, arith, length, replicate}
use Rattle.std.proofs.lemmas.List.{drop-replicate}
use Rattle.std.proofs.lemmas.Slice.{drop-append-drop}
use Rattle.nfs3_types.proofs.values.handle.padded_bytes.Goals as goal

pub returns-else-len-ge16-clause-padded : goal.returns-else-len-ge16-clause-padded
returns-else-len-ge16-clause-padded c =
    let len = length c.args.bytes.now in
    drop-append-drop len (replicate 64 0) c.copy_from_slice.new.self len (omega arith)
    (ap length c.copy_from_slice.ensures.after)
    ∙ drop-replicate len 64 0
