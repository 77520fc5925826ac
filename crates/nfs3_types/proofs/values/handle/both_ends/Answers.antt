use Rattle.std.proofs.Common.{◌≡◌, ◌∙◌, ◌-◌, ap, arith, length, length-take, replicate}
use Rattle.std.proofs.lemmas.List.{drop-replicate}
use Rattle.std.proofs.lemmas.Slice.{drop-append-drop, drop-put_mid, take-put_mid}
use Rattle.nfs3_types.proofs.HandleLemmas.{overlapping, reaches}
use Rattle.nfs3_types.proofs.values.handle.both_ends.Goals as goal

pub returns-clause-bytes : goal.returns-clause-bytes
returns-clause-bytes c =
    let front = c.copy_from_slice in
    let back = c.copy_from_slice-2 in
    let is : length front.new.self ≡ c.args.size =
    omega (
      arith,
      ap length front.ensures.after,
      length-take c.args.size c.args.bytes.now,
      c.requires.long,
    )
    in
    take-put_mid _ _ _ back.new.self _ (omega (arith, back.ensures.len, c.requires.long))
    (reaches c.args.bytes.now front.new.self _ c.args.size c.requires.covered is)
    ∙ overlapping c.args.bytes.now front.new.self back.new.self
    _ c.args.size c.requires.long c.requires.covered front.ensures.after back.ensures.after

pub returns-clause-padded : goal.returns-clause-padded
returns-clause-padded c =
    let len = length c.args.bytes.now in
    let size = c.args.size in
    let front = c.copy_from_slice in
    let back = c.copy_from_slice-2 in
    let is : length front.new.self ≡ size =
    omega (arith, ap length front.ensures.after, length-take size c.args.bytes.now, c.requires.long)
    in
    drop-put_mid (len - size) (len - (len - size)) _ back.new.self len
    (omega (arith, c.requires.long))
    (reaches c.args.bytes.now front.new.self _ size c.requires.covered is)
    (omega (arith, back.ensures.len, c.requires.long))
    ∙ drop-append-drop size (replicate 64 0) front.new.self len c.requires.long is
    ∙ drop-replicate len 64 0
