use Rattle.std.proofs.Common.{◌+◌, ◌∙◌, suc, sym, arith}
use Rattle.recording3.proofs.ExtensionHeaders.{one_more}
use Rattle.recording3.proofs.ip.past_headers.Goals as goal

pub headers-preserved : goal.headers-preserved
headers-preserved c =
    let frame = c.args.frame.now in
    let h = c.headers.invariant.0 in (
      (
        suc h.0,
        one_more frame h.0 c.args.first c.args.begin c.headers.kind c.headers.at h.1
            (sym c.is_extension.ensures ∙ c.headers-test.true) (omega arith),
      ),
      omega (arith, c.type_inv.frame (c.headers.at + 1)),
    )
