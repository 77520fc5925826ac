use Rattle.std.proofs.Common.{◌≡◌, ◌++◌, ◌∙◌, ap, string_bytes}
use Rattle.nfs3streams.specs.Printed.{flaw_line}
use Rattle.nfs3streams.proofs.PortsLemmas.{ok_then}
use Rattle.nfs3streams.proofs.PrintedLemmas.{pushed}
use Rattle.nfs3streams.proofs.printed.push_flaw.Goals as goal

pub returns : goal.returns
returns c =
    ok_then _ _ c.push_str.result
    (λ bytes shown is.
    let line : string_bytes c.in_ok-line.line ≡ flaw_line c.args.number shown c.args.flaw.now =
    rw (← c.side_name-side.ensures, ← (c.begin_of.ensures shown is), ← c.in_ok-what.ensures)
    c.in_ok-line.ensures.ok in
    bytes ∙ ap (λ l. string_bytes c.args.text.now ++ l) (c.as_str.ensures.value ∙ line))
    (pushed _ _ (string_bytes c.args.text.now) c.push_str.result c.push_str.ensures.bytes)
