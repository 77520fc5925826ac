use Rattle.std.proofs.Common.{◌≡◌, ◌≢◌, ℕ, ◌/◌, inr, arith}
use Rattle.std.proofs.lemmas.Result.{IfErr-weaker}
use Rattle.recording3.specs.Ip.{MayBe}
use Rattle.recording3.specs.Octets.{octet}
use Rattle.recording3.specs.declared.parts.IpVersion.{IpVersion}
use Rattle.recording3.specs.declared.parts.IpVersion.TheVariants.{Four, Six, Either}
use Rattle.recording3.proofs.ip.read_ip.Goals as goal

six : (v : IpVersion) (n : ℕ) → MayBe v n → n ≢ 4 → n ≡ 6
six Four n m k = absurd (k m)
six Six n m k = m
six Either n m k = omega arith

pub returns-else-version-eq4-clause-err : goal.returns-else-version-eq4-clause-err
returns-else-version-eq4-clause-err c =
    let may : MayBe c.args.start.version (octet c.args.frame.now c.args.start.at / 16) =
    c.may_be.ensures.0 c.if-not-may_be.false in
    let v =
    six c.args.start.version (octet c.args.frame.now c.args.start.at / 16) may
    c.if-version-eq4.false in
    IfErr-weaker c.read_ipv6.result
    _ _ (λ why h. inr (λ l. omega arith, inr (λ n. n may, inr (v, h))))
    c.read_ipv6.ensures.err
