-- A segment of TCP is read in one way.
use Rattle.std.proofs.Common.{◌≡◌, ℕ, List, arith}
use Rattle.recording3.specs.Tcp.{IsTcp, NoTcp}
use Rattle.recording3.specs.declared.parts.Datagram.{Datagram}
use Rattle.recording3.specs.declared.parts.Segment.{Segment}
use Rattle.recording3.proofs.ReasonsLemmas.{IsOne, IsNone, one, one_never, none, none_never}

pub same_tcp : (frame : List ℕ) (d : Datagram) (s t : Segment) → IsTcp frame d s → IsTcp frame d t
    → s ≡ t
same_tcp frame d s t h g =
    let q : ◌≡◌ {A = Segment}
    (record {
      source = record { address = s.source.address; port = s.source.port };
      target = record { address = s.target.address; port = s.target.port };
      sequence = s.sequence;
      acknowledged = s.acknowledged;
      flags = s.flags;
      begin = s.begin;
      end = s.end;
      missing = s.missing;
    })
    (record {
      source = record { address = t.source.address; port = t.source.port };
      target = record { address = t.target.address; port = t.target.port };
      sequence = t.sequence;
      acknowledged = t.acknowledged;
      flags = t.flags;
      begin = t.begin;
      end = t.end;
      missing = t.missing;
    }) = cc in q

pub one_tcp : (frame : List ℕ) (d : Datagram) → IsOne (NoTcp frame d)
one_tcp frame d = one _ _ _ (one _ _ _ (one _ _ _ (one _ _ _ one_never)))

pub some_tcp : (frame : List ℕ) (d : Datagram) (s : Segment) → IsTcp frame d s
    → IsNone (NoTcp frame d)
some_tcp frame d s h =
    none _ _ _ (λ f. omega arith) (none _ _ _ (λ f. omega arith) (none _ _ _ (λ f. omega arith)
    (none _ _ _ (λ f. omega arith) none_never)))
