-- Segments of TCP out of frames.
use Rattle.std.specs.Prelude.{◌≡◌, ◌≢◌, ◌⊎◌, ℕ, zero, suc, List}
use Rattle.recording3.specs.Ip.{IsIp, NoIp}
use Rattle.recording3.specs.Link.{IsLinkStart, NoLinkStart}
use Rattle.recording3.specs.Tcp.{IsTcp, NoTcp}
use Rattle.recording3.specs.Tunnels.{IsInner, NoInner}
use Rattle.recording3.specs.declared.parts.Datagram.{Datagram}
use Rattle.recording3.specs.declared.parts.NoSegment.{NoSegment}
use Rattle.recording3.specs.declared.parts.NoSegment.TheVariants.{NotTcp}
use Rattle.recording3.specs.declared.parts.Segment.{Segment}
use Rattle.recording3.specs.declared.parts.Start.{Start}

-- A datagram begins there. It carries the segment, or it is a tunnel to one that does, of so many
-- at most.
unfoldable pub ReachesSegment : ℕ → List ℕ → Start → ℕ → Segment → Type 0
ReachesSegment zero frame start wire s = (d : Datagram) × IsIp frame start wire d
    × (d.protocol ≡ 6) × IsTcp frame d s
ReachesSegment (suc n) frame start wire s = (d : Datagram) × IsIp frame start wire d
    × (((d.protocol ≡ 6) × IsTcp frame d s)
    ⊎ ((d.protocol ≢ 6) × (inner : Start) × IsInner frame d inner
    × ReachesSegment n frame inner d.end s))

-- why it does not: the first layer that cannot be read has the reason
unfoldable pub ReachesNone : ℕ → List ℕ → Start → ℕ → NoSegment → Type 0
ReachesNone zero frame start wire why = NoIp frame start wire why
    ⊎ ((d : Datagram) × IsIp frame start wire d
    × (((d.protocol ≡ 6) × NoTcp frame d why) ⊎ ((d.protocol ≢ 6) × (why ≡ NotTcp))))
ReachesNone (suc n) frame start wire why = NoIp frame start wire why
    ⊎ ((d : Datagram) × IsIp frame start wire d
    × (((d.protocol ≡ 6) × NoTcp frame d why)
    ⊎ ((d.protocol ≢ 6) × (NoInner frame d why
    ⊎ ((inner : Start) × IsInner frame d inner × ReachesNone n frame inner d.end why)))))

-- The frame carries the segment: behind the link layer's header there begins a datagram of IP,
-- which carries it, in four tunnels at most.
abbrev pub IsSegment : ℕ → List ℕ → ℕ → Segment → Type 0
IsSegment link frame wire s =
    (start : Start) × IsLinkStart link frame start × ReachesSegment 4 frame start wire s

-- why it carries none: the first layer that cannot be read has the reason
abbrev pub LacksSegment : ℕ → List ℕ → ℕ → NoSegment → Type 0
LacksSegment link frame wire why = NoLinkStart link frame why
    ⊎ ((start : Start) × IsLinkStart link frame start × ReachesNone 4 frame start wire why)
