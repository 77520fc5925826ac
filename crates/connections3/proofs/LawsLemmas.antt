-- Packets say one thing of connections.
use Rattle.std.proofs.Common.{◌≡◌, ◌∙◌, List, [], ◌∷◌, Option, None, Some, ap, refl, sym}
use Rattle.streams3.proofs.LawsLemmas.{one_stream}
use Rattle.streams3.specs.Streams.{Shown}
use Rattle.connections3.specs.Connections.{ShowGroups, ShowsFlow, ShowsGroup, ShowsPackets, events_of}
use Rattle.connections3.specs.Groups.{Group, grouped}
use Rattle.connections3.specs.declared.connection.Connection.{Connection}
use Rattle.connections3.specs.declared.connection.Flow.{Flow}
use Rattle.connections3.specs.declared.ends.EndPair.{EndPair}
use Rattle.connections3.specs.declared.ends.OneEnd.{OneEnd}
use Rattle.connections3.specs.declared.ends.OneEnd.TheVariants.{Higher, Lower}
use Rattle.connections3.specs.declared.numbers.UsedNumbers.{UsedNumbers}
use Rattle.connections3.specs.declared.packets.Packet.{Packet}

abbrev flow_with : Shown → UsedNumbers → Flow
flow_with stream numbers = record { stream = stream; numbers = numbers }

same_some : (a b : UsedNumbers) (o : Option UsedNumbers) → o ≡ Some a → o ≡ Some b → a ≡ b
same_some a b o e f = cc

same_flow : (one other : Option Flow) (end : OneEnd) (packets : List Packet)
    → ShowsFlow one end packets → ShowsFlow other end packets → one ≡ other
same_flow None None end packets h k = refl
same_flow None (Some g) end packets h k = let e = k.0 in cc
same_flow (Some f) None end packets h k = let e = h.0 in cc
same_flow (Some f) (Some g) end packets h k =
    let numbers : f.numbers ≡ g.numbers = same_some f.numbers g.numbers _ h.0 k.0 in
    let streams : f.stream ≡ g.stream =
    one_stream f.stream g.stream (events_of end packets)
    (h.1 ∙ (ap (λ (n : UsedNumbers). n.first) numbers ∙ sym k.1)) h.2 k.2 in
    ap (λ (s : Shown). Some (flow_with s f.numbers)) streams
    ∙ ap (λ (n : UsedNumbers). Some (flow_with g.stream n)) numbers

abbrev connection_with : EndPair → Option OneEnd → Option Flow → Option Flow → Connection
connection_with ends client lower higher =
    record { ends = ends; client = client; lower = lower; higher = higher }

same_connection : (c d : Connection) (g : Group) → ShowsGroup c g → ShowsGroup d g
    → c ≡ d
same_connection c d g h k =
    let ends : c.ends ≡ d.ends = h.ends ∙ sym k.ends in
    let client : c.client ≡ d.client = h.client ∙ sym k.client in
    let lower = same_flow c.lower d.lower Lower g.packets h.lower k.lower in
    let higher = same_flow c.higher d.higher Higher g.packets h.higher k.higher in
    ap (λ (x : EndPair). connection_with x c.client c.lower c.higher) ends
    ∙ (ap (λ (x : Option OneEnd). connection_with d.ends x c.lower c.higher) client
    ∙ (ap (λ (x : Option Flow). connection_with d.ends d.client x c.higher) lower
    ∙ ap (λ (x : Option Flow). connection_with d.ends d.client d.lower x) higher))

same_connections : (ones others : List Connection) (gs : List Group) → ShowGroups ones gs
    → ShowGroups others gs → ones ≡ others
same_connections [] [] gs h k = refl
same_connections [] (d ∷ others) [] h k = absurd k
same_connections [] (d ∷ others) (g ∷ gs) h k = absurd h
same_connections (c ∷ ones) [] [] h k = absurd h
same_connections (c ∷ ones) [] (g ∷ gs) h k = absurd k
same_connections (c ∷ ones) (d ∷ others) [] h k = absurd h
same_connections (c ∷ ones) (d ∷ others) (g ∷ gs) h k =
    ap (λ (x : Connection). x ∷ ones) (same_connection c d g h.0 k.0)
    ∙ ap (λ (xs : List Connection). d ∷ xs) (same_connections ones others gs h.1 k.1)

pub one_recording : (ones others : List Connection) (packets : List Packet)
    → ShowsPackets ones packets → ShowsPackets others packets → ones ≡ others
one_recording ones others packets h k = same_connections ones others (grouped packets) h k
