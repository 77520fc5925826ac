-- The connections of packets, with one more.
use Rattle.std.proofs.Common.{◌≡◌, ℕ, zero, suc, ◌+◌, ◌<◌, Bool, true, false, cond, List, [], ◌∷◌, ◌++◌, length, map, slice_set, get_or, Option, None, Some, refl, sym, ◌∙◌, ap, subst, arith}
use Rattle.std.proofs.lemmas.List.Sums.{fold-append}
use Rattle.std.specs.BTreeMap.{get, BTreeMap}
use Rattle.std.specs.Cmp.{Equal-is, alike_right}
use Rattle.std.specs.Ordering.{is_eq}
use Rattle.std.specs.declared.cmp.Ordering.{Ordering}
use Rattle.std.specs.declared.cmp.Ordering.TheVariants.{Equal}
use Rattle.connections3.specs.Connections.{FindsRecent, ShowGroups, ShowsFlow, ShowsGroup, ShowsPackets, all_ends, flow_of}
use Rattle.connections3.specs.Ends.{pair_order, same_ends}
use Rattle.connections3.specs.Groups.{Group, chosen, grouped, index_of, numbers_at, recent_from, with_newer, with_packet, with_packet_at}
use Rattle.connections3.specs.Numbers.{numbers_of}
use Rattle.connections3.proofs.EndsLemmas.{pair_order_is, same_ends_is}
use Rattle.connections3.specs.contracts.ends.EndPairOrd.TheImpl.{ghosts}
use Rattle.connections3.specs.contracts.ends.EndPairOrd.TheImpl.Laws.{total-law}
use Rattle.connections3.specs.declared.connection.Connection.{Connection}
use Rattle.connections3.specs.declared.connection.Flow.{Flow}
use Rattle.connections3.specs.declared.connections.Recent.{Recent}
use Rattle.connections3.specs.declared.ends.EndPair.{EndPair}
use Rattle.connections3.specs.declared.ends.OneEnd.{OneEnd}
use Rattle.connections3.specs.declared.ends.OneEnd.TheVariants.{Lower, Higher}
use Rattle.connections3.specs.declared.numbers.UsedNumbers.{UsedNumbers}
use Rattle.connections3.specs.declared.packets.Packet.{Packet}
use Rattle.connections3.specs.machinery.Table.{OpensConnection, flow_numbers_at, numbers_in}

pub groups_last : (packets : List Packet) (p : Packet)
    → grouped (packets ++ p ∷ []) ≡ with_packet (grouped packets) p
groups_last packets p = fold-append with_packet [] packets (p ∷ [])

pub recent_last : (found : Option Recent) (i : ℕ) (all : List EndPair) (one ends : EndPair)
    → recent_from found i (all ++ one ∷ []) ends
    ≡ cond (same_ends one ends) (Some (with_newer (recent_from found i all ends) (i + length all)))
    (recent_from found i all ends)
recent_last found i [] one ends =
    ap (λ (n : ℕ). cond (same_ends one ends) (Some (with_newer found n)) found) (omega arith)
recent_last found i (e ∷ all) one ends =
    let next = cond (same_ends e ends) (Some (with_newer found i)) found in
    recent_last next (i + 1) all one ends
    ∙ ap (λ (n : ℕ). cond (same_ends one ends)
    (Some (with_newer (recent_from next (i + 1) all ends) n)) (recent_from next (i + 1) all ends))
    (omega arith)

-- both are indices of connections
abbrev pub AreBelow : (count : ℕ) → Option Recent → Type 0
AreBelow count None = Unit {0}
AreBelow count (Some r) = (r.newest < count) × (r.older < count)

newer_below : (same : Bool) (found : Option Recent) (i : ℕ) → AreBelow i found
    → AreBelow (i + 1) (cond same (Some (with_newer found i)) found)
newer_below true None i h = (omega arith, omega arith)
newer_below true (Some r) i h = (omega arith, omega arith)
newer_below false None i h = tt
newer_below false (Some r) i h = (omega arith, omega arith)

recent_below_from : (found : Option Recent) (i : ℕ) (all : List EndPair) (ends : EndPair)
    → AreBelow i found → AreBelow (i + length all) (recent_from found i all ends)
recent_below_from found i [] ends h = subst (λ (n : ℕ). AreBelow n found) (omega arith) h
recent_below_from found i (e ∷ all) ends h =
    let next : Option Recent = cond (same_ends e ends) (Some (with_newer found i)) found in
    let more = newer_below (same_ends e ends) found i h in
    let later = recent_below_from next (i + 1) all ends more in
    subst (λ (n : ℕ). AreBelow n (recent_from next (i + 1) all ends)) (omega arith) later

pub recent_below : (all : List EndPair) (ends : EndPair)
    → AreBelow (length all) (recent_from None 0 all ends)
recent_below all ends =
    subst (λ (n : ℕ). AreBelow n (recent_from None 0 all ends)) (omega arith)
    (recent_below_from None 0 all ends tt)

-- equal numbers, equal choices
pub chosen_same : (recent : Option Recent) (f g : OneEnd → ℕ → Option UsedNumbers) (n m : ℕ)
    (p : Packet) → ((end : OneEnd) (i : ℕ) → f end i ≡ g end i) → n ≡ m
    → chosen recent f n p ≡ chosen recent g m p
chosen_same None f g n m p same e = e
chosen_same (Some r) f g n m p same e =
    let a = same p.from r.newest in let b = same p.from r.older in rw (a, b, e) refl

numbers_of_flow : (flow : Option Flow) (end : OneEnd) (packets : List Packet)
    → ShowsFlow flow end packets → numbers_in flow ≡ numbers_of end packets
numbers_of_flow None end packets h = sym h
numbers_of_flow (Some flow) end packets h = sym (h.0)

numbers_of_group : (c : Connection) (g : Group) (end : OneEnd) → ShowsGroup c g
    → numbers_in (flow_of c end) ≡ numbers_of end g.packets
numbers_of_group c g Lower h = numbers_of_flow c.lower Lower g.packets h.lower
numbers_of_group c g Higher h = numbers_of_flow c.higher Higher g.packets h.higher

pub same_numbers : (cs : List Connection) (gs : List Group) → ShowGroups cs gs
    → (end : OneEnd) (i : ℕ) → flow_numbers_at cs end i ≡ numbers_at gs end i
same_numbers [] [] h end i = refl
same_numbers [] (g ∷ gs) h end i = absurd h
same_numbers (c ∷ cs) [] h end i = absurd h
same_numbers (c ∷ cs) (g ∷ gs) h end zero = numbers_of_group c g end h.0
same_numbers (c ∷ cs) (g ∷ gs) h end (suc i) = same_numbers cs gs h.1 end i

pub same_lengths : (cs : List Connection) (gs : List Group) → ShowGroups cs gs
    → length cs ≡ length gs
same_lengths [] [] h = refl
same_lengths [] (g ∷ gs) h = absurd h
same_lengths (c ∷ cs) [] h = absurd h
same_lengths (c ∷ cs) (g ∷ gs) h = let e = same_lengths cs gs h.1 in omega arith

pub same_all_ends : (cs : List Connection) (gs : List Group) → ShowGroups cs gs
    → all_ends cs ≡ map (λ (g : Group). g.ends) gs
same_all_ends [] [] h = refl
same_all_ends [] (g ∷ gs) h = absurd h
same_all_ends (c ∷ cs) [] h = absurd h
same_all_ends (c ∷ cs) (g ∷ gs) h =
    ap (λ (e : EndPair). e ∷ all_ends cs) (h.0.ends)
    ∙ ap (λ (es : List EndPair). g.ends ∷ es) (same_all_ends cs gs h.1)

-- a connection takes a packet
pub show_taken : (cs : List Connection) (gs : List Group) (i : ℕ) (d new : Connection) (p : Packet)
    → ShowGroups cs gs → i < length cs
    → ((ends : EndPair) (packets : List Packet)
    → ShowsGroup (get_or cs i d) (record { ends = ends; packets = packets })
    → ShowsGroup new (record { ends = ends; packets = packets ++ p ∷ [] }))
    → ShowGroups (slice_set cs i new) (with_packet_at i gs p)
show_taken [] gs i d new p h lt takes = absurd (omega arith)
show_taken (c ∷ cs) [] i d new p h lt takes = absurd h
show_taken (c ∷ cs) (g ∷ gs) zero d new p h lt takes = (takes g.ends g.packets h.0, h.1)
show_taken (c ∷ cs) (g ∷ gs) (suc i) d new p h lt takes =
    (h.0, show_taken cs gs i d new p h.1 (omega arith) takes)

-- a packet opens a connection
pub show_opened : (cs : List Connection) (gs : List Group) (new : Connection) (p : Packet)
    → ShowGroups cs gs → ShowsGroup new (record { ends = p.ends; packets = p ∷ [] })
    → ShowGroups (cs ++ new ∷ []) (with_packet_at (length gs) gs p)
show_opened [] [] new p h shows = (shows, tt)
show_opened [] (g ∷ gs) new p h shows = absurd h
show_opened (c ∷ cs) [] new p h shows = absurd h
show_opened (c ∷ cs) (g ∷ gs) new p h shows = (h.0, show_opened cs gs new p h.1 shows)

pub index_is : (cs : List Connection) (gs : List Group) (p : Packet) → ShowGroups cs gs
    → chosen (recent_from None 0 (all_ends cs) p.ends) (flow_numbers_at cs) (length cs) p
    ≡ index_of gs p
index_is cs gs p h =
    ap (λ (all : List EndPair). chosen (recent_from None 0 all p.ends) (flow_numbers_at cs)
    (length cs) p) (same_all_ends cs gs h)
    ∙ chosen_same (recent_from None 0 (map (λ (g : Group). g.ends) gs) p.ends) (flow_numbers_at cs)
    (numbers_at gs) (length cs) (length gs) p (same_numbers cs gs h) (same_lengths cs gs h)

pub shows_taken : (cs : List Connection) (packets : List Packet) (p : Packet) (i : ℕ)
    (d new : Connection) → ShowsPackets cs packets
    → i ≡ chosen (recent_from None 0 (all_ends cs) p.ends) (flow_numbers_at cs) (length cs) p
    → i < length cs
    → ((ends : EndPair) (ps : List Packet)
    → ShowsGroup (get_or cs i d) (record { ends = ends; packets = ps })
    → ShowsGroup new (record { ends = ends; packets = ps ++ p ∷ [] }))
    → ShowsPackets (slice_set cs i new) (packets ++ p ∷ [])
shows_taken cs packets p i d new h is lt takes =
    let gs = grouped packets in
    let at : i ≡ index_of gs p = is ∙ index_is cs gs p h in
    let shows = show_taken cs gs i d new p h lt takes in
    let all : grouped (packets ++ p ∷ []) ≡ with_packet_at i gs p =
    groups_last packets p ∙ ap (λ (n : ℕ). with_packet_at n gs p) (sym at) in
    subst (ShowGroups (slice_set cs i new)) (sym all) shows

pub shows_opened : (cs new : List Connection) (packets : List Packet) (p : Packet)
    → ShowsPackets cs packets
    → length cs
    ≡ chosen (recent_from None 0 (all_ends cs) p.ends) (flow_numbers_at cs) (length cs) p
    → OpensConnection cs new p → ShowsPackets new (packets ++ p ∷ [])
shows_opened cs new packets p h is opens =
    let gs = grouped packets in
    let at : length gs ≡ index_of gs p = sym (same_lengths cs gs h) ∙ (is ∙ index_is cs gs p h) in
    let shows = show_opened cs gs opens.connection p h opens.shows in
    let all : grouped (packets ++ p ∷ []) ≡ with_packet_at (length gs) gs p =
    groups_last packets p ∙ ap (λ (n : ℕ). with_packet_at n gs p) (sym at) in
    subst (λ (one : List Connection). ShowGroups one (grouped (packets ++ p ∷ [])))
    (sym opens.behind)
    (subst (ShowGroups (cs ++ opens.connection ∷ [])) (sym all) shows)

pub ends_taken : (cs : List Connection) (i : ℕ) (d new : Connection) → i < length cs
    → new.ends ≡ (get_or cs i d).ends → all_ends (slice_set cs i new) ≡ all_ends cs
ends_taken [] i d new lt e = absurd (omega arith)
ends_taken (c ∷ cs) zero d new lt e = ap (λ (x : EndPair). x ∷ all_ends cs) e
ends_taken (c ∷ cs) (suc i) d new lt e =
    ap (λ (es : List EndPair). c.ends ∷ es) (ends_taken cs i d new (omega arith) e)

pub numbers_there : (cs : List Connection) (end : OneEnd) (i : ℕ) (d : Connection) → i < length cs
    → flow_numbers_at cs end i ≡ numbers_in (flow_of (get_or cs i d) end)
numbers_there [] end i d lt = absurd (omega arith)
numbers_there (c ∷ cs) end zero d lt = refl
numbers_there (c ∷ cs) end (suc i) d lt = numbers_there cs end i d (omega arith)

same_recent : (a b : EndPair) → ghosts.cmp a b ≡ Equal → (found : Option Recent) (i : ℕ)
    (all : List EndPair) → recent_from found i all a ≡ recent_from found i all b
same_recent a b e found i [] = refl
same_recent a b e found i (x ∷ all) =
    let same : same_ends x a ≡ same_ends x b =
    same_ends_is x a ∙ (ap is_eq (alike_right total-law a b x e) ∙ sym (same_ends_is x b)) in
    same_recent a b e (cond (same_ends x a) (Some (with_newer found i)) found) (i + 1) all
    ∙ ap (λ (s : Bool). recent_from (cond s (Some (with_newer found i)) found) (i + 1) all b) same

opened_at : (same : Bool) (all : List EndPair) (ends q : EndPair) (r : Recent)
    → r ≡ with_newer (recent_from None 0 all ends) (length all)
    → (same ≡ true → recent_from None 0 all ends ≡ recent_from None 0 all q)
    → cond same (Some r) (recent_from None 0 all q)
    ≡ cond same (Some (with_newer (recent_from None 0 all q) (0 + length all)))
    (recent_from None 0 all q)
opened_at true all ends q r e f =
    ap (λ (x : Recent). Some x) e
    ∙ (ap (λ (o : Option Recent). Some (with_newer o (length all))) (f refl)
    ∙ ap (λ (n : ℕ). Some (with_newer (recent_from None 0 all q) n)) (omega arith))
opened_at false all ends q r e f = refl

found : (table : BTreeMap EndPair Recent) (ends : EndPair)
    → get ghosts.cmp table ends ≡ get pair_order table ends
found table ends =
    ap (λ (f : EndPair → EndPair → Ordering). get f table ends) (sym pair_order_is)

pub table_opened : (m n : BTreeMap EndPair Recent) (all : List EndPair) (ends : EndPair)
    (r : Recent) → FindsRecent m all → r ≡ with_newer (get ghosts.cmp m ends) (length all)
    → ((q : EndPair) → get ghosts.cmp n q
    ≡ cond (is_eq (ghosts.cmp ends q)) (Some r) (get ghosts.cmp m q))
    → FindsRecent n (all ++ ends ∷ [])
table_opened m n all ends r table is updates q =
    let same = same_ends ends q in
    let r_is : r ≡ with_newer (recent_from None 0 all ends) (length all) =
    is ∙ ap (λ (o : Option Recent). with_newer o (length all)) (found m ends ∙ table ends) in
    let tests : is_eq (ghosts.cmp ends q) ≡ same = sym (same_ends_is ends q) in
    sym (found n q) ∙ updates q
    ∙ (ap (λ (b : Bool). cond b (Some r) (get ghosts.cmp m q)) tests
    ∙ (ap (λ (o : Option Recent). cond same (Some r) o) (found m q ∙ table q)
    ∙ (opened_at same all ends q r r_is
    (λ e. same_recent ends q ((Equal-is (ghosts.cmp ends q)).0 (tests ∙ e)) None 0 all)
    ∙ sym (recent_last None 0 all ends q))))

pub ends_count : (cs : List Connection) → length (all_ends cs) ≡ length cs
ends_count [] = refl
ends_count (c ∷ cs) = let e = ends_count cs in omega arith

pub recent_found : (table : BTreeMap EndPair Recent) (cs : List Connection) (ends : EndPair)
    (r : Recent) → FindsRecent table (all_ends cs) → Some r ≡ get ghosts.cmp table ends
    → Some r ≡ recent_from None 0 (all_ends cs) ends
recent_found table cs ends r is e = e ∙ (found table ends ∙ is ends)

pub table_inside : (table : BTreeMap EndPair Recent) (cs : List Connection) (ends : EndPair)
    (r : Recent) → FindsRecent table (all_ends cs) → Some r ≡ get ghosts.cmp table ends
    → (r.newest < length cs) × (r.older < length cs)
table_inside table cs ends r is e =
    let all = recent_found table cs ends r is e in
    let below : AreBelow (length (all_ends cs)) (Some r) =
    subst (AreBelow (length (all_ends cs))) (sym all) (recent_below (all_ends cs) ends) in
    subst (λ (n : ℕ). AreBelow n (Some r)) (ends_count cs) below

pub all_ends_last : (cs : List Connection) (c : Connection)
    → all_ends (cs ++ c ∷ []) ≡ all_ends cs ++ c.ends ∷ []
all_ends_last [] c = refl
all_ends_last (x ∷ cs) c = ap (λ (es : List EndPair). x.ends ∷ es) (all_ends_last cs c)
