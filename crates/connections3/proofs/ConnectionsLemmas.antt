-- What connections show, with one more packet.
use Rattle.std.proofs.Common.{◌≡◌, Bool, true, false, cond, List, [], ◌∷◌, ◌++◌, Option, None, Some, is_some, refl, sym, ◌∙◌, ap, subst, append_assoc, ℕ, zero, suc, ◌<◌, ◌⊎◌, length, get_or, inl, inr, arith}
use Rattle.std.proofs.lemmas.List.{append-nil}
use Rattle.streams3.specs.Events.{Event, Sent}
use Rattle.streams3.specs.Streams.{ShowsEvents}
use Rattle.connections3.specs.Connections.{IsFlowAtLimit, IsOneAtLimit, ShowsFlow, client_by, client_from, events_from, events_of, shown_by}
use Rattle.connections3.specs.Ends.{other_end, same_one}
use Rattle.connections3.specs.Numbers.{numbers_from, numbers_of, with_numbers}
use Rattle.connections3.specs.declared.connection.Connection.{Connection}
use Rattle.connections3.specs.declared.connection.Flow.{Flow}
use Rattle.connections3.specs.declared.ends.OneEnd.{OneEnd}
use Rattle.connections3.specs.declared.numbers.UsedNumbers.{UsedNumbers}
use Rattle.connections3.specs.declared.packets.Packet.{Packet}
use Rattle.connections3.specs.machinery.Table.{AddsEvents}
use Rattle.connections3.proofs.EndsLemmas.{same_one_other, same_one_self}
use Rattle.connections3.proofs.NumbersLemmas.{numbers_last}

pub client_last : (packets : List Packet) (found : Option OneEnd) (p : Packet)
    → client_from found (packets ++ p ∷ []) ≡ client_from (client_from found packets) (p ∷ [])
client_last [] found p = refl
client_last (q ∷ packets) None p = client_last packets (client_by q) p
client_last (q ∷ packets) (Some end) p = client_last packets (Some end) p

-- what one more packet says of an end's stream
abbrev last_events : (begun same : Bool) → Packet → List Event
last_events begun same p =
    cond same (Sent p.segment ∷ shown_by p.cut) (cond begun (shown_by p.acknowledgment) [])

first_events : (begun same : Bool) (p : Packet)
    → cond same (Sent p.segment ∷ shown_by p.cut ++ [])
    (cond begun (shown_by p.acknowledgment) [] ++ [])
    ≡ last_events begun same p
first_events begun true p =
    ap (λ (e : List Event). Sent p.segment ∷ e) (append-nil (shown_by p.cut))
first_events begun false p = append-nil (cond begun (shown_by p.acknowledgment) [])

more_events : (begun same : Bool) (p : Packet) (own other own' other' more : List Event)
    → (same ≡ true → own' ≡ own ++ more) → (same ≡ false → other' ≡ other ++ more)
    → cond same (Sent p.segment ∷ shown_by p.cut ++ own')
    (cond begun (shown_by p.acknowledgment) [] ++ other')
    ≡ cond same (Sent p.segment ∷ shown_by p.cut ++ own)
    (cond begun (shown_by p.acknowledgment) [] ++ other) ++ more
more_events begun true p own other own' other' more e f =
    ap (λ (z : List Event). Sent p.segment ∷ shown_by p.cut ++ z) (e refl)
    ∙ ap (λ (z : List Event). Sent p.segment ∷ z) (sym (append_assoc (shown_by p.cut) own more))
more_events begun false p own other own' other' more e f =
    ap (λ (z : List Event). cond begun (shown_by p.acknowledgment) [] ++ z) (f refl)
    ∙ sym (append_assoc (cond begun (shown_by p.acknowledgment) []) other more)

events_last : (packets : List Packet) (found : Option UsedNumbers) (end : OneEnd) (p : Packet)
    → events_from (is_some found) end (packets ++ p ∷ [])
    ≡ events_from (is_some found) end packets
    ++ last_events (is_some (numbers_from found end packets)) (same_one p.from end) p
events_last [] found end p = first_events (is_some found) (same_one p.from end) p
events_last (q ∷ packets) found end p =
    let same = same_one q.from end in
    let after : Bool → Option UsedNumbers = λ b. cond b (Some (with_numbers found q)) found in
    let last = events_last packets (after same) end p in
    let begun = is_some (numbers_from (after same) end packets) in
    let more = last_events begun (same_one p.from end) p in
    let adds : Bool → Type 0 = λ b. events_from (is_some (after b)) end (packets ++ p ∷ [])
    ≡ events_from (is_some (after b)) end packets ++ more in
    more_events (is_some found) same q (events_from true end packets)
    (events_from (is_some found) end packets) (events_from true end (packets ++ p ∷ []))
    (events_from (is_some found) end (packets ++ p ∷ [])) more
    (λ e. subst adds e last) (λ e. subst adds e last)

own_events : (packets : List Packet) (p : Packet) → events_of p.from (packets ++ p ∷ [])
    ≡ events_of p.from packets ++ (Sent p.segment ∷ shown_by p.cut)
own_events packets p =
    let begun = is_some (numbers_of p.from packets) in
    events_last packets None p.from p
    ∙ ap (λ (b : Bool). events_of p.from packets ++ last_events begun b p) (same_one_self p.from)

own_numbers : (packets : List Packet) (p : Packet) → numbers_of p.from (packets ++ p ∷ [])
    ≡ Some (with_numbers (numbers_of p.from packets) p)
own_numbers packets p =
    let found = numbers_of p.from packets in
    numbers_last packets None p.from p
    ∙ ap (λ (b : Bool). cond b (Some (with_numbers found p)) found) (same_one_self p.from)

other_events : (packets : List Packet) (p : Packet)
    → events_of (other_end p.from) (packets ++ p ∷ []) ≡ events_of (other_end p.from) packets
    ++ cond (is_some (numbers_of (other_end p.from) packets)) (shown_by p.acknowledgment) []
other_events packets p =
    let end = other_end p.from in
    let begun = is_some (numbers_of end packets) in
    events_last packets None end p
    ∙ ap (λ (b : Bool). events_of end packets ++ last_events begun b p) (same_one_other p.from)

other_numbers : (packets : List Packet) (p : Packet)
    → numbers_of (other_end p.from) (packets ++ p ∷ []) ≡ numbers_of (other_end p.from) packets
other_numbers packets p =
    let found = numbers_of (other_end p.from) packets in
    numbers_last packets None (other_end p.from) p
    ∙ ap (λ (b : Bool). cond b (Some (with_numbers found p)) found) (same_one_other p.from)

still : (same : Bool) (n m : UsedNumbers) (packets : List Packet) (end : OneEnd)
    → ((x : UsedNumbers) → numbers_from (Some x) end packets ≡ None → ⊥)
    → numbers_from (cond same (Some m) (Some n)) end packets ≡ None → ⊥
still true n m packets end stays e = stays m e
still false n m packets end stays e = stays n e

stays_begun : (packets : List Packet) (end : OneEnd) (n : UsedNumbers)
    → numbers_from (Some n) end packets ≡ None → ⊥
stays_begun [] end n e = cc
stays_begun (q ∷ packets) end n e =
    still (same_one q.from end) n (with_numbers (Some n) q) packets end (stays_begun packets end) e

none : (same : Bool) (m : UsedNumbers) (q : Packet) (packets : List Packet) (end : OneEnd)
    → numbers_from (cond same (Some m) None) end packets ≡ None
    → (numbers_of end packets ≡ None → events_of end packets ≡ [])
    → cond same (Sent q.segment ∷ shown_by q.cut ++ events_from true end packets)
    (events_from false end packets) ≡ []
none true m q packets end e f = absurd (stays_begun packets end m e)
none false m q packets end e f = f e

no_events : (packets : List Packet) (end : OneEnd) → numbers_of end packets ≡ None
    → events_of end packets ≡ []
no_events [] end e = refl
no_events (q ∷ packets) end e =
    none (same_one q.from end) (with_numbers None q) q packets end e (no_events packets end)

pub flow_sent : (flow new : Flow) (packets : List Packet) (p : Packet)
    → new.numbers ≡ with_numbers (Some flow.numbers) p
    → AddsEvents flow.stream new.stream (Sent p.segment ∷ shown_by p.cut)
    → ShowsFlow (Some flow) p.from packets → ShowsFlow (Some new) p.from (packets ++ p ∷ [])
flow_sent flow new packets p n adds (m, first, shows) =
    let numbers : numbers_of p.from (packets ++ p ∷ []) ≡ Some new.numbers =
    own_numbers packets p
    ∙ (ap (λ (o : Option UsedNumbers). Some (with_numbers o p)) m
    ∙ ap (λ (x : UsedNumbers). Some x) (sym n)) in (
      numbers,
      adds.0 ∙ (first ∙ sym (ap (λ (x : UsedNumbers). x.first) n)),
      subst (ShowsEvents new.stream) (sym (own_events packets p)) (adds.1 _ shows),
    )

pub flow_begun : (new : Flow) (packets : List Packet) (p : Packet)
    → new.numbers ≡ with_numbers None p → new.stream.first ≡ new.numbers.first
    → ShowsEvents new.stream (Sent p.segment ∷ shown_by p.cut)
    → ShowsFlow None p.from packets → ShowsFlow (Some new) p.from (packets ++ p ∷ [])
flow_begun new packets p n first shows m =
    let numbers : numbers_of p.from (packets ++ p ∷ []) ≡ Some new.numbers =
    own_numbers packets p
    ∙ (ap (λ (o : Option UsedNumbers). Some (with_numbers o p)) m
    ∙ ap (λ (x : UsedNumbers). Some x) (sym n)) in
    let events : events_of p.from (packets ++ p ∷ []) ≡ Sent p.segment ∷ shown_by p.cut =
    own_events packets p
    ∙ ap (λ (e : List Event). e ++ (Sent p.segment ∷ shown_by p.cut))
    (no_events packets p.from m) in
    (numbers, first, subst (ShowsEvents new.stream) (sym events) shows)

pub flow_answered : (flow new : Flow) (packets : List Packet) (p : Packet)
    → new.numbers ≡ flow.numbers
    → AddsEvents flow.stream new.stream (shown_by p.acknowledgment)
    → ShowsFlow (Some flow) (other_end p.from) packets
    → ShowsFlow (Some new) (other_end p.from) (packets ++ p ∷ [])
flow_answered flow new packets p n adds (m, first, shows) =
    let end = other_end p.from in
    let events : events_of end (packets ++ p ∷ [])
    ≡ events_of end packets ++ shown_by p.acknowledgment =
    other_events packets p
    ∙ ap (λ (o : Option UsedNumbers). events_of end packets
    ++ cond (is_some o) (shown_by p.acknowledgment) []) m in
    let numbers : numbers_of end (packets ++ p ∷ []) ≡ Some new.numbers =
    other_numbers packets p ∙ (m ∙ ap (λ (x : UsedNumbers). Some x) (sym n)) in (
      numbers,
      adds.0 ∙ (first ∙ sym (ap (λ (x : UsedNumbers). x.first) n)),
      subst (ShowsEvents new.stream) (sym events) (adds.1 _ shows),
    )

pub flow_not_begun : (packets : List Packet) (p : Packet)
    → ShowsFlow None (other_end p.from) packets
    → ShowsFlow None (other_end p.from) (packets ++ p ∷ [])
flow_not_begun packets p m = other_numbers packets p ∙ m

pub one_at_limit : (cs : List Connection) (i : ℕ) (d : Connection) (p : Packet) → i < length cs
    → IsFlowAtLimit (get_or cs i d).lower p ⊎ IsFlowAtLimit (get_or cs i d).higher p
    → IsOneAtLimit cs p
one_at_limit [] i d p lt h = absurd (omega arith)
one_at_limit (c ∷ cs) zero d p lt h = inl h
one_at_limit (c ∷ cs) (suc i) d p lt h = inr (one_at_limit cs i d p (omega arith) h)

pub new_at_limit : (cs : List Connection) (p : Packet) → IsFlowAtLimit None p → IsOneAtLimit cs p
new_at_limit [] p h = h
new_at_limit (c ∷ cs) p h = inr (new_at_limit cs p h)
