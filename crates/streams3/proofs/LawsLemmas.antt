-- What the definitions of a stream say of any events.
use Rattle.std.proofs.Common.{◌≡◌, ◌≢◌, ◌≤◌, ◌<◌, ℕ, ◌+◌, ◌-◌, ◌^◌, Bool, true, false, cond, List, [], ◌∷◌, ◌++◌, Option, None, Some, length, get_or, take, drop, refl, sym, ◌∙◌, ap, ap₂, subst, arith, ◌⊎◌, inl, inr}
use Rattle.std.proofs.lemmas.Bool.{cases_lt}
use Rattle.std.proofs.lemmas.List.{append-nil, get_or-append_right, get_or-drop, get_or-take, get_or_append_left, length-append, length-drop, length-take-le}
use Rattle.streams3.specs.declared.runs.Run.{Run}
use Rattle.streams3.specs.declared.segments.Marks.{Marks}
use Rattle.streams3.specs.declared.segments.StreamSegment.{StreamSegment}
use Rattle.streams3.specs.Content.{AreStreamBytes, AreIn, content_of}
use Rattle.streams3.specs.Events.{Acknowledged, AcknowledgedAt, ArePlaced, Event, IsNear, IsPlaced, Placed, Sent, SentAt, has_payload, first_number, payload_at, payload_of, payloads}
use Rattle.streams3.specs.Order.{AreBetween, HasNoGap}
use Rattle.streams3.specs.Runs.{AreInOrder, HasBytes, Lie, or_else, spot_in, spot_of, top_of}
use Rattle.streams3.specs.Streams.{Shown, ShowsEvents, marks_of}
use Rattle.streams3.proofs.EventsLemmas.{payloads_last, placed_last}
use Rattle.streams3.proofs.BetweenLemmas.{above_it, below_it, in_it}
use Rattle.streams3.proofs.RunsLemmas.{lie_high, none_below, or_none_right, shown, some_none, has_after, has_before, has_it, spot_append, spot_last}

near_one : (first top number p q : ℕ) → IsNear first top number p → IsNear first top number q
    → p ≡ q
near_one first top number p q a b =
    let al = a.low in
    let ah = a.high in
    let an = a.numbered in
    let bl = b.low in
    let bh = b.high in
    let bn = b.numbered in
    omega arith

one_place : (first top : ℕ) (event : Event) (x y : Placed) → IsPlaced first top event x
    → IsPlaced first top event y → x ≡ y
one_place first top (Sent s) x y a b =
    elim a [
      | inl m ↦ elim b [
        | inl n ↦
            m.2 ∙ ap (SentAt s top) (near_one first top (first_number s) m.0 n.0 m.1 n.1) ∙ sym n.2
        | inr n ↦ absurd (n.0 m.0 m.1)
      ]
      | inr m ↦ elim b [
        | inl n ↦ absurd (m.0 n.0 n.1)
        | inr n ↦ m.1 ∙ sym n.1
      ]
    ]
one_place first top (Acknowledged a) x y l r =
    elim l [
      | inl m ↦ elim r [
        | inl n ↦
            m.2 ∙ ap (λ p. AcknowledgedAt p a.frame) (near_one first top a.number m.0 n.0 m.1 n.1)
            ∙ sym n.2
        | inr n ↦ absurd (n.0 m.0 m.1)
      ]
      | inr m ↦ elim r [
        | inl n ↦ absurd (m.0 n.0 n.1)
        | inr n ↦ m.1 ∙ sym n.1
      ]
    ]

one_placed : (events : List Event) (before xs ys : List Placed) (first : ℕ)
    → ArePlaced first before events xs → ArePlaced first before events ys → xs ≡ ys
one_placed [] before xs ys first a b = a ∙ sym b
one_placed (event ∷ events) before xs ys first a b =
    let e : b.0 ≡ a.0 = one_place first (top_of (payloads before)) event b.0 a.0 b.1 a.1 in
    let rest : ArePlaced first (before ++ a.0 ∷ []) events ys =
    subst (λ (x : Placed). ArePlaced first (before ++ x ∷ []) events ys) e b.2 in
    one_placed events (before ++ a.0 ∷ []) xs ys first a.2 rest

same_shown : {f1 f2 : ℕ} {l1 l2 : List Run} {m1 m2 : Marks} → f1 ≡ f2 → l1 ≡ l2 → m1 ≡ m2 →
    let S : Type 0 = Shown in
    let one : S = record { first = f1; log = l1; marks = m1 } in
    let two : S = record { first = f2; log = l2; marks = m2 } in
    one ≡ two
same_shown f l m = cc

pub one_stream : (one other : Shown) (events : List Event) → one.first ≡ other.first
    → ShowsEvents one events → ShowsEvents other events → one ≡ other
one_stream one other events e a b =
    let same : a.placed ≡ b.placed =
    one_placed events [] a.placed b.placed one.first a.are_placed
    (subst (λ n. ArePlaced n [] events b.placed) (sym e) b.are_placed) in
    same_shown e (a.log ∙ ap payloads same ∙ sym b.log)
    (a.marks ∙ ap marks_of same ∙ sym b.marks)

-- ---- a segment that comes twice

-- what a stream has after one more segment at a position
log_more : (was one : Shown) (events : List Event) (s : StreamSegment) (position : ℕ)
    → was.first ≡ one.first → ShowsEvents was events → ShowsEvents one (events ++ Sent s ∷ [])
    → IsNear one.first (top_of was.log) (first_number s) position
    → one.log ≡ was.log ++ payload_of (SentAt s (top_of was.log) position)
log_more was one events s position e a b near =
    let x : Placed = SentAt s (top_of was.log) position in
    let at : IsPlaced one.first (top_of (payloads a.placed)) (Sent s) x =
    subst (λ (rs : List Run). IsPlaced one.first (top_of rs) (Sent s) x) a.log
    (inl (position, near, refl)) in
    let all : ArePlaced one.first [] (events ++ Sent s ∷ []) (a.placed ++ x ∷ []) =
    placed_last events [] a.placed (Sent s) x one.first
    (subst (λ n. ArePlaced n [] events a.placed) e a.are_placed) at in
    b.log
    ∙ ap payloads (one_placed (events ++ Sent s ∷ []) [] b.placed (a.placed ++ x ∷ []) one.first
    b.are_placed all)
    ∙ payloads_last a.placed x
    ∙ ap (λ (rs : List Run). rs ++ payload_of x) (sym a.log)

or_twice : (a b : Option (ℕ × ℕ)) → or_else (or_else a b) b ≡ or_else a b
or_twice None None = refl
or_twice None (Some x) = refl
or_twice (Some x) b = refl

again_same : (log : List Run) (r : Run) (one two : Bool)
    → (one ≡ false → two ≡ false) → (p : ℕ)
    → spot_of ((log ++ cond one (r ∷ []) []) ++ cond two (r ∷ []) []) p
    ≡ spot_of (log ++ cond one (r ∷ []) []) p
again_same log r one false f p =
    ap (λ (rs : List Run). spot_of rs p) (append-nil (log ++ cond one (r ∷ []) []))
again_same log r true true f p =
    spot_last (log ++ r ∷ []) r p
    ∙ ap (λ o. or_else o (spot_in r p)) (spot_last log r p)
    ∙ or_twice (spot_of log p) (spot_in r p)
    ∙ sym (spot_last log r p)
again_same log r false true f p = absurd (let e = f refl in cc)

pub twice : (was one two : Shown) (events : List Event) (s : StreamSegment) (position : ℕ)
    → was.first ≡ one.first → one.first ≡ two.first → ShowsEvents was events
    → ShowsEvents one (events ++ Sent s ∷ [])
    → ShowsEvents two ((events ++ Sent s ∷ []) ++ Sent s ∷ [])
    → IsNear one.first (top_of was.log) (first_number s) position
    → IsNear one.first (top_of one.log) (first_number s) position
    → (p : ℕ) → spot_of two.log p ≡ spot_of one.log p
twice was one two events s position e g a b c near again p =
    let r = payload_at s position in
    let A = has_payload s (top_of was.log) position in
    let B = has_payload s (top_of one.log) position in
    let first : one.log ≡ was.log ++ cond A (r ∷ []) [] =
    log_more was one events s position e a b near in
    let second : two.log ≡ one.log ++ cond B (r ∷ []) [] =
    log_more one two (events ++ Sent s ∷ []) s position g b c
    (subst (λ n. IsNear n (top_of one.log) (first_number s) position) g again) in
    let none : A ≡ false → B ≡ false =
    λ h.
    ap (λ (rs : List Run). has_payload s (top_of rs) position)
    (first ∙ ap (λ (x : Bool). was.log ++ cond x (r ∷ []) []) h ∙ append-nil was.log)
    ∙ h in
    ap (λ (rs : List Run). spot_of rs p)
    (second ∙ ap (λ (rs : List Run). rs ++ cond B (r ∷ []) []) first)
    ∙ again_same was.log r A B none p
    ∙ ap (λ (rs : List Run). spot_of rs p) (sym first)

-- ---- payloads with no byte in common

or_exchanged : (a b c : Option (ℕ × ℕ)) → (a ≡ None) ⊎ (b ≡ None)
    → or_else a (or_else b c) ≡ or_else b (or_else a c)
or_exchanged None b c h = refl
or_exchanged (Some x) None c h = refl
or_exchanged (Some x) (Some y) c h =
    elim h [ inl e ↦ absurd (some_none x e) | inr e ↦ absurd (some_none y e) ]

pub swapped : (before after : List Run) (one other : Run)
    → ((p : ℕ) → (spot_in one p ≡ None) ⊎ (spot_in other p ≡ None)) → (p : ℕ)
    → spot_of (before ++ one ∷ other ∷ after) p ≡ spot_of (before ++ other ∷ one ∷ after) p
swapped before after one other apart p =
    spot_append before (one ∷ other ∷ after) p
    ∙ ap (or_else (spot_of before p))
    (or_exchanged (spot_in one p) (spot_in other p) (spot_of after p) (apart p))
    ∙ sym (spot_append before (other ∷ one ∷ after) p)

-- ---- bytes

-- the first run begins where the bytes do, and ends before they do
first_run : (r : Run) (rs : List Run) (from to most : ℕ) → Lie from most (r ∷ rs)
    → ((p : ℕ) → from ≤ p → p < to → spot_of (r ∷ rs) p ≢ None)
    → ((p : ℕ) → to ≤ p → spot_of (r ∷ rs) p ≡ None)
    → (r.position ≡ from) × (from + r.size ≤ to)
first_run r rs from to most l full none =
    let sound : HasBytes r = l.1.0 in
    let inside : (p : ℕ) → r.position ≤ p → p < r.position + r.size → p < to =
    λ p low high.
    elim (cases_lt p to) [
      | inl h ↦ h
      | inr h ↦
          absurd (shown (r ∷ rs) 0 r p (omega arith) low high (none p h))
    ] in
    let begins : r.position < to = inside r.position (omega arith) (omega (arith, sound.0)) in
    let ends : r.position + r.size - 1 < to =
    inside (r.position + r.size - 1) (omega (arith, sound.0)) (omega (arith, sound.0)) in
    let at : r.position ≡ from =
    elim (cases_lt from r.position) [
      | inl h ↦
          absurd (full from (omega arith) (omega (arith, h, begins))
          (ap₂ or_else (has_before r from h)
          (none_below rs from (r.position + r.size) most l.1.1 (omega (arith, h)))))
      | inr h ↦ omega (arith, h, l.0)
    ] in
    (at, omega (arith, at, ends, sound.0))

pub record Joined (file : List ℕ) (runs : List Run) (from to : ℕ) : Type 0 where
  pub count : length (content_of file runs) ≡ to - from
  pub same : (p : ℕ) → from ≤ p → p < to → (at : ℕ) × (frame : ℕ)
      × (spot_of runs p ≡ Some (at, frame))
      × (get_or (content_of file runs) (p - from) 0 ≡ get_or file at 0)

joined : (runs : List Run) (file : List ℕ) (from to most : ℕ) → from ≤ to → Lie from most runs
    → ((p : ℕ) → from ≤ p → p < to → spot_of runs p ≢ None)
    → ((p : ℕ) → to ≤ p → spot_of runs p ≡ None) → AreIn file runs → Joined file runs from to
joined [] file from to most le l full none within =
    elim (cases_lt from to) [
      | inl h ↦ absurd (full from (omega arith) h refl)
      | inr h ↦ record {
        count = omega (arith, h);
        same = λ p low high. absurd (omega (arith, h, low, high));
      }
    ]
joined (r ∷ rs) file from to most le l full none within =
    let f = first_run r rs from to most l full none in
    let end = r.position + r.size in
    let bytes = take r.size (drop r.at file) in
    let size : length bytes ≡ r.size =
    length-take-le r.size (drop r.at file)
    (omega (arith, length-drop r.at file, within.0 l.1.0.0)) in
    let rest : Joined file rs end to =
    joined rs file end to most (omega (arith, f.0, f.1)) l.1.1
    (λ p low high e. full p (omega (arith, f.0, low)) high (ap₂ or_else (has_after r p low) e))
    (λ p high. or_none_right (spot_in r p) (spot_of rs p) (none p high)) within.1 in
    record {
      count =
          length-append bytes (content_of file rs)
          ∙ omega (arith, size, rest.count, f.0, f.1);
      same = λ p low high.
          elim (cases_lt p end) [
            | inl h ↦
                let from_r : r.position ≤ p = omega (arith, f.0, low) in
                let i : p - from < r.size = omega (arith, f.0, h, low) in (
                  r.at + (p - r.position),
                  r.frame,
                  ap (λ o. or_else o (spot_of rs p)) (has_it r p from_r h),
                  get_or_append_left bytes (content_of file rs) 0 (p - from)
                      (omega (arith, size, i))
                      ∙ get_or-take r.size (drop r.at file) (p - from) 0 i
                      ∙ get_or-drop r.at file (p - from) 0
                      ∙ ap (λ n. get_or file (r.at + (p - n)) 0) (sym f.0),
                )
            | inr h ↦
                let k = rest.same p h high in
                let i : p - from - r.size ≡ p - end = omega (arith, f.0, h) in (
                  k.0,
                  k.1,
                  ap₂ or_else (has_after r p h) k.2,
                  get_or-append_right bytes (content_of file rs) r.size (p - from) 0 size
                      (omega (arith, f.0, h))
                      ∙ ap (λ n. get_or (content_of file rs) n 0) i ∙ k.3,
                )
          ];
    }

-- what lies between begins there
lie_from : (rs : List Run) (low from high : ℕ) → Lie low high rs → from ≤ high
    → ((p : ℕ) → p < from → spot_of rs p ≡ None) → Lie from high rs
lie_from [] low from high l le none = le
lie_from (r ∷ rs) low from high l le none =
    let sound : HasBytes r = l.1.0 in
    elim (cases_lt r.position from) [
      | inl h ↦
          absurd (shown (r ∷ rs) 0 r r.position (omega arith) (omega arith) (omega (arith, sound.0))
          (none r.position h))
      | inr h ↦ (h, l.1)
    ]

pub are_bytes : (file : List ℕ) (log runs parts : List Run) (from to : ℕ) → from ≤ to
    → AreInOrder log runs → AreBetween runs from to parts → HasNoGap runs from to
    → AreIn file parts → AreStreamBytes file log from to (content_of file parts)
are_bytes file log runs parts from to le order between full within =
    let most = 2 ^ 63 + from in
    let l : Lie from most parts =
    lie_from parts 0 from most (lie_high parts 0 (2 ^ 63) most (omega arith) between.order)
    (omega arith) (λ p lt. between.same p ∙ below_it from to p (spot_of runs p) lt) in
    let inside : (p : ℕ) → from ≤ p → p < to → spot_of parts p ≡ spot_of runs p =
    λ p low high. between.same p ∙ in_it from to p (spot_of runs p) low high in
    let j : Joined file parts from to =
    joined parts file from to most le l
    (λ p low high e. full p low high (sym (inside p low high) ∙ e))
    (λ p high. between.same p ∙ above_it from to p (spot_of runs p) high) within in
    record {
      count = j.count;
      same = λ p low high.
          let k = j.same p low high in
          (k.0, k.1, sym (order.same p) ∙ sym (inside p low high) ∙ k.2, k.3);
    }
