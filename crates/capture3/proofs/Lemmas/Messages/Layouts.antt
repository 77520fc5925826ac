-- A whole body by its layout, decided.
use Rattle.capture3.proofs.Common.{lengths, ◌≡◌, ◌⊎◌, ℕ, ◌+◌, ◌<◌, ◌≤◌, nat_eq, List, [], length, drop, Ok, Err, refl, sym, ap, subst, ◌∙◌, inl, inr, arith, eqb-true, eq-eqb, ne_eqb, eqb-false, Reason, Trailing, Stop, Item, AreBytes, Spells, refused, complete, all_of_body, read_whole, layout_decides, reads_whole, LeavesMore}
use Rattle.std.proofs.lemmas.List.{length-drop, drop_all}
use Rattle.xdr3.specs.Layout.{Layout, exactly, remaining, after, FitsLayout, ReadsLayout, RefusesLayout, reading_layout}
use Rattle.xdr3.proofs.Lemmas.Reading.Bytes.{drop_front, front_ends, bind_ok, bind_err, accept_ok, accept_err}

-- ---- what is so is read

pub layout_reads : (layout : Layout) (body : List ℕ) (at : ℕ) (items : List Item) (left : List ℕ)
    → at ≤ length body → ReadsLayout layout (drop at body) items left
    → (to : ℕ) × (reading_layout layout body at ≡ Ok (items, to)) × (to + length left ≡ length body)
unfolding reading_layout
layout_reads (exactly shape) body at items left h r = (
  at + length r.front,
  (complete shape).reads body at items r.front left h r.fits r.spells r.whole,
  omega (lengths, ap length r.whole, length-drop at body),
)
layout_reads (remaining name) body at items left h r = (
  length body,
  ap (λ (xs : List Item). Ok (xs, length body)) (sym r.1),
  omega (arith, ap length r.2),
)
layout_reads (after shape next) body at items left h r =
    let x = (complete shape).reads body at r.0 r.3.front r.2 h r.3.fits r.3.spells r.3.whole in
    let place : drop (at + length r.3.front) body ≡ r.2 =
    drop_front body r.3.front r.2 at r.3.whole in
    let y =
    layout_reads (next r.0) body (at + length r.3.front) r.1 left
    (front_ends body r.3.front r.2 at h r.3.whole)
    (subst (λ (b : List ℕ). ReadsLayout (next r.0) b r.1 left) (sym place) r.4) in
    (y.0, rw (x, y.1) (ap (λ (xs : List Item). Ok (xs, y.0)) (sym r.5)), y.2)

pub layout_refuses : (layout : Layout) (body : List ℕ) (at further : ℕ) (reason : Reason)
    → at ≤ length body → RefusesLayout layout (drop at body) further reason
    → reading_layout layout body at ≡ refused (at + further) reason
unfolding reading_layout
layout_refuses (exactly shape) body at further reason h r =
    (complete shape).stops body at further reason h r
layout_refuses (remaining name) body at further reason h r = absurd r
layout_refuses (after shape next) body at further reason h (inl s) =
    let x = (complete shape).stops body at further reason h s in rw x refl
layout_refuses (after shape next) body at further reason h (inr t) =
    let b = t.2 in
    let x = (complete shape).reads body at t.0 b.1 b.2 h t.1
    (subst (λ (xs : List Item). Spells xs b.1) b.4 b.5) b.6 in
    let place : drop (at + length b.1) body ≡ b.2 = drop_front body b.1 b.2 at b.6 in
    let y =
    layout_refuses (next t.0) body (at + length b.1) b.3 reason (front_ends body b.1 b.2 at h b.6)
    (subst (λ (l : List ℕ). RefusesLayout (next t.0) l b.3 reason) (sym place) b.7) in
    let same : at + length b.1 + b.3 ≡ at + further = omega (arith, b.8) in
    rw (x, y) (ap (λ (k : ℕ). refused k reason) same)

-- ---- whole bodies

pub whole_read : (layout : Layout) (body : List ℕ) (items : List Item) → FitsLayout layout items
    → Spells items body → read_whole layout body ≡ Ok items
whole_read layout body items fits spells =
    let r =
    layout_reads layout body 0 items [] (omega arith)
    ((reads_whole layout body items).1 (fits, spells)) in
    let all : r.0 ≡ length body = omega (arith, r.2) in
    let end = eq-eqb r.0 (length body) all in
    rw (r.1, end) refl

pub refused_read : (layout : Layout) (body : List ℕ) (stop : Stop)
    → RefusesLayout layout body stop.at stop.reason → read_whole layout body ≡ Err stop
refused_read layout body stop r =
    let x = layout_refuses layout body 0 stop.at stop.reason (omega arith) r in
    let same : 0 + stop.at ≡ stop.at = omega arith in
    rw x (ap (λ (k : ℕ). refused k stop.reason) same)

pub more_read : (layout : Layout) (body : List ℕ) (stop : Stop) → LeavesMore layout body stop
    → read_whole layout body ≡ Err stop
more_read layout body stop h =
    let r = layout_reads layout body 0 h.items h.left (omega arith) h.reads in
    let at_is : r.0 ≡ stop.at = omega (arith, r.2, h.at_is) in
    let other = ne_eqb r.0 (length body) (λ e. absurd (omega (arith, e, r.2, h.some))) in
    rw (r.1, other) (ap (λ (k : ℕ). refused k Trailing) at_is
    ∙ ap (λ (why : Reason). refused stop.at why) (sym h.reason_is))

-- ---- what is read is so

pub is_whole : (layout : Layout) (body : List ℕ) (items : List Item) → AreBytes body
    → read_whole layout body ≡ Ok items → FitsLayout layout items × Spells items body
is_whole layout body items are e =
    let x = bind_ok (reading_layout layout body 0) (all_of_body body) items e in
    let y =
    accept_ok (nat_eq x.0.1 (length body)) (record { at = x.0.1; reason = Trailing }) x.0.0 items
    x.2 in
    let end = eqb-true x.0.1 (length body) y.0 in
    let r = (((layout_decides layout body 0 are (omega arith)).reads x.0.0 x.0.1).0 x.1).reads in
    let none : drop x.0.1 body ≡ [] = drop_all x.0.1 body (omega (arith, end)) in
    let all : ReadsLayout layout body x.0.0 [] = subst (ReadsLayout layout body x.0.0) none r in
    rw (← y.1) ((reads_whole layout body x.0.0).0 all)

pub is_refused : (layout : Layout) (body : List ℕ) (stop : Stop) → AreBytes body
    → read_whole layout body ≡ Err stop
    → RefusesLayout layout body stop.at stop.reason ⊎ LeavesMore layout body stop
is_refused layout body stop are e =
    let d = layout_decides layout body 0 are (omega arith) in
    elim (bind_err (reading_layout layout body 0) (all_of_body body) stop e) [
      | inl cut ↦ let r = (d.refuses stop).0 cut in
          let same : r.0 ≡ stop.at = omega (arith, r.2) in
          inl (subst (λ (k : ℕ). RefusesLayout layout body k stop.reason) same r.1)
      | inr x ↦
          let y =
          accept_err (nat_eq x.0.1 (length body)) (record { at = x.0.1; reason = Trailing }) x.0.0
          stop x.2 in
          let other = eqb-false x.0.1 (length body) y.0 in
          let r = (d.reads x.0.0 x.0.1).0 x.1 in
          let at_is : x.0.1 ≡ stop.at = ap (λ (s : Stop). s.at) y.1 in
          let some : 0 < length (drop x.0.1 body) =
          omega (arith, other, r.within, length-drop x.0.1 body) in
          inr (record {
            items = x.0.0;
            left = drop x.0.1 body;
            reads = r.reads;
            some = some;
            at_is = omega (arith, at_is, r.within, length-drop x.0.1 body);
            reason_is = sym (ap (λ (s : Stop). s.reason) y.1);
          })
    ]
