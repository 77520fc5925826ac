-- Streams in order, and as they were recorded.
use Rattle.std.proofs.Common.{◌≡◌, ◌≢◌, ◌≤◌, ◌<◌, ℕ, ◌-◌, List, Option, None, Some, refl, sym, ◌∙◌, ap, subst, arith, ◌⊎◌, inl, inr}
use Rattle.std.specs.Option.{option_or}
use Rattle.std.proofs.lemmas.Bool.{cases_lt}
use Rattle.streams3.specs.declared.runs.MissingBytes.{MissingBytes}
use Rattle.streams3.specs.declared.segments.Mark.{Mark}
use Rattle.streams3.specs.declared.segments.Marks.{Marks}
use Rattle.streams3.specs.Order.{AreFirstMissing, IsBefore, IsBeyond, IsFirstBeyond, IsMissing, IsNotAfter, IsOrderOf, IsWholeStream, Ordered, WasSent, begin_of}
use Rattle.streams3.specs.Runs.{spot_of}
use Rattle.streams3.specs.Streams.{Shown}
use Rattle.conversion3.specs.Flaws.{EndsAtFin, HasBegun, HasFlaw, IsFilled, ShowsSent, last_mark}
use Rattle.conversion3.specs.Whole.{recorded_of}
use Rattle.conversion3.specs.declared.flaws.StreamFlaw.{StreamFlaw}
use Rattle.conversion3.specs.declared.flaws.StreamFlaw.TheVariants.{NoSyn, Missing, Beyond, Stray, Changed}
use Rattle.conversion3.specs.machinery.Ordered.{HasOrderFlaw}

-- each byte lies where the other has it, and the marks are the same
pub record AreAlike (one other : Ordered) : Type 0 where
  pub marks : one.marks ≡ other.marks
  pub spots : (p : ℕ) → spot_of one.runs p ≡ spot_of other.runs p

pub alike_of : (shown : Shown) (ordered : Ordered) → IsOrderOf shown ordered
    → AreAlike ordered (recorded_of shown)
alike_of shown ordered order = record { marks = order.marks; spots = order.runs.same }

pub turned : (one other : Ordered) → AreAlike one other → AreAlike other one
turned one other same = record {
  marks = sym same.marks;
  spots = λ p. sym (same.spots p);
}

was_sent : (one other : Ordered) (p : ℕ) → AreAlike one other → WasSent one p → WasSent other p
was_sent one other p same sent = (
  elim sent.0 [
    | inl later ↦ inl (later.0, later.1, λ none. later.2 (same.spots later.0 ∙ none))
    | inr marked ↦ inr (subst (λ (m : Marks). IsBefore p m.acknowledged ⊎ IsBefore p m.end)
        same.marks marked)
  ],
  subst (λ (m : Marks). IsNotAfter p m.end) same.marks sent.1,
)

pub is_missing : (one other : Ordered) (p : ℕ) → AreAlike one other → IsMissing one p
    → IsMissing other p
is_missing one other p same missing = record {
  from = subst (λ (m : Marks). begin_of m.begin ≤ p) same.marks missing.from;
  none = sym (same.spots p) ∙ missing.none;
  sent = was_sent one other p same missing.sent;
}

is_beyond : (one other : Ordered) (p : ℕ) → AreAlike one other → IsBeyond one p → IsBeyond other p
is_beyond one other p same beyond = record {
  after = subst (λ (m : Marks). IsNotAfter p m.end → ⊥) same.marks beyond.after;
  there = λ none. beyond.there (same.spots p ∙ none);
}

has_begun : (one other : Ordered) → AreAlike one other → HasBegun one → HasBegun other
has_begun one other same begun = subst (λ (m : Marks). m.begin ≢ None) same.marks begun

is_filled : (one other : Ordered) → AreAlike one other → IsFilled one → IsFilled other
is_filled one other same full = (
  has_begun one other same full.0,
  λ p missing. full.1 p (is_missing other one p (turned one other same) missing),
)

ends_at_fin : (one other : Ordered) → AreAlike one other → EndsAtFin one → EndsAtFin other
ends_at_fin one other same ends = (
  is_filled one other same ends.0,
  λ p beyond. ends.1 p (is_beyond other one p (turned one other same) beyond),
)

pub is_whole : (one other : Ordered) → AreAlike one other → IsWholeStream one
    → IsWholeStream other
is_whole one other same whole =
    let ends = ends_at_fin one other same ((whole.begun, whole.full), whole.within) in
    record {
      begun = ends.0.0;
      full = ends.0.1;
      within = ends.1;
      fits = subst (λ (m : Marks). m.strays ≡ 0) same.marks whole.fits;
    }

are_first_missing : (one other : Ordered) (bytes : MissingBytes) → AreAlike one other
    → AreFirstMissing one bytes → AreFirstMissing other bytes
are_first_missing one other bytes same gap =
    let back = turned one other same in
    record {
      some = gap.some;
      missing = λ p low high. is_missing one other p same (gap.missing p low high);
      first = λ p lt missing. gap.first p lt (is_missing other one p back missing);
      last = λ missing. gap.last (is_missing other one bytes.end back missing);
    }

is_first_beyond : (one other : Ordered) (mark : Mark) → AreAlike one other
    → IsFirstBeyond one mark → IsFirstBeyond other mark
is_first_beyond one other mark same is = record {
  beyond = is_beyond one other mark.position same is.beyond;
  first = λ p lt beyond. is.first p lt (is_beyond other one p (turned one other same) beyond);
  frame = (is.frame.0, sym (same.spots mark.position) ∙ is.frame.1);
}

shows_sent : (one other : Ordered) (end frame : ℕ) → AreAlike one other → ShowsSent one end frame
    → ShowsSent other end frame
shows_sent one other end frame same shows =
    elim shows [
      | inl there ↦ inl (there.0, sym (same.spots end) ∙ there.1)
      | inr marked ↦ inr (
        sym (same.spots end) ∙ marked.0,
        subst (λ (m : Marks). last_mark m ≡ Some (record { position = end; frame = frame }))
            same.marks marked.1,
      )
    ]

-- what is wrong with a stream in order is wrong with what was recorded
pub order_flaw_is : (file : List ℕ) (shown : Shown) (ordered : Ordered) (flaw : StreamFlaw)
    → AreAlike ordered (recorded_of shown) → HasOrderFlaw ordered flaw → HasFlaw file shown flaw
order_flaw_is file shown ordered NoSyn same has =
    subst (λ (m : Marks). m.begin ≡ None) same.marks has
order_flaw_is file shown ordered (Missing bytes frame) same has = (
  has_begun ordered (recorded_of shown) same has.0,
  are_first_missing ordered (recorded_of shown) bytes same has.1,
  shows_sent ordered (recorded_of shown) bytes.end frame same has.2,
)
order_flaw_is file shown ordered (Beyond mark) same has = (
  is_filled ordered (recorded_of shown) same has.0,
  is_first_beyond ordered (recorded_of shown) mark same has.1,
)
order_flaw_is file shown ordered (Stray frame) same has = (
  ends_at_fin ordered (recorded_of shown) same has.0,
  subst (λ (m : Marks). m.strays ≢ 0) same.marks has.1,
  subst (λ (m : Marks). frame ≡ m.stray) same.marks has.2,
)
order_flaw_is file shown ordered (Changed run) same has = absurd has

-- a stream with a flaw is not whole
flawed_order : (ordered : Ordered) (flaw : StreamFlaw) → HasOrderFlaw ordered flaw
    → IsWholeStream ordered → ⊥
flawed_order ordered NoSyn has whole = whole.begun has
flawed_order ordered (Missing bytes frame) has whole =
    whole.full bytes.begin (has.1.missing bytes.begin (omega arith) has.1.some)
flawed_order ordered (Beyond mark) has whole = whole.within mark.position has.1.beyond
flawed_order ordered (Stray frame) has whole = has.1 whole.fits
flawed_order ordered (Changed run) has whole = absurd has

pub flawed_recording : (shown : Shown) (ordered : Ordered) (flaw : StreamFlaw)
    → AreAlike ordered (recorded_of shown) → HasOrderFlaw ordered flaw
    → IsWholeStream (recorded_of shown) → ⊥
flawed_recording shown ordered flaw same has whole =
    flawed_order ordered flaw has
    (is_whole (recorded_of shown) ordered (turned ordered (recorded_of shown) same) whole)

-- ---- which mark shows that missing bytes were sent

-- the byte behind them was not sent, if it is not there
not_sent : (stream : Ordered) (bytes : MissingBytes) → AreFirstMissing stream bytes
    → spot_of stream.runs bytes.end ≡ None → WasSent stream bytes.end → ⊥
not_sent stream bytes gap none sent =
    let from = (gap.missing bytes.begin (omega arith) gap.some).from in
    gap.last (record { from = omega (arith, from, gap.some); none = none; sent = sent })

-- the end of FIN, if there is one
fin_behind : (stream : Ordered) (bytes : MissingBytes) (mark : Mark)
    → AreFirstMissing stream bytes → spot_of stream.runs bytes.end ≡ None
    → stream.marks.end ≡ Some mark → mark.position ≡ bytes.end
fin_behind stream bytes mark gap none fin =
    let last = gap.missing (bytes.end - 1) (omega (arith, gap.some)) (omega (arith, gap.some)) in
    let low : bytes.end - 1 < mark.position = subst (IsNotAfter (bytes.end - 1)) fin last.sent.1 in
    elim (cases_lt bytes.end mark.position) [
      | inl lt ↦ absurd (not_sent stream bytes gap none (
        inr (inr (subst (IsBefore bytes.end) (sym fin) lt)),
        subst (IsNotAfter bytes.end) (sym fin) lt,
      ))
      | inr le ↦ omega (arith, low, le, gap.some)
    ]

later_byte : (stream : Ordered) (bytes : MissingBytes) → AreFirstMissing stream bytes
    → spot_of stream.runs bytes.end ≡ None → IsNotAfter bytes.end stream.marks.end → (q : ℕ)
    → bytes.end - 1 < q → spot_of stream.runs q ≢ None → ⊥
later_byte stream bytes gap none open_end q above there =
    elim (cases_lt bytes.end q) [
      | inl lt ↦ not_sent stream bytes gap none (inl (q, lt, there), open_end)
      | inr le ↦
          let is : bytes.end ≡ q = omega (arith, above, le, gap.some) in
          there (subst (λ (n : ℕ). spot_of stream.runs n ≡ None) is none)
    ]

mark_behind : (stream : Ordered) (bytes : MissingBytes) → AreFirstMissing stream bytes
    → spot_of stream.runs bytes.end ≡ None → IsNotAfter bytes.end stream.marks.end
    → (found : Option Mark) → stream.marks.acknowledged ≡ found → IsBefore (bytes.end - 1) found
    → (mark : Mark) × (stream.marks.acknowledged ≡ Some mark) × (mark.position ≡ bytes.end)
mark_behind stream bytes gap none open_end None is before = absurd before
mark_behind stream bytes gap none open_end (Some mark) is before =
    elim (cases_lt bytes.end mark.position) [
      | inl lt ↦ absurd (not_sent stream bytes gap none
          (inr (inl (subst (IsBefore bytes.end) (sym is) lt)), open_end))
      | inr le ↦ (mark, is, omega (arith, before, le, gap.some))
    ]

-- without FIN, that of the highest acknowledgment
acknowledged_behind : (stream : Ordered) (bytes : MissingBytes) → AreFirstMissing stream bytes
    → spot_of stream.runs bytes.end ≡ None → stream.marks.end ≡ None
    → (mark : Mark) × (stream.marks.acknowledged ≡ Some mark) × (mark.position ≡ bytes.end)
acknowledged_behind stream bytes gap none no_fin =
    let last = gap.missing (bytes.end - 1) (omega (arith, gap.some)) (omega (arith, gap.some)) in
    let open_end : IsNotAfter bytes.end stream.marks.end =
    subst (IsNotAfter bytes.end) (sym no_fin) tt in
    elim last.sent.0 [
      | inl later ↦ absurd (later_byte stream bytes gap none open_end later.0 later.1 later.2)
      | inr marked ↦ elim marked [
        | inl before ↦
            mark_behind stream bytes gap none open_end stream.marks.acknowledged refl before
        | inr fin ↦ absurd (subst (IsBefore (bytes.end - 1)) no_fin fin)
      ]
    ]

by_fin : (stream : Ordered) (bytes : MissingBytes) → AreFirstMissing stream bytes
    → spot_of stream.runs bytes.end ≡ None → (fin : Option Mark) → stream.marks.end ≡ fin
    → (mark : Mark) × (last_mark stream.marks ≡ Some mark) × (mark.position ≡ bytes.end)
by_fin stream bytes gap none None is =
    let found = acknowledged_behind stream bytes gap none is in (
      found.0,
      ap (λ (o : Option Mark). option_or o stream.marks.acknowledged) is ∙ found.1,
      found.2,
    )
by_fin stream bytes gap none (Some mark) is = (
  mark,
  ap (λ (o : Option Mark). option_or o stream.marks.acknowledged) is,
  fin_behind stream bytes mark gap none is,
)

pub frame_is_there : (stream : Ordered) (bytes : MissingBytes) → AreFirstMissing stream bytes
    → spot_of stream.runs bytes.end ≡ None
    → (mark : Mark) × (last_mark stream.marks ≡ Some mark) × (mark.position ≡ bytes.end)
frame_is_there stream bytes gap none = by_fin stream bytes gap none stream.marks.end refl

abbrev is_mark : Option Mark → Type 0
is_mark None = ⊥
is_mark (Some mark) = Unit {0}

abbrev position_of : Option Mark → ℕ
position_of None = 0
position_of (Some mark) = mark.position

some_mark : (mark : Mark) → Some mark ≡ None → ⊥
some_mark mark e = absurd (subst is_mark e tt)

pub frame_is_known : (stream : Ordered) (bytes : MissingBytes) (last : Option Mark)
    → spot_of stream.runs bytes.end ≡ None → last ≡ last_mark stream.marks → last ≡ None
    → AreFirstMissing stream bytes → ⊥
frame_is_known stream bytes last none is unknown gap =
    let there = frame_is_there stream bytes gap none in
    some_mark there.0 (sym there.1 ∙ sym is ∙ unknown)

pub mark_is_behind : (stream : Ordered) (bytes : MissingBytes) (last : Option Mark) (mark : Mark)
    → spot_of stream.runs bytes.end ≡ None → last ≡ last_mark stream.marks → last ≡ Some mark
    → (mark.position ≡ bytes.end → ⊥) → AreFirstMissing stream bytes → ⊥
mark_is_behind stream bytes last mark none is known elsewhere gap =
    let there = frame_is_there stream bytes gap none in
    elsewhere (ap position_of (sym known ∙ is ∙ there.1) ∙ there.2)
