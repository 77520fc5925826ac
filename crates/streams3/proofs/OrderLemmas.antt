-- What is missing of a stream in order.
use Rattle.std.proofs.Common.{◌≡◌, ◌≢◌, ◌<◌, ℕ, ◌+◌, ◌-◌, max, List, None, Some, sym, subst, arith, ◌↔◌, inl, inr}
use Rattle.std.proofs.lemmas.Bool.{cases_lt}
use Rattle.streams3.specs.declared.runs.MissingBytes.{MissingBytes}
use Rattle.streams3.specs.declared.runs.Run.{Run}
use Rattle.streams3.specs.declared.segments.Mark.{Mark}
use Rattle.streams3.specs.Order.{AreFirstMissing, HasNoGap, IsBefore, IsGap, IsMissing, IsNotAfter, Ordered, WasSent, begin_of}
use Rattle.streams3.specs.Runs.{Lie, spot_of}
use Rattle.streams3.proofs.RunsLemmas.{none_above}

-- the last byte of a stream, if it has one, is that before a position
pub record IsLast (stream : Ordered) (last : ℕ) : Type 0 where
  pub before : Lie 0 last stream.runs
  pub there : 0 < last → spot_of stream.runs (last - 1) ≢ None

-- a later byte shows what lies before the last
later_is : (stream : Ordered) (last p : ℕ) → IsLast stream last → spot_of stream.runs p ≡ None
    → ((q : ℕ) × (p < q) × (spot_of stream.runs q ≢ None)) ↔ (p < last)
later_is stream last p is none = (
  λ h.
      elim (cases_lt p last) [
        | inl lt ↦ lt
        | inr le ↦ absurd
            (h.2 (none_above stream.runs h.0 0 last is.before (omega (arith, le, h.1))))
      ],
  λ lt.
      elim (cases_lt (p + 1) last) [
        | inl k ↦ (last - 1, omega (arith, k), is.there (omega (arith, lt)))
        | inr k ↦
            absurd (is.there (omega (arith, lt))
            (subst (λ n. spot_of stream.runs n ≡ None) (omega (arith, lt, k)) none))
      ],
)

pub sent_end : (stream : Ordered) (end : Mark) (p : ℕ) → stream.marks.end ≡ Some end
    → WasSent stream p ↔ (p < end.position)
sent_end stream end p e = (
  λ h. subst (IsNotAfter p) e h.1,
  λ lt. (inr (inr (subst (IsBefore p) (sym e) lt)), subst (IsNotAfter p) (sym e) lt),
)

pub sent_acknowledged : (stream : Ordered) (mark : Mark) (last n p : ℕ) → stream.marks.end ≡ None
    → stream.marks.acknowledged ≡ Some mark → IsLast stream last → n ≡ max mark.position last
    → spot_of stream.runs p ≡ None → WasSent stream p ↔ (p < n)
sent_acknowledged stream mark last n p no_end e is max_is none =
    let l = later_is stream last p is none in (
      λ h.
          elim h.0 [
            | inl later ↦ omega (arith, l.0 later, max_is)
            | inr other ↦ elim other [
              | inl a ↦
                  let lt : p < mark.position = subst (IsBefore p) e a in
                  omega (arith, lt, max_is)
              | inr b ↦ absurd (subst (IsBefore p) no_end b)
            ]
          ],
      λ lt. (
        elim (cases_lt p last) [
          | inl k ↦ inl (l.1 k)
          | inr k ↦
              let below : p < mark.position = omega (arith, lt, max_is, k) in
              inr (inl (subst (IsBefore p) (sym e) below))
        ],
        subst (IsNotAfter p) (sym no_end) tt,
      ),
    )

pub sent_last : (stream : Ordered) (last p : ℕ) → stream.marks.end ≡ None
    → stream.marks.acknowledged ≡ None → IsLast stream last → spot_of stream.runs p ≡ None
    → WasSent stream p ↔ (p < last)
sent_last stream last p no_end no_mark is none =
    let l = later_is stream last p is none in (
      λ h.
          elim h.0 [
            | inl later ↦ l.0 later
            | inr other ↦ elim other [
              | inl a ↦ absurd (subst (IsBefore p) no_mark a)
              | inr b ↦ absurd (subst (IsBefore p) no_end b)
            ]
          ],
      λ lt. (inl (l.1 lt), subst (IsNotAfter p) (sym no_end) tt),
    )

-- what was sent and is missing lies before a position
abbrev pub IsLimit : (stream : Ordered) (limit : ℕ) → Type 0
IsLimit stream limit =
    (p : ℕ) → spot_of stream.runs p ≡ None → WasSent stream p ↔ (p < limit)

pub none_missing : (stream : Ordered) (limit : ℕ) → IsLimit stream limit
    → HasNoGap stream.runs (begin_of stream.marks.begin) limit → (p : ℕ) → IsMissing stream p → ⊥
none_missing stream limit is full p m = full p m.from ((is p m.none).0 m.sent) m.none

pub first_missing : (stream : Ordered) (limit : ℕ) (gap : MissingBytes) → IsLimit stream limit
    → IsGap stream.runs (begin_of stream.marks.begin) limit gap.begin gap.end
    → AreFirstMissing stream gap
first_missing stream limit gap is g = record {
  some = g.some;
  missing = λ p low high.
      let none = g.none p low high in
      record {
        from = omega (arith, g.low, low);
        none = none;
        sent = (is p none).1 (omega (arith, high, g.high));
      };
  first = λ p lt m. g.before p m.from lt m.none;
  last = λ m. g.after ((is gap.end m.none).0 m.sent) m.none;
}

pub is_last : (stream : Ordered) (runs : List Run) (last : ℕ) → runs ≡ stream.runs → Lie 0 last runs
    → (0 < last → spot_of runs (last - 1) ≢ None) → IsLast stream last
is_last stream runs last e before there = record {
  before = subst (Lie 0 last) e before;
  there = λ lt. subst (λ (rs : List Run). spot_of rs (last - 1) ≢ None) e (there lt);
}
