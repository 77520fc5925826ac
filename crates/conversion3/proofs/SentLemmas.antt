-- The bytes of a whole stream.
use Rattle.std.proofs.Common.{◌≡◌, ◌≢◌, ◌≤◌, ◌<◌, ◌^◌, ℕ, ◌+◌, ◌-◌, max, List, [], ◌∷◌, Option, None, Some, refl, sym, ◌∙◌, ap, ap₂, subst, arith, inl, inr}
use Rattle.std.proofs.lemmas.Bool.{cases_lt}
use Rattle.streams3.specs.declared.runs.Run.{Run}
use Rattle.streams3.specs.declared.segments.Mark.{Mark}
use Rattle.streams3.specs.declared.segments.Marks.{Marks}
use Rattle.streams3.specs.Content.{AreIn, AreStreamBytes, content_of}
use Rattle.streams3.specs.Order.{AreBetween, HasNoGap, IsNotAfter, IsOrderOf, IsWholeStream, Ordered, begin_of}
use Rattle.streams3.specs.Runs.{Lie, or_else, spot_in, spot_of}
use Rattle.streams3.specs.Streams.{Shown}
use Rattle.streams3.proofs.BetweenLemmas.{above_it, below_it, in_it}
use Rattle.streams3.proofs.LawsLemmas.{are_bytes}
use Rattle.streams3.proofs.RunsLemmas.{has_after, has_it, or_none_left, or_none_right, some_none}
use Rattle.conversion3.specs.Sent.{AreSentBytes}
use Rattle.conversion3.specs.Whole.{IsWholeStreamIn, recorded_of}
use Rattle.conversion3.proofs.OrderedLemmas.{alike_of, is_whole, turned}

-- behind its last byte runs in order have none
pub record HasLast (runs : List Run) (low high : ℕ) : Type 0 where
  pub end : ℕ
  pub low_end : low ≤ end
  pub high_end : end ≤ high
  pub none : (p : ℕ) → end ≤ p → spot_of runs p ≡ None
  pub last : low < end → spot_of runs (end - 1) ≢ None

pub has_last : (runs : List Run) (low high : ℕ) → Lie low high runs → HasLast runs low high
has_last [] low high lie = record {
  end = low;
  low_end = omega arith;
  high_end = lie;
  none = λ p le. refl;
  last = λ lt. absurd (omega (arith, lt));
}
has_last (run ∷ runs) low high lie =
    let behind = run.position + run.size in
    let rest = has_last runs behind high lie.1.1 in
    record {
      end = rest.end;
      low_end = omega (arith, lie.0, rest.low_end);
      high_end = rest.high_end;
      none = λ p le.
          ap₂ or_else (has_after run p (omega (arith, le, rest.low_end))) (rest.none p le);
      last = λ lt.
          elim (cases_lt behind rest.end) [
            | inl more ↦ λ none.
                rest.last more (or_none_right (spot_in run (rest.end - 1))
                (spot_of runs (rest.end - 1)) none)
            | inr le ↦ λ none.
                some_none (run.at + ((rest.end - 1) - run.position), run.frame)
                (sym (has_it run (rest.end - 1) (omega (arith, lie.1.0.0, rest.low_end))
                (omega (arith, le, lie.1.0.0, rest.low_end)))
                ∙ or_none_left (spot_in run (rest.end - 1)) (spot_of runs (rest.end - 1)) none)
          ];
    }

-- a byte of a whole stream is not behind FIN
not_after : (stream : Ordered) (p : ℕ) → IsWholeStream stream → spot_of stream.runs p ≢ None
    → (fin : Option Mark) → stream.marks.end ≡ fin → IsNotAfter p fin
not_after stream p whole there None is = tt
not_after stream p whole there (Some mark) is =
    elim (cases_lt p mark.position) [
      | inl lt ↦ lt
      | inr le ↦ absurd (whole.within p (record {
        after = λ h.
            let lt : p < mark.position = subst (IsNotAfter p) is h in
            absurd (omega (arith, lt, le));
        there = there;
      }))
    ]

earlier_is_not : (p q : ℕ) (fin : Option Mark) → p < q → IsNotAfter q fin → IsNotAfter p fin
earlier_is_not p q None lt h = tt
earlier_is_not p q (Some mark) lt h = omega (arith, lt, h)

-- from where it begins each byte before the last is there
is_there : (stream : Ordered) (last p : ℕ) → IsWholeStream stream
    → begin_of stream.marks.begin ≤ p → p < last → spot_of stream.runs (last - 1) ≢ None
    → spot_of stream.runs p ≢ None
is_there stream last p whole from lt there none =
    elim (cases_lt p (last - 1)) [
      | inl before ↦
          whole.full p (record {
            from = from;
            none = none;
            sent = (
              inl (last - 1, before, there),
              earlier_is_not p (last - 1) stream.marks.end before
                  (not_after stream (last - 1) whole there stream.marks.end refl),
            );
          })
      | inr le ↦
          let is : p ≡ last - 1 = omega (arith, lt, le) in
          there (subst (λ (n : ℕ). spot_of stream.runs n ≡ None) is none)
    ]

record Ends (stream : Ordered) : Type 0 where
  pub end : ℕ
  pub order : begin_of stream.marks.begin ≤ end
  pub small : begin_of stream.marks.begin < end → end ≤ 2 ^ 63
  pub full : HasNoGap stream.runs (begin_of stream.marks.begin) end
  pub none : (p : ℕ) → end ≤ p → spot_of stream.runs p ≡ None

ends : (stream : Ordered) → Lie 0 (2 ^ 63) stream.runs → IsWholeStream stream → Ends stream
ends stream lie whole =
    let begin = begin_of stream.marks.begin in
    let last = has_last stream.runs 0 (2 ^ 63) lie in
    record {
      end = max begin last.end;
      order = omega arith;
      small = λ lt. omega (arith, lt, last.high_end);
      full = λ p low high.
          let below : p < last.end = omega (arith, low, high) in
          is_there stream last.end p whole low below (last.last (omega (arith, below)));
      none = λ p le. last.none p (omega (arith, le));
    }

-- what lies up to a far position lies up to the end
shorter : (runs parts : List Run) (from to far : ℕ) → AreBetween runs from far parts
    → (from < to → to ≤ far) → ((p : ℕ) → to ≤ p → spot_of runs p ≡ None)
    → AreBetween runs from to parts
shorter runs parts from to far between near none = record {
  order = between.order;
  same = λ p.
      between.same p ∙ elim (cases_lt p from) [
        | inl lt ↦
            below_it from far p (spot_of runs p) lt ∙ sym (below_it from to p (spot_of runs p) lt)
        | inr low ↦ elim (cases_lt p to) [
          | inl lt ↦
              in_it from far p (spot_of runs p) low
              (omega (arith, low, lt, near (omega (arith, low, lt))))
              ∙ sym (in_it from to p (spot_of runs p) low lt)
          | inr high ↦ elim (cases_lt p far) [
            | inl lt ↦
                in_it from far p (spot_of runs p) low lt ∙ none p high
                ∙ sym (above_it from to p (spot_of runs p) high)
            | inr beyond ↦
                above_it from far p (spot_of runs p) beyond
                ∙ sym (above_it from to p (spot_of runs p) high)
          ]
        ]
      ];
}

pub are_sent : (file : List ℕ) (shown : Shown) (ordered : Ordered) (parts : List Run) (far : ℕ)
    → IsOrderOf shown ordered → IsWholeStream ordered → 2 ^ 63 ≤ far
    → AreBetween ordered.runs (begin_of ordered.marks.begin) far parts → AreIn file parts
    → AreSentBytes file shown (content_of file parts)
are_sent file shown ordered parts far order whole long between within =
    let begin = begin_of ordered.marks.begin in
    let e = ends ordered order.runs.order whole in
    let parts_are : AreBetween ordered.runs begin e.end parts =
    shorter ordered.runs parts begin e.end far between (λ lt. omega (arith, long, e.small lt))
    e.none in
    let same : begin ≡ begin_of shown.marks.begin =
    ap (λ (m : Marks). begin_of m.begin) order.marks in
    record {
      end = e.end;
      ends = record {
        order = omega (arith, e.order, same);
        all = λ p low. (
          λ there.
              elim (cases_lt p e.end) [
                | inl lt ↦ lt
                | inr le ↦ absurd (there (sym (order.runs.same p) ∙ e.none p le))
              ],
          λ lt none. e.full p (omega (arith, low, same)) lt (order.runs.same p ∙ none),
        );
      };
      are =
          subst (λ (n : ℕ). AreStreamBytes file shown.log n e.end (content_of file parts)) same
          (are_bytes file shown.log ordered.runs parts begin e.end e.order order.runs parts_are
          e.full within);
    }

-- the same, of a stream that is whole as it was recorded
pub runs_are_sent : (ordered : Ordered) (parts : List Run) (begin : ℕ)
    → begin ≡ begin_of ordered.marks.begin → AreBetween ordered.runs begin (2 ^ 64 - 1) parts
    → (file : List ℕ) (shown : Shown) → IsOrderOf shown ordered → IsWholeStreamIn file shown
    → AreIn file parts → AreSentBytes file shown (content_of file parts)
runs_are_sent ordered parts begin is between file shown order whole within =
    are_sent file shown ordered parts (2 ^ 64 - 1) order
    (is_whole (recorded_of shown) ordered
    (turned ordered (recorded_of shown) (alike_of shown ordered order)) whole.whole)
    (omega arith)
    (subst (λ (n : ℕ). AreBetween ordered.runs n (2 ^ 64 - 1) parts) is between) within
