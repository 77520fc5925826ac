use Rattle.canon3.proofs.Common.{◌≡◌, None, Observed, failure_of, loan_of, source_of, entries_left}
use Rattle.canon3.specs.machinery.ComparisonSteps.{IsComparing}
use Rattle.canon3.specs.machinery.WritingSteps.{since}
use Rattle.canon3.proofs.comparison.Comparison.find.Given as goal

abbrev pub invariant-loop-finding : goal.invariant-loop-finding
invariant-loop-finding g l = record {
  going_first : failure_of l.first ≡ None;
  going_second : failure_of l.second ≡ None;
  under_way : (start other_start : Observed)
      → IsComparing (since g.A.Source.observed start l.fn.first)
      (since g.B.Source.observed other_start l.fn.second) l.fn.self
      → IsComparing (since g.A.Source.observed start l.first)
      (since g.B.Source.observed other_start l.second) l.self;
  read_first : g.A.Source.failures (source_of l.first) ≡ g.A.Source.failures (source_of l.fn.first);
  read_second : g.B.Source.failures (source_of l.second)
      ≡ g.B.Source.failures (source_of l.fn.second);
  same_first : loan_of l.first ≡ loan_of l.fn.first;
  same_second : loan_of l.second ≡ loan_of l.fn.second;
}

abbrev pub decreases-loop-finding : goal.decreases-loop-finding
decreases-loop-finding g l = entries_left l.first
