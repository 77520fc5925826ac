use Rattle.std.proofs.Common.{◌≡◌, ℕ, List, take}
use Rattle.std.specs.List.{AllZip}
use Rattle.payload3.specs.Readings.{Allow}
use Rattle.conversion3.proofs.DecisionLemmas.{IsDecidedIn}
use Rattle.conversion3.proofs.decisions.decide_all.Given as goal

abbrev pub invariant-loop-connection : goal.invariant-loop-connection
invariant-loop-connection g l = record {
  more : (file : List ℕ) → Allow l.recorded.readings file → Allow l.fn.recorded.readings file;
  failures : l.recorded.failures ≡ l.fn.recorded.failures;
  decided : (file : List ℕ) → Allow l.recorded.readings file → AllZip (IsDecidedIn file l.ports)
      (take l.connection-index l.connections) l.decisions.items;
}
