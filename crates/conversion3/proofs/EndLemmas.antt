-- What is said of one end, and of both.
use Rattle.std.proofs.Common.{◌≡◌, ℕ, List, Option, None, Some, refl, sym, subst}
use Rattle.std.specs.List.{All}
use Rattle.capture3.specs.declared.fault.Side.{Side}
use Rattle.capture3.specs.declared.fault.Side.TheVariants.{Client, Server}
use Rattle.connections3.specs.declared.connection.Connection.{Connection}
use Rattle.connections3.specs.declared.connection.Flow.{Flow}
use Rattle.streams3.specs.declared.runs.Run.{Run}
use Rattle.streams3.specs.Order.{IsOrderOf, IsWholeStream, Ordered}
use Rattle.streams3.specs.Repeats.{IsRepeat}
use Rattle.conversion3.specs.Judgments.{HasFirstFlaw}
use Rattle.conversion3.specs.OrderedConnections.{IsOrderedFlow}
use Rattle.conversion3.specs.Whole.{IsWholeFlow, side_flow, recorded_of}
use Rattle.conversion3.specs.declared.flaws.StreamFlaw.{StreamFlaw}
use Rattle.conversion3.specs.declared.flaws.StreamFlaw.TheVariants.{NoSyn, Changed}
use Rattle.conversion3.specs.declared.ordered_connections.OrderedFlow.{OrderedFlow}
use Rattle.conversion3.specs.machinery.Ends.{HasEndFlaw, IsEndJudged}
use Rattle.conversion3.specs.machinery.Ordered.{HasOrderFlaw, HasSameBytes, IsAgainOf}
use Rattle.conversion3.proofs.ContentLemmas.{all_as_first, is_changed}
use Rattle.conversion3.proofs.OrderedLemmas.{alike_of, flawed_recording, is_whole, order_flaw_is}

-- ---- one end

order_flawed : (file : List ℕ) (flow : Flow) (ordered : Ordered) (flaw : StreamFlaw)
    → IsOrderOf flow.stream ordered → HasOrderFlaw ordered flaw → HasEndFlaw file (Some flow) flaw
order_flawed file flow ordered flaw order has =
    let same = alike_of flow.stream ordered order in (
      λ whole. flawed_recording flow.stream ordered flaw same has whole.whole,
      order_flaw_is file flow.stream ordered flaw same has,
    )

end_is_whole : (file : List ℕ) (flow : Flow) (ordered : Ordered) → IsOrderOf flow.stream ordered
    → IsWholeStream ordered → All (HasSameBytes file) ordered.pairs
    → IsWholeFlow file (Some flow)
end_is_whole file flow ordered order whole same = record {
  whole =
      is_whole ordered (recorded_of flow.stream) (alike_of flow.stream ordered order) whole;
  same = all_as_first file flow.stream.log ordered.pairs order.pairs same;
}

end_changed : (file : List ℕ) (flow : Flow) (ordered : Ordered) (run : Run)
    → IsOrderOf flow.stream ordered → IsWholeStream ordered → IsAgainOf file ordered.pairs run
    → HasEndFlaw file (Some flow) (Changed run)
end_changed file flow ordered run order whole again =
    let log = flow.stream.log in
    let pair = again.0 in
    let is : IsRepeat log pair =
    subst (IsRepeat log) again.1.2 (order.pairs.only again.1.0 pair again.1.1) in
    let changed = is_changed file log pair is again.2 in
    subst (λ (r : Run). HasEndFlaw file (Some flow) (Changed r)) (sym again.3) (
      λ all. changed.broken all.same,
      (
        is_whole ordered (recorded_of flow.stream) (alike_of flow.stream ordered order) whole,
        changed.part,
        changed.other,
      ),
    )

-- ---- what was recorded of an end

pub nothing_judged : (file : List ℕ) (shown : Option Flow) → IsOrderedFlow shown None
    → IsEndJudged file shown (Some NoSyn)
nothing_judged file None order = (λ whole. whole, refl)
nothing_judged file (Some flow) order = absurd order

pub order_judged : (file : List ℕ) (shown : Option Flow) (ordered : OrderedFlow)
    (flaw : StreamFlaw) → IsOrderedFlow shown (Some ordered) → HasOrderFlaw ordered.stream flaw
    → IsEndJudged file shown (Some flaw)
order_judged file None ordered flaw order has = absurd order
order_judged file (Some flow) ordered flaw order has =
    order_flawed file flow ordered.stream flaw order.0 has

pub whole_judged : (file : List ℕ) (shown : Option Flow) (ordered : OrderedFlow)
    → IsOrderedFlow shown (Some ordered) → IsWholeStream ordered.stream
    → All (HasSameBytes file) ordered.stream.pairs → IsEndJudged file shown None
whole_judged file None ordered order whole same = absurd order
whole_judged file (Some flow) ordered order whole same =
    end_is_whole file flow ordered.stream order.0 whole same

pub changed_judged : (file : List ℕ) (shown : Option Flow) (ordered : OrderedFlow) (run : Run)
    → IsOrderedFlow shown (Some ordered) → IsWholeStream ordered.stream
    → IsAgainOf file ordered.stream.pairs run → IsEndJudged file shown (Some (Changed run))
changed_judged file None ordered run order whole again = absurd order
changed_judged file (Some flow) ordered run order whole again =
    end_changed file flow ordered.stream run order.0 whole again

-- ---- both ends

abbrev is_client : Side → Type 0
is_client Client = Unit {0}
is_client Server = ⊥

pub client_flawed : (file : List ℕ) (c : Connection) (kind : StreamFlaw)
    → HasEndFlaw file (side_flow c Client) kind
    → HasFirstFlaw file c (record { side = Client; kind = kind })
client_flawed file c kind has = record {
  broken = λ whole. has.0 whole.client;
  before = λ is. absurd (subst is_client is tt);
  is = has.1;
}

pub server_flawed : (file : List ℕ) (c : Connection) (kind : StreamFlaw)
    → IsWholeFlow file (side_flow c Client) → HasEndFlaw file (side_flow c Server) kind
    → HasFirstFlaw file c (record { side = Server; kind = kind })
server_flawed file c kind whole has = record {
  broken = λ both. has.0 both.server;
  before = λ is. whole;
  is = has.1;
}

-- an end of which nothing is known to be wrong is whole
pub whole_if_none : (file : List ℕ) (shown : Option Flow) (found : Option StreamFlaw)
    → ((flaw : StreamFlaw) → found ≡ Some flaw → ⊥) → IsEndJudged file shown found
    → IsWholeFlow file shown
whole_if_none file shown None none judged = judged
whole_if_none file shown (Some flaw) none judged = absurd (none flaw refl)
