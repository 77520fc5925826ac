use Rattle.capture3.proofs.Common.{Err, ℕ, arith, ap, ◌≡◌, ◌∙◌, ◌++◌, [], ◌∷◌, take, take_all, length-take, length-drop, refl, End}
use Rattle.capture3.specs.machinery.Pairing.{entry_cost}
use Rattle.capture3.proofs.Lemmas.Reached.Limits.{typed_within}
use Rattle.capture3.proofs.Lemmas.Reader.PassedOn.{error_is}
use Rattle.capture3.proofs.Lemmas.Reader.WholeFiles.{begun_is, cut_at, first_fault, judged_all, kept_snoc, keeps_more, keeps_on, not_some, typed_at}
use Rattle.capture3.proofs.reader.whole.parse.Goals as goal

pub loop-taken-preserved-in-Continue-branch-2 : goal.loop-taken-preserved-in-Continue-branch-2
loop-taken-preserved-in-Continue-branch-2 c =
    let invariant = c.loop-taken.invariant in
    let cost = ap entry_cost c.in-Some.is in
    record {
      within =
          omega (arith, c.in-Ok.ensures.ok.taken.within, length-take {A = ℕ}, length-drop {A = ℕ});
      ready = c.in-Ok.ensures.ok.ready;
      room =
          omega (
            arith,
            invariant.room,
            c.in-Ok.ensures.ok.room,
            cost,
            c.in_ok-push-in-Ok.ensures.len,
          );
      machine =
          rw c.in_ok-push-in-Ok.ensures.items
          (keeps_more _ c.next.new.self.number _ c.args.bytes.now c.loop-taken.taken
          c.in-Ok.count
          _ c.loop-taken.entries.items invariant.machine.0 _ _ _ c.in-Some.is
          (c.in-Ok.ensures.machine (take c.loop-taken.taken c.args.bytes.now) invariant.machine.0
          invariant.machine.1)
          (λ entry h. c.in_ok-entry-in-Ok.ensures.kept entry (c.lend.ensures.lent entry h))
          invariant.machine.2);
    }

pub loop-taken-preserved : goal.loop-taken-preserved
loop-taken-preserved c =
    let invariant = c.loop-taken.invariant in
    let cost = ap entry_cost c.in_default.is in
    record {
      within =
          omega (arith, c.in-Ok.ensures.ok.taken.within, length-take {A = ℕ}, length-drop {A = ℕ});
      ready = c.in-Ok.ensures.ok.ready;
      room = omega (arith, invariant.room, c.in-Ok.ensures.ok.room, cost);
      machine =
          keeps_on _ c.next.new.self.number _ c.args.bytes.now c.loop-taken.taken
          c.in-Ok.count
          _ c.loop-taken.entries.items invariant.machine.0 _ c.in_default.is
          (c.in-Ok.ensures.machine (take c.loop-taken.taken c.args.bytes.now) invariant.machine.0
          invariant.machine.1) invariant.machine.2;
    }

pub returns-in-Err-clause-fault : goal.returns-in-Err-clause-fault
returns-in-Err-clause-fault c =
    first_fault {X = ℕ} (Err c.next.new.self.error) c.args.bytes.now c.loop-taken.taken
    c.loop-taken.invariant.machine.0 c.next.new.self.error refl
    (λ i. omega (arith, c.type_inv.bytes i))
    (c.in-Err.ensures.fault.fault (take c.loop-taken.taken c.args.bytes.now)
    c.loop-taken.invariant.machine.0 c.loop-taken.invariant.machine.1)

pub returns-clause-entries : goal.returns-clause-entries
returns-clause-entries c =
    let invariant = c.loop-taken.invariant in
    let all : take c.loop-taken.taken c.args.bytes.now ≡ c.args.bytes.now =
    take_all c.loop-taken.taken c.args.bytes.now (omega (arith, c.if-taken-bytes.false)) in (
      invariant.machine.0 ++ End ∷ [],
      typed_at c.args.bytes.now _ _ _ _ invariant.machine.0 (λ i. omega (arith, c.type_inv.bytes i))
          (judged_all c.loop-taken.pairing.container _ _ _ _ all
          (not_some _ _ c.is_recalling.ensures c.if-is_recalling.false)
          invariant.machine.1) c.in_ok-end.ensures.ok,
      rw c.in_ok-push.ensures.items
          (kept_snoc c.loop-taken.entries.items invariant.machine.0 _ End invariant.machine.2 refl),
    )

pub returns-clause-connections : goal.returns-clause-connections
returns-clause-connections c =
    let of = returns-clause-entries c in
    omega (arith, begun_is _ of.0 of.2, (typed_within c.args.bytes.now of.0 of.1).few)

pub returns-in_err-end-clause-fault : goal.returns-in_err-end-clause-fault
returns-in_err-end-clause-fault c =
    let invariant = c.loop-taken.invariant in
    let all : take c.loop-taken.taken c.args.bytes.now ≡ c.args.bytes.now =
    take_all c.loop-taken.taken c.args.bytes.now (omega (arith, c.if-taken-bytes.false)) in
    let met =
    cut_at c.args.bytes.now _ _ _ _ invariant.machine.0 (λ i. omega (arith, c.type_inv.bytes i))
    (judged_all c.loop-taken.pairing.container _ _ _ _ all
    (not_some _ _ c.is_recalling.ensures c.if-is_recalling.false) invariant.machine.1)
    c.in_err-end.ensures.err.0 in
    rw (error_is _ _ c.from_residual-in_err-end.ensures ∙ ap Err c.in_err-end.ensures.err.1) met
