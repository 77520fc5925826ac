use Rattle.std.proofs.Common.{Bor, ◌≡◌, ◌∙◌, ◌+◌, ◌++◌, List, [], ◌∷◌, Option, Some, length, min, take, sym, subst, refl, append_assoc, arith, inl, inr}
use Rattle.std.proofs.lemmas.Bool.{cases_lt, false≢true}
use Rattle.std.proofs.lemmas.List.{append-nil, length_push}
use Rattle.std.proofs.lemmas.Slice.Zip.{zip_end, zip_turn}
use Rattle.std.proofs.iter.Yields.{fronts}
use Rattle.std.proofs.lemmas.Iterator.{zips}
use Rattle.std.specs.Iterator.{Yields}
use Rattle.std.specs.Iterator.Adapters.{zip_first, zip_second}
use Rattle.std.specs.declared.iter.Zip.{Zip}
use Rattle.std.specs.declared.slice.Iter.{Iter}
use Rattle.std.specs.List.{AllZip}
use Rattle.std.specs.Slice.Iter.{iter_rest}
use Rattle.packing3.specs.Packing.{HasAdded}
use Rattle.conversion3.specs.declared.decisions.Decision.{Decision}
use Rattle.conversion3.specs.declared.decisions.Decision.TheVariants.{Whole}
use Rattle.conversion3.specs.declared.ordered_connections.OrderedConnection.{OrderedConnection}
use Rattle.conversion3.proofs.PackingLemmas.{AreAt, HasSentIn, are_sent_in, if_same_err, more_whole, same_whole, whole_take}
use Rattle.conversion3.proofs.packing.pack_whole.Goals as goal
use Rattle.conversion3.proofs.packing.pack_whole.Goals.{in-Whole, in_default}

module _ {A B : Type 0} where
  -- a turn of the loop
  at_turn : (ks : List A) (vs : List B) (xs : List (Bor A × Bor B)) (s t u : Zip (Iter A) (Iter B))
      (r : Option (Bor A × Bor B)) → iter_rest (zip_first s) ≡ ks → iter_rest (zip_second s) ≡ vs
      → Yields (zips fronts fronts) s xs t → (p : Bor A × Bor B) → r ≡ Some p
      → zips fronts fronts t r u → AreAt ks vs (length xs) p.0.now p.1.now
  at_turn ks vs xs s t u r first second yields p is steps =
      let turn = zip_turn ks vs xs s t u r first second yields p is steps in
      record { first = turn.0; second = turn.1; connection = turn.2; decision = turn.3 }

pub loop-connection-init : goal.loop-connection-init
loop-connection-init g c = record {
  more = λ file allows. allows;
  packed = λ before earlier has. (
    [],
    subst (HasAdded g.W.Sink.written c.args.packing.now before) (sym (append-nil earlier)) has,
    λ file allows. tt,
  );
  ended = λ going. going;
  read = λ going. refl;
  write = λ going. refl;
}

pub loop-connection-preserved : goal.loop-connection-preserved
loop-connection-preserved g c =
    let cs = c.args.connections.now in
    let ds = c.args.decisions.now in
    let yielded = c.loop-connection.yielded in
    let i = length yielded in
    let pair : Bor OrderedConnection × Bor Decision = (c.in-Some.connection, c.in-Some.decision) in
    let n = length (yielded ++ pair ∷ []) in
    let next : n ≡ i + 1 = length_push yielded pair in
    let one = c.in-Some.connection.now in
    let said = c.in-Some.decision.now in
    let inv = c.loop-connection.invariant in
    let at : AreAt cs ds i one said =
    at_turn cs ds yielded c.into_iter-connection-iterator.result
    c.loop-connection.connection-iterator c.next.new.self c.next.result (cc) (cc)
    c.loop-connection.yielded_by pair c.in-Some.is c.next.ensures.steps in
    let is_not : said ≡ Whole → ⊥ =
    elim c.match-matches.branch [
      | in-Whole w ↦ λ is. absurd (false≢true (sym c.if-matches.false ∙ w.matches-is))
      | in_default w ↦ λ is. w.in_default.not-Whole is
    ] in
    record {
      more = inv.more;
      packed = λ before earlier has.
          let was = inv.packed before earlier has in (
            was.0,
            was.1,
            λ file allows.
                same_whole file cs ds i n one said was.0 at next is_not (was.2 file allows),
          );
      ended = inv.ended;
      read = inv.read;
      write = inv.write;
    }

pub loop-connection-preserved-in-Continue-1 : goal.loop-connection-preserved-in-Continue-1
loop-connection-preserved-in-Continue-1 g c =
    let cs = c.args.connections.now in
    let ds = c.args.decisions.now in
    let yielded = c.loop-connection.yielded in
    let i = length yielded in
    let pair : Bor OrderedConnection × Bor Decision = (c.in-Some.connection, c.in-Some.decision) in
    let n = length (yielded ++ pair ∷ []) in
    let next : n ≡ i + 1 = length_push yielded pair in
    let one = c.in-Some.connection.now in
    let said = c.in-Some.decision.now in
    let inv = c.loop-connection.invariant in
    let at : AreAt cs ds i one said =
    at_turn cs ds yielded c.into_iter-connection-iterator.result
    c.loop-connection.connection-iterator c.next.new.self c.next.result (cc) (cc)
    c.loop-connection.yielded_by pair c.in-Some.is c.next.ensures.steps in
    let whole : said ≡ Whole =
    elim c.match-matches.branch [
      | in-Whole w ↦ w.in-Whole.is
      | in_default w ↦ absurd (false≢true (sym w.matches-is ∙ c.if-matches.true))
    ] in
    let ok = c.in_ok-pack.ensures in
    record {
      more = λ file allows. inv.more file (c.pack.ensures.more file allows);
      packed = λ before earlier has.
          let was = inv.packed before earlier has in
          let streams = ok.packed before (earlier ++ was.0) was.1 in (
            was.0 ++ streams.0 ∷ [],
            subst (HasAdded g.W.Sink.written c.pack.new.packing before)
                (append_assoc earlier was.0 (streams.0 ∷ [])) streams.1,
            λ file allows.
                more_whole file cs ds i n one said was.0 streams.0 at next whole
                (was.2 file (c.pack.ensures.more file allows))
                (λ connection order is_whole. streams.2 file connection allows order is_whole),
          );
      ended = λ going. ok.ended (inv.ended going);
      read = λ going. ok.read (inv.ended going) ∙ inv.read going;
      write = λ going. ok.write (inv.ended going) ∙ inv.write going;
    }

pub returns-in_err-pack-clause-more : goal.returns-in_err-pack-clause-more
returns-in_err-pack-clause-more g c = λ file allows.
    c.loop-connection.invariant.more file (c.pack.ensures.more file allows)

pub returns-in_err-pack-clause-stopped : goal.returns-in_err-pack-clause-stopped
returns-in_err-pack-clause-stopped g c =
    let cs = c.args.connections.now in
    let ds = c.args.decisions.now in
    let i = length c.loop-connection.yielded in
    if_same_err c.from_residual.result _ c.in_err-pack.field-0.0 c.from_residual.ensures.1
    (λ before earlier has.
    let was = c.loop-connection.invariant.packed before earlier has in (
      i,
      was.0,
      c.in_err-pack.ensures.stopped before (earlier ++ was.0) was.1,
      are_sent_in c.pack.new.recorded.readings (take i cs) (take i ds) was.0
          (λ file allows. was.2 file (c.pack.ensures.more file allows)),
    ))

pub returns-clause-packed : goal.returns-clause-packed
returns-clause-packed g c =
    let cs = c.args.connections.now in
    let ds = c.args.decisions.now in
    let yielded = c.loop-connection.yielded in
    let count : length yielded ≡ min (length cs) (length ds) =
    zip_end cs ds yielded c.into_iter-connection-iterator.result
    c.loop-connection.connection-iterator c.next.new.self c.next.result (cc) (cc)
    c.loop-connection.yielded_by c.in-None.is c.next.ensures.steps in
    λ before earlier has.
    let was = c.loop-connection.invariant.packed before earlier has in (
      was.0,
      was.1,
      are_sent_in c.loop-connection.recorded.readings cs ds was.0
          (λ file allows.
          subst (λ (l : List OrderedConnection). AllZip (HasSentIn file) l was.0)
          (whole_take cs ds (length yielded)
          (elim (cases_lt (length cs) (length ds)) [
            | inl lt ↦ inl (omega (arith, lt, count))
            | inr le ↦ inr (omega (arith, le, count))
          ])) (was.2 file allows)),
    )
