use Rattle.capture3.proofs.Common.{◌∙◌, IsRunning, ap, subst, sym, take, drop, refl, List, ℕ, Runs, Stops, Whole, Taking, after, join_next, joining_of, record_stops}
use Rattle.std.proofs.Common.{arith, length-take}
use Rattle.capture3.proofs.Lemmas.Container.InPlaceLemmas.{after_header, none_lies}
use Rattle.capture3.specs.machinery.InPlaceInside.{taking_shown}
use Rattle.capture3.proofs.container.in_place.InPlaceJoiner.take_whole.Goals as goal

pub returns-clause-stops : goal.returns-clause-stops
returns-clause-stops c =
    let bytes = take c.in_ok-count.count c.args.piece.now in
    let shown = ap (λ s. s.taking) c.self.view_is in
    let apart =
    none_lies c.self.inside.lying c.self.inside.joiner.taking
    (subst IsRunning (sym shown) c.requires.running) in
    let unbegun =
    sym shown ∙ ap (λ lying. taking_shown lying c.self.inside.joiner.taking) apart
    ∙ c.if-not-is_between.ensures.state.0 refl in
    ap (λ (t : Taking). after join_next (Runs (joining_of t)) bytes) unbegun
    ∙ record_stops bytes (drop 4 bytes) c.in_ok-count.ensures.record
    ∙ ap (λ (body : List ℕ). Stops (Whole body))
    (after_header c.args.piece.now c.in_ok-count.count c.in_ok-count.ensures.within.0
    ∙ sym (rw c.new-body.ensures at c.note.ensures))

pub returns-clause-lies : goal.returns-clause-lies
returns-clause-lies c whole lies = (
  omega (arith, length-take c.in_ok-count.count c.args.piece.now, c.in_ok-count.ensures.within),
  after_header c.args.piece.now c.in_ok-count.count c.in_ok-count.ensures.within.0
      ∙ sym (rw c.new-body.ensures at c.note.ensures),
)
