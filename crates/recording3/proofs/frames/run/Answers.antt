use Rattle.std.proofs.Common.{◌≡◌, ◌≤◌, ◌∙◌, List, [], ℕ, length, take, drop, refl, sym, subst, arith}
use Rattle.std.proofs.lemmas.List.{length-drop}
use Rattle.capture3.specs.Observed.{Observed}
use Rattle.recording3.specs.Frames.{Extends}
use Rattle.recording3.specs.Places.{Passed, ReadingPlace, at_front}
use Rattle.recording3.specs.machinery.Reached.{Passes, place_of}
use Rattle.recording3.specs.declared.contents.Ending.TheVariants.{TooMany}
use Rattle.recording3.specs.declared.frames.RecordingEnd.{RecordingEnd}
use Rattle.recording3.specs.declared.frames.Failed.TheVariants as failures
use Rattle.recording3.proofs.Files.FramesLemmas.{extends_none}
use Rattle.recording3.proofs.Files.ReadingLemmas.{Reading, counts_kept, finished, goes_not_on, got_none, lacks_more, passes_place, reading_got, reading_kept, reading_none, reading_passed, stopped, stopped_there}
use Rattle.recording3.proofs.Files.PartsLemmas.{length_front}
use Rattle.recording3.proofs.frames.run.Goals as goal

pub reads-init : goal.reads-init
reads-init g c =
    let front = at_front c.args.reached.now.frames in
    let o = g.R.Source.observed c.args.source.now in
    let old = g.T.FrameTaker.took c.args.taker.now in
    let e = c.requires.empty in (
      omega arith,
      omega arith,
      omega arith,
      refl,
      subst (λ (z : ReadingPlace). Reading front (o, o) (Extends old old) z [])
          (sym c.requires.front)
          (reading_none front o old),
    )

pub returns-in-Err-clause-err : goal.returns-in-Err-clause-err
returns-in-Err-clause-err g c =
    let took = g.T.FrameTaker.took in
    stopped c.args.reached.now.frames (place_of c.reads.reached)
    (g.R.Source.observed c.args.source.now, g.R.Source.observed c.reads.source)
    (took c.args.taker.now) (took c.reads.taker) (took c.pass.new.taker) _
    (take c.reads.there c.reads.window.items) c.in-Err.failed c.reads.invariant.4
    (rw c.deref.ensures.value at c.in-Err.ensures.err)

pub returns-in-Err-clause-count : goal.returns-in-Err-clause-count
returns-in-Err-clause-count g c =
    counts_kept RecordingEnd (g.R.Source.failures c.args.source.now)
    (g.R.Source.failures c.reads.source)
    c.in-Err.failed c.in-Err.ensures.unread c.reads.invariant.3

-- what was read when a window was passed
passed : (before : ℕ) (p q : ReadingPlace) (source : Observed × Observed)
    (Old Mid New : List Passed → Type 0) (window held : List ℕ) (at there : ℕ) → held ≡ window
    → Reading (at_front before) source (Extends Old Mid) p (take there window)
    → Passes p (Extends Mid New) (take at (take there held)) q
    → Reading (at_front before) source (Extends Old New) q (drop at (take there window))
passed before p q source Old Mid New window held at there e i f =
    reading_passed (at_front before) p q source Old Mid New (take there window) at i
    (rw e at f)

pub returns-then-not-may_go_on-clause-ok : goal.returns-then-not-may_go_on-clause-ok
returns-then-not-may_go_on-clause-ok g c =
    let took = g.T.FrameTaker.took in
    let before = c.args.reached.now.frames in
    let source : Observed × Observed =
    (g.R.Source.observed c.args.source.now, g.R.Source.observed c.reads.source) in
    let q = place_of c.pass.new.reached in
    let at = c.in-Ok.passed.0 in
    let i = passed before (place_of c.reads.reached) q source (took c.args.taker.now)
    (took c.reads.taker) (took c.pass.new.taker) c.reads.window.items c.deref.result.now at
    c.reads.there c.deref.ensures.value c.reads.invariant.4 c.in-Ok.ensures.passed in
    rw c.end_of.ensures
    (finished before q source (Extends (took c.args.taker.now) (took c.pass.new.taker))
    (drop at (take c.reads.there c.reads.window.items)) c.in-Ok.passed.1 i
    (rw c.deref.ensures.value at c.in-Ok.ensures.why)
    (λ m. absurd (let t = c.may_go_on.ensures.1 m in let f = c.if-not-may_go_on.true in cc)))

pub returns-in-Err-Read-clause-err : goal.returns-in-Err-Read-clause-err
returns-in-Err-Read-clause-err g c =
    let took = g.T.FrameTaker.took in
    let before = c.args.reached.now.frames in
    let first = g.R.Source.observed c.args.source.now in
    let mid = g.R.Source.observed c.reads.source in
    let last = g.R.Source.observed c.refill.new.source in
    let source : Observed × Observed = (first, mid) in
    let q = place_of c.pass.new.reached in
    let at = c.in-Ok.passed.0 in
    let now = drop at (take c.reads.there c.reads.window.items) in
    let i = passed before (place_of c.reads.reached) q source (took c.args.taker.now)
    (took c.reads.taker) (took c.pass.new.taker) c.reads.window.items c.deref.result.now at
    c.reads.there c.deref.ensures.value c.reads.invariant.4 c.in-Ok.ensures.passed in
    let k = reading_kept (at_front before) q first mid last
    (Extends (took c.args.taker.now) (took c.pass.new.taker)) now i c.in-Err-Read.ensures.none in
    stopped_there before q (first, last) (took c.args.taker.now) (took c.pass.new.taker) _ now
    failures.Read k (
      extends_none (took c.pass.new.taker),
      (
        c.in-Ok.passed.1,
        c.may_go_on.ensures.0 c.if-not-may_go_on.false,
        rw c.deref.ensures.value at c.in-Ok.ensures.why,
      ),
    )

pub returns-in-Err-Memory-clause-err : goal.returns-in-Err-Memory-clause-err
returns-in-Err-Memory-clause-err g c =
    let took = g.T.FrameTaker.took in
    let before = c.args.reached.now.frames in
    let first = g.R.Source.observed c.args.source.now in
    let mid = g.R.Source.observed c.reads.source in
    let last = g.R.Source.observed c.refill.new.source in
    let source : Observed × Observed = (first, mid) in
    let q = place_of c.pass.new.reached in
    let at = c.in-Ok.passed.0 in
    let now = drop at (take c.reads.there c.reads.window.items) in
    let i = passed before (place_of c.reads.reached) q source (took c.args.taker.now)
    (took c.reads.taker) (took c.pass.new.taker) c.reads.window.items c.deref.result.now at
    c.reads.there c.deref.ensures.value c.reads.invariant.4 c.in-Ok.ensures.passed in
    let k = reading_kept (at_front before) q first mid last
    (Extends (took c.args.taker.now) (took c.pass.new.taker)) now i c.in-Err-Memory.ensures.none in
    stopped_there before q (first, last) (took c.args.taker.now) (took c.pass.new.taker) _ now
    failures.Memory k (extends_none (took c.pass.new.taker))

pub returns-then-there-rest-clause-ok : goal.returns-then-there-rest-clause-ok
returns-then-there-rest-clause-ok g c =
    let took = g.T.FrameTaker.took in
    let before = c.args.reached.now.frames in
    let first = g.R.Source.observed c.args.source.now in
    let mid = g.R.Source.observed c.reads.source in
    let last = g.R.Source.observed c.refill.new.source in
    let source : Observed × Observed = (first, mid) in
    let q = place_of c.pass.new.reached in
    let at = c.in-Ok.passed.0 in
    let held = take c.reads.there c.reads.window.items in
    let now = drop at held in
    let later = take c.in-Ok-refill.there c.refill.new.window.items in
    let i = passed before (place_of c.reads.reached) q source (took c.args.taker.now)
    (took c.reads.taker) (took c.pass.new.taker) c.reads.window.items c.deref.result.now at
    c.reads.there c.deref.ensures.value c.reads.invariant.4 c.in-Ok.ensures.passed in
    let w = c.in-Ok-refill.ensures.within in
    let v = c.reads.window.ok.0 in
    let u = c.refill.new.window.ok.0 in
    let t = c.reads.invariant.0 in
    let l : length held ≡ c.reads.there =
    length_front c.reads.there c.reads.window.items (omega arith) in
    let m : length later ≡ c.in-Ok-refill.there =
    length_front c.in-Ok-refill.there c.refill.new.window.items (omega (arith, w)) in
    let d = length-drop at held in
    let e = c.if-there-rest.true in
    let none = got_none mid last now later c.in-Ok-refill.ensures.bytes (omega arith) in
    let k = reading_kept (at_front before) q first mid last
    (Extends (took c.args.taker.now) (took c.pass.new.taker)) now i none in
    rw c.end_of-then-there-rest.ensures
    (finished before q (first, last) (Extends (took c.args.taker.now) (took c.pass.new.taker)) now
    c.in-Ok.passed.1 k (rw c.deref.ensures.value at c.in-Ok.ensures.why)
    (λ m. c.in-Ok-refill.ensures.end c.if-there-rest.true))

pub reads-preserved : goal.reads-preserved
reads-preserved g c =
    let took = g.T.FrameTaker.took in
    let before = c.args.reached.now.frames in
    let first = g.R.Source.observed c.args.source.now in
    let mid = g.R.Source.observed c.reads.source in
    let last = g.R.Source.observed c.refill.new.source in
    let source : Observed × Observed = (first, mid) in
    let p = place_of c.reads.reached in
    let q = place_of c.pass.new.reached in
    let at = c.in-Ok.passed.0 in
    let held = take c.reads.there c.reads.window.items in
    let i = passed before p q source (took c.args.taker.now)
    (took c.reads.taker) (took c.pass.new.taker) c.reads.window.items c.deref.result.now at
    c.reads.there c.deref.ensures.value c.reads.invariant.4 c.in-Ok.ensures.passed in
    let w = c.in-Ok-refill.ensures.within in
    let n = c.if-there-rest.false in
    let r = c.reads.invariant.2 in
    let v = c.reads.window.ok.0 in
    let t = c.reads.invariant.0 in
    let l : length held ≡ c.reads.there =
    length_front c.reads.there c.reads.window.items (omega arith) in
    let b : at ≤ length held = rw c.deref.ensures.value at c.in-Ok.ensures.within in
    let o = passes_place p q (Extends (took c.reads.taker) (took c.pass.new.taker)) held at b
    (rw c.deref.ensures.value at c.in-Ok.ensures.passed) in (
      w.1,
      c.in-Ok-refill.ensures.limit,
      omega (arith, w),
      c.in-Ok-refill.ensures.count ∙ c.reads.invariant.3,
      reading_got (at_front before) q first mid last
          (Extends (took c.args.taker.now) (took c.pass.new.taker)) (drop at held)
          (take c.in-Ok-refill.there c.refill.new.window.items) i c.in-Ok-refill.ensures.bytes,
    )

pub returns-clause-ok : goal.returns-clause-ok
returns-clause-ok g c =
    let took = g.T.FrameTaker.took in
    let before = c.args.reached.now.frames in
    let source : Observed × Observed =
    (g.R.Source.observed c.args.source.now, g.R.Source.observed c.reads.source) in
    let q = place_of c.reads.reached in
    let now = take c.reads.there c.reads.window.items in
    let r = c.reads.invariant.2 in
    let t = c.reads.invariant.0 in
    let k = c.reads.invariant.1 in
    rw c.end_of-2.ensures
    (finished before q source (Extends (took c.args.taker.now) (took c.reads.taker)) now TooMany
    c.reads.invariant.4 (lacks_more q now (omega arith)) (λ m. absurd (goes_not_on m)))
