-- A recording that is read in pieces.
use Rattle.std.proofs.Common.{◌≡◌, ℕ, ◌+◌, ◌≤◌, ◌∙◌, List, [], ◌∷◌, ◌++◌, Option, Some, None, length, take, drop, refl, sym, ap, subst, inl, inr, Err, append_assoc, append-nil, length-append, take-append-drop, arith}
use Rattle.std.proofs.lemmas.List.Folds.{concat-append}
use Rattle.std.specs.Io.KnownBytes.{Appends, Consumes}
use Rattle.std.specs.List.{concat}
use Rattle.capture3.specs.Observed.{Gave, IsSpent, Observed}
use Rattle.recording3.specs.Frames.{CountsFailedReads, Extends, AreParts, LeavesFrames, ReadsFrames, StopsReading, StopsFrames}
use Rattle.recording3.specs.Places.{LacksPart, MayGoOn, Passed, ReadingPlace, at_front, most}
use Rattle.recording3.specs.machinery.Reached.{Gets, IsOfPassing, Passes}
use Rattle.recording3.specs.declared.contents.Ending.{Ending}
use Rattle.recording3.specs.declared.contents.Ending.TheVariants.{TooMany}
use Rattle.recording3.specs.declared.frames.Failed.{Failed}
use Rattle.recording3.specs.declared.frames.Failed.TheVariants as failures
use Rattle.recording3.proofs.Files.FramesLemmas.{extends_more, extends_none, joins_count, joins_more, joins_none, joins_place}
use Rattle.recording3.proofs.Files.PartsLemmas.{length_front}

consumes_none : (left : Option (List ℕ)) → Consumes left left []
consumes_none None = tt
consumes_none (Some xs) = refl

consumes_more : (a b c : Option (List ℕ)) (x y : List ℕ) → Consumes a b x → Consumes b c y
    → Consumes a c (x ++ y)
consumes_more None b c x y p q = tt
consumes_more (Some xs) None c x y p q = absurd p
consumes_more (Some xs) (Some ys) None x y p q = absurd q
consumes_more (Some xs) (Some ys) (Some zs) x y p q =
    p ∙ ap (λ (z : List ℕ). x ++ z) q ∙ sym (append_assoc x y zs)

appends_none : (given : Option (List ℕ)) → Appends given given []
appends_none None = tt
appends_none (Some xs) = sym (append-nil xs)

appends_more : (a b c : Option (List ℕ)) (x y : List ℕ) → Appends a b x → Appends b c y
    → Appends a c (x ++ y)
appends_more None b c x y p q = tt
appends_more (Some xs) None c x y p q = absurd p
appends_more (Some xs) (Some ys) None x y p q = absurd q
appends_more (Some xs) (Some ys) (Some zs) x y p q =
    q ∙ ap (λ (z : List ℕ). z ++ y) p ∙ append_assoc xs x y

pub gave_none : (o : Observed) → Gave o o []
gave_none o = (consumes_none o.left, appends_none o.given)

pub gave_more : (a b c : Observed) (x y : List ℕ) → Gave a b x → Gave b c y → Gave a c (x ++ y)
gave_more a b c x y p q = (
  consumes_more a.left b.left c.left x y p.0 q.0,
  appends_more a.given b.given c.given x y p.1 q.1,
)

-- What was read so far: parts, whose frames were taken, and then what the window holds now.
pub record Reading (p : ReadingPlace) (source : Observed × Observed) (Took : List Passed → Type 0)
    (q : ReadingPlace) (now : List ℕ) : Type 0 where
  pub file : List ℕ
  pub parts : List (List ℕ)
  pub frames : List Passed
  pub gave : Gave (source.0) (source.1) file
  pub split : file ≡ concat parts ++ now
  pub joined : AreParts p parts frames q
  pub took : Took frames

pub reading_none : (p : ReadingPlace) (o : Observed) (Old : List Passed → Type 0)
    → Reading p (o, o) (Extends Old Old) p []
reading_none p o Old =
    record {
      file = [];
      parts = [];
      frames = [];
      gave = gave_none o;
      split = refl;
      joined = joins_none p;
      took = extends_none Old;
    }

-- a front of what the window holds was passed
pub reading_passed : (p q r : ReadingPlace) (source : Observed × Observed)
    (Old Mid New : List Passed → Type 0) (now : List ℕ) (at : ℕ)
    → Reading p source (Extends Old Mid) q now → Passes q (Extends Mid New) (take at now) r
    → Reading p source (Extends Old New) r (drop at now)
reading_passed p q r source Old Mid New now at i f =
    record {
      file = i.file;
      parts = i.parts ++ f.parts;
      frames = i.frames ++ f.frames;
      gave = i.gave;
      split = i.split
          ∙ ap (λ (z : List ℕ). concat i.parts ++ z)
          (sym (take-append-drop at now) ∙ ap (λ (z : List ℕ). z ++ drop at now) f.split)
          ∙ sym (append_assoc (concat i.parts) (concat f.parts) (drop at now))
          ∙ ap (λ (z : List ℕ). z ++ drop at now) (sym (concat-append i.parts f.parts));
      joined = joins_more i.parts f.parts p q r i.frames f.frames i.joined f.joined;
      took = extends_more Old Mid New i.frames f.frames i.took f.took;
    }

-- more was read behind that
pub reading_got : (p q : ReadingPlace) (a b c : Observed) (Took : List Passed → Type 0)
    (now later : List ℕ) → Reading p (a, b) Took q now → Gets b c now later
    → Reading p (a, c) Took q later
reading_got p q a b c Took now later i g =
    record {
      file = i.file ++ g.0;
      parts = i.parts;
      frames = i.frames;
      gave = gave_more a b c i.file g.0 i.gave g.1;
      split = ap (λ (z : List ℕ). z ++ g.0) i.split ∙ append_assoc (concat i.parts) now g.0
          ∙ ap (λ (z : List ℕ). concat i.parts ++ z) (sym g.2);
      joined = i.joined;
      took = i.took;
    }

-- nothing was read
pub reading_kept : (p q : ReadingPlace) (a b c : Observed) (Took : List Passed → Type 0)
    (now : List ℕ) → Reading p (a, b) Took q now → Gave b c [] → Reading p (a, c) Took q now
reading_kept p q a b c Took now i g =
    reading_got p q a b c Took now now i ([], g, sym (append-nil now))

no_bytes : (xs : List ℕ) → length xs ≡ 0 → xs ≡ []
no_bytes [] e = refl
no_bytes (x ∷ xs) e = absurd (omega arith)

-- none were read if there are as many as before
pub got_none : (a b : Observed) (held held' : List ℕ) → Gets a b held held'
    → length held' ≡ length held → Gave a b []
got_none a b held held' g e =
    let n = ap length g.2 ∙ length-append held g.0 in
    subst (λ (z : List ℕ). Gave a b z) (no_bytes g.0 (omega arith)) g.1

pub passes_place : (p q : ReadingPlace) (Took : List Passed → Type 0) (bytes : List ℕ) (at : ℕ)
    → at ≤ length bytes → Passes p Took (take at bytes) q → q.offset ≡ p.offset + at
passes_place p q Took bytes at l f =
    let n = length_front at bytes l in
    let e = ap length f.split in
    let h = joins_place f.parts p q f.frames f.joined in omega arith

-- no part begins with what is left
pub finished : (before : ℕ) (q : ReadingPlace) (source : Observed × Observed)
    (Took : List Passed → Type 0) (now : List ℕ) (why : Ending)
    → Reading (at_front before) source Took q now → LacksPart q now why
    → (MayGoOn why → IsSpent (source.1))
    → ReadsFrames before source Took (record { frames = q.frames; offset = q.offset; why = why })
finished before q source Took now why i w a =
    let d = joins_place i.parts (at_front before) q i.frames i.joined in
    record {
      file = i.file;
      frames = i.frames;
      gave = i.gave;
      reads = record {
        parts = i.parts;
        rest = now;
        last = q;
        split = i.split;
        joined = i.joined;
        lacks = w;
        count = joins_count i.parts (at_front before) q i.frames i.joined;
        place = omega arith;
      };
      took = i.took;
      all = a;
    }

leaves_more : {E : Type 0} (at : ReadingPlace × List ℕ) (Old Mid New : List Passed → Type 0)
    (Fails : E → List Passed → Type 0) (xs ys : List Passed) (failed : Failed E)
    → Extends Old Mid xs → LeavesFrames at ys (Extends Mid New) (λ e. Extends Mid (Fails e)) failed
    → LeavesFrames at (xs ++ ys) (Extends Old New) (λ e. Extends Old (Fails e)) failed
leaves_more at Old Mid New Fails xs ys failures.Read t (u, w) =
    (extends_more Old Mid New xs ys t u, w)
leaves_more at Old Mid New Fails xs ys failures.Memory t u = extends_more Old Mid New xs ys t u
leaves_more at Old Mid New Fails xs ys (failures.Taker error) t (part, one, i, e, u) = (
  part,
  one,
  i,
  e,
  subst (λ (z : List Passed). Extends Old (Fails error) z) (sym (append_assoc xs ys (one ∷ [])))
      (extends_more Old Mid (Fails error) xs (ys ++ one ∷ []) t u),
)

-- going on failed
pub stopped : {E : Type 0} (before : ℕ) (q : ReadingPlace) (source : Observed × Observed)
    (Old Mid New : List Passed → Type 0) (Fails : E → List Passed → Type 0) (now : List ℕ)
    (failed : Failed E) → Reading (at_front before) source (Extends Old Mid) q now
    → StopsReading q now (Extends Mid New) (λ e. Extends Mid (Fails e)) failed
    → StopsFrames before source (Extends Old New) (λ e. Extends Old (Fails e)) failed
stopped before q source Old Mid New Fails now failed i s =
    record {
      file = i.file;
      gave = i.gave;
      stops = record {
        parts = i.parts ++ s.parts;
        rest = s.rest;
        frames = i.frames ++ s.frames;
        last = s.last;
        split = i.split ∙ ap (λ (z : List ℕ). concat i.parts ++ z) s.split
            ∙ sym (append_assoc (concat i.parts) (concat s.parts) s.rest)
            ∙ ap (λ (z : List ℕ). z ++ s.rest) (sym (concat-append i.parts s.parts));
        joined =
            joins_more i.parts s.parts (at_front before) q s.last i.frames s.frames i.joined
            s.joined;
        leaves =
            leaves_more (s.last, s.rest) Old Mid New Fails i.frames s.frames failed i.took s.leaves;
      };
    }

-- a failure at which nothing more was passed
pub stopped_there : {E : Type 0} (before : ℕ) (q : ReadingPlace) (source : Observed × Observed)
    (Old New : List Passed → Type 0) (Fails : E → List Passed → Type 0) (now : List ℕ)
    (failed : Failed E) → Reading (at_front before) source (Extends Old New) q now
    → LeavesFrames (q, now) [] (Extends New New) (λ e. Extends New (Fails e)) failed
    → StopsFrames before source (Extends Old New) (λ e. Extends Old (Fails e)) failed
stopped_there before q source Old New Fails now failed i l =
    stopped before q source Old New New Fails now failed i
    (record {
      parts = [];
      rest = now;
      frames = [];
      last = q;
      split = refl;
      joined = joins_none q;
      leaves = l;
    })

pub counts_kept : {E : Type 0} (X : Type 0) (old new : ℕ) (failed : Failed E) → IsOfPassing failed
    → new ≡ old → CountsFailedReads {X = X} old new (Err failed)
counts_kept X old new failures.Read f e = absurd f
counts_kept X old new failures.Memory f e = e
counts_kept X old new (failures.Taker error) f e = e

-- more could not change it
pub goes_not_on : MayGoOn TooMany → ⊥
goes_not_on (inl e) = absurd (cc)
goes_not_on (inr e) = absurd (cc)

pub lacks_more : (q : ReadingPlace) (rest : List ℕ) → most ≤ q.offset → LacksPart q rest TooMany
lacks_more q rest l = inl (l, refl)
