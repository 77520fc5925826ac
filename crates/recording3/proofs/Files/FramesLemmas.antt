-- Parts of a recording one after another, and the frames that were passed on.
use Rattle.std.proofs.Common.{◌≡◌, ℕ, ◌+◌, ◌∙◌, List, [], ◌∷◌, ◌++◌, length, take, drop, refl, sym, ap, subst, append_assoc, append-nil, length-append, take-append-drop, arith}
use Rattle.std.proofs.lemmas.List.Folds.{concat-append}
use Rattle.std.proofs.Math.Seq.{take-add}
use Rattle.std.specs.List.{concat}
use Rattle.recording3.specs.Frames.{Extends, AreParts, StopsReading}
use Rattle.recording3.specs.Places.{IsPart, Passed, ReadingPlace, behind, frames_after, frames_of}
use Rattle.recording3.specs.machinery.Reached.{IsInside, Passes, StopsAt}
use Rattle.recording3.specs.declared.contents.Content.{Content}
use Rattle.recording3.specs.declared.contents.Content.TheVariants as contents
use Rattle.recording3.specs.declared.contents.RecordingPart.{RecordingPart}
use Rattle.recording3.specs.declared.frames.Failed.{Failed}
use Rattle.recording3.specs.declared.frames.Failed.TheVariants.{Read, Memory, Taker}
use Rattle.recording3.proofs.Files.PartsLemmas.{frames_alone, length_front, part_alone}

pub extends_none : (Old : List Passed → Type 0) → Extends Old Old []
unfolding Extends
extends_none Old before h = rw append-nil h

pub extends_more : (Old Mid New : List Passed → Type 0) (xs ys : List Passed) → Extends Old Mid xs
    → Extends Mid New ys → Extends Old New (xs ++ ys)
unfolding Extends
extends_more Old Mid New xs ys f g before h =
    rw (← append_assoc) (g (before ++ xs) (f before h))

pub joins_none : (p : ReadingPlace) → AreParts p [] [] p
unfolding AreParts
joins_none p = (refl, refl)

pub joins_more : (parts others : List (List ℕ)) (p q r : ReadingPlace) (xs ys : List Passed)
    → AreParts p parts xs q → AreParts q others ys r → AreParts p (parts ++ others) (xs ++ ys) r
unfolding AreParts
joins_more [] others p q r xs ys (e, f) k =
    subst (λ (z : List Passed). AreParts p others (z ++ ys) r) (sym e)
    (subst (λ (z : ReadingPlace). AreParts z others ys r) f k)
joins_more (bytes ∷ parts) others p q r xs ys (part, later, i, s, e, j) k = (
  part,
  later ++ ys,
  i,
  s,
  ap (λ (z : List Passed). z ++ ys) e ∙ append_assoc (frames_of p bytes part.content) later ys,
  joins_more parts others (behind p part) q r later ys j k,
)

pub joins_one : (p : ReadingPlace) (bytes : List ℕ) (part : RecordingPart) → IsPart p bytes part
    → IsInside (length bytes) part
    → AreParts p (take part.size bytes ∷ []) (frames_of p bytes part.content) (behind p part)
unfolding AreParts
joins_one p bytes part i w = (
  part,
  [],
  part_alone p bytes part i,
  sym (length_front part.size bytes w.1),
  sym (frames_alone p bytes part.content part.size w.2)
      ∙ sym (append-nil (frames_of p (take part.size bytes) part.content)),
  (refl, refl),
)

count_one : (p : ReadingPlace) (bytes : List ℕ) (n : ℕ) (content : Content)
    → frames_after n content ≡ n + length (frames_of p bytes content)
count_one p bytes n (contents.Header h) = omega arith
count_one p bytes n (contents.Section order) = omega arith
count_one p bytes n (contents.Interface i) = omega arith
count_one p bytes n (contents.Frame f) = omega arith
count_one p bytes n contents.Other = omega arith

pub joins_count : (parts : List (List ℕ)) (p q : ReadingPlace) (xs : List Passed)
    → AreParts p parts xs q
    → q.frames ≡ p.frames + length xs
unfolding AreParts
joins_count [] p q xs (e, f) =
    let l = ap length e in let m = ap (λ (z : ReadingPlace). z.frames) f in omega arith
joins_count (bytes ∷ parts) p q xs (part, later, i, s, e, j) =
    let l = ap length e ∙ length-append (frames_of p bytes part.content) later in
    let c = count_one p bytes p.frames part.content in
    let h = joins_count parts (behind p part) q later j in omega arith

pub joins_place : (parts : List (List ℕ)) (p q : ReadingPlace) (xs : List Passed)
    → AreParts p parts xs q
    → q.offset ≡ p.offset + length (concat parts)
unfolding AreParts
joins_place [] p q xs (e, f) = let m = ap (λ (z : ReadingPlace). z.offset) f in omega arith
joins_place (bytes ∷ parts) p q xs (part, later, i, s, e, j) =
    let l = length-append bytes (concat parts) in
    let h = joins_place parts (behind p part) q later j in omega arith

pub passes_none : (p : ReadingPlace) (Old : List Passed → Type 0) → Passes p (Extends Old Old) [] p
passes_none p Old =
    record {
      parts = [];
      frames = [];
      split = refl;
      joined = joins_none p;
      took = extends_none Old;
    }

pub passes_more : (p q r : ReadingPlace) (Old Mid New : List Passed → Type 0) (a b : List ℕ)
    → Passes p (Extends Old Mid) a q → Passes q (Extends Mid New) b r
    → Passes p (Extends Old New) (a ++ b) r
passes_more p q r Old Mid New a b f g =
    record {
      parts = f.parts ++ g.parts;
      frames = f.frames ++ g.frames;
      split = ap (λ (z : List ℕ). z ++ b) f.split
          ∙ ap (λ (z : List ℕ). concat f.parts ++ z) g.split
          ∙ sym (concat-append f.parts g.parts);
      joined = joins_more f.parts g.parts p q r f.frames g.frames f.joined g.joined;
      took = extends_more Old Mid New f.frames g.frames f.took g.took;
    }

pub passes_one : (p : ReadingPlace) (bytes : List ℕ) (part : RecordingPart)
    (Old New : List Passed → Type 0)
    → IsPart p bytes part → IsInside (length bytes) part
    → Extends Old New (frames_of p bytes part.content)
    → Passes p (Extends Old New) (take part.size bytes) (behind p part)
passes_one p bytes part Old New i w t =
    record {
      parts = take part.size bytes ∷ [];
      frames = frames_of p bytes part.content;
      split = sym (append-nil (take part.size bytes));
      joined = joins_one p bytes part i w;
      took = t;
    }

-- one more part was passed
pub passes_next : (p q : ReadingPlace) (bytes : List ℕ) (at : ℕ) (part : RecordingPart)
    (Old Mid New : List Passed → Type 0)
    → Passes p (Extends Old Mid) (take at bytes) q → IsPart q (drop at bytes) part
    → IsInside (length (drop at bytes)) part
    → Extends Mid New (frames_of q (drop at bytes) part.content)
    → Passes p (Extends Old New) (take (at + part.size) bytes) (behind q part)
passes_next p q bytes at part Old Mid New f i w t =
    subst (λ (z : List ℕ). Passes p (Extends Old New) z (behind q part))
    (sym (take-add at part.size bytes))
    (passes_more p q (behind q part) Old Mid New (take at bytes)
    (take part.size (drop at bytes)) f
    (passes_one q (drop at bytes) part Mid New i w t))

-- going behind the next part failed
pub stops_next : {E : Type 0} (p q : ReadingPlace) (bytes : List ℕ) (at : ℕ) (part : RecordingPart)
    (Old Mid New : List Passed → Type 0) (Kept : Type 0) (Fails : E → List Passed → Type 0)
    (failed : Failed E) → Passes p (Extends Old Mid) (take at bytes) q
    → IsPart q (drop at bytes) part
    → StopsAt (frames_of q (drop at bytes) part.content) Kept (λ e. Extends Mid (Fails e)) failed
    → (Kept → Extends Mid New [])
    → StopsReading p bytes (Extends Old New) (λ e. Extends Old (Fails e)) failed
stops_next p q bytes at part Old Mid New Kept Fails Read f i s k = absurd s
stops_next p q bytes at part Old Mid New Kept Fails Memory f i s k =
    record {
      parts = f.parts;
      rest = drop at bytes;
      frames = f.frames;
      last = q;
      split = sym (take-append-drop at bytes) ∙ ap (λ (z : List ℕ). z ++ drop at bytes) f.split;
      joined = f.joined;
      leaves = subst (λ (z : List Passed). Extends Old New z) (append-nil f.frames)
          (extends_more Old Mid New f.frames [] f.took (k s));
    }
stops_next p q bytes at part Old Mid New Kept Fails (Taker error) f i (one, e, t) k =
    record {
      parts = f.parts;
      rest = drop at bytes;
      frames = f.frames;
      last = q;
      split = sym (take-append-drop at bytes) ∙ ap (λ (z : List ℕ). z ++ drop at bytes) f.split;
      joined = f.joined;
      leaves = (
        part,
        one,
        i,
        e,
        extends_more Old Mid (Fails error) f.frames (one ∷ []) f.took
            (subst (λ (z : List Passed). Extends Mid (Fails error) z) e t),
      );
    }

-- a taker that stayed
pub extends_same : {T : Type 0} (took : T → List Passed → Type 0) (old new : T) (xs : List Passed)
    → new ≡ old → xs ≡ [] → Extends (took old) (took new) xs
extends_same took old new xs e f =
    subst (λ t. Extends (took old) (took t) xs) (sym e)
    (subst (λ (z : List Passed). Extends (took old) (took old) z) (sym f)
    (extends_none (took old)))
