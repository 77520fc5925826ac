-- The rows of frames, with one more frame.
use Rattle.std.proofs.Common.{◌≡◌, ◌≤◌, ◌^◌, [], ◌∷◌, ◌++◌, Result, Ok, Err, IfErr, MatchResult, OnOk, inl, inr, length, refl, subst, sym}
use Rattle.std.proofs.lemmas.Slice.Zip.{all_zipped_more}
use Rattle.connections3.specs.Frames.{HasNotTaken, ShowsFrames}
use Rattle.connections3.specs.declared.taker.NotTaken.{NotTaken}
use Rattle.connections3.specs.declared.taker.NotTaken.TheVariants.{Memory, TooMany}
use Rattle.recording3.specs.Frames.{Extends}
use Rattle.recording3.specs.Places.{Passed}
use Rattle.index3.specs.Frames.{AreRows, HasNotKept, IsRow, KeepsFrames}
use Rattle.index3.specs.declared.frames.FrameRow.{FrameRow}
use Rattle.index3.specs.declared.frames.FrameTable.{FrameTable}

-- a row was kept
pub frame_kept : (old new : FrameTable) (frame : Passed) (row : FrameRow)
    → Extends (ShowsFrames old.taker) (ShowsFrames new.taker) (frame ∷ []) → IsRow frame row
    → new.rows.items ≡ old.rows.items ++ row ∷ []
    → Extends (KeepsFrames old) (KeepsFrames new) (frame ∷ [])
unfolding Extends
frame_kept old new frame row extends is more = λ before h. record {
  shows = extends before h.shows;
  rows =
      subst (AreRows (before ++ frame ∷ [])) (sym more)
      (all_zipped_more IsRow before old.rows.items frame row h.rows is);
}

-- the taker did not take it
pub frame_not_kept : (old new : FrameTable) (frame : Passed) (error : NotTaken)
    → Extends (ShowsFrames old.taker) (HasNotTaken new.taker error) (frame ∷ [])
    → Extends (KeepsFrames old) (HasNotKept new error) (frame ∷ [])
unfolding Extends
frame_not_kept old new frame error extends = λ before h. inl (extends before h.shows)

-- there was no memory for its row
pub frame_without_row : (old new : FrameTable) (frame : Passed)
    → Extends (ShowsFrames old.taker) (ShowsFrames new.taker) (frame ∷ [])
    → Extends (KeepsFrames old) (HasNotKept new Memory) (frame ∷ [])
unfolding Extends
frame_without_row old new frame extends = λ before h. inr (inl (refl, extends before h.shows))

-- it is too long for a row
pub frame_too_long : (table : FrameTable) (frame : Passed) → 2 ^ 32 ≤ length frame.octets
    → Extends (KeepsFrames table) (HasNotKept table TooMany) (frame ∷ [])
unfolding Extends
frame_too_long table frame huge = λ before h.
    inr (inr (
      refl,
      record {
        front = before;
        last = frame;
        split = refl;
        huge = huge;
        keeps = h;
      },
    ))

-- what keeping its row came to, once the taker took it
pub frame_row : (old new : FrameTable) (frame : Passed) (row : FrameRow)
    (r : Result (Unit {0}) NotTaken)
    → Extends (ShowsFrames old.taker) (ShowsFrames new.taker) (frame ∷ []) → IsRow frame row
    → OnOk r (new.rows.items ≡ old.rows.items ++ row ∷ []) → IfErr r (λ error. error ≡ Memory)
    → MatchResult r (λ _. Extends (KeepsFrames old) (KeepsFrames new) (frame ∷ []))
    (λ error. Extends (KeepsFrames old) (HasNotKept new error) (frame ∷ []))
frame_row old new frame row (Ok done) extends is ok err = frame_kept old new frame row extends is ok
frame_row old new frame row (Err error) extends is ok err =
    subst (λ (e : NotTaken). Extends (KeepsFrames old) (HasNotKept new e) (frame ∷ [])) (sym err)
    (frame_without_row old new frame extends)
