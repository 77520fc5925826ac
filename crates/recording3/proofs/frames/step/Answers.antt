use Rattle.std.proofs.Common.{refl}
use Rattle.recording3.proofs.Files.FramesLemmas.{extends_same}
use Rattle.recording3.proofs.frames.step.Goals as goal
use Rattle.recording3.proofs.frames.step.Goals.{in-Header, in-Section, in-Interface+else-is_err, in-Frame+in_default, in-Other}

pub returns-in-Err-clause-err : goal.returns-in-Err-clause-err
returns-in-Err-clause-err g c = rw c.in-Frame.is (_, refl, c.in-Err.ensures)

pub returns-clause-took : goal.returns-clause-took
returns-clause-took g c =
    let took = g.T.FrameTaker.took in
    let old = c.args.taker.now in
    let new = c.match-part.taker in
    elim c.match-part.branch [
      | in-Header w ↦ extends_same took old new _ w.taker-is (rw w.in-Header.is refl)
      | in-Section w ↦ extends_same took old new _ w.taker-is (rw w.in-Section.is refl)
      | in-Interface+else-is_err w ↦ extends_same took old new _ w.taker-is
          (rw w.in-Interface.is refl)
      | in-Frame+in_default w ↦ rw (w.taker-is, w.in-Frame.is) w.in_default.ensures
      | in-Other w ↦ extends_same took old new _ w.taker-is (rw w.in-Other.is refl)
    ]
