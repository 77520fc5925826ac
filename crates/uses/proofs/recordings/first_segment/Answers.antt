use Rattle.std.proofs.Common.{◌≡◌, subst}
use Rattle.recording3.specs.Pcap.{IsFrame}
use Rattle.recording3.specs.Segments.{IsSegment}
use Rattle.recording3.specs.declared.contents.Frame.{Frame}
use Rattle.recording3.specs.declared.pcap.Header.{Header}
use Rattle.uses.specs.Recordings.{recorded_octets}
use Rattle.uses.proofs.recordings.first_segment.Goals as goal

pub returns-in-Err-clause-none : goal.returns-in-Err-clause-none
returns-in-Err-clause-none c none s carries =
    let file = c.args.file.now in
    let header : carries.header ≡ c.in-Ok.header =
    let read = (c.in-Ok.ensures.exactly carries.header).1 carries.begins in cc in
    let frame : carries.frame ≡ c.in-Ok-read_frame.frame =
    let first = subst (λ (h : Header). IsFrame h file 24 carries.frame) header carries.first in
    let read = (c.in-Ok-read_frame.ensures.exactly carries.frame).1 first in cc in
    let same_link = subst
    (λ (h : Header). IsSegment h.link (recorded_octets file carries.frame) carries.frame.wire s)
    header carries.carries in
    let same_frame = subst
    (λ (f : Frame). IsSegment c.in-Ok.header.link (recorded_octets file f) f.wire s)
    frame same_link in
    let read = (c.in-Err.ensures.exactly s).1 same_frame in cc
