use Rattle.index3.proofs.FrameLemmas.{frame_not_kept, frame_row, frame_too_long}
use Rattle.index3.specs.declared.frames.FrameTable.{FrameTable}
use Rattle.index3.proofs.frames.FrameTableFrameTaker.take.Goals as goal

pub returns-in-None : goal.returns-in-None
returns-in-None c =
    frame_too_long c.args.self.now (record { head = c.args.head.now; octets = c.args.octets.now })
    c.in-None.ensures

pub returns-in-Err : goal.returns-in-Err
returns-in-Err c =
    let new : FrameTable = record { taker = c.take.new.self; rows = c.args.self.now.rows } in
    frame_not_kept c.args.self.now new
    (record { head = c.args.head.now; octets = c.args.octets.now }) c.in-Err.error
    c.in-Err.ensures

pub returns-in-Ok : goal.returns-in-Ok
returns-in-Ok c =
    let new : FrameTable = record { taker = c.take.new.self; rows = c.keep.new.rows } in
    frame_row c.args.self.now new (record { head = c.args.head.now; octets = c.args.octets.now })
    c.in-Some.row c.keep.result c.in-Ok.ensures c.in-Some.ensures c.keep.ensures.ok
    c.keep.ensures.err
