use Rattle.masking3.proofs.Common.{on_ok_weaker, arith, called, MaskStands}
use Rattle.xdr3.proofs.Lemmas.Shapes.Walks.{adds_both}
use Rattle.masking3.proofs.Lemmas.Writing.RunLemmas.{run_written}
use Rattle.masking3.proofs.masking_writer.MaskingWriter.write_attributes.Goals as goal

pub returns : goal.returns
unfolding called
returns g c =
    let join = adds_both (MaskStands g.P.Plan.ways) in
    let two = join _ _ _ _ _ c.in_ok-put_word.ensures.ok c.in_ok-put_word-2.ensures.ok in
    let three = join _ _ _ _ _ two c.in_ok-put_word-3.ensures.ok in
    let first = join _ _ _ _ _ three c.in_ok-put_word-4.ensures.ok in
    let size = join _ _ _ _ _ first c.in_ok-put_hyper.ensures.ok in
    let used = join _ _ _ _ _ size c.in_ok-put_hyper-2.ensures.ok in
    let major = join _ _ _ _ _ used c.in_ok-put_word-5.ensures.ok in
    let minor = join _ _ _ _ _ major c.in_ok-put_word-6.ensures.ok in
    let fsid = join _ _ _ _ _ minor c.in_ok-put_hyper-3.ensures.ok in
    let fileid = join _ _ _ _ _ fsid c.in_ok-put_hyper-4.ensures.ok in
    let atime = join _ _ _ _ _ fileid c.in_ok-put_word-7.ensures.ok in
    let accessed = join _ _ _ _ _ atime c.in_ok-put_word-8.ensures.ok in
    let mtime = join _ _ _ _ _ accessed c.in_ok-put_word-9.ensures.ok in
    let modified = join _ _ _ _ _ mtime c.in_ok-put_word-10.ensures.ok in
    let ctime = join _ _ _ _ _ modified c.in_ok-put_word-11.ensures.ok in
    let all = join _ _ _ _ _ ctime c.in_ok-put_word-12.ensures.ok in
    on_ok_weaker c.rest.result
    (run_written g.P.Plan.ways c.args.self.now c.put_word-12.new.self c.put_word-12.new.run _ _ _
    (omega arith) all) c.rest.ensures.ok
