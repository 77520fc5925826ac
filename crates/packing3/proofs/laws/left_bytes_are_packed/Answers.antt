use Rattle.packing3.proofs.Histories.{added_left}
use Rattle.packing3.proofs.laws.left_bytes_are_packed.Goals as goal

pub returns : goal.returns
returns g c written before new sources old pairs streams result adds h client server =
    added_left written new sources old pairs streams result client server (adds old pairs h)
