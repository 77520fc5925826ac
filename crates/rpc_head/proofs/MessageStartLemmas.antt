-- What reading a message's start gives is a start.
use Rattle.rpc_head.proofs.Common.{◌≤◌, length, Result, Ok, Err, Stop, reading, message_start, AreBytes, sound, MessageStart}
use Rattle.xdr3.specs.View.{Answers, View}
use Rattle.rpc_head.specs.MessageStart.{IsStart, start_items}

pub is_start : (old new : View) (answer : Result MessageStart Stop) → AreBytes old.body
    → old.at ≤ length old.body
    → Answers start_items answer new.at (reading message_start old.body old.at)
    → IsStart old answer new
is_start old new (Ok s) bytes h e =
    let t = (sound message_start).takes old.body old.at new.at (start_items s) bytes h e in
    record { front = t.1.front; fits = t.0; spells = t.1.spells; whole = t.1.is }
is_start old new (Err stop) bytes h e =
    let r = (sound message_start).refuses old.body old.at stop bytes h e in
    (r.after, r.refuses, r.at_is)
