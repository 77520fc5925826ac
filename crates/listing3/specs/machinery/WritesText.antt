-- Text that is written to a sink.
use Rattle.std.specs.Prelude.{ℕ, List, Option, Result, OnErr, OnOk}
use Rattle.std.specs.Io.KnownBytes.{Appends}
use Rattle.capture3.specs.declared.fault.Error.{Error}
use Rattle.canon3.specs.SinkWrites.{AppendsFront}

-- the sink's old bytes became the new ones: by this text, or after an error by a prefix of it
pub record WritesText {X : Type 0} (old new : Option (List ℕ)) (text : List ℕ)
    (result : Result X Error)
    : Type 0
  where
    pub ok : OnOk result (Appends old new text)
    pub err : OnErr result (AppendsFront old new text)
