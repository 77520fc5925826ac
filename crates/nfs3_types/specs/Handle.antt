-- A file handle as its bytes (RFC 1813).
use Rattle.std.specs.Prelude.{ℕ, List, take}
use Rattle.nfs3_types.specs.declared.values.handle.Handle.{Handle}

abbrev pub handle_bytes : Handle → List ℕ
handle_bytes handle = take handle.len handle.bytes
