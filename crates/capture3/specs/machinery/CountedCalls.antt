-- The calls that a table of counted calls has.
use Rattle.std.specs.declared.hash.BuildHasher as BuildHasher
use Rattle.std.specs.declared.hash.Hasher as Hasher
use Rattle.capture3.specs.declared.message.counted_calls.CountedCalls.{CountedCalls}
use Rattle.capture3.specs.machinery.Calls.{known_in, Known}

module _ {S H : Type 0} {builds : BuildHasher.Ghosts S H} {hashes : Hasher.Ghosts H} where
  abbrev pub known_of : CountedCalls S H builds hashes → Known
  known_of table = known_in table.counting table.line.items table.others.entries table.count
