-- Numbers of an index, the lowest octet first.
use Rattle.std.specs.Prelude.{ℕ, List}
use Rattle.std.specs.Int.{bytes_low_first}

-- in eight octets
unfoldable pub long : ℕ → List ℕ
long number = bytes_low_first 0 8 number

-- in four octets
unfoldable pub short : ℕ → List ℕ
short number = bytes_low_first 0 4 number
