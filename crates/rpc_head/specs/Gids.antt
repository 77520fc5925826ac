-- The groups of a credential (RFC 5531, appendix A).
use Rattle.std.specs.Prelude.{ℕ, List, take}
use Rattle.rpc_head.specs.declared.values.credential.Gids.{Gids}

abbrev pub groups_of : Gids → List ℕ
groups_of g = take g.len g.words
