use Rattle.rpc_head.proofs.Common.{◌∷◌, length, take, flat_map, Word, Adds, group_items, called}
use Rattle.rpc_head.proofs.values.credential.Gids.walk.Given as goal

abbrev pub invariant-loop-group : goal.invariant-loop-group
invariant-loop-group g l =
    Adds g.V.Visit.stands l.fn.visitor l.visitor (Word (called "gids") (length l.groups)
    ∷ flat_map group_items (take l.group-index l.groups))
