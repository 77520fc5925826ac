use Rattle.rpc_head.proofs.Common.{◌≡◌, ◌≤◌, length, take, flat_map, word, group_items}
use Rattle.xdr3.proofs.Lemmas.Reading.Counted.{TimesSoFar}
use Rattle.rpc_head.proofs.values.credential.Gids.get.Given as goal

abbrev pub invariant-loop-i : goal.invariant-loop-i
invariant-loop-i l = record {
  same_body : l.input.body ≡ l.fn.input.body;
  forward : l.fn.input.at ≤ l.input.at;
  within : l.input.at ≤ length l.input.body;
  whole : length l.words ≡ 16;
  few : l.count ≤ 16;
  so_far : TimesSoFar (word "group") (flat_map group_items (take l.i l.words)) l.count l.i
      l.fn.input.body l.initial.input.at l.input.at;
}
