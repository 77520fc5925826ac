-- How many bytes the body of a credential has.
use Rattle.rpc_head.proofs.Common.{◌≡◌, ℕ, ◌+◌, ◌*◌, List, [], ◌∷◌, ◌++◌, length, replicate, arith, flat_map, count_items, group_items, called}
use Rattle.std.proofs.lemmas.List.{length-append, length-replicate}
use Rattle.xdr3.specs.Item.{Item, Opaque, Text, Word, followed_by, residue, word_bytes, zero_spelling, zero_spelling_of}
use Rattle.xdr3.proofs.Lemmas.Shapes.Walks.{length-zero_spelling}
use Rattle.rpc_head.specs.declared.values.credential.AuthSys.{AuthSys}
use Rattle.rpc_head.specs.Credentials.{parameter_items}
use Rattle.rpc_head.specs.Gids.{groups_of}

groups_length : (groups : List ℕ)
    → length (zero_spelling (flat_map group_items groups)) ≡ 4 * length groups
groups_length [] = omega arith
groups_length (group ∷ groups) = omega (arith, groups_length groups)

opaque_length : (name bytes : List ℕ)
    → length (zero_spelling_of (Opaque Text name bytes))
    ≡ 4 + (length bytes + residue (length bytes))
opaque_length name bytes =
    omega (
      arith,
      length-append (word_bytes (length bytes))
          (bytes ++ replicate (residue (length bytes)) 0),
      length-append bytes (replicate (residue (length bytes)) 0),
      length-replicate {A = ℕ} (residue (length bytes)) 0,
    )

pub body_length : (s : AuthSys)
    → length (zero_spelling (parameter_items s))
    ≡ 20 + (length s.machinename.now + residue (length s.machinename.now)) + 4
    * length (groups_of s.gids)
unfolding followed_by
body_length s =
    let front : List Item =
    Word (called "stamp") s.stamp ∷ Opaque Text (called "machinename") s.machinename.now
    ∷ Word (called "uid") s.uid ∷ Word (called "gid") s.gid ∷ [] in
    let name = zero_spelling_of (Opaque Text (called "machinename") s.machinename.now) in
    omega (
      arith,
      length-zero_spelling front (count_items (groups_of s.gids)),
      length-append name (word_bytes s.uid ++ (word_bytes s.gid ++ [])),
      opaque_length (called "machinename") s.machinename.now,
      groups_length (groups_of s.gids),
    )
