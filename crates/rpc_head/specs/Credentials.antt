-- The items of credentials and verifiers (RFC 5531, section 8.2 and appendix A).
use Rattle.std.specs.Prelude.{List, [], ◌∷◌, length}
use Rattle.xdr3.specs.Item.{Item, followed_by, Opaque, Text, Var, Word, zero_spelling, called}
use Rattle.rpc_head.specs.declared.values.credential.AuthSys.{AuthSys}
use Rattle.rpc_head.specs.declared.values.credential.Cred.{Cred}
use Rattle.rpc_head.specs.declared.values.credential.Cred.TheVariants.{Plain, Sys}
use Rattle.rpc_head.specs.declared.values.credential.Verf.{Verf}
use Rattle.rpc_head.specs.Gids.{groups_of}
use Rattle.rpc_head.specs.Groups.{count_items}

abbrev pub parameter_items : AuthSys → List Item
parameter_items s =
    followed_by (Word (called "stamp") s.stamp
    ∷ Opaque Text (called "machinename") s.machinename.now ∷ Word (called "uid") s.uid
    ∷ Word (called "gid") s.gid ∷ [])
    (count_items (groups_of s.gids))

-- after the number of their bytes
abbrev pub auth_sys_items : AuthSys → List Item
auth_sys_items s =
    followed_by (Word (called "cred_length") (length (zero_spelling (parameter_items s)))
    ∷ []) (parameter_items s)

abbrev pub credential_items : Cred → List Item
credential_items (Plain body) =
    followed_by (Word (called "cred_flavor") 0 ∷ []) (Opaque Var (called "cred_body") body.now ∷ [])
credential_items (Sys s) = followed_by (Word (called "cred_flavor") 1 ∷ []) (auth_sys_items s)

abbrev pub verifier_items : Verf → List Item
verifier_items v = Word (called "verf_flavor") 0 ∷ Opaque Var (called "verf_body") v.body.now ∷ []
