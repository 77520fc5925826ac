-- The shapes of the heads of messages (RFC 5531, sections 8.2 and 9, appendix A).
use Rattle.std.specs.Prelude.{◌==◌, if◌then◌else◌, [], ◌∷◌}
use Rattle.xdr3.specs.Named.{array, listed, opaque, sized, union, word}
use Rattle.xdr3.specs.Shape.{Shape, ◌then◌, nothing}
use Rattle.xdr3.specs.declared.reason.Reason.TheVariants.{BadEnum, Flavor, RpcVersion}
use Rattle.xdr3.specs.Item.{Text, Var}

-- rpc_msg up to its mtype, which is CALL (0) or REPLY (1) (RFC 5531, section 9)
unfoldable pub message_start : Shape
message_start = word "xid" then listed "mtype" (0 ∷ 1 ∷ [])

-- gids<16> of authsys_parms (RFC 5531, appendix A)
unfoldable pub gids : Shape
gids = array "gids" 16 (word "group")

-- authsys_parms (RFC 5531, appendix A)
unfoldable pub parameters : Shape
parameters =
    word "stamp" then opaque Text "machinename" 255 then word "uid" then word "gid" then gids

-- the body<400> of an AUTH_SYS credential: its length and its bytes (RFC 5531, section 8.2)
unfoldable pub auth_sys : Shape
auth_sys = sized "cred_length" parameters

-- opaque_auth of a caller; its flavor is AUTH_NONE (0) or AUTH_SYS (1) (RFC 5531, section 8.2)
unfoldable pub credential : Shape
credential = union "cred_flavor" (0 ∷ 1 ∷ []) Flavor
    (λ flavor. if flavor == 0 then opaque Var "cred_body" 400 else auth_sys)

-- opaque_auth of a verifier; its flavor is AUTH_NONE (0) (RFC 5531, section 8.2)
unfoldable pub verifier : Shape
verifier = union "verf_flavor" (0 ∷ []) Flavor (λ flavor. opaque Var "verf_body" 400)

-- call_body up to the verifier; its rpcvers is 2 (RFC 5531, section 9)
unfoldable pub call_head : Shape
call_head = union "rpcvers" (2 ∷ []) RpcVersion
    (λ version. word "prog" then word "vers" then word "proc" then credential then verifier)

-- mismatch_info: the lowest and the highest version that is there (RFC 5531, section 9)
abbrev pub versions : Shape
versions = word "low" then word "high"

-- accepted_reply from its accept_stat up to the results: SUCCESS (0), PROG_UNAVAIL (1),
-- PROG_MISMATCH (2), PROC_UNAVAIL (3), GARBAGE_ARGS (4), SYSTEM_ERR (5) (RFC 5531, section 9)
unfoldable pub accept : Shape
accept = union "accept_stat" (0 ∷ 1 ∷ 2 ∷ 3 ∷ 4 ∷ 5 ∷ []) BadEnum
    (λ stat. if stat == 2 then versions else nothing)

-- rejected_reply: RPC_MISMATCH (0), AUTH_ERROR (1) with AUTH_OK (0) to RPCSEC_GSS_CTXPROBLEM (14)
-- (RFC 5531, section 9)
unfoldable pub deny : Shape
deny = union "reject_stat" (0 ∷ 1 ∷ []) BadEnum (λ stat. if stat == 0 then versions else
    listed "auth_stat" (0 ∷ 1 ∷ 2 ∷ 3 ∷ 4 ∷ 5 ∷ 6 ∷ 7 ∷ 8 ∷ 9 ∷ 10 ∷ 11 ∷ 12 ∷ 13 ∷ 14 ∷ []))

-- reply_body up to the results: MSG_ACCEPTED (0), MSG_DENIED (1) (RFC 5531, section 9)
unfoldable pub reply_head : Shape
reply_head = union "reply_stat" (0 ∷ 1 ∷ []) BadEnum
    (λ stat. if stat == 0 then (verifier then accept) else deny)
