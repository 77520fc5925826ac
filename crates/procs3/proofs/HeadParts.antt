-- Each part of the heads of messages is one of the protocol's, save the version of a call, which is
-- refused for a reason of its own.
use Rattle.std.specs.Prelude.{ℕ, nat_eq}
use Rattle.xdr3.specs.declared.reason.Reason.TheVariants.{RpcVersion}
use Rattle.xdr3.specs.Item.{Var, called}
use Rattle.xdr3.specs.Named.{listed, word}
use Rattle.xdr3.specs.Shape.{Shape, ◌then◌, nothing, opaque}
use Rattle.xdr3.proofs.Lemmas.Shapes.ShapeParts.{HasParts, Part, counted_has_parts, parts_if, parts_weaker, word_part}
use Rattle.rpc_head.specs.Messages.{start_of_type}
use Rattle.rpc_head.specs.machinery.HeadEnds.{auth_stats}
use Rattle.rpc_head.specs.Shapes.{accept, auth_sys, call_head, credential, deny, gids, message_start, parameters, reply_head, verifier, versions}
use Rattle.procs3.proofs.ProtocolParts.{AreProtocolParts, IsProtocolPart, IsUnnumbered}

verifier_parts : AreProtocolParts verifier
unfolding verifier called
verifier_parts = assumption

auth_sys_parts : AreProtocolParts auth_sys
unfolding auth_sys parameters gids called
auth_sys_parts = assumption (
  counted_has_parts IsProtocolPart (called "gids") 16 (word "group") (assumption) (assumption),
  counted_has_parts IsUnnumbered (called "gids") 16 (word "group") tt (assumption),
)

credential_parts : AreProtocolParts credential
unfolding credential called
credential_parts = (
  assumption,
  λ n.
      parts_if IsProtocolPart (nat_eq n 0) (opaque Var (called "cred_body") 400) auth_sys
      (assumption) auth_sys_parts,
)

accept_parts : AreProtocolParts accept
unfolding accept called
accept_parts =
    (assumption, λ n. parts_if IsProtocolPart (nat_eq n 2) versions nothing (assumption) tt)

deny_parts : AreProtocolParts deny
unfolding deny called
deny_parts = (
  assumption,
  λ n.
      parts_if IsProtocolPart (nat_eq n 0) versions (listed "auth_stat" auth_stats)
      (assumption) (assumption),
)

pub reply_head_parts : AreProtocolParts reply_head
unfolding reply_head called
reply_head_parts = (
  assumption,
  λ n.
      parts_if IsProtocolPart (nat_eq n 0) (verifier then accept) deny
      (verifier_parts, accept_parts) deny_parts,
)

pub message_start_parts : AreProtocolParts message_start
unfolding message_start called
message_start_parts = assumption

pub start_parts : (mtype : ℕ) → AreProtocolParts (start_of_type mtype)
unfolding start_of_type called
start_parts mtype = assumption

-- call_body after its version
abbrev pub after_version : Shape
after_version =
    word "prog" then word "vers" then word "proc" then credential
    then verifier

pub after_version_parts : AreProtocolParts after_version
unfolding called
after_version_parts = assumption (credential_parts, verifier_parts)

-- whatever is so of the version, and of all parts of the protocol, is so of each part
pub call_head_parts : (P : Part → Type 0) → ((part : Part) → IsProtocolPart part → P part)
    → P (word_part (called "rpcvers") RpcVersion) → HasParts P call_head
unfolding call_head
call_head_parts P weaker h =
    (h, λ n. parts_weaker IsProtocolPart P weaker after_version after_version_parts)
