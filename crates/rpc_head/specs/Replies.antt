-- The items of a reply's head (RFC 5531, section 9).
use Rattle.std.specs.Prelude.{ℕ, List, [], ◌∷◌}
use Rattle.xdr3.specs.Item.{Item, followed_by, Word, called}
use Rattle.rpc_head.specs.declared.values.reply.Accept.{Accept}
use Rattle.rpc_head.specs.declared.values.reply.Accept.TheVariants.{Success, ProgUnavail, ProgMismatch, ProcUnavail, GarbageArgs, SystemErr}
use Rattle.rpc_head.specs.declared.values.reply.Deny.{Deny}
use Rattle.rpc_head.specs.declared.values.reply.Deny.TheVariants.{RpcMismatch, AuthError}
use Rattle.rpc_head.specs.declared.values.reply.ReplyHead.{ReplyHead}
use Rattle.rpc_head.specs.declared.values.reply.ReplyHead.TheVariants.{Accepted, Denied}
use Rattle.rpc_head.specs.Credentials.{verifier_items}

abbrev pub version_items : ℕ → ℕ → List Item
version_items low high = Word (called "low") low ∷ Word (called "high") high ∷ []

abbrev pub accept_items : Accept → List Item
accept_items Success = Word (called "accept_stat") 0 ∷ []
accept_items ProgUnavail = Word (called "accept_stat") 1 ∷ []
accept_items (ProgMismatch low high) = Word (called "accept_stat") 2 ∷ version_items low high
accept_items ProcUnavail = Word (called "accept_stat") 3 ∷ []
accept_items GarbageArgs = Word (called "accept_stat") 4 ∷ []
accept_items SystemErr = Word (called "accept_stat") 5 ∷ []

abbrev pub deny_items : Deny → List Item
deny_items (RpcMismatch low high) = Word (called "reject_stat") 0 ∷ version_items low high
deny_items (AuthError stat) = Word (called "reject_stat") 1 ∷ Word (called "auth_stat") stat ∷ []

abbrev pub reply_head_items : ReplyHead → List Item
reply_head_items (Accepted verf accept) =
    followed_by (Word (called "reply_stat") 0
    ∷ []) (followed_by (verifier_items verf) (accept_items accept))
reply_head_items (Denied deny) = followed_by (Word (called "reply_stat") 1 ∷ []) (deny_items deny)
