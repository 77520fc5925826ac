-- Lines worked by hand.
use Rattle.std.specs.Prelude.{◌≡◌, ℕ, List, [], ◌∷◌, ◌++◌, codes}
use Rattle.capture3.specs.Entry.{Entry}
use Rattle.canon3.specs.Examples.{call_of, one, success_reply}
use Rattle.listing3.specs.Listing.{shown}

-- a line with its newline
abbrev pub line_of : List ℕ → List ℕ
line_of text = text ++ 10 ∷ []

-- a NULL call and its reply (RFC 1813, section 3.3.0)
abbrev pub null : List Entry
null = one (call_of 100003 0 3735928559 [] ∷ []) (success_reply 100003 0 3735928559 [] ∷ [])

abbrev pub null_call_text : List ℕ
null_call_text =
    codes "1 client 1 xid=3735928559 NFSPROC3_NULL mtype=0 rpcvers=2 prog=100003 vers=3 proc=0"
    ++ codes " cred_flavor=0 cred_body= verf_flavor=0 verf_body="

abbrev pub null_reply_text : List ℕ
null_reply_text =
    codes "1 server 1 xid=3735928559 NFSPROC3_NULL mtype=1 reply_stat=0 verf_flavor=0 verf_body="
    ++ codes " accept_stat=0"

pub record ListsNull : Type 0 where
  pub lines : shown null ≡ line_of null_call_text ++ line_of null_reply_text
