-- Words of heads that are read as one run.
use Rattle.std.specs.Prelude.{◌≡◌, ℕ, Bool, ◌+◌, ◌*◌, ◌/◌, List, [], ◌∷◌, drop, Ok}
use Rattle.byteorder.specs.Endian.{big_number}
use Rattle.xdr3.specs.declared.reason.Reason.{Reason}
use Rattle.xdr3.specs.declared.reason.Reason.TheVariants.{BadEnum, Flavor, RpcVersion, Short}
use Rattle.xdr3.specs.declared.reason.Stop.{Stop}
use Rattle.xdr3.specs.Item.{Item, Word, called}
use Rattle.xdr3.specs.Reading.{word_at}
use Rattle.xdr3.specs.Shape.{is_any, is_listed}
use Rattle.xdr3.specs.View.{MovesOn, View}
use Rattle.xdr3.specs.Visit.{Adds}
use Rattle.rpc_head.specs.declared.scans.call.Opening.{Opening}
use Rattle.rpc_head.specs.declared.scans.reply.Beginning.{Beginning}
use Rattle.rpc_head.specs.declared.scans.reply.Beginning.TheVariants.{Accepted, Denied}

-- the stop at the first word that is not whole, of as many bytes of words from a place on
abbrev pub short_after : ℕ → ℕ → Stop
short_after at left = record { at = at + left / 4 * 4; reason = Short }

-- what the second to the fifth word of a run say, of those that a call's head begins with
unfoldable pub opening_in : List ℕ → Opening
opening_in run =
    record {
      id =
          record {
            prog = big_number 4 (drop 4 run);
            vers = big_number 4 (drop 8 run);
            proc_no = big_number 4 (drop 12 run);
          };
      flavor = big_number 4 (drop 16 run);
    }

-- The words of a call's head up to the credential's flavor are between two positions of one body,
-- and a visitor was passed them.
pub record ScansOpening {V : Type 0} (stands : V → List Item → Type 0) (opening : Opening)
    (old new : View) (before after : V) : Type 0 where
  pub rpcvers : word_at (is_listed (2 ∷ [])) RpcVersion old.body old.at ≡ Ok (2, old.at + 4)
  pub prog : word_at is_any BadEnum old.body (old.at + 4) ≡ Ok (opening.id.prog, old.at + 8)
  pub vers : word_at is_any BadEnum old.body (old.at + 8) ≡ Ok (opening.id.vers, old.at + 12)
  pub proc : word_at is_any BadEnum old.body (old.at + 12) ≡ Ok (opening.id.proc_no, old.at + 16)
  pub flavor : word_at (is_listed (0 ∷ 1 ∷ [])) Flavor old.body (old.at + 16)
      ≡ Ok (opening.flavor, new.at)
  pub moves : MovesOn old new
  pub adds : Adds stands before after (Word (called "rpcvers") 2
      ∷ Word (called "prog") opening.id.prog ∷ Word (called "vers") opening.id.vers
      ∷ Word (called "proc") opening.id.proc_no ∷ Word (called "cred_flavor") opening.flavor ∷ [])

-- The first two words of a reply's head are between two positions of one body, and a visitor was
-- passed them.
pub record BeginsReply {V : Type 0} (stands : V → List Item → Type 0) (stat : ℕ)
    (accepted : ℕ → Bool) (other : Reason) (name : List ℕ) (second : ℕ) (old new : View)
    (before after : V) : Type 0 where
  pub reply_stat : word_at (is_listed (0 ∷ 1 ∷ [])) BadEnum old.body old.at ≡ Ok (stat, old.at + 4)
  pub next : word_at accepted other old.body (old.at + 4) ≡ Ok (second, new.at)
  pub moves : MovesOn old new
  pub adds : Adds stands before after (Word (called "reply_stat") stat ∷ Word name second ∷ [])

-- They are those of an accepted reply, or of a denied one with this reject_stat.
abbrev pub ScansBeginning : {V : Type 0} → (V → List Item → Type 0) → Beginning
    → (old new : View × V) → Type 0
ScansBeginning stands Accepted (old, before) (new, after) =
    BeginsReply stands 0 (is_listed (0 ∷ [])) Flavor (called "verf_flavor") 0 old new before
    after
ScansBeginning stands (Denied stat) (old, before) (new, after) =
    BeginsReply stands 1 (is_listed (0 ∷ 1 ∷ [])) BadEnum (called "reject_stat") stat old new before
    after
