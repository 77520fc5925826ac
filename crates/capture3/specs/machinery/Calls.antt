-- The calls of a connection by their xids.
use Rattle.std.specs.Prelude.{◌≡◌, ℕ, ◌+◌, ◌-◌, ◌%◌, ◌<◌, ◌^◌, ◌==◌, if◌then◌else◌, is_some, min, nat_eq, slice_get, IsSome, List, length, Option, Some, None, Result, Ok, Err}
use Rattle.std.specs.Int.{w32, swap_bytes}
use Rattle.std.specs.Map.{lookup}
use Rattle.rpc_head.specs.declared.values.call.ProcId.{ProcId}
use Rattle.capture3.specs.BodyProgram.{agrees}
use Rattle.capture3.specs.Rank.{number_limit}
use Rattle.capture3.specs.declared.message.calls.NumberedCall.{NumberedCall}
use Rattle.capture3.specs.declared.message.counting.XidCounting.{XidCounting}

-- the call of each xid, if there is one, and how many xids have one
pub record Known : Type 0 where
  pub call_of : ℕ → Option NumberedCall
  pub count : ℕ

-- the procedure of a call, if there is one
abbrev pub procedure_in_call : Option NumberedCall → Option ProcId
procedure_in_call None = None
procedure_in_call (Some call) = Some call.id

abbrev pub KnowsNone : Known → Type 0
KnowsNone known = ((xid : ℕ) → known.call_of xid ≡ None) × (known.count ≡ 0)

-- ---- a call that comes

-- the number of the next new xid
abbrev pub next_number : ℕ → ℕ
next_number count = min (count + 1) number_limit

abbrev pub number_or : Option NumberedCall → ℕ → ℕ
number_or None next = next
number_or (Some call) next = call.number

-- the number of an xid: that of its call, or the next
abbrev pub number_in : Known → ℕ → ℕ
number_in known xid = number_or (known.call_of xid) (next_number known.count)

-- the number, unless an earlier call has the xid and another procedure
abbrev pub number_for : Known → ℕ → ProcId → Option ℕ
number_for known xid id =
    if agrees (procedure_in_call (known.call_of xid)) id then Some (number_in known xid) else None

-- a call has this xid, and the other xids have what they had
abbrev pub Puts : (ℕ → Option NumberedCall) → ℕ → NumberedCall → (ℕ → Option NumberedCall) → Type 0
Puts old xid call new = (q : ℕ) → q < 2 ^ 32 → new q ≡ (if xid == q then Some call else old q)

-- the xids have the calls that they had
abbrev pub AreSame : (ℕ → Option NumberedCall) → (ℕ → Option NumberedCall) → Type 0
AreSame old new = (q : ℕ) → q < 2 ^ 32 → new q ≡ old q

-- the new table has one call more, unless its xid was there
pub record Gains (old : Known) (xid : ℕ) (id : ProcId) (new : Known) : Type 0 where
  pub puts : Puts old.call_of xid (record { number = number_in old xid; id = id }) new.call_of
  pub counts : new.count
      ≡ (if is_some (old.call_of xid) then old.count else next_number old.count)

-- The call gets its number, and is known from then on if it has one. Only a new one can fail.
abbrev pub Admits : {E : Type 0} → Known → ℕ → ProcId → Known → Result (Option ℕ) E → Type 0
Admits old xid id new (Ok number) = (number ≡ number_for old xid id)
    × (IsSome number → Gains old xid id new)
Admits old xid id new (Err error) = old.call_of xid ≡ None

-- ---- the tables

-- the call at a home: one with number 0 is none
abbrev pub at_home : Option NumberedCall → Option NumberedCall
at_home None = None
at_home (Some call) = if call.number == 0 then None else Some call

-- how far an xid is above the first, in the order of bytes in which they count
unfoldable pub home_of : XidCounting → ℕ → ℕ
home_of counting xid =
    ((if counting.swapped then swap_bytes w32 xid else xid) + (2 ^ 32 - counting.first)) % 2 ^ 32

-- the call of an xid in a line, in which each call is at the home of its xid
abbrev pub lined : XidCounting → List NumberedCall → ℕ → Option NumberedCall
lined counting line xid = at_home (slice_get line (home_of counting xid))

-- the call of an xid in a list of pairs
abbrev pub in_list : List (ℕ × NumberedCall) → ℕ → Option NumberedCall
in_list pairs xid = lookup (nat_eq xid) pairs

-- the first of two that is there
abbrev pub over : Option NumberedCall → Option NumberedCall → Option NumberedCall
over None other = other
over (Some call) other = Some call

-- the calls of a line, and the others
abbrev pub known_in : XidCounting → List NumberedCall → List (ℕ × NumberedCall) → ℕ → Known
known_in counting line others count =
    record { call_of = λ xid. over (lined counting line xid) (in_list others xid); count = count }

-- the calls of a list alone
abbrev pub known_in_list : List (ℕ × NumberedCall) → Known
known_in_list pairs = record { call_of = in_list pairs; count = min (length pairs) number_limit }

-- one call
abbrev pub known_one : ℕ → NumberedCall → Known
known_one xid call = record { call_of = λ q. if xid == q then Some call else None; count = 1 }

-- no xid with a home below this has a call
abbrev pub AreAbove : XidCounting → ℕ → List (ℕ × NumberedCall) → Type 0
AreAbove counting nearest others = (xid : ℕ) → xid < 2 ^ 32 → home_of counting xid < nearest
    → in_list others xid ≡ None
