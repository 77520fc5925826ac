-- What one entry more adds to the calls that are counted.
use Rattle.uses.proofs.Common.{◌≡◌, ℕ, ◌+◌, Bool, true, false, cond, List, [], ◌∷◌, ◌++◌, count_by, sym, ap, subst, arith, ◌∙◌, sum_by-append, sum_by-cons, Entry, is_call_of, same_procedure}
use Rattle.rpc_head.specs.declared.values.call.ProcId.{ProcId}
use Rattle.xdr3.specs.Item.{followed_by}
use Rattle.capture3.specs.Entry.{Call}
use Rattle.capture3.specs.MessageValues.{call_items}
use Rattle.capture3.specs.declared.message.values.CallMsg.{CallMsg}

-- the procedure of a call is that of its head
pub procedure_of : (message : CallMsg) (one : Entry) (id : ProcId) → one ≡ Call (call_items message)
    → is_call_of id one ≡ same_procedure message.head.id id
unfolding followed_by
procedure_of message one id is = ap (is_call_of id) is

-- one more is counted if it is one of them
counts_after : {X : Type 0} (p : X → Bool) (n : ℕ) (items : List X) (one : X) → n ≡ count_by p items
    → n + cond (p one) 1 0 ≡ count_by p (items ++ one ∷ [])
counts_after p n items one is =
    let whole : count_by p (items ++ one ∷ []) ≡ count_by p items + count_by p (one ∷ []) =
    sum_by-append (λ x. cond (p x) 1 0) items (one ∷ []) in
    let last : count_by p (one ∷ []) ≡ cond (p one) 1 0 + count_by p [] =
    sum_by-cons (λ x. cond (p x) 1 0) one [] in
    omega (arith, is, whole, last)

pub one_counted : (id : ProcId) (n : ℕ) (handed : List Entry) (entry : Entry)
    → n ≡ count_by (is_call_of id) handed → true ≡ is_call_of id entry
    → n + 1 ≡ count_by (is_call_of id) (handed ++ entry ∷ [])
one_counted id n handed entry count is =
    subst (λ b. n + cond b 1 0 ≡ count_by (is_call_of id) (handed ++ entry ∷ [])) (sym is)
    (counts_after (is_call_of id) n handed entry count)

pub none_counted : (id : ProcId) (n : ℕ) (handed : List Entry) (entry : Entry)
    → n ≡ count_by (is_call_of id) handed → false ≡ is_call_of id entry
    → n ≡ count_by (is_call_of id) (handed ++ entry ∷ [])
none_counted id n handed entry count is =
    let same : n + cond (is_call_of id entry) 1 0 ≡ n =
    ap (λ b. n + cond b 1 0) (sym is) ∙ omega arith in
    sym same ∙ counts_after (is_call_of id) n handed entry count
