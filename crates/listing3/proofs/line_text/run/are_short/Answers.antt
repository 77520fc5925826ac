use Rattle.std.proofs.Common.{leb}
use Rattle.listing3.proofs.Common.{◌≡◌, ℕ, ◌+◌, ◌<◌, ◌≤◌, ◌&&◌, Bool, true, false, List, length, take, get_or, refl, sym, ap, arith, All, take_all, PlainField, false≢true, leb-true, field_name, HasShortName}
use Rattle.std.proofs.lemmas.List.Elements.{All-more, All-same}
use Rattle.listing3.proofs.line_text.run.are_short.Goals as goal

both : (a b : Bool) → (a && b) ≡ true → (a ≡ true) × (b ≡ true)
both true true e = (refl, refl)
both true false e = absurd (false≢true e)
both false b e = absurd (false≢true e)

one_more : (fields : List PlainField) (i : ℕ) (d : PlainField) (name : List ℕ) → i < length fields
    → All HasShortName (take i fields) → name ≡ field_name (get_or fields i d) → length name ≤ 42
    → All HasShortName (take (i + 1) fields)
one_more fields i d name l short is few =
    All-more HasShortName fields i d l short (omega (arith, few, ap length is))

all_of_them : (fields : List PlainField) (i : ℕ) → length fields ≤ i
    → All HasShortName (take i fields) → All HasShortName fields
all_of_them fields i l short =
    All-same HasShortName fields (take i fields) (sym (take_all i fields l)) short

pub loop-field-preserved : goal.loop-field-preserved
loop-field-preserved c e =
    let h = both c.loop-field.short (leb (length c.field_name.result.now) 42) e in
    one_more c.args.fields.now c.loop-field.field-index _ c.field_name.result.now (omega arith)
    (c.loop-field.invariant h.0) c.field_name.ensures
    (leb-true (length c.field_name.result.now) 42 h.1)

pub returns : goal.returns
returns c e =
    all_of_them c.args.fields.now c.loop-field.field-index (omega arith) (c.loop-field.invariant e)
