use Rattle.capture3.proofs.Lemmas.Messages.ValueNames.{[], List, sym, subst, append-nil, steps_add, Item, reply_head_items}
use Rattle.xdr3.specs.Visit.{Adds}
use Rattle.xdr3.specs.Item.{called}
use Rattle.capture3.proofs.message.values.ReplyMsgWalk.walk.Goals as goal

adds_nothing : {V : Type 0} (stands : V → List Item → Type 0) (v : V) → Adds stands v v []
unfolding Adds
adds_nothing stands v = λ before h. subst (stands v) (sym (append-nil before)) h

pub returns-in_default-clause-ok : goal.returns-in_default-clause-ok
unfolding called
returns-in_default-clause-ok g c =
    rw c.in_default.is
    (steps_add g.V.Visit.stands c.args.visitor.now c.walk_fields.new.visitor c.walk.new.visitor
    _ _ c.in_ok-walk_fields.ensures.ok
    (steps_add g.V.Visit.stands c.walk_fields.new.visitor c.walk.new.visitor c.walk.new.visitor
    (reply_head_items c.args.self.now.head) [] c.in_ok-walk.ensures.ok
    (adds_nothing g.V.Visit.stands c.walk.new.visitor)))
