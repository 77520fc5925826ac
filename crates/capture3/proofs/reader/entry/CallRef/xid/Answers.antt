use Rattle.std.proofs.Math.Logic.{∥∥₁_map}
use Rattle.capture3.specs.Bodies.{xid_in}
use Rattle.capture3.proofs.Lemmas.Messages.SpelledLemmas.{call_start}
use Rattle.capture3.proofs.reader.entry.CallRef.xid.Goals as goal

pub xid_of-requires-clause-started : goal.xid_of-requires-clause-started
xid_of-requires-clause-started c =
    ∥∥₁_map c.args.self.now.spells
    (λ s. (xid_in s.0, 0, call_start c.args.self.now.body.now s.0 s.1))

pub returns : goal.returns
returns c items is =
    c.xid_of.ensures (xid_in items) 0 (call_start c.args.self.now.body.now items is)
