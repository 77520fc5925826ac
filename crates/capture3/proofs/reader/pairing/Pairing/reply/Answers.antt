use Rattle.capture3.proofs.Common.{ap, arith, refl, subst, sym, ◌∙◌, FailsAt, Server, judge_reply}
use Rattle.capture3.proofs.Lemmas.Reader.PairingLemmas.{record_fails, reply_goes}
use Rattle.capture3.proofs.reader.pairing.Pairing.reply.Goals as goal

pub returns-in-Ok-clause-ok : goal.returns-in-Ok-clause-ok
returns-in-Ok-clause-ok g c =
    record {
      some = λ none. absurd (cc);
      not_end = λ end. absurd (cc);
      counted = (refl, omega arith);
      machine =
          λ bytes all m.
          reply_goes g.V.MessageVisit.rests g.V.Visit.stands _ _ c.args.self.now.container
          (g.C.KnownCalls.known c.args.self.now.calls) bytes all c.in-Ok.call c.requires.whole m
          (rw c.body.ensures.body at c.in-Ok.ensures.ok);
    }

pub returns-in-Err-clause-err : goal.returns-in-Err-clause-err
returns-in-Err-clause-err g c =
    record {
      device = c.note.ensures.device;
      fault =
          λ bytes all m.
          subst (FailsAt bytes all) (sym c.note.ensures.error)
          (record_fails c.args.self.now.container _ bytes all Server c.in-Err.error m
          (λ calls table stop is.
          ap (judge_reply calls) (sym c.body.ensures.body)
          ∙ c.in-Err.ensures.err calls table.procedures stop is));
    }
