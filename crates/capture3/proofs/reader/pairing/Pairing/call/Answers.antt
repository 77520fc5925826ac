use Rattle.capture3.proofs.Common.{ap, arith, common_steps, refl, subst, sym, ◌∙◌, Client, FailsAt, judge_call}
use Rattle.capture3.proofs.Lemmas.Reader.PairingLemmas.{call_goes, record_fails}
use Rattle.capture3.proofs.reader.pairing.Pairing.call.Goals as goal

pub returns-in-Ok-Some-clause-ok : goal.returns-in-Ok-Some-clause-ok
returns-in-Ok-Some-clause-ok g c =
    let admitted = rw c.in-Ok-Some.field-0-is at c.in-Ok-Some.ensures in
    record {
      some = λ none. absurd (cc);
      not_end = λ end. absurd (cc);
      counted = (omega arith, refl);
      machine =
          λ bytes all m.
          call_goes g.V.MessageVisit.rests g.V.Visit.stands _ _ c.args.self.now.container
          (g.C.KnownCalls.known c.args.self.now.calls) _ bytes all c.in-Ok.call
          c.in-Ok-Some.number c.requires.whole m (rw c.body.ensures.body at c.in-Ok.ensures.ok)
          (omega arith) admitted.0 (admitted.1 refl);
    }

pub returns-in-Err-clause-err : goal.returns-in-Err-clause-err
returns-in-Err-clause-err g c =
    record {
      device = c.note.ensures.device;
      fault =
          λ bytes all m.
          subst (FailsAt bytes all) (sym c.note.ensures.error)
          (record_fails c.args.self.now.container _ bytes all Client c.in-Err.error m
          (λ calls table stop is.
          ap (judge_call calls) (sym c.body.ensures.body) ∙ c.in-Err.ensures.err calls stop is));
    }

pub returns-in-Ok-None-clause-err : goal.returns-in-Ok-None-clause-err
returns-in-Ok-None-clause-err g c =
    record {
      device = c.note-in-Ok-None.ensures.device;
      fault =
          λ bytes all m.
          subst (FailsAt bytes all) (sym c.note-in-Ok-None.ensures.error)
          (record_fails c.args.self.now.container _ bytes all Client c.stop.result m
          (λ calls table. grind (arith, common_steps)));
    }
