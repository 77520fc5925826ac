use Rattle.payload3.proofs.PartsLemmas.{all_within, nothing_left}
use Rattle.payload3.specs.Standing.{payload_left}
use Rattle.payload3.proofs.payload.Payload.gives.Goals as goal

pub returns : goal.returns
returns g c =
    rw (← c.self.view_is)
    (λ file allows.
    let inside = c.self.inside in
    record {
      left = payload_left file inside.runs.now inside.part;
      first = c.self.invariant.first file allows;
      all = λ spent.
          let end = c.self.invariant.spent spent in
          nothing_left file inside.runs.now inside.part end.0 end.1;
      within = λ spent.
          let end = c.self.invariant.spent spent in
          all_within file inside.runs.now inside.part end.0 end.1
          (c.self.invariant.within file allows);
    })
