use Rattle.std.proofs.Common.{ap, refl, sym, ◌∙◌}
use Rattle.procs3.specs.Variants.{args_name}
use Rattle.uses.proofs.naming.looked_up_name.Goals as goal

pub returns-in-Lookup-clause-name : goal.returns-in-Lookup-clause-name
returns-in-Lookup-clause-name g = record {
  message = g.read.result;
  what = g.in-Lookup.wanted;
  is = g.read.ensures.call;
  procedure = sym g.read.ensures.variant ∙ ap args_name g.in-Lookup.is;
  arguments = g.in-Lookup.is;
  named = refl;
}
