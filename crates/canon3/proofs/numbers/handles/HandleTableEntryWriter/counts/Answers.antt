use Rattle.canon3.proofs.Common.{all_items}
use Rattle.canon3.proofs.Lemmas.Numbers.HandleTableLemmas.{handles_of_all}
use Rattle.canon3.proofs.numbers.handles.HandleTableEntryWriter.counts.Goals as goal

pub returns : goal.returns
returns g c bytes entries typed passed going gathered =
    c.of.ensures bytes entries typed passed
    (rw handles_of_all at (c.len.ensures (all_items entries) gathered))
