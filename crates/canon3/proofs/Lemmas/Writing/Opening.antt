-- A message with numbers is to come, or under way.
use Rattle.canon3.proofs.Common.{List, [], refl, Item, MessageWriter, Makes, Before, items_of_writer, HoldsBefore, IsGoing, IsWithinMessage, WriterRests, WriterStands}
use Rattle.canon3.proofs.Lemmas.Writing.Visiting.{items_of_writer-same}

module _ {S H : Type 0} (n : MessageWriter S H) (before : Before) where
  -- the tables hold what was there before, and nothing is noted
  pub rests : HoldsBefore n before → Makes n.patches [] []
      → WriterRests n (items_of_writer before [])
  rests h none going = record { before = before; are = refl; holds = h; fresh = none }

  pub is_held : IsGoing n → WriterRests n (items_of_writer before []) → HoldsBefore n before
  is_held going rests =
      let b = rests going in
      rw ((items_of_writer-same before b.before [] [] b.are).0) b.holds

  pub is_under_way : (items : List Item) → IsGoing n → WriterStands n (items_of_writer before items)
      → IsWithinMessage n before items
  is_under_way items going stands =
      let b = stands going in
      let same = items_of_writer-same before b.before items b.items b.are in
      rw (same.0, same.1) b.under_way
