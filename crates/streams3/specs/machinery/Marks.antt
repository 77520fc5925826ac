-- How the marks of a stream grow.
use Rattle.std.specs.Prelude.{◌+◌, length}
use Rattle.streams3.specs.declared.segments.Marks.{Marks}
use Rattle.streams3.specs.Events.{Placed}
use Rattle.streams3.specs.Streams.{acknowledged_of, fin_of, first_from, highest_from, lowest_from, rst_of, stray_of, syn_of}

-- marks with one more event
abbrev pub with_mark : Marks → Placed → Marks
with_mark marks placed = record {
  begin = first_from marks.begin (syn_of placed);
  end = lowest_from marks.end (fin_of placed);
  acknowledged = highest_from marks.acknowledged (acknowledged_of placed);
  reset = first_from marks.reset (rst_of placed);
  strays = marks.strays + length (stray_of placed);
  stray = first_from marks.stray (stray_of placed);
}
