use Rattle.nfs3mask.proofs.Common.{◌≡◌, flat_map, string_bytes, take, change_of, change_text, classes, way_of}
use Rattle.nfs3mask.proofs.line.change.ways_text.Given as goal

abbrev pub invariant-loop-class : goal.invariant-loop-class
invariant-loop-class l =
    string_bytes l.text
    ≡ flat_map (λ class. change_text (change_of class (way_of l.ways class)))
    (take l.class-index classes)
