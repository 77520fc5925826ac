use Rattle.listing3.proofs.Common.{◌∷◌, ◌+◌, subst, Word, ProcId, called, all_items, items_before, LineRests, LineStands, Spells, Appends, Appends-nil, Entry, items_of, client, entry_line, line, WritesText}
use Rattle.capture3.specs.MessageVisit.{HasHeard}
use Rattle.listing3.proofs.Lines.LineLemmas.{in_line, listed_call, listed_reply, next_is_small, no_line}
use Rattle.listing3.proofs.line_writer.LineWriter.write_entry.Goals as goal

pub returns-in-Call-clause-writes : goal.returns-in-Call-clause-writes
returns-in-Call-clause-writes g c entries one of spells first passed few =
    let p = c.args.progress in
    let bound = next_is_small p entries one passed few in
    let before = g.W.Sink.written c.args.sink.now in
    let after = g.W.Sink.written c.write_line.new.sink in
    listed_call
    (λ (e : Entry).
    Spells (items_of e) c.args.body.now
    → HasHeard (LineRests g.H.Visit.stands) (LineStands g.H.Visit.stands) c.args.self.now
    (items_before entries) e
    → WritesText before after (entry_line p.connections p.records e) c.write_line.result) entries
    one
    c.args.kind of first c.in-Call.id c.in-Call.is
    (λ n rest asks spelled stands.
    subst
    (λ (i : ProcId).
    WritesText before after
    (line p.connections client (p.records + 1) i (Word (called "xid") n ∷ rest))
    c.write_line.result) asks
    (c.write_line.ensures.writes (all_items entries) rest n bound spelled
    (in_line g.H.Visit.stands c.args.self.now entries _ stands))) spells

pub returns-in-Reply-clause-writes : goal.returns-in-Reply-clause-writes
returns-in-Reply-clause-writes g c entries one of spells first passed few =
    let p = c.args.progress in
    let bound = next_is_small p entries one passed few in
    let r = c.write_line-in-Reply in
    listed_reply
    (λ (e : Entry).
    Spells (items_of e) c.args.body.now
    → HasHeard (LineRests g.H.Visit.stands) (LineStands g.H.Visit.stands) c.args.self.now
    (items_before entries) e
    → WritesText (g.W.Sink.written c.args.sink.now) (g.W.Sink.written r.new.sink)
    (entry_line p.connections p.records e) r.result)
    entries one c.args.kind of first c.in-Reply.id c.in-Reply.is
    (λ n rest spelled stands. r.ensures.writes (all_items entries) rest n bound spelled
    (in_line g.H.Visit.stands c.args.self.now entries _ stands)) spells

pub returns-in-Begin-clause-writes : goal.returns-in-Begin-clause-writes
returns-in-Begin-clause-writes g c entries one of spells first passed few stands =
    let p = c.args.progress in
    let old = g.W.Sink.written c.args.sink.now in
    let none = Appends-nil old in
    record {
      ok =
          no_line (λ (e : Entry). Appends old old (entry_line p.connections p.records e)) entries
          one
          c.args.kind of first c.in-Begin.is none none none none;
      err = tt;
    }
