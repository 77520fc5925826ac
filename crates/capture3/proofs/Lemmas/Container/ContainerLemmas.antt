-- Containers, as the machine has them: chunks' bytes at once, and step after step.
use Rattle.std.proofs.Common.{OnErr}
use Rattle.std.proofs.Math.Seq.{take-add, take-take}
use Rattle.capture3.proofs.Common.{RecordTooLong, Joining, Joined, Between, Whole, TooLong, join_next, landed, Next, Runs, Stops, after, Run, Taking, IsRunning, joining_of, body_of, Error, Side, Event, Streams, with_more, Spot, Version, after-append, counted_runs, counted_stops, Transition, CanGoOn, Container, Reaches, unpacking_in, unpacking_of, Arrives, ShowsError, Leaves, WordPart, bytes_so_far, fault_in_record, ◌≡◌, subst, [], false, is_some, take_all, ℕ, ◌+◌, ◌-◌, ◌≤◌, ◌≢◌, Cursor, Option, Some, None, Result, Ok, Err, IfOk, IfErr, List, length, take, drop, refl, sym, ap, ◌∙◌, arith, length-take, length-drop, ◌++◌, Record, Unpacking, Has, in_chunk, awaiting_side, Mixed, unpacking_with, record_joined, unpack_next, IsBeforeMark, unpacking_at, cost_of, IsOfContainer, StepsFrom, Moves, MovesFrom, ShowsFault, StoredAt, StoredWith, version_of}
use Rattle.record_mark.specs.Taking.{released}
use Rattle.capture3.specs.declared.container.position.spot.Event.TheVariants as events
use Rattle.capture3.specs.machinery.Container.{Comes, ComesNext, GoesBy, Recalled, room_in, StepsTo}
use Rattle.capture3.specs.declared.fault.Noted.{Noted}
use Rattle.capture3.specs.machinery.InPlace.{IsCopied}
use Rattle.capture3.specs.machinery.Position.{TakesSome}
use Rattle.capture3.specs.machinery.PositionState.{standing_at}
use Rattle.capture3.specs.declared.container.position.Position.TheInside.{Inside}
use Rattle.capture3.specs.machinery.PositionInside.{position_shown}
use Rattle.capture3.specs.declared.fault.Error.TheVariants as errors
use Rattle.capture3.proofs.Lemmas.Container.ContainerMachineLemmas.{side_chunk_kept}
use Rattle.capture3.specs.declared.container.position.Position.{Position}
use Rattle.capture3.specs.declared.container.position.spot.Spot.TheVariants.{Chunk, SideChunk}
use Rattle.capture3.specs.declared.container.position.spot.Spot.TheVariants as spots
use Rattle.capture3.specs.declared.container.position.spot.WordOf.TheVariants as words
use Rattle.capture3.specs.declared.container.position.spot.Version as declared
use Rattle.capture3.proofs.Lemmas.Container.InPlaceLemmas.{copied_lies}
use Rattle.capture3.proofs.Lemmas.Container.PositionLemmas.{at_spot}

-- ---- one step of the container alone

moved_to : (from : Unpacking) (bytes : List ℕ) (taking : Taking) (streams : Streams) (count : ℕ)
    (position : Position) (event : Option Event) → IsOfContainer event
    → Moves from bytes streams (joining_of taking)
    (Ok (record { count = count; position = position; event = event }))
    → Arrives from (take count bytes) event position taking streams
moved_to from bytes taking streams count position (Some (Record side)) h moves = absurd h
moved_to from bytes taking streams count position event h moves = moves

still_leaves : (event : Option Event) (taking : Taking) → IsOfContainer event → IsRunning taking
    → Leaves event taking
still_leaves (Some (Record side)) taking h running = absurd h
still_leaves event taking h running = running

step_leads : (c : Container) (bytes : List ℕ) (r : Result Transition Error)
    → CanGoOn None c.joiner.taking c → IfOk r (StepsFrom c.position)
    → MovesFrom c.position (joining_of c.joiner.taking) bytes r
    → IfOk r (λ t. Reaches c (take t.count bytes) t.event t.position c)
step_leads c bytes (Ok t) ready steps moves = record {
  machine =
      moved_to (unpacking_in c) bytes c.joiner.taking c.streams.kept t.count t.position t.event
      steps.event (moves c.streams.kept ready.stored);
  joiner = still_leaves t.event c.joiner.taking steps.event ready.ready;
  stored = steps.stored c.streams.kept ready.stored;
  room = steps.room c.streams.kept ready.stored;
}
step_leads c bytes (Err e) ready steps moves = tt

step_shows : (c : Container) (bytes : List ℕ) (r : Result Transition Error)
    → CanGoOn None c.joiner.taking c → MovesFrom c.position (joining_of c.joiner.taking) bytes r
    → IfErr r (ShowsError (unpacking_in c) bytes)
step_shows c bytes (Ok t) ready moves = tt
step_shows c bytes (Err errors.Memory) ready moves = tt
step_shows c bytes (Err error) ready moves = moves c.streams.kept ready.stored

-- the position, with the part that is open there
pub shown_at : (inside : Inside) (p : Position) (spot : Spot) → position_shown inside ≡ p
    → inside.spot ≡ spot → standing_at inside.counts spot ≡ p
shown_at inside p spot shown is =
    ap (λ (s : Spot). standing_at inside.counts s) (sym is) ∙ shown

-- the streams belong to the part that is open
pub stored_here : (inside : Inside) (p : Position) (spot : Spot) (streams : Streams)
    → position_shown inside ≡ p → inside.spot ≡ spot → StoredAt p.spot p.total streams
    → StoredAt spot inside.counts.total streams
stored_here inside p spot streams shown is =
    subst (λ (q : Position). StoredAt q.spot q.total streams)
    (sym (shown_at inside p spot shown is))

-- a step from the part that is open
module _ (c : Container) (inside : Inside) (spot : Spot) (bytes : List ℕ)
    (r : Result Transition Error) (shown : position_shown inside ≡ c.position)
    (is : inside.spot ≡ spot) (ready : CanGoOn None c.joiner.taking c) where
  pub step_reaches : IfOk r (StepsFrom (standing_at inside.counts spot))
      → MovesFrom (standing_at inside.counts spot) (joining_of c.joiner.taking) bytes r
      → IfOk r (λ t. Reaches c (take t.count bytes) t.event t.position c)
  step_reaches steps moves =
      let here = shown_at inside c.position spot shown is in
      step_leads c bytes r ready (subst (λ (p : Position). IfOk r (StepsFrom p)) here steps)
      (subst (λ (p : Position). MovesFrom p (joining_of c.joiner.taking) bytes r) here moves)

  pub step_fails : MovesFrom (standing_at inside.counts spot) (joining_of c.joiner.taking) bytes r
      → IfErr r (ShowsError (unpacking_in c) bytes)
  step_fails moves =
      step_shows c bytes r ready
      (rw (← (shown_at inside c.position spot shown is)) moves)

-- what a step leaves that is gone
pub steps_to : (old mid new : Container) (rest : List ℕ) (step : Result Transition Error)
    (result : Result (ℕ × Option Event) Noted) (error : Error) → GoesBy step mid new result error
    → IfOk step (TakesSome rest)
    → IfOk step (λ t. Reaches old (take t.count rest) t.event t.position mid)
    → IsCopied mid.joiner → mid.cursor ≡ old.cursor
    → IfOk result (StepsTo old new rest)
steps_to old mid new rest (Ok t) (Ok r) error (count, event, goes) taken reaches copied cursor =
    record {
      some = rw count taken.some;
      within = rw count taken.within;
      reaches = rw (goes, count, event) reaches;
      copied = rw goes copied;
      cursor = rw goes cursor;
    }
steps_to old mid new rest (Ok t) (Err noted) error goes taken reaches copied cursor = tt
steps_to old mid new rest (Err found) (Ok r) error goes taken reaches copied cursor = absurd goes
steps_to old mid new rest (Err found) (Err noted) error goes taken reaches copied cursor = tt

pub step_stops : (from : Unpacking) (mid new : Container) (rest : List ℕ)
    (step : Result Transition Error) (result : Result (ℕ × Option Event) Noted) (error : Error)
    → GoesBy step mid new result error → IfErr step (ShowsError from rest)
    → OnErr result (ShowsError from rest error)
step_stops from mid new rest step (Ok r) error goes shows = tt
step_stops from mid new rest (Ok t) (Err noted) error goes shows = absurd goes
step_stops from mid new rest (Err found) (Err noted) error goes shows =
    subst (ShowsError from rest) goes shows

-- ---- what comes next of streams that were kept

-- it is no streams, and takes the room of one thing
recalled_one : (cursor : Cursor) (p q : Position) (streams left : Streams) (taking : Taking)
    (next : Option Cursor) (event : Event) → Recalled cursor p q streams left taking next event
    → (Some event ≢ Some events.Streams) × (cost_of (Some event) left ≡ 1)
recalled_one cursor p q streams left taking next events.Begin r = absurd r
recalled_one cursor p q streams left taking next events.Streams r = absurd r
recalled_one cursor p q streams left taking next event r = (λ e. absurd (cc), refl)

pub recalled_next : (old new : Container) (piece : List ℕ) (n : ℕ) (cursor : Cursor)
    (p : Position) (streams : Streams) (event : Event)
    → Recalled cursor p new.position streams new.streams.kept new.joiner.taking new.cursor event
    → n ≤ length piece → (old.cursor ≢ None → n ≡ 0) → Comes old new (take n piece) (Some event)
    → Leaves (Some event) new.joiner.taking → IsCopied new.joiner
    → CanGoOn new.cursor (released new.joiner.taking) new → room_in new + 1 ≤ room_in old
    → ComesNext old new piece (n, Some event)
recalled_next old new piece n cursor p streams event r within none comes joiner copied ready room =
    let one =
    recalled_one cursor p new.position streams new.streams.kept new.joiner.taking new.cursor event r
    in
    record {
      taken = record {
        within = within;
        some = λ some is. absurd (cc);
      };
      recalling = λ some. (none some, λ is. absurd (cc));
      opened = one.0;
      comes = comes;
      joiner = joiner;
      lies = copied_lies new.joiner (take n piece) copied;
      ready = ready;
      room = omega (arith, room, one.1);
    }

-- ---- bytes of a chunk

-- of which a joiner takes some of those at hand
module _ (p : Position) (streams : Streams) (side : Side) (left count most : ℕ) (old : Taking)
    (rest : List ℕ) (here : p.spot ≡ Chunk side left) (within : count ≤ length (take most rest))
    (fits : most ≤ left) where
  taken_is : take count (take most rest) ≡ take count rest
  taken_is = take-take count most rest (omega (arith, length-take most rest))

  left_is : left ≡ length (take count rest) + (left - count)
  left_is = omega (arith, length-take most rest, length-take count rest)

  joins_on : (new : Joining)
      → after join_next (Runs (joining_of old)) (take count (take most rest)) ≡ Runs new
      → after unpack_next (Runs (unpacking_of p old streams)) (take count rest)
      ≡ Runs (in_chunk p.at p.total p.connections p.records side (left - count) new)
  joins_on new joins =
      rw here (counted_runs join_next unpack_next
      (in_chunk p.at p.total p.connections p.records side)
      (record_joined p.at p.total p.connections p.records side) (λ n j byte. refl)
      (take count rest) left (left - count) (joining_of old) new left_is (rw taken_is at joins))

  joins_up : (x : Joined)
      → after join_next (Runs (joining_of old)) (take count (take most rest)) ≡ Stops x
      → after unpack_next (Runs (unpacking_of p old streams)) (take count rest)
      ≡ landed (record_joined p.at p.total p.connections p.records side (left - count) x)
  joins_up x joins =
      rw here (counted_stops join_next unpack_next
      (in_chunk p.at p.total p.connections p.records side)
      (record_joined p.at p.total p.connections p.records side) (λ n j byte. refl)
      (take count rest) left (left - count) (joining_of old) x left_is (rw taken_is at joins))

pub join_goes_on : (p q : Position) (streams : Streams) (side : Side) (left count most : ℕ)
    (old new : Taking) (rest : List ℕ) → p.spot ≡ Chunk side left
    → count ≤ length (take most rest) → most ≤ left
    → after join_next (Runs (joining_of old)) (take count (take most rest)) ≡ Runs (joining_of new)
    → ((joining : Joining)
    → unpacking_at q streams joining
    ≡ in_chunk p.at p.total p.connections p.records side (left - count) joining)
    → Arrives (unpacking_of p old streams) (take count rest) None q new streams
join_goes_on p q streams side left count most old new rest here within fits joins leads =
    joins_on p streams side left count most old rest here within fits (joining_of new) joins
    ∙ ap Runs (sym (leads (joining_of new)))

pub join_has_record : (p q : Position) (streams : Streams) (side : Side) (left count most : ℕ)
    (old new : Taking) (rest : List ℕ) → p.spot ≡ Chunk side left
    → count ≤ length (take most rest) → most ≤ left
    → after join_next (Runs (joining_of old)) (take count (take most rest))
    ≡ Stops (Whole (body_of new))
    → ((joining : Joining)
    → unpacking_at q streams joining
    ≡ in_chunk p.at p.total p.connections (p.records + 1) side (left - count) joining)
    → Arrives (unpacking_of p old streams) (take count rest) (Some (Record side)) q new streams
join_has_record p q streams side left count most old new rest here within fits joins leads =
    joins_up p streams side left count most old rest here within fits (Whole (body_of new)) joins
    ∙ ap (λ (u : Unpacking). Stops (Has (Record side) (body_of new) u)) (sym (leads Between))

pub join_too_long : (p : Position) (streams : Streams) (side : Side) (left most at : ℕ)
    (old : Taking) (rest : List ℕ) → p.spot ≡ Chunk side left → most ≤ left
    → (n : ℕ) × (n ≤ length (take most rest))
    × (after join_next (Runs (joining_of old)) (take n (take most rest)) ≡ Stops (TooLong at))
    → ShowsFault (unpacking_of p old streams) rest
    (errors.Refused (fault_in_record p.connections side (p.records + 1) at RecordTooLong))
join_too_long p streams side left most at old rest here fits (n, within, joins) = (
  n,
  omega (arith, within, length-take most rest),
  joins_up p streams side left n most old rest here within fits (TooLong at) joins,
)

-- bytes of a chunk of version 2
pub gathers : (p q : Position) (streams : Streams) (side : Side) (left count most : ℕ)
    (taking : Taking) (rest : List ℕ) → p.spot ≡ SideChunk side left → most ≤ left
    → count ≡ length (take most rest)
    → ((streams : Streams) (joining : Joining)
    → unpacking_at q streams joining
    ≡ unpacking_with p.at p.total p.connections p.records
    (Mixed streams (awaiting_side side (left - count))) joining)
    → Arrives (unpacking_of p taking streams) (take most rest) None q taking
    (with_more streams side (take most rest))
gathers p q streams side left count most taking rest here fits is leads =
    let size = length-take most rest in
    let whole : left ≡ length (take most rest) + (left - count) = omega arith in
    ap (λ (u : Unpacking). after unpack_next (Runs u) (take most rest))
    (at_spot p streams (joining_of taking) (SideChunk side left) here)
    ∙ side_chunk_kept p.at p.total p.connections p.records streams side (joining_of taking)
    (take most rest) left (left - count) whole
    ∙ ap (λ u. Runs u) (sym (leads (with_more streams side (take most rest)) (joining_of taking)))

-- ---- step after step

-- the bytes at hand are all that are left
pub rest_is : (bytes : List ℕ) (n : ℕ) → take (length bytes - n) (drop n bytes) ≡ drop n bytes
rest_is bytes n =
    let size = length-drop n bytes in
    let all : length (drop n bytes) ≤ length bytes - n = omega arith in
    take_all (length bytes - n) (drop n bytes) all

-- the run after a front of the bytes, and some of the bytes at hand
pub taken_more : (bytes : List ℕ) (n m : ℕ)
    → take (n + m) bytes ≡ take n bytes ++ take m (take (length bytes - n) (drop n bytes))
taken_more bytes n m =
    take-add n m bytes ∙ ap (λ (rest : List ℕ). take n bytes ++ take m rest) (sym (rest_is bytes n))

piece_more : {S F : Type 0} (next : S → ℕ → Next S F) (from : Run S F) (bytes : List ℕ) (n m : ℕ)
    → after next from (take (n + m) bytes)
    ≡ after next (after next from (take n bytes))
    (take m (take (length bytes - n) (drop n bytes)))
piece_more next from bytes n m =
    ap (after next from) (taken_more bytes n m)
    ∙ after-append next from (take n bytes) (take m (take (length bytes - n) (drop n bytes)))

runs_more : (from u : Unpacking) (bytes : List ℕ) (n m : ℕ)
    → after unpack_next (Runs from) (take n bytes) ≡ Runs u
    → after unpack_next (Runs from) (take (n + m) bytes)
    ≡ after unpack_next (Runs u) (take m (take (length bytes - n) (drop n bytes)))
runs_more from u bytes n m first =
    piece_more unpack_next (Runs from) bytes n m
    ∙ ap (λ r. after unpack_next r (take m (take (length bytes - n) (drop n bytes)))) first

pub arrives_more : (from : Unpacking) (bytes : List ℕ) (n m : ℕ) (p q : Position) (t u : Taking)
    (before later : Streams) (event : Option Event)
    → Arrives from (take n bytes) None p t before
    → Arrives (unpacking_of p t before) (take m (take (length bytes - n) (drop n bytes))) event q u
    later → Arrives from (take (n + m) bytes) event q u later
arrives_more from bytes n m p q t u before later event first next =
    runs_more from (unpacking_of p t before) bytes n m first ∙ next

-- the same where nothing is whole
pub goes_on_more : (from : Unpacking) (bytes : List ℕ) (n m : ℕ) (p q : Position) (t u : Taking)
    (before later : Streams) (event : Option Event) → is_some event ≡ false
    → Arrives from (take n bytes) None p t before
    → Arrives (unpacking_of p t before) (take m (take (length bytes - n) (drop n bytes))) event q u
    later → Arrives from (take (n + m) bytes) None q u later
goes_on_more from bytes n m p q t u before later None none first next =
    arrives_more from bytes n m p q t u before later None first next
goes_on_more from bytes n m p q t u before later (Some event) none first next = absurd (cc)

-- where nothing is whole, the room and the streams go on
pub room_on : (event : Option Event) (new all : ℕ) (streams : Streams) {old : ℕ}
    → is_some event ≡ false → new + cost_of event streams ≤ old → old ≤ all → new ≤ all
room_on None new all streams none h more = omega arith
room_on (Some event) new all streams none h more = absurd (cc)

pub stored_on : (event : Option Event) (position : Position) (streams : Streams)
    → is_some event ≡ false → StoredWith event position streams
    → StoredAt position.spot position.total streams
stored_on None position streams none h = h
stored_on (Some event) position streams none h = absurd (cc)

-- where nothing is whole, no whole record is left
pub still_running : (event : Option Event) (taking : Taking) → is_some event ≡ false
    → Leaves event taking → IsRunning taking
still_running None taking none h = h
still_running (Some event) taking none h = absurd (cc)

shows_more : (from : Unpacking) (bytes : List ℕ) (n : ℕ) (p : Position) (t : Taking)
    (before : Streams) (error : Error) → n ≤ length bytes
    → Arrives from (take n bytes) None p t before
    → ShowsFault (unpacking_of p t before) (take (length bytes - n) (drop n bytes)) error
    → ShowsFault from bytes error
shows_more from bytes n p t before (errors.Refused fault) within first (m, fits, shown) =
    let size = length-take (length bytes - n) (drop n bytes) in
    let all : n + m ≤ length bytes = omega arith in
    (n + m, all, runs_more from (unpacking_of p t before) bytes n m first ∙ shown)
shows_more from bytes n p t before error within first shown = shown

pub fails_more : (from : Unpacking) (bytes : List ℕ) (n : ℕ) (p : Position) (t : Taking)
    (before : Streams) (error : Error) → n ≤ length bytes
    → Arrives from (take n bytes) None p t before
    → ShowsError (unpacking_of p t before) (take (length bytes - n) (drop n bytes)) error
    → ShowsError from bytes error
fails_more from bytes n p t before (errors.Refused fault) within first shown =
    shows_more from bytes n p t before (errors.Refused fault) within first shown
fails_more from bytes n p t before errors.Memory within first shown = tt
fails_more from bytes n p t before error within first shown = shown

-- ---- the streams that are kept

-- where a connection word is open, before its first byte
pub mark_is : (version : Version) (spot : Spot) → IsBeforeMark version spot
    → (observed : declared.Version) × (part : WordPart)
    × (spot ≡ spots.Word (words.Mark observed) part)
    × (version_of observed ≡ version) × (bytes_so_far part ≡ [])
mark_is version (spots.Word (words.Mark observed) part) before =
    (observed, part, refl, before.0, before.1)
mark_is version spot before = absurd before
