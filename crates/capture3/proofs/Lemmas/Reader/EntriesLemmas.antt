-- What a reader of entries makes of its histories, step by step.
use Rattle.std.proofs.Common.{◌≡◌, ◌⊎◌, inl, inr, ℕ, ◌+◌, ◌-◌, ◌≤◌, ◌<◌, Option, Some, None, Ok, Err, IsSome, List, [], ◌∷◌, ◌++◌, length, take, drop, slice_range, refl, sym, ap, subst, ◌∙◌, append_assoc, append-nil, length-append, arith, take-append-drop, length-take, length-drop, vec_len}
use Rattle.capture3.proofs.Common.{CanGoOn, common_steps, known_of, open_xids, ∥∥₁_elim, CaptureCut, AreBytes, Runs, Taking, Led, IsRunning, released, Known, Kind, Error, Spot, Container, Cursor, Two, max_connections, Entry, End, FirstFault, IsClean, begins, most_bytes, Parsing, parsed, emitted, AreFirstReached, AreWhole, Reached, parsing_at, Streams, file_fault, IsWellFormed, props, Observed, Gave, IsSpent, AreStored, IsReady, room_in, unpacking_of}
use Rattle.std.proofs.lemmas.List.{drop-take}
use Rattle.capture3.specs.Progress.{AreCounted}
use Rattle.capture3.specs.machinery.Pairing.{CountsMessages}
use Rattle.capture3.proofs.Lemmas.Reader.PairingLemmas.{counted_here}
use Rattle.capture3.proofs.Lemmas.Reader.PlacingLemmas.{counted_on, messages_more, none_more}
use Rattle.capture3.proofs.Lemmas.Reader.ObservedLemmas.{gave_both, gave_none}
use Rattle.std.specs.declared.hash.BuildHasher as BuildHasher
use Rattle.std.specs.declared.hash.Hasher as Hasher
use Rattle.std.proofs.lemmas.List.{same_from_push}
use Rattle.capture3.specs.declared.reader.entries.Entries.{Entries}
use Rattle.capture3.specs.declared.reader.entries.ReaderStage.{ReaderStage}
use Rattle.capture3.specs.declared.reader.entries.ReaderStage.TheVariants.{Reading, Over, Failed}
use Rattle.capture3.specs.declared.reader.entry.Kind.TheVariants as kinds
use Rattle.capture3.specs.declared.fault.Error.TheVariants as errors
use Rattle.capture3.specs.declared.container.position.Position.{Position}
use Rattle.capture3.specs.declared.container.position.spot.Spot.TheVariants as spots
use Rattle.capture3.specs.declared.container.position.spot.WordOf.TheVariants as words
use Rattle.capture3.specs.Entries.{AreAllBeforeEnd, IsMetBy, failure_in, failure_of, last_of}
use Rattle.capture3.specs.machinery.EntriesHistory.{CountedMessages, entries_left_in, entries_left, unjudged, IsReading, StandsIn, StandsFor, HoldsLast, HasRead}
use Rattle.capture3.specs.Handing.{HandsOut, HandsOutGiven}
use Rattle.capture3.specs.machinery.Stepping.{IsNextOfKind, IsOfKind}
use Rattle.capture3.specs.machinery.Pairing.{StandsAt, StandsOrRecalls, HasCome, HasNumber, after_side_word, GoesTo, FailsAt, IsHeld, entry_cost}
use Rattle.capture3.specs.machinery.Position.{AreEmpty, IsBeforeMark, IsEndSpot, StoredAt, opened_at}
use Rattle.capture3.specs.Capture.{One}
use Rattle.capture3.specs.Laws.{IsOfVersion, most_entries}
use Rattle.capture3.proofs.Lemmas.Reached.ReachedMore.{reached_within}
use Rattle.capture3.proofs.Lemmas.Container.BytesOf.{AreBytes-append, split_bytes}
use Rattle.capture3.proofs.Lemmas.Reached.Limits.{begins-append, typed_within}
use Rattle.capture3.proofs.Lemmas.Reached.Growing.{emitted_is}
use Rattle.capture3.proofs.Lemmas.Reader.WholeFiles.{cut_at, typed_at}
use Rattle.capture3.proofs.Lemmas.Reached.ReachedLemmas.{stands_whole}
use Rattle.capture3.proofs.Lemmas.Container.KeptStreamsLemmas.{first_of, recalled_first}
use Rattle.capture3.proofs.Lemmas.Reached.ReachedBeforeFaults.{first_reached_at}
use Rattle.capture3.proofs.Lemmas.Container.Sizes.{clean_most, most_of_one}
use Rattle.capture3.proofs.Lemmas.Files.Verdicts.{clean_from_runs, run_shows, verdict_from_fault, verdict_from_typed}

-- ---- what is kept truncated

before_mark-prop : (spot : Spot) → IsProp (IsBeforeMark Two spot)
before_mark-prop (spots.Word (words.Mark version) part) = hlevel props
before_mark-prop spot = hlevel props

empty-prop : (streams : Streams) → IsProp (AreEmpty streams)
empty-prop streams = hlevel props

stored_at-prop : (spot : Spot) (total : ℕ) (streams : Streams)
    → IsProp (StoredAt spot total streams)
stored_at-prop (spots.Word words.Side part) total streams = hlevel props
stored_at-prop (spots.Word (words.SideLength side) part) total streams = hlevel props
stored_at-prop (spots.SideChunk side left) total streams = hlevel props
stored_at-prop spot total streams = empty-prop streams

stored-prop : (p : Position) (cursor : Option Cursor) (streams : Streams)
    → IsProp (AreStored p cursor streams)
stored-prop p None streams = stored_at-prop p.spot p.total streams
stored-prop p (Some cursor) streams = hlevel (props, before_mark-prop)

running-prop : (t : Taking) → IsProp (IsRunning t)
running-prop (Led (Runs s)) = hlevel props
running-prop t = hlevel props

ready-prop : (cursor : Option Cursor) (t : Taking) → IsProp (IsReady cursor t)
ready-prop None t = running-prop t
ready-prop (Some cursor) t = hlevel props

going_on-prop : (cursor : Option Cursor) (t : Taking) (c : Container) → IsProp (CanGoOn cursor t c)
going_on-prop cursor t c = hlevel (props, stored-prop, ready-prop)

pub can_go_on : (cursor : Option Cursor) (t : Taking) (c : Container) → ∥ CanGoOn cursor t c ∥₁
    → CanGoOn cursor t c
can_go_on cursor t c h = ∥∥₁_elim h (going_on-prop cursor t c) (λ s. s)

failed_stage : (stage : ReaderStage) (error other : Error) → failure_in stage error ≡ Some other
    → stage ≡ Failed
failed_stage Failed error other is = refl
failed_stage stage error other is = absurd (cc)

kind_held : (kind : Kind) (t : Taking) (entry : Entry) → IsHeld kind t entry → IsOfKind kind entry
kind_held (kinds.Call id) t entry (items, whole, is_call, id_is, is) = (items, id_is, is)
kind_held (kinds.Reply id) t entry (items, whole, is_reply, is) = (items, is)
kind_held kind t entry is = is

-- ---- after bytes that the machine has taken

module _ (bytes : List ℕ) (p : Position) (t : Taking) (streams : Streams)
    (table : Known) (model : List Entry) (are : AreBytes bytes)
    (s : StandsAt p t streams table bytes model) where
  state : Parsing
  state = parsing_at (unpacking_of p t streams) s.so_far

  model_is : emitted state ≡ model
  unfolding state
  model_is =
      emitted_is p.at p.total p.connections (unpacking_of p t streams).joining
      (opened_at streams p.spot p.at) s.so_far ∙ sym s.emitted

  runs_is : parsed bytes ≡ Runs state
  unfolding state
  runs_is = s.stands

  pub whole_here : AreWhole bytes model
  whole_here =
      subst (λ (entries : List Entry). AreWhole bytes entries) model_is
      (stands_whole bytes state (run_shows bytes (Runs state) are runs_is))

  pub clean_here : IsClean bytes
  clean_here = clean_from_runs bytes state runs_is

-- where streams that were kept are judged, the last byte may show a fault
come_length : (c : Container) (table : Known) (bytes : List ℕ) (handed : List Entry)
    → AreBytes bytes → HasCome c table bytes handed → length bytes ≤ most_bytes Two + 1
come_length c table bytes handed are h = by_cursor c.cursor h
  where
    by_cursor : (cursor : Option Cursor)
        → StandsOrRecalls cursor c.position (released c.joiner.taking) c.streams.kept table bytes
        handed → length bytes ≤ most_bytes Two + 1
    by_cursor None s =
        omega (
          arith,
          clean_most bytes are (clean_here bytes c.position (released c.joiner.taking)
              c.streams.kept table handed are s),
        )
    by_cursor (Some cursor) r =
        omega (
          arith,
          clean_most r.front (split_bytes bytes r.front (r.byte ∷ []) r.split are).0
              (clean_from_runs r.front r.state r.runs),
          ap length r.split,
          length-append r.front (r.byte ∷ []),
        )

-- what was handed out are the first entries that the bytes reach, whatever comes after
come_first : (c : Container) (table : Known) (bytes rest : List ℕ) (handed : List Entry)
    → AreBytes (bytes ++ rest) → HasCome c table bytes handed
    → AreFirstReached (bytes ++ rest) handed
come_first c table bytes rest handed are h = by_cursor c.cursor h
  where
    by_cursor : (cursor : Option Cursor)
        → StandsOrRecalls cursor c.position (released c.joiner.taking) c.streams.kept table bytes
        handed → AreFirstReached (bytes ++ rest) handed
    by_cursor None s =
        subst (AreFirstReached (bytes ++ rest)) (sym s.emitted) (first_reached_at bytes rest
        (unpacking_of c.position (released c.joiner.taking) c.streams.kept) s.so_far are
        s.agrees s.stands)
    by_cursor (Some cursor) r =
        recalled_first (after_side_word c.position) c.streams.kept cursor.side cursor.taken
        c.position.records table bytes rest handed are r

few_first : (bytes : List ℕ) (handed : List Entry) → AreFirstReached bytes handed
    → begins handed ≤ max_connections
few_first bytes handed (more, reached) =
    omega (arith, (reached_within bytes (handed ++ more) reached).few, begins-append handed more)

-- ---- the block

pub empty_range : {X : Type 0} (xs : List X) (start end : ℕ) → start ≡ end
    → slice_range xs start end ≡ []
empty_range {X} xs start end same =
    let none : end - start ≡ 0 = omega (arith, same) in
    ap (λ (n : ℕ). take n (drop start xs)) none

pub front_range : {X : Type 0} (xs : List X) (n : ℕ) → slice_range xs 0 n ≡ take n xs
front_range {X} xs n =
    let same : n - 0 ≡ n = omega arith in
    ap (λ (m : ℕ). take m xs) same

pub split_range : (block : List ℕ) (start end count : ℕ) → start + count ≤ end
    → take count (slice_range block start end) ++ slice_range block (start + count) end
    ≡ slice_range block start end
split_range block start end count fits =
    let whole : end - start ≡ count + (end - (start + count)) = omega arith in
    let rest : drop count (take (end - start) (drop start block))
    ≡ take (end - (start + count)) (drop (start + count) block) =
    rw whole
    (drop-take count (end - (start + count)) (drop start block)
    ∙ ap (take (end - (start + count))) (grind (arith, common_steps))) in
    rw (← rest) (take-append-drop count (slice_range block start end))

-- ---- the end, and a fault

-- short of the end, what was emitted is what the bytes reach
pub not_ended : (bytes : List ℕ) (p : Position) (t : Taking) (streams : Streams)
    (table : Known) (model : List Entry) → AreBytes bytes
    → StandsAt p t streams table bytes model → (IsEndSpot p.spot → ⊥)
    → (IsWellFormed bytes → ⊥) × Reached bytes model
not_ended bytes p t streams table model are s not =
    let cut =
    verdict_from_fault bytes (file_fault (length bytes) CaptureCut) are
    (cut_at bytes p t streams table model are s not) in
    let bad : IsWellFormed bytes → ⊥ = λ w. let typed = verdict_from_typed bytes w.0 w.1 in cc in (
      bad,
      inr (
        bad,
        bytes,
        model,
        [],
        record {
          rest = [];
          split = sym (append-nil bytes);
          clean = clean_here bytes p t streams table model are s;
          longest = inl (refl, refl);
        },
        whole_here bytes p t streams table model are s,
        sym (append-nil model),
      ),
    )

end_or_not : (spot : Spot) → IsEndSpot spot ⊎ (IsEndSpot spot → ⊥)
end_or_not (spots.Ended version) = inl tt
end_or_not spot = inr (λ e. e)

pub all_before_end : (bytes : List ℕ) (p : Position) (t : Taking) (streams : Streams)
    (table : Known) (model : List Entry) → AreBytes bytes
    → StandsAt p t streams table bytes model → AreAllBeforeEnd bytes model
all_before_end bytes p t streams table model are s =
    elim (end_or_not p.spot) [
      | inl ended ↦ inl (typed_at bytes p t streams table model are s ended)
      | inr not ↦ inr (not_ended bytes p t streams table model are s not)
    ]

-- ---- the reader

module _ {R S H : Type 0} {builds : BuildHasher.Ghosts S H} {hashes : Hasher.Ghosts H}
    (observed : R → Observed) where
  -- this entry is handed out and passed on; or none is, and it goes on or has failed
  abbrev pub HandsOutOrGoesOn : (Passed : Entry → Type 0)
      → Entries R S H builds hashes → List ℕ → List Entry → Option Kind → Type 0
  HandsOutOrGoesOn Passed new given handed (Some kind) =
      (entry : Entry) × IsOfKind kind entry × Passed entry
      × StandsFor observed new given (handed ++ entry ∷ [])
  HandsOutOrGoesOn Passed new given handed None = StandsFor observed new given handed

  pub record Turns (Passed : Entry → Type 0) (old new : Entries R S H builds hashes)
      (given : List ℕ) (handed : List Entry) : Type 0 where
    pub more : List ℕ
    pub consumed : Gave (observed old.source.now) (observed new.source.now) more
    pub goes_on : HandsOutOrGoesOn Passed new (given ++ more) handed (last_of new)

  here_at : (e : Entries R S H builds hashes) (stage : ReaderStage) (given : List ℕ)
      (handed : List Entry)
      → e.stage ≡ stage → StandsFor observed e given handed
      → StandsIn stage (observed e.source.now) e given handed
  here_at e stage given handed is s =
      subst (λ (stage : ReaderStage). StandsIn stage (observed e.source.now) e given handed) is
      s.here

  pub reading_of : (e : Entries R S H builds hashes) (given : List ℕ) (handed : List Entry)
      → e.stage ≡ Reading → StandsFor observed e given handed → IsReading e given handed
  reading_of e given handed is s = here_at e Reading given handed is s

  left_is : (e : Entries R S H builds hashes) → e.stage ≡ Reading
      → entries_left e ≡ room_in e.pairing.container + 1
  left_is e is = ap (λ (stage : ReaderStage). entries_left_in stage e.pairing.container) is

  -- ---- the entry that was handed out last

  none_last : (e : Entries R S H builds hashes) (handed : List Entry)
      → last_of e ≡ None → HoldsLast e handed
  none_last e handed none front entry ends kind is = absurd (cc)

  now_last : (e : Entries R S H builds hashes) (handed : List Entry) (came : Kind) (entry : Entry)
      → last_of e ≡ Some came → IsHeld came e.pairing.container.joiner.taking entry
      → HasNumber e.pairing.number (open_xids [] (handed ++ entry ∷ [])) entry
      → HoldsLast e (handed ++ entry ∷ [])
  now_last e handed came entry last held has front other ends kind is =
      let entries : entry ≡ other = (same_from_push handed front entry other ends).1 in
      let kinds : came ≡ kind = cc in (
        rw (← entries, ← kinds) held,
        rw (← ends, ← entries) has,
      )

  -- what was handed out are the first entries that the bytes reach
  first_in : (e : Entries R S H builds hashes) (given : List ℕ) (handed : List Entry)
      → AreBytes given → IsReading e given handed → AreFirstReached given handed
  first_in e given handed are r =
      subst (λ (b : List ℕ). AreFirstReached b handed) (sym r.split) (come_first e.pairing.container
      (known_of e.pairing.calls) r.judged (unjudged e) handed (subst AreBytes r.split are)
      r.machine)

  -- it reads on
  pub stands_reading : (e : Entries R S H builds hashes) (given : List ℕ) (handed : List Entry)
      → e.stage ≡ Reading → AreBytes given
      → length handed + (room_in e.pairing.container + 1) ≤ most_entries
      → length given ≤ most_bytes Two + vec_len e.block
      → (IsOfVersion One given → length given ≤ most_bytes One + vec_len e.block)
      → HoldsLast e handed → IsReading e given handed → StandsFor observed e given handed
  stands_reading e given handed is are few most most_of_one holds r = record {
    bytes = are;
    few = omega (arith, few, left_is e is);
    limits =
        record {
          few = omega (arith, few);
          connections = few_first given handed (first_in e given handed are r);
          most = most;
          most_of_one = most_of_one;
        };
    holds = holds;
    here =
        subst (λ (stage : ReaderStage). StandsIn stage (observed e.source.now) e given handed)
        (sym is) r;
  }

  -- it has failed
  pub stands_failed : (old new : Entries R S H builds hashes) (given : List ℕ)
      (handed : List Entry) → new.stage ≡ Failed → last_of new ≡ None
      → vec_len new.block ≡ vec_len old.block → StandsFor observed old given handed
      → IsMetBy new.pairing.error (observed new.source.now) given handed
      → StandsFor observed new given handed
  stands_failed old new given handed is none block s met = record {
    bytes = s.bytes;
    few =
        omega (
          arith,
          s.limits.few,
          ap (λ (stage : ReaderStage). entries_left_in stage new.pairing.container) is,
        );
    limits =
        record {
          few = s.limits.few;
          connections = s.limits.connections;
          most = omega (arith, s.limits.most, block);
          most_of_one = λ of. omega (arith, s.limits.most_of_one of, block);
        };
    holds = none_last new handed none;
    here =
        subst (λ (stage : ReaderStage). StandsIn stage (observed new.source.now) new given handed)
        (sym is)
        met;
  }

  room_before : (e : Entries R S H builds hashes) (given : List ℕ) (handed : List Entry)
      → e.stage ≡ Reading → StandsFor observed e given handed
      → length handed + (room_in e.pairing.container + 1) ≤ most_entries
  room_before e given handed is s = omega (arith, s.few, left_is e is)

  pub stands_first : (e : Entries R S H builds hashes) (given : List ℕ) (handed : List Entry)
      → failure_of e ≡ None → StandsFor observed e given handed → AreFirstReached given handed
  stands_first e given handed goes s = by_stage e.stage refl s.here
    where
      by_stage : (stage : ReaderStage) → e.stage ≡ stage
          → StandsIn stage (observed e.source.now) e given handed → AreFirstReached given handed
      by_stage Reading is h = first_in e given handed s.bytes h
      by_stage Over is h = ([], subst (Reached given) (sym (append-nil handed)) (inl h.0))
      by_stage Failed is h =
          let failed : failure_of e ≡ Some e.pairing.error =
          ap (λ stage. failure_in stage e.pairing.error) is in absurd (cc)

  -- ---- a read

  all_judged : (e : Entries R S H builds hashes) (given : List ℕ) (handed : List Entry)
      → e.start ≡ e.end → (r : IsReading e given handed) → given ≡ r.judged
  all_judged e given handed empty r =
      r.split ∙ ap (λ (b : List ℕ). r.judged ++ b) (empty_range e.block.items e.start e.end empty)
      ∙ append-nil r.judged

  machine_at : (e : Entries R S H builds hashes) (given : List ℕ) (handed : List Entry)
      → e.start ≡ e.end → e.pairing.container.cursor ≡ None → IsReading e given handed
      → StandsAt e.pairing.container.position (released e.pairing.container.joiner.taking)
      e.pairing.container.streams.kept (known_of e.pairing.calls) given handed
  machine_at e given handed empty none r =
      rw none at (subst (λ (b : List ℕ).
      HasCome e.pairing.container (known_of e.pairing.calls) b handed)
      (sym (all_judged e given handed empty r)) r.machine)

  -- what stands between two entries, but for the last one
  abbrev KeepsPairing : (old new : Entries R S H builds hashes) → Type 0
  KeepsPairing old new = (new.pairing.container ≡ old.pairing.container)
      × (new.pairing.calls ≡ old.pairing.calls)
      × (new.pairing.calls_taken ≡ old.pairing.calls_taken)
      × (new.pairing.replies_taken ≡ old.pairing.replies_taken)

  pub has_read : (old new : Entries R S H builds hashes) (given more : List ℕ) (handed : List Entry)
      → old.stage ≡ Reading → new.stage ≡ Reading → old.start ≡ old.end
      → old.pairing.container.cursor ≡ None → KeepsPairing old new → last_of new ≡ None
      → new.judged ≡ old.judged → unjudged new ≡ more → AreBytes more
      → length more ≤ vec_len new.block
      → Gave (observed old.source.now) (observed new.source.now) more
      → StandsFor observed old given handed
      → HasRead observed old new given handed
  has_read old new given more handed is goes empty none same last count block are within consumed
      s =
      let r = reading_of old given handed is s in
      let at = machine_at old given handed empty none r in
      let clean = clean_here given _ _ _ _ handed s.bytes at in
      let bounded = clean_most given s.bytes clean in
      let split : given ++ more ≡ r.judged ++ unjudged new =
      ap (λ (b : List ℕ). b ++ more) (all_judged old given handed empty r)
      ∙ ap (λ (b : List ℕ). r.judged ++ b) (sym block) in
      record {
        more = more;
        consumed = consumed;
        stands =
            stands_reading new (given ++ more) handed goes (AreBytes-append given more s.bytes are)
            (omega (
              arith,
              room_before old given handed is s,
              ap room_in same.0,
            ))
            (omega (arith, length-append given more, bounded, within))
            (λ of. omega
            (arith, length-append given more, most_of_one given more s.bytes clean of, within))
            (none_last new handed last)
            (record {
              judged = r.judged;
              split = split;
              counted = count ∙ r.counted;
              machine = rw (same.0, same.1) r.machine;
              messages = (same.2 ∙ r.messages.0, same.3 ∙ r.messages.1);
            });
      }

  pub has_failed : (old new : Entries R S H builds hashes) (given : List ℕ) (handed : List Entry)
      → old.stage ≡ Reading → new.stage ≡ Failed → errors.Read ≡ new.pairing.error
      → last_of new ≡ None → vec_len new.block ≡ vec_len old.block → old.start ≡ old.end
      → old.pairing.container.cursor ≡ None
      → Gave (observed old.source.now) (observed new.source.now) []
      → StandsFor observed old given handed
      → HasRead observed old new given handed
  has_failed old new given handed is fails error none block empty unopened kept s =
      record {
        more = [];
        consumed = kept;
        stands = subst (λ (b : List ℕ). StandsFor observed new b handed) (sym (append-nil given))
            (stands_failed old new given handed fails none block s
            (subst (λ (e : Error). IsMetBy e (observed new.source.now) given handed) error
            (all_before_end given _ _ _ _ handed s.bytes
            (machine_at old given handed empty unopened (reading_of old given handed is s)))));
      }

  -- ---- judging the block

  pub moves_on : (old new : Entries R S H builds hashes) (count : ℕ) (given : List ℕ)
      (handed all : List Entry) → new.judged ≡ old.judged + count
      → unjudged new ≡ slice_range old.block.items (old.start + count) old.end
      → old.start + count ≤ old.end → old.end ≤ length old.block.items
      → (r : IsReading old given handed)
      → HasCome new.pairing.container (known_of new.pairing.calls)
      (r.judged ++ take count (unjudged old)) all → CountedMessages new all
      → IsReading new given all
  moves_on old new count given handed all judged block fits within r machine messages =
      let piece : List ℕ = take count (unjudged old) in
      let inner = length-take (old.end - old.start) (drop old.start old.block.items) in
      let outer = length-take count (unjudged old) in
      let size = length-drop old.start old.block.items in
      record {
        judged = r.judged ++ piece;
        split =
            r.split
            ∙ ap (λ (b : List ℕ). r.judged ++ b)
            (sym (split_range old.block.items old.start old.end count fits))
            ∙ ap (λ (b : List ℕ). r.judged ++ (piece ++ b)) (sym block)
            ∙ sym (append_assoc r.judged piece (unjudged new));
        counted =
            omega (
              arith,
              judged,
              r.counted,
              length-append r.judged piece,
              inner,
              outer,
              size,
              fits,
              within,
            );
        machine = machine;
        messages = messages;
      }

  -- with the entry that is whole, if one is
  pub judged_on : (Passed : Entry → Type 0)
      (old new : Entries R S H builds hashes) (count : ℕ) (given : List ℕ) (handed : List Entry)
      (came : Option Kind) → old.stage ≡ Reading → new.stage ≡ Reading → last_of new ≡ came
      → vec_len new.block ≡ vec_len old.block
      → new.judged ≡ old.judged + count
      → unjudged new ≡ slice_range old.block.items (old.start + count) old.end
      → old.start + count ≤ old.end → old.end ≤ length old.block.items
      → room_in new.pairing.container + entry_cost came ≤ room_in old.pairing.container
      → (s : StandsFor observed old given handed)
      → ((judged : List ℕ)
      → HasCome old.pairing.container (known_of old.pairing.calls) judged handed
      → GoesTo Passed came new.pairing.number new.pairing.container
      (known_of new.pairing.calls)
      (judged ++ take count (unjudged old)) handed)
      → CountsMessages came old.pairing.calls_taken old.pairing.replies_taken
      new.pairing.calls_taken new.pairing.replies_taken
      → HandsOutOrGoesOn Passed new given handed came
  judged_on Passed old new count given handed None is goes last size judged block fits
      within room s leads counts =
      let r = reading_of old given handed is s in
      stands_reading new given handed goes s.bytes
      (omega (arith, room_before old given handed is s, room))
      (omega (arith, s.limits.most, size))
      (λ of. omega (arith, s.limits.most_of_one of, size)) (none_last new handed last)
      (moves_on old new count
      given handed handed judged block fits within r (leads r.judged r.machine)
      (counts.0 ∙ r.messages.0, counts.1 ∙ r.messages.1))
  judged_on Passed old new count given handed (Some kind) is goes last size judged
      block
      fits within room s leads counts =
      let r = reading_of old given handed is s in
      let (entry, held, has, adds, machine) = leads r.judged r.machine in
      let of = kind_held kind new.pairing.container.joiner.taking entry held in (
        entry,
        of,
        adds,
        stands_reading new given (handed ++ entry ∷ []) goes s.bytes
            (omega
            (arith, room_before old given handed is s, room, length-append handed (entry ∷ [])))
            (omega (arith, s.limits.most, size))
            (λ of. omega (arith, s.limits.most_of_one of, size))
            (now_last new handed kind entry last held has)
            (moves_on old new count given handed (handed ++ entry ∷ []) judged block fits within r
            machine (messages_more kind old.pairing.calls_taken old.pairing.replies_taken
            new.pairing.calls_taken new.pairing.replies_taken handed entry of counts
            (omega (arith, room_before old given handed is s)) r.messages.0 r.messages.1)),
      )

  fails_by : (e : Entries R S H builds hashes) (error : Error) (given : List ℕ)
      (handed : List Entry) (known : Observed) → AreBytes given → IsReading e given handed
      → FailsAt given handed error → IsMetBy error known given handed
  fails_by e (errors.Refused fault) given handed known are r f =
      inl (λ rest. first_of given rest handed fault are f)
  fails_by e errors.Read given handed known are r f = absurd f
  fails_by e errors.Write given handed known are r f = absurd f
  fails_by e errors.Memory given handed known are r f = first_in e given handed are r

  judged_failed : (old new : Entries R S H builds hashes) (given : List ℕ)
      (handed : List Entry) → old.stage ≡ Reading → new.stage ≡ Failed → last_of new ≡ None
      → vec_len new.block ≡ vec_len old.block → (s : StandsFor observed old given handed)
      → ((judged : List ℕ)
      → HasCome old.pairing.container (known_of old.pairing.calls) judged handed
      → FailsAt (judged ++ unjudged old) handed new.pairing.error)
      → StandsFor observed new given handed
  judged_failed old new given handed is fails none block s shows =
      let r = reading_of old given handed is s in
      stands_failed old new given handed fails none block s
      (fails_by old new.pairing.error given handed (observed new.source.now) s.bytes r
      (subst (λ (b : List ℕ). FailsAt b handed new.pairing.error) (sym r.split)
      (shows r.judged r.machine)))

  -- the same of a piece of the block
  pub judged_piece : (Passed : Entry → Type 0)
      (old new : Entries R S H builds hashes) (count : ℕ) (items given : List ℕ)
      (handed : List Entry) (came : Option Kind) → items ≡ old.block.items
      → length items ≡ vec_len old.block → old.stage ≡ Reading → new.stage ≡ Reading
      → last_of new ≡ came → vec_len new.block ≡ vec_len old.block
      → new.judged ≡ old.judged + count
      → unjudged new ≡ slice_range old.block.items (old.start + count) old.end
      → count ≤ length (slice_range items old.start old.end)
      → room_in new.pairing.container + entry_cost came ≤ room_in old.pairing.container
      → StandsFor observed old given handed
      → ((judged : List ℕ)
      → HasCome old.pairing.container (known_of old.pairing.calls) judged handed
      → GoesTo Passed came new.pairing.number new.pairing.container
      (known_of new.pairing.calls)
      (judged ++ take count (slice_range items old.start old.end)) handed)
      → CountsMessages came old.pairing.calls_taken old.pairing.replies_taken
      new.pairing.calls_taken new.pairing.replies_taken
      → HandsOutOrGoesOn Passed new given handed came
  judged_piece Passed old new count items given handed came same all is goes last
      size judged block fits room s leads counts =
      let within : old.end ≤ length old.block.items =
      omega (arith, old.within, all, ap length same) in
      judged_on Passed old new count given handed came is goes last size judged block
      (omega (arith, rw same at fits, length-take {A = ℕ}, length-drop {A = ℕ}, old.ordered)) within
      room s (rw same at leads) counts

  pub piece_failed : (old new : Entries R S H builds hashes)
      (items given : List ℕ) (handed : List Entry) → items ≡ old.block.items
      → old.stage ≡ Reading → new.stage ≡ Failed → last_of new ≡ None
      → vec_len new.block ≡ vec_len old.block → StandsFor observed old given handed
      → ((judged : List ℕ)
      → HasCome old.pairing.container (known_of old.pairing.calls) judged handed
      → FailsAt (judged ++ slice_range items old.start old.end) handed new.pairing.error)
      → StandsFor observed new given handed
  piece_failed old new items given handed same is fails none block s shows =
      judged_failed old new given handed is fails none block s (rw same at shows)

  -- ---- the end

  pub finished : (old new : Entries R S H builds hashes) (given : List ℕ) (handed : List Entry)
      → old.stage ≡ Reading → new.stage ≡ Over → last_of new ≡ Some kinds.End
      → vec_len new.block ≡ vec_len old.block → old.start ≡ old.end
      → old.pairing.container.cursor ≡ None → IsEndSpot old.pairing.container.position.spot
      → IsSpent (observed new.source.now)
      → new.pairing.container.position ≡ old.pairing.container.position
      → new.pairing.calls_taken ≡ old.pairing.calls_taken
      → new.pairing.replies_taken ≡ old.pairing.replies_taken
      → StandsFor observed old given handed → StandsFor observed new given (handed ++ End ∷ [])
  finished old new given handed is over last block empty none ended end same calls replies s =
      let r = reading_of old given handed is s in
      let typed =
      typed_at given _ _ _ _ handed s.bytes (machine_at old given handed empty none r) ended in
      let p = old.pairing.container.position in
      record {
        bytes = s.bytes;
        few =
            omega (
              arith,
              room_before old given handed is s,
              length-append handed (End ∷ []),
              ap (λ (stage : ReaderStage). entries_left_in stage new.pairing.container) over,
            );
        limits = record {
          few = omega (arith, room_before old given handed is s, length-append handed (End ∷ []));
          connections = (typed_within given (handed ++ End ∷ []) typed).few;
          most = omega (arith, s.limits.most, block);
          most_of_one = λ of. omega (arith, s.limits.most_of_one of, block);
        };
        holds = now_last new handed kinds.End End last refl tt;
        here =
            subst
            (λ (stage : ReaderStage).
            StandsIn stage (observed new.source.now) new given (handed ++ End ∷ [])) (sym over) (
              typed,
              end,
              rw same (counted_on p.connections p.records p.connections p.records handed End
                  (counted_here _ _ _ _ _ _ handed r.machine) (omega arith) refl),
              none_more old.pairing.calls_taken old.pairing.replies_taken new.pairing.calls_taken
                  new.pairing.replies_taken handed End refl refl calls replies r.messages.0
                  r.messages.1,
            );
      }

  pub cut_short : (old new : Entries R S H builds hashes) (given : List ℕ)
      (handed : List Entry) → old.stage ≡ Reading → new.stage ≡ Failed → last_of new ≡ None
      → vec_len new.block ≡ vec_len old.block → old.start ≡ old.end
      → old.pairing.container.cursor ≡ None → (IsEndSpot old.pairing.container.position.spot → ⊥)
      → new.pairing.error ≡ errors.Refused (file_fault old.judged CaptureCut)
      → IsSpent (observed new.source.now)
      → StandsFor observed old given handed → StandsFor observed new given handed
  cut_short old new given handed is fails none block empty unopened not cut end s =
      let r = reading_of old given handed is s in
      let size : old.judged ≡ length given =
      r.counted ∙ ap length (sym (all_judged old given handed empty r)) in
      let at = machine_at old given handed empty unopened r in
      let first : FirstFault given (file_fault old.judged CaptureCut) =
      subst (λ (n : ℕ). FirstFault given (file_fault n CaptureCut)) (sym size)
      (cut_at given _ _ _ _ handed s.bytes at not) in
      let reached = (not_ended given _ _ _ _ handed s.bytes at not).1 in
      stands_failed old new given handed fails none block s
      (subst (λ (e : Error). IsMetBy e (observed new.source.now) given handed) (sym cut)
      (inr (end, first, reached)))

  -- how far the entries have come
  pub has_passed : (e : Entries R S H builds hashes) (given : List ℕ) (handed : List Entry)
      → StandsFor observed e given handed → failure_of e ≡ None
      → AreCounted e.pairing.container.position.connections e.pairing.container.position.records
      handed × CountedMessages e handed
  has_passed e given handed s going = by_stage e.stage refl s.here
    where
      by_stage : (stage : ReaderStage) → e.stage ≡ stage
          → StandsIn stage (observed e.source.now) e given handed
          → AreCounted e.pairing.container.position.connections
          e.pairing.container.position.records handed × CountedMessages e handed
      by_stage Reading is h = (counted_here _ _ _ _ _ _ handed h.machine, h.messages)
      by_stage Over is (typed, end, counted, messages) = (counted, messages)
      by_stage Failed is h =
          let failed : failure_of e ≡ Some e.pairing.error =
          ap (λ stage. failure_in stage e.pairing.error) is in absurd (cc)

  -- ---- one after another

  pub nothing_read : (e : Entries R S H builds hashes) (given : List ℕ) (handed : List Entry)
      → StandsFor observed e given handed → HasRead observed e e given handed
  nothing_read e given handed s = record {
    more = [];
    consumed = gave_none (observed e.source.now);
    stands = subst (λ (b : List ℕ). StandsFor observed e b handed) (sym (append-nil given)) s;
  }

  -- none is handed out
  pub none_on : (Passed : Entry → Type 0)
      (new : Entries R S H builds hashes) (given : List ℕ) (handed : List Entry)
      → last_of new ≡ None → StandsFor observed new given handed
      → HandsOutOrGoesOn Passed new given handed (last_of new)
  none_on Passed new given handed none s =
      subst (HandsOutOrGoesOn Passed new given handed) (sym none) s

  -- the end is handed out
  pub end_on : (Passed : Entry → Type 0) (new : Entries R S H builds hashes) (given : List ℕ)
      (handed : List Entry) → Passed End → last_of new ≡ Some kinds.End
      → StandsFor observed new given (handed ++ End ∷ [])
      → HandsOutOrGoesOn Passed new given handed (last_of new)
  end_on Passed new given handed told last s =
      subst (HandsOutOrGoesOn Passed new given handed) (sym last) (End, refl, told, s)

  -- after the turns so far, the block is read, and then it is judged
  pub turned : (Passed : Entry → Type 0) (old so_far mid new : Entries R S H builds hashes)
      (given : List ℕ) (handed : List Entry) → HasRead observed old so_far given handed
      → ((given : List ℕ) (handed : List Entry) → StandsFor observed so_far given handed
      → HasRead observed so_far mid given handed)
      → ((given : List ℕ) (handed : List Entry) → StandsFor observed mid given handed
      → HandsOutOrGoesOn Passed new given handed (last_of new))
      → new.source.now ≡ mid.source.now → Turns Passed old new given handed
  turned Passed old so_far mid new given handed first reads goes same =
      let next = reads (given ++ first.more) handed first.stands in
      record {
        more = first.more ++ next.more;
        consumed =
            subst (λ (r : R). Gave (observed old.source.now) (observed r) (first.more ++ next.more))
            (sym same) (gave_both (observed old.source.now) (observed so_far.source.now)
            (observed mid.source.now) first.more next.more first.consumed next.consumed);
        goes_on =
            subst (λ (b : List ℕ). HandsOutOrGoesOn Passed new b handed (last_of new))
            (append_assoc given first.more next.more)
            (goes ((given ++ first.more) ++ next.more) handed next.stands);
      }

  -- no entry is whole yet
  pub read_on : (Passed : Entry → Type 0)
      (old new : Entries R S H builds hashes) (given : List ℕ) (handed : List Entry)
      → last_of new ≡ None → Turns Passed old new given handed
      → HasRead observed old new given handed
  read_on Passed old new given handed none t = record {
    more = t.more;
    consumed = t.consumed;
    stands =
        subst (HandsOutOrGoesOn Passed new (given ++ t.more) handed) none
        t.goes_on;
  }

  -- no capture is so long
  pub too_long : (Passed : Entry → Type 0)
      (old mid new : Entries R S H builds hashes) (given : List ℕ) (handed : List Entry)
      → HasRead observed old mid given handed → mid.stage ≡ Reading
      → most_bytes Two + 1 < mid.judged → Turns Passed old new given handed
  too_long Passed old mid new given handed read is far =
      let r = reading_of mid (given ++ read.more) handed is read.stands in
      absurd (omega (
        arith,
        far,
        r.counted,
        come_length mid.pairing.container _ r.judged handed
            (split_bytes (given ++ read.more) r.judged (unjudged mid) r.split
            read.stands.bytes).0 r.machine,
      ))

  -- ---- the answers

  pub answers_kind : (Passed : Entry → Type 0)
      (old new : Entries R S H builds hashes) (given : List ℕ) (handed : List Entry)
      → IsSome (last_of new) → failure_of new ≡ None
      → Turns Passed old new given handed
      → HandsOutGiven observed (IsNextOfKind Passed) old new given handed
      (Ok (last_of new))
  answers_kind Passed old new given handed some goes t = record {
    more = t.more;
    consumed = t.consumed;
    hands_out = by_last (last_of new) some t.goes_on;
  }
    where
      by_last : (last : Option Kind) → IsSome last
          → HandsOutOrGoesOn Passed new (given ++ t.more) handed last
          → HandsOut observed (IsNextOfKind Passed) new (given ++ t.more) handed
          (Ok last)
      by_last None none h = absurd (cc)
      by_last (Some kind) some (entry, is, adds, s) =
          (entry, (is, adds), stands_first new (given ++ t.more) (handed ++ entry ∷ []) goes s, s)

  -- an error is noted, and no entry is lent
  pub answers_error : {X : Type 0} (Passed : Entry → Type 0) (Is : List Entry → X → Entry → Type 0)
      (old new : Entries R S H builds hashes)
      (given : List ℕ) (handed : List Entry) → failure_of new ≡ Some new.pairing.error
      → last_of new ≡ None → Turns Passed old new given handed
      → HandsOutGiven observed Is old new given handed (Err new.pairing.error)
  answers_error Passed Is old new given handed failed none t =
      let s =
      subst (HandsOutOrGoesOn Passed new (given ++ t.more) handed) none
      t.goes_on in
      record {
        more = t.more;
        consumed = t.consumed;
        hands_out = (
          here_at new Failed (given ++ t.more) handed (failed_stage new.stage _ _ failed) s,
          s,
        );
      }

  pub answers_over : {X : Type 0} (Is : List Entry → X → Entry → Type 0)
      (e : Entries R S H builds hashes) (given : List ℕ) (handed : List Entry)
      → e.stage ≡ Over → StandsFor observed e given handed
      → HandsOutGiven observed Is e e given handed (Ok None)
  answers_over Is e given handed is s =
      let here = here_at e Over given handed is s in
      record {
        more = [];
        consumed = gave_none (observed e.source.now);
        hands_out =
            subst (λ (b : List ℕ). HandsOut observed Is e b handed (Ok None))
            (sym (append-nil given)) (here.0, here.1, s);
      }

  pub answers_again : {X : Type 0} (Is : List Entry → X → Entry → Type 0)
      (e : Entries R S H builds hashes) (given : List ℕ) (handed : List Entry)
      → e.stage ≡ Failed → StandsFor observed e given handed
      → HandsOutGiven observed Is e e given handed (Err e.pairing.error)
  answers_again Is e given handed is s = record {
    more = [];
    consumed = gave_none (observed e.source.now);
    hands_out =
        subst (λ (b : List ℕ). HandsOut observed Is e b handed (Err e.pairing.error))
        (sym (append-nil given)) (here_at e Failed given handed is s, s);
  }

-- ---- no device failed
