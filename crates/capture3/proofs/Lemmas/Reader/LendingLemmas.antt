-- A step of the reader returns a kind; the calls above it lend the entry.
use Rattle.capture3.proofs.Common.{◌≡◌, ap, subst, sym, refl, ℕ, Option, None, Some, Result, Ok, Err, IfSome, IsSome, List, [], ◌∷◌, ◌++◌, Error, Entry, Kind, Item}
use Rattle.std.specs.declared.hash.BuildHasher as BuildHasher
use Rattle.std.specs.declared.hash.Hasher as Hasher
use Rattle.capture3.specs.declared.reader.entries.Entries.{Entries}
use Rattle.capture3.specs.declared.reader.entry.LentEntry.{LentEntry}
use Rattle.capture3.specs.declared.reader.entry_ref.EntryRef.{EntryRef}
use Rattle.capture3.specs.Entries.{KeepsErrors, UsesSource}
use Rattle.capture3.specs.Handing.{HandsOutGiven}
use Rattle.capture3.specs.Kept.{IsLent, kind_of}
use Rattle.capture3.specs.Lending.{IsNextLent, LendsNext}
use Rattle.capture3.specs.MessageVisit.{Hears}
use Rattle.capture3.specs.Numbering.{number_after, number_lent}
use Rattle.capture3.specs.ReadAs.{IsReadAs, kind_of_read}
use Rattle.capture3.specs.ReadEntries.{ReadsNext}
use Rattle.capture3.specs.Observed.{Observed}
use Rattle.capture3.specs.machinery.EntriesHistory.{LeavesKind, StandsFor}
use Rattle.capture3.specs.machinery.Stepping.{IsNextOfKind, kind_lent, kind_read}

abbrev kind_in : Result (Option LentEntry) Error → Result (Option Kind) Error
kind_in (Ok next) = Ok (kind_lent next)
kind_in (Err error) = Err error

abbrev kind_read_in : Result (Option EntryRef) Error → Result (Option Kind) Error
kind_read_in (Ok next) = Ok (kind_read next)
kind_read_in (Err error) = Err error

pub some_lent : (next : Option LentEntry) (last : Option Kind) → kind_lent next ≡ last
    → IsSome next → IsSome last
some_lent None last same some = absurd (cc)
some_lent (Some next) last same some = subst (λ (k : Option Kind). IsSome k) same refl

pub some_read : (next : Option EntryRef) (last : Option Kind) → kind_read next ≡ last
    → IsSome next → IsSome last
some_read None last same some = absurd (cc)
some_read (Some next) last same some = subst (λ (k : Option Kind). IsSome k) same refl

module _ {R S H : Type 0} {builds : BuildHasher.Ghosts S H} {hashes : Hasher.Ghosts H}
    (observed : R → Observed) (failures : R → ℕ) (old new : Entries R S H builds hashes) where
  -- ---- what does not depend on what is returned

  none_handed : {X Y : Type 0} (Is : List Entry → X → Entry → Type 0)
      (Other : List Entry → Y → Entry → Type 0) (given : List ℕ) (handed : List Entry)
      → HandsOutGiven observed Is old new given handed (Ok None)
      → HandsOutGiven observed Other old new given handed (Ok None)
  none_handed Is Other given handed h =
      record { more = h.more; consumed = h.consumed; hands_out = h.hands_out }

  errors_kept : {X Y : Type 0} (x : X) (y : Y) → KeepsErrors old new (Ok x)
      → KeepsErrors old new (Ok y)
  errors_kept x y k =
      record {
        going = k.going;
        failed = tt;
        unlent = tt;
        again = λ error is. let same : Ok x ≡ Err error = k.again error is in absurd (cc);
        unread = k.unread;
      }

  source_used : {X Y : Type 0} (x : X) (y : Y) → UsesSource failures old new (Ok x)
      → UsesSource failures old new (Ok y)
  source_used x y u =
      record {
        read = u.read;
        write = tt;
        same_block = u.same_block;
        same_reference = u.same_reference;
      }

  module _ {V : Type 0} (rests stands : V → List Item → Type 0) (was now : V) where
    -- what the step said of each history for which the reader stood
    abbrev Answers : Option Kind → Type 0
    Answers next = (given : List ℕ) (handed : List Entry) → StandsFor observed old given handed
        → HandsOutGiven observed (IsNextOfKind (Hears rests stands was now)) old new given handed
        (Ok next)

    -- this holds of the entry that was handed out last
    abbrev IsSaid : (List Entry → Entry → Type 0) → Type 0
    IsSaid Says = (given : List ℕ) (handed : List Entry) (entry : Entry)
        → StandsFor observed new given (handed ++ entry ∷ []) → Says handed entry

    -- ---- the entry is lent

    lent_of : (kind : Kind) (next : LentEntry) (given : List ℕ) (handed : List Entry)
        → HandsOutGiven observed (IsNextOfKind (Hears rests stands was now)) old new given handed
        (Ok (Some kind))
        → IsSaid (λ before entry. IsLent next entry)
        → IsSaid (λ before entry. number_lent next ≡ number_after before entry)
        → HandsOutGiven observed (IsNextLent rests stands was now) old new given handed
        (Ok (Some next))
    lent_of kind next given handed h is_lent numbered =
        let (entry, (is, adds), reached, s) = h.hands_out in
        let lent = is_lent (given ++ h.more) handed entry s in
        record {
          more = h.more;
          consumed = h.consumed;
          hands_out =
              (entry, ((lent, numbered (given ++ h.more) handed entry s), adds), reached, s);
        }

    lends_kind : (next : Option LentEntry) → Answers (kind_lent next)
        → IsSaid (λ before entry. IfSome next (λ one. IsLent one entry))
        → IsSaid (λ before entry. IfSome next (λ one. number_lent one ≡ number_after before entry))
        → LeavesKind failures old new was now (Ok (kind_lent next))
        → LendsNext observed failures (IsNextLent rests stands was now) old (Ok next) new
    lends_kind None answers is_lent numbered left =
        record {
          answers = λ given handed s.
              none_handed (IsNextOfKind (Hears rests stands was now))
              (IsNextLent rests stands was now) given handed (answers given handed s);
          end = λ same. absurd (cc);
          over = λ over_now. (refl, (left.over over_now).1);
          fewer = λ some. absurd (cc);
          errors = errors_kept None None left.errors;
          device = source_used None None left.device;
        }
    lends_kind (Some next) answers is_lent numbered left =
        record {
          answers = λ given handed s.
              lent_of (kind_of next) next given handed (answers given handed s) is_lent numbered;
          end = λ same. left.end (ap kind_in same);
          over = λ over_now. absurd (let none = (left.over over_now).0 in cc);
          fewer = left.fewer;
          errors = errors_kept (Some (kind_of next)) (Some next) left.errors;
          device = source_used (Some (kind_of next)) (Some next) left.device;
        }

    pub lends : (next : Option LentEntry) (last : Option Kind) → kind_lent next ≡ last
        → Answers last → IsSaid (λ before entry. IfSome next (λ one. IsLent one entry))
        → IsSaid (λ before entry. IfSome next (λ one. number_lent one ≡ number_after before entry))
        → LeavesKind failures old new was now (Ok last)
        → LendsNext observed failures (IsNextLent rests stands was now) old (Ok next) new
    lends next last same answers is_lent numbered left =
        lends_kind next (subst Answers (sym same) answers) is_lent numbered
        (subst (λ kind. LeavesKind failures old new was now (Ok kind)) (sym same) left)

    -- ---- the entry is lent, with its call as a value

    read_of : (kind : Kind) (next : EntryRef) (given : List ℕ) (handed : List Entry)
        → HandsOutGiven observed (IsNextOfKind (Hears rests stands was now)) old new given handed
        (Ok (Some kind))
        → IsSaid (λ before entry. IsReadAs next entry)
        → HandsOutGiven observed (λ before. IsReadAs) old new given handed (Ok (Some next))
    read_of kind next given handed h is_read =
        let (entry, is, reached, s) = h.hands_out in
        record {
          more = h.more;
          consumed = h.consumed;
          hands_out = (entry, is_read (given ++ h.more) handed entry s, reached, s);
        }

    reads_kind : (next : Option EntryRef) → Answers (kind_read next)
        → IsSaid (λ before entry. IfSome next (λ one. IsReadAs one entry))
        → LeavesKind failures old new was now (Ok (kind_read next))
        → ReadsNext observed failures old (Ok next) new
    reads_kind None answers is_read left =
        record {
          answers = λ given handed s.
              none_handed (IsNextOfKind (Hears rests stands was now)) (λ before. IsReadAs)
              given handed (answers given handed s);
          end = λ same. absurd (cc);
          over = λ over_now. (refl, (left.over over_now).1);
          fewer = λ some. absurd (cc);
          errors = errors_kept None None left.errors;
          device = source_used None None left.device;
        }
    reads_kind (Some next) answers is_read left =
        record {
          answers = λ given handed s.
              read_of (kind_of_read next) next given handed (answers given handed s) is_read;
          end = λ same. left.end (ap kind_read_in same);
          over = λ over_now. absurd (let none = (left.over over_now).0 in cc);
          fewer = left.fewer;
          errors = errors_kept (Some (kind_of_read next)) (Some next) left.errors;
          device = source_used (Some (kind_of_read next)) (Some next) left.device;
        }

    pub reads : (next : Option EntryRef) (last : Option Kind) → kind_read next ≡ last
        → Answers last → IsSaid (λ before entry. IfSome next (λ one. IsReadAs one entry))
        → LeavesKind failures old new was now (Ok last)
        → ReadsNext observed failures old (Ok next) new
    reads next last same answers is_read left =
        reads_kind next (subst Answers (sym same) answers) is_read
        (subst (λ kind. LeavesKind failures old new was now (Ok kind)) (sym same) left)
