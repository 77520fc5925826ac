-- A loop over the entries of a reader: what it has read so far, and what follows at its end.
use Rattle.capture3.specs.Observed.{Observed, Gave}
use Rattle.capture3.proofs.Lemmas.Reader.ObservedLemmas.{gave_on, prefix_of_observed, shown_of_all}
use Rattle.std.specs.declared.hash.BuildHasher as BuildHasher
use Rattle.std.specs.declared.hash.Hasher as Hasher
use Rattle.uses.proofs.Common.{◌≡◌, ℕ, Option, Some, None, Ok, Err, List, [], ◌∷◌, ◌++◌, subst, refl, Entry, OnRefused, source_of, StandsFor}
use Rattle.capture3.specs.declared.reader.entries.Entries.{Entries}
use Rattle.capture3.specs.declared.fault.Error.{Error}
use Rattle.capture3.specs.declared.fault.Error.TheVariants as errors
use Rattle.capture3.specs.FirstFault.{FirstFault}
use Rattle.capture3.specs.Handing.{HandsOutGiven}
use Rattle.capture3.specs.Typed.{Typed}

pub none_is : {X : Type 0} (o : Option X) → ((x : X) → o ≡ Some x → ⊥) → o ≡ None
none_is None not = refl
none_is (Some x) not = absurd (not x refl)

module _ {R S H : Type 0} {builds : BuildHasher.Ghosts S H} {hashes : Hasher.Ghosts H}
    (observed : R → Observed) (first : Observed) where
  -- the source gave some bytes since then, and these entries were returned, of which this holds
  pub record HasReturned (reader : Entries R S H builds hashes) (Holds : List Entry → Type 0) : Type
      0 where
    pub given : List ℕ
    pub handed : List Entry
    pub gave : Gave first (observed (source_of reader)) given
    pub stands : StandsFor observed reader given handed
    pub holds : Holds handed

  -- what a call of the reader returned, after these entries
  module _ {X : Type 0} (Is : List Entry → X → Entry → Type 0)
      (old new : Entries R S H builds hashes) (Holds : List Entry → Type 0)
      (so_far : HasReturned old Holds) where
    -- one entry more is returned
    pub one_more : (More : List Entry → Type 0) (x : X)
        → HandsOutGiven observed Is old new so_far.given so_far.handed (Ok (Some x))
        → ((handed : List Entry) (entry : Entry) → Is handed x entry → Holds handed
        → More (handed ++ entry ∷ []))
        → HasReturned new More
    one_more More x step goes_on =
        let (entry, is, reached, then_stands) = step.hands_out in
        record {
          given = so_far.given ++ step.more;
          handed = so_far.handed ++ entry ∷ [];
          gave = gave_on first so_far.gave step;
          stands = then_stands;
          holds = goes_on so_far.handed entry is so_far.holds;
        }

    -- none is left, so all bytes are a capture's with the entries returned
    pub all_returned : (bytes : List ℕ) → first.left ≡ Some bytes
        → HandsOutGiven observed Is old new so_far.given so_far.handed (Ok None)
        → (entries : List Entry) × Typed bytes entries × Holds entries
    all_returned bytes tells step =
        let ended = step.hands_out in
        let gave = gave_on first so_far.gave step in
        let front =
        prefix_of_observed first (observed (source_of new)) (so_far.given ++ step.more) bytes tells
        gave in
        let whole : so_far.given ++ step.more ≡ bytes = front.all ended.1 in
        (so_far.handed, subst (λ (b : List ℕ). Typed b so_far.handed) whole ended.0, so_far.holds)

    -- a refusal has the first fault of all bytes
    pub refused : (T : Type 0) (error : Error) (bytes : List ℕ) → first.left ≡ Some bytes
        → HandsOutGiven observed Is old new so_far.given so_far.handed (Err error)
        → OnRefused {X = T} (Err error) (FirstFault bytes)
    refused T (errors.Refused fault) bytes tells step =
        let gave = gave_on first so_far.gave step in
        let prefix =
        prefix_of_observed first (observed (source_of new)) (so_far.given ++ step.more) bytes tells
        gave in
        (shown_of_all (observed (source_of new)) (so_far.given ++ step.more) bytes so_far.handed
        fault
        prefix step.hands_out.0).0
    refused T errors.Read bytes tells step = tt
    refused T errors.Write bytes tells step = tt
    refused T errors.Memory bytes tells step = tt
