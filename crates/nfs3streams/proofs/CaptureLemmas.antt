-- What is written of a capture, or of an index.
use Rattle.std.proofs.Common.{◌≡◌, ◌≢◌, ◌∙◌, ℕ, List, [], Option, None, Some, Result, Ok, Err, IfErr, OnOk, inl, inr, refl, ap, subst}
use Rattle.std.specs.Io.KnownBytes.{Appends, Keeps}
use Rattle.canon3.specs.WriteErrors.{IsOfWriting}
use Rattle.capture3.specs.Entries.{CountsReading}
use Rattle.capture3.specs.SidedChunks.{Streams}
use Rattle.capture3.specs.declared.fault.Error.{Error}
use Rattle.capture3.specs.declared.fault.Error.TheVariants as errors
use Rattle.conversion3.specs.Packing.{AreSentIn}
use Rattle.conversion3.specs.declared.decisions.Decision.{Decision}
use Rattle.conversion3.specs.declared.ordered_connections.OrderedConnection.{OrderedConnection}
use Rattle.index3.specs.Indexes.{bytes_of_index}
use Rattle.packing3.specs.Packing.{Finishes, HasWrittenCapture}
use Rattle.payload3.specs.Readings.{OffsetRead}
use Rattle.program3.specs.Files.{WritesOut}
use Rattle.nfs3streams.specs.Conversion.{IsCaptureOf}
use Rattle.nfs3streams.specs.machinery.Converting.{CountsFailure, WritesInto, WritesWanted, WritesWhole, index_in}
use Rattle.nfs3streams.specs.declared.decided.Decided.{Decided}
use Rattle.nfs3streams.specs.declared.line.asked.Wanted.{Wanted}
use Rattle.nfs3streams.specs.declared.line.asked.Wanted.TheVariants.{Capture, Index}

-- a write that failed is no success
pub out_ok : (came now : Result (Unit {0}) Error) (gathered written : Option (List ℕ))
    → (done : Unit {0}) → now ≡ Ok done → (came ≡ Err errors.Write → now ≡ came)
    → (came ≢ Err errors.Write → WritesOut came gathered now written)
    → (came ≡ Ok done) × Keeps gathered written
out_ok (Ok x) now gathered written done is stays out =
    elim (out (λ e. absurd (cc))) [
      | inl failed ↦ absurd (cc)
      | inr kept ↦ (cc, kept.1)
    ]
out_ok (Err errors.Write) now gathered written done is stays out = let e = stays refl in absurd (cc)
out_ok (Err errors.Read) now gathered written done is stays out =
    elim (out (λ e. absurd (cc))) [
      | inl failed ↦ absurd (cc)
      | inr kept ↦ let e = kept.0 in absurd (cc)
    ]
out_ok (Err errors.Memory) now gathered written done is stays out =
    elim (out (λ e. absurd (cc))) [
      | inl failed ↦ absurd (cc)
      | inr kept ↦ let e = kept.0 in absurd (cc)
    ]
out_ok (Err (errors.Refused fault)) now gathered written done is stays out =
    elim (out (λ e. absurd (cc))) [
      | inl failed ↦ absurd (cc)
      | inr kept ↦ let e = kept.0 in absurd (cc)
    ]

-- a failed read of a result that a write may have changed
pub out_failed : (came now : Result (Unit {0}) Error) (gathered written : Option (List ℕ))
    (error : Error) (old new : ℕ) → now ≡ Err error → (came ≡ Err errors.Write → now ≡ came)
    → (came ≢ Err errors.Write → WritesOut came gathered now written)
    → CountsReading old new came → CountsFailure (old, new) error
out_failed came now gathered written errors.Write old new is stays out counts = tt
out_failed came now gathered written errors.Memory old new is stays out counts = tt
out_failed came now gathered written (errors.Refused fault) old new is stays out counts = tt
out_failed (Err errors.Read) now gathered written errors.Read old new is stays out counts =
    λ none. rw (counts, none) refl
out_failed (Err errors.Write) now gathered written errors.Read old new is stays out counts =
    let e = stays refl in absurd (cc)
out_failed (Err errors.Memory) now gathered written errors.Read old new is stays out counts =
    elim (out (λ e. absurd (cc))) [
      | inl failed ↦ absurd (cc)
      | inr kept ↦ let e = kept.0 in absurd (cc)
    ]
out_failed (Err (errors.Refused fault)) now gathered written errors.Read old new is
    stays out counts =
    elim (out (λ e. absurd (cc))) [
      | inl failed ↦ absurd (cc)
      | inr kept ↦ let e = kept.0 in absurd (cc)
    ]
out_failed (Ok x) now gathered written errors.Read old new is stays out counts =
    elim (out (λ e. absurd (cc))) [
      | inl failed ↦ absurd (cc)
      | inr kept ↦ let e = kept.0 in absurd (cc)
    ]

-- a capture that was finished
pub finishes_whole : (d : Decided) (connections : List OrderedConnection)
    (decisions : List Decision) (readings : List OffsetRead) (before after : Option (List ℕ))
    (pairs : List Streams) (r : Result (Unit {0}) Error) → connections ≡ d.connections.items
    → decisions ≡ d.decisions.items → Finishes before after pairs r
    → AreSentIn readings connections decisions pairs → OnOk r (WritesWhole d readings before after)
finishes_whole d connections decisions readings before after pairs (Ok x) same alike has sent =
    record {
      pairs = pairs;
      written = has;
      sent =
          subst (λ ds. AreSentIn readings d.connections.items ds pairs) alike
          (subst (λ cs. AreSentIn readings cs decisions pairs) same sent);
    }
finishes_whole d connections decisions readings before after pairs (Err error) same alike has sent =
    tt

-- no read fails when it is finished
pub reads_on : (old new : ℕ) (before after : Option (List ℕ)) (pairs : List Streams)
    (r : Result (Unit {0}) Error) → new ≡ old → Finishes before after pairs r
    → CountsReading old new r
reads_on old new before after pairs (Ok x) same has = same
reads_on old new before after pairs (Err errors.Write) same has = same
reads_on old new before after pairs (Err errors.Read) same has = let e = has.is in absurd (cc)
reads_on old new before after pairs (Err errors.Memory) same has = let e = has.is in absurd (cc)
reads_on old new before after pairs (Err (errors.Refused fault)) same has =
    let e = has.is in absurd (cc)

-- the capture is all that an empty writer has
pub capture_of : (old new out : Option (List ℕ)) (pairs : List Streams) → old ≡ Some []
    → HasWrittenCapture old new pairs → Keeps new out → IsCaptureOf out pairs
capture_of (Some xs) (Some ys) (Some zs) pairs none has keeps = record {
  capture = has.file;
  is = let e : xs ≡ [] = cc in ap Some (keeps ∙ rw e at has.appended);
  of = has.capture;
}
capture_of (Some xs) (Some ys) None pairs none has keeps = absurd keeps
capture_of (Some xs) None out pairs none has keeps = absurd has.appended
capture_of None new out pairs none has keeps = absurd (cc)

-- ---- what is wanted

appended_all : (old new out : Option (List ℕ)) (bytes : List ℕ) → old ≡ Some []
    → Appends old new bytes → Keeps new out → out ≡ Some bytes
appended_all (Some xs) (Some ys) (Some zs) bytes none appended keeps =
    let e : xs ≡ [] = cc in ap Some (keeps ∙ rw e at appended)
appended_all (Some xs) (Some ys) None bytes none appended keeps = absurd keeps
appended_all (Some xs) None out bytes none appended keeps = absurd appended
appended_all None new out bytes none appended keeps = absurd (cc)

-- all that an empty writer has is what is wanted
pub all_wanted : (wanted : Wanted) (d : Decided) (readings : List OffsetRead)
    (old new out : Option (List ℕ)) → old ≡ Some [] → WritesInto wanted d readings old new
    → Keeps new out → WritesWanted wanted d readings out
all_wanted Capture d readings old new out none w keeps =
    (w.pairs, capture_of old new out w.pairs none w.written keeps, w.sent)
all_wanted Index d readings old new out none w keeps =
    appended_all old new out (bytes_of_index (index_in d)) none w keeps

-- writing fails, and reads nothing
pub reads_nothing : (failures : ℕ) (r : Result (Unit {0}) Error) → IfErr r IsOfWriting
    → CountsReading failures failures r
reads_nothing failures (Ok done) of = refl
reads_nothing failures (Err errors.Read) (inl is) = absurd (cc)
reads_nothing failures (Err errors.Read) (inr is) = absurd (cc)
reads_nothing failures (Err errors.Write) of = refl
reads_nothing failures (Err errors.Memory) of = refl
reads_nothing failures (Err (errors.Refused fault)) of = refl
