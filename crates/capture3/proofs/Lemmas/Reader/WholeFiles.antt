-- A whole file: from where its machine stands to what is to be said of it.
use Rattle.capture3.proofs.Common.{Result, ◌≡◌, ℕ, zero, suc, ◌+◌, ◌-◌, Option, Some, None, take-append-drop, List, [], ◌∷◌, ◌++◌, length, take, take_all, drop, length-drop, append-nil, arith, refl, sym, ap, ◌∙◌, subst, Ok, Err, Bool, false, is_some, CaptureCut, AreBytes, Joining, Taking, released, Known, Kind, Error, Client, Server, Spot, Container, Cursor, Version, unpacking_of, Entry, End, FirstFault, begins, concluded, verdict_of, ShowsFirst, Streams, file_fault, Typed, StandsAt, StandsOrRecalls, HasCome, GoesTo, FailsAt, IsHeld, opened_at, version_of, IsEndSpot, Judged, resumed_at, emitted_at, MAGIC}
use Rattle.capture3.specs.declared.reader.entry.Entry as kept
use Rattle.capture3.specs.declared.reader.entry.Entry.TheVariants as variants
use Rattle.capture3.specs.declared.fault.Error.TheVariants as errors
use Rattle.capture3.specs.declared.container.position.Position.{Position}
use Rattle.capture3.specs.declared.container.position.spot.Spot.TheVariants as spots
use Rattle.capture3.specs.declared.container.position.spot.WordOf.TheVariants as words
use Rattle.capture3.specs.declared.container.position.spot.Version as declared
use Rattle.capture3.specs.Kept.{IsKept, AreKept, begun}
use Rattle.capture3.specs.Entries.{OnRefused}
use Rattle.capture3.specs.machinery.ContainerMachine.{left_of_magic, Opened, Magic, Digit, Mark, Length, Chunk, Mixed, Ended}
use Rattle.capture3.proofs.Lemmas.Container.ContainerLemmas.{taken_more}
use Rattle.capture3.proofs.Lemmas.Container.KeptStreamsLemmas.{first_of}
use Rattle.capture3.proofs.Lemmas.Files.Verdicts.{typed_from_verdict, fault_from_verdict}

pub kept_snoc : (items : List kept.Entry) (model : List Entry) (one : kept.Entry) (entry : Entry)
    → AreKept items model → IsKept one entry → AreKept (items ++ one ∷ []) (model ++ entry ∷ [])
kept_snoc [] model one entry are is = (entry, [], ap (λ m. m ++ entry ∷ []) are, is, refl)
kept_snoc (item ∷ items) model one entry are is = (
  are.0,
  are.1 ++ entry ∷ [],
  ap (λ m. m ++ entry ∷ []) are.2,
  are.3,
  kept_snoc items are.1 one entry are.4 is,
)

-- ---- the end

-- where it has ended, the entries that are whole are all but the end
ended_concludes : (size at total connections : ℕ) (joining : Joining) (version : Version)
    (o : Opened) (j : Judged) → o ≡ Ended version
    → concluded size (resumed_at at total connections joining o j).entries
    (resumed_at at total connections joining o j).spot ≡ Ok (emitted_at o j ++ End ∷ [])
ended_concludes size at total connections joining version (Ended other) j is = refl
ended_concludes size at total connections joining version (Magic due more) j is = absurd (cc)
ended_concludes size at total connections joining version Digit j is = absurd (cc)
ended_concludes size at total connections joining version (Mark other part) j is = absurd (cc)
ended_concludes size at total connections joining version (Length side part) j is = absurd (cc)
ended_concludes size at total connections joining version (Chunk side left) j is = absurd (cc)
ended_concludes size at total connections joining version (Mixed streams point) j is = absurd (cc)

cut_concludes : (size at total connections : ℕ) (joining : Joining) (o : Opened) (j : Judged)
    → ((version : Version) → o ≡ Ended version → ⊥)
    → concluded size (resumed_at at total connections joining o j).entries
    (resumed_at at total connections joining o j).spot ≡ Err (file_fault size CaptureCut)
cut_concludes size at total connections joining (Ended version) j not = absurd (not version refl)
cut_concludes size at total connections joining (Magic due more) j not = refl
cut_concludes size at total connections joining Digit j not = refl
cut_concludes size at total connections joining (Mark version part) j not = refl
cut_concludes size at total connections joining (Length Client part) j not = refl
cut_concludes size at total connections joining (Length Server part) j not = refl
cut_concludes size at total connections joining (Chunk Client left) j not = refl
cut_concludes size at total connections joining (Chunk Server left) j not = refl
cut_concludes size at total connections joining (Mixed streams point) j not = refl

-- at the end
ended_is : (spot : Spot) → IsEndSpot spot
    → (version : declared.Version) × (spot ≡ spots.Ended version)
ended_is (spots.Ended version) ended = (version, refl)
ended_is spots.Magic ended = absurd ended
ended_is spots.Digit ended = absurd ended
ended_is (spots.Word word part) ended = absurd ended
ended_is (spots.Chunk side left) ended = absurd ended
ended_is (spots.SideChunk side left) ended = absurd ended

-- the open part is the end only at the end
ended_only : (version : Version) (streams : Streams) (spot : Spot) (at : ℕ)
    → opened_at streams spot at ≡ Ended version → IsEndSpot spot
ended_only version streams (spots.Ended observed) at e = tt
ended_only version streams spots.Magic at e = by_left (drop at MAGIC) e
  where
    by_left : (due : List ℕ) → left_of_magic due ≡ Ended version → ⊥
    by_left [] same = cc
    by_left (byte ∷ due) same = cc
ended_only version streams spots.Digit at e = absurd (cc)
ended_only version streams (spots.Word (words.Mark observed) part) at e = absurd (cc)
ended_only version streams (spots.Word (words.Length side) part) at e = absurd (cc)
ended_only version streams (spots.Word words.Side part) at e = absurd (cc)
ended_only version streams (spots.Word (words.SideLength side) part) at e = absurd (cc)
ended_only version streams (spots.Chunk side zero) at e = absurd (cc)
ended_only version streams (spots.Chunk side (suc left)) at e = absurd (cc)
ended_only version streams (spots.SideChunk side left) at e = absurd (cc)

-- ---- the verdict

module _ (bytes : List ℕ) (p : Position) (t : Taking) (streams : Streams)
    (table : Known) (model : List Entry) (are : AreBytes bytes)
    (s : StandsAt p t streams table bytes model) where
  opened_here : Opened
  opened_here = opened_at streams p.spot p.at

  pub typed_at : IsEndSpot p.spot → Typed bytes (model ++ End ∷ [])
  unfolding opened_here
  typed_at ended =
      let is = ended_is p.spot ended in
      typed_from_verdict bytes (model ++ End ∷ []) are
      (ap (verdict_of (length bytes)) s.stands
      ∙ ended_concludes (length bytes) p.at p.total p.connections (unpacking_of p t streams).joining
      (version_of is.0) opened_here s.so_far
      (ap (λ (spot : Spot). opened_at streams spot p.at) is.1)
      ∙ ap (λ (m : List Entry). Ok (m ++ End ∷ [])) (sym s.emitted))

  pub cut_at : (IsEndSpot p.spot → ⊥) → FirstFault bytes (file_fault (length bytes) CaptureCut)
  unfolding opened_here
  cut_at not =
      fault_from_verdict bytes (file_fault (length bytes) CaptureCut) are
      (ap (verdict_of (length bytes)) s.stands
      ∙ cut_concludes (length bytes) p.at p.total p.connections (unpacking_of p t streams).joining
      opened_here s.so_far (λ version e. not (ended_only version streams p.spot p.at e)))

-- the bytes taken, and the rest
taken_whole : (bytes : List ℕ) (n : ℕ)
    → take n bytes ++ take (length bytes - n) (drop n bytes) ≡ bytes
taken_whole bytes n =
    let rest : take (length bytes - n) (drop n bytes) ≡ drop n bytes =
    take_all (length bytes - n) (drop n bytes) (omega (arith, length-drop n bytes)) in
    ap (λ (b : List ℕ). take n bytes ++ b) rest ∙ take-append-drop n bytes

-- a fault along the bytes at hand is the file's first
pub first_fault : {X : Type 0} (r : Result X Error) (bytes : List ℕ) (n : ℕ) (entries : List Entry)
    (error : Error) → r ≡ Err error → AreBytes bytes
    → FailsAt (take n bytes ++ take (length bytes - n) (drop n bytes)) entries error
    → OnRefused r (FirstFault bytes)
first_fault (Ok x) bytes n entries error is are f = tt
first_fault (Err (errors.Refused fault)) bytes n entries error is are f =
    let same : error ≡ errors.Refused fault = cc in
    let met : FailsAt (take n bytes ++ take (length bytes - n) (drop n bytes)) entries
    (errors.Refused fault) =
    subst
    (λ (e : Error). FailsAt (take n bytes ++ take (length bytes - n) (drop n bytes)) entries e)
    same f in
    let shows : ShowsFirst bytes entries fault =
    subst (λ (b : List ℕ). ShowsFirst b entries fault) (taken_whole bytes n) met in
    subst (λ (b : List ℕ). FirstFault b fault) (append-nil bytes)
    (first_of bytes [] entries fault are shows).0
first_fault (Err other) bytes n entries error is are f = tt

-- ---- along the bytes

come_more : (c : Container) (bytes : List ℕ) (n m : ℕ) (table : Known)
    (model : List Entry)
    → HasCome c table (take n bytes ++ take m (take (length bytes - n) (drop n bytes))) model
    → HasCome c table (take (n + m) bytes) model
come_more c bytes n m table model h =
    subst (λ (b : List ℕ). HasCome c table b model) (sym (taken_more bytes n m)) h

pub not_some : {X : Type 0} (o : Option X) (answer : Bool) → answer ≡ is_some o
    → answer ≡ false → o ≡ None
not_some None answer is untrue = refl
not_some (Some one) answer is untrue = absurd (cc)

-- all bytes are taken, and no streams are judged
pub judged_all : (c : Container) (table : Known) (bytes all : List ℕ)
    (model : List Entry) → bytes ≡ all → c.cursor ≡ None → HasCome c table bytes model
    → StandsAt c.position (released c.joiner.taking) c.streams.kept table all model
judged_all c table bytes all model is none h =
    subst
    (λ (b : List ℕ).
    StandsAt c.position (released c.joiner.taking) c.streams.kept table b model) is
    (subst
    (λ (cursor : Option Cursor).
    StandsOrRecalls cursor c.position (released c.joiner.taking) c.streams.kept table bytes
    model) none h)

abbrev pub Keeps : Container → Known → List ℕ → List kept.Entry → Type 0
Keeps c table bytes items = (model : List Entry) × HasCome c table bytes model × AreKept items model

module _ (Passed : Entry → Type 0) (number : ℕ) (c : Container) (bytes : List ℕ) (n m : ℕ)
    (table : Known) (items : List kept.Entry) (model : List Entry) where
  abbrev Goes : Option Kind → Type 0
  Goes came =
      GoesTo Passed came number c table
      (take n bytes ++ take m (take (length bytes - n) (drop n bytes))) model

  pub keeps_on : (came : Option Kind) → came ≡ None → Goes came → AreKept items model
      → Keeps c table (take (n + m) bytes) items
  keeps_on None e goes are = (model, come_more c bytes n m table model goes, are)
  keeps_on (Some kind) e goes are = absurd (cc)

  -- with the entry that is whole
  pub keeps_more : (came : Option Kind) (kind : Kind) (one : kept.Entry) → came ≡ Some kind
      → Goes came → ((entry : Entry) → IsHeld kind c.joiner.taking entry → IsKept one entry)
      → AreKept items model
      → Keeps c table (take (n + m) bytes) (items ++ one ∷ [])
  keeps_more None kind one e goes keeps are = absurd (cc)
  keeps_more (Some new) kind one e (entry, held, has, adds, come) keeps are =
      let same : new ≡ kind = cc in
      let still : IsHeld kind c.joiner.taking entry =
      subst (λ (k : Kind). IsHeld k c.joiner.taking entry) same held in (
        model ++ entry ∷ [],
        come_more c bytes n m table (model ++ entry ∷ []) come,
        kept_snoc items model one entry are
            (keeps entry still),
      )

-- ---- what kept entries begin

pub kept_length : (items : List kept.Entry) (entries : List Entry) → AreKept items entries
    → length items ≡ length entries
kept_length [] entries are = sym (ap length are)
kept_length (one ∷ items) entries are =
    ap suc (kept_length items are.1 are.4) ∙ sym (ap length are.2)

pub begun_is : (items : List kept.Entry) (entries : List Entry) → AreKept items entries
    → begun items ≡ begins entries
begun_is [] entries are = sym (ap begins are)
begun_is (one ∷ items) entries are =
    begun_more one items are.0 are.1 are.3 (begun_is items are.1 are.4) ∙ sym (ap begins are.2)
  where
    begun_more : (one : kept.Entry) (items : List kept.Entry) (entry : Entry) (rest : List Entry)
        → IsKept one entry → begun items ≡ begins rest → begun (one ∷ items) ≡ begins (entry ∷ rest)
    begun_more variants.Begin items entry rest is same =
        ap (λ (n : ℕ). 1 + n) same ∙ ap (λ (e : Entry). begins (e ∷ rest)) (sym is)
    begun_more (variants.Call call) items entry rest is same =
        same ∙ ap (λ (e : Entry). begins (e ∷ rest)) (sym is.3)
    begun_more (variants.Reply reply) items entry rest is same =
        same ∙ ap (λ (e : Entry). begins (e ∷ rest)) (sym is.2)
    begun_more one items entry rest is same =
        same ∙ ap (λ (e : Entry). begins (e ∷ rest)) (sym is)
