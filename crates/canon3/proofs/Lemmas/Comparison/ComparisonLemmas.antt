-- A comparison of two captures, entry by entry.
use Rattle.canon3.proofs.Common.{◌≡◌, ◌≢◌, ℕ, List, [], ◌∷◌, ◌++◌, append-nil, Option, None, Some, Result, Ok, Err, refl, sym, ap, ◌∙◌, Gave, Observed, IsPrefixOf, Error, Place, Entry, Typed, MessageWriter, AreFirst, WriterRests, WriterStands, values_before, Same, HasPassed, place_from, IsMetBy, Progress, SameError, bytes_after, HasSpelled, spelling_of, ◌+◌, ◌<◌, ◌^◌, length, length-append, arith}
use Rattle.std.specs.Option.{IsSomeAnd, MatchOption}
use Rattle.std.specs.declared.hash.BuildHasher as BuildHasher
use Rattle.std.specs.declared.hash.Hasher as Hasher
use Rattle.capture3.specs.declared.fault.Error.TheVariants as errors
use Rattle.capture3.specs.MessageVisit.{Hears}
use Rattle.canon3.specs.declared.comparison.Comparison.{Comparison}
use Rattle.canon3.specs.declared.comparison.Finding.{Finding}
use Rattle.canon3.specs.declared.comparison.Finding.TheVariants as findings
use Rattle.canon3.specs.declared.canonical_form.spelling.Spelling.{Spelling}
use Rattle.canon3.specs.declared.comparison.verdict.Verdict.{Verdict}
use Rattle.canon3.specs.declared.comparison.verdict.Verdict.TheVariants as verdicts
use Rattle.canon3.specs.declared.comparison.verdict.Which.{Which}
use Rattle.canon3.specs.declared.comparison.verdict.Which.TheVariants.{First, Second}
use Rattle.std.specs.Prelude.{MatchResult}
use Rattle.canon3.specs.Comparison.{DecidesSame, StopsComparing, of_bytes, of_source}
use Rattle.canon3.specs.EntryWriter.{StopsWriting}
use Rattle.canon3.specs.HandleTable.{nothing}
use Rattle.canon3.specs.Summary.{GaveAll}
use Rattle.canon3.specs.machinery.WritingSteps.{HasGiven, IsDone, ReaderSince, source_since}
use Rattle.canon3.specs.machinery.ComparisonSteps.{Agree, Compares, HaveEnded, HaveParted, IsCompared, IsFound, IsReadAfter, IsReadOut, HaveReceived, Meets, met_second, PartWith, GaveError, StepsOn}
use Rattle.canon3.proofs.Lemmas.Renaming.AgreementLemmas.{agree_more, differ_here, mark_alike, no_more, not_same, parting, place_there, typed_first}
use Rattle.canon3.proofs.Lemmas.Order.First.{same_from_bytes}
use Rattle.canon3.proofs.Lemmas.Progress.ProgressLemmas.{place_is, side_in}
use Rattle.canon3.proofs.Lemmas.Progress.SummaryLemmas.{first_given, first_of_all}

-- ---- an entry of each

module _ {S H : Type 0} (n m : MessageWriter S H) (form other_form : Spelling) (a b : List Entry)
    (e f : Entry) (first : AreFirst (a ++ e ∷ [])) (second : AreFirst (b ++ f ∷ []))
    (s : HasSpelled n form a e) (t : HasSpelled m other_form b f) (g : Agree a b) where
  pub agree_on : spelling_of form n ≡ spelling_of other_form m → Agree (a ++ e ∷ []) (b ++ f ∷ [])
  agree_on alike = agree_more a b e f first second g (sym s.spelled ∙ (alike ∙ t.spelled))

  pub parts_here : (progress : Progress) (place : Place)
      → spelling_of form n ≢ spelling_of other_form m → HasPassed progress a
      → place ≡ place_from progress (side_in e) (side_in f) → PartWith a b e f place
  parts_here progress place unlike passed is =
      let differ : bytes_after a (e ∷ []) ≢ bytes_after b (f ∷ []) =
      λ same. unlike (s.spelled ∙ (same ∙ sym t.spelled)) in
      record {
        agree = g;
        differ = differ_here a b e f first second g differ;
        place_is =
            rw is (place_is progress a passed e f
            (λ same none.
            differ (mark_alike a b e none ∙ ap (λ k. bytes_after b (k ∷ [])) same))
            (place_there a b e f first second g));
      }

-- ---- a comparison whose numberings are passed items

abbrev pub with_first : {S H : Type 0} → Comparison S H → MessageWriter S H → Comparison S H
with_first comparison n = record comparison { first = n }

abbrev pub with_second : {S H : Type 0} → Comparison S H → MessageWriter S H → Comparison S H
with_second comparison n = record comparison { second = n }

module _ {S H : Type 0} (comparison : Comparison S H) (a b : List Entry)
    (n : MessageWriter S H) where
  pub received_first : (e : Entry) → Hears WriterRests WriterStands comparison.first n e
      → IsCompared comparison a b → HaveReceived (with_first comparison n) a b (Some e) None
  unfolding Hears
  received_first e tells c =
      record {
        agree = c.agree;
        first = tells (values_before a) c.first;
        second = c.second;
      }

  pub received_second : (e f : Entry) → Hears WriterRests WriterStands comparison.second n f
      → HaveReceived comparison a b (Some e) None
      → HaveReceived (with_second comparison n) a b (Some e) (Some f)
  unfolding Hears
  received_second e f tells c =
      record {
        agree = c.agree;
        first = c.first;
        second = tells (values_before b) c.second;
      }

-- ---- what a reader answers

pub gave_error : (source : Observed × Observed) (handed : List Entry) (error : Error)
    → (given : List ℕ) × Gave source.0 source.1 given × IsMetBy error source.1 given handed
    → GaveError source error
gave_error source handed (errors.Refused fault) (given, gave, met) =
    record { given = given; gave = gave; first = first_given source.1 given handed fault met }
gave_error source handed _ met = tt

module _ (first second : Observed × Observed) where
  pub first_stops : (error : Error) → GaveError first error
      → StopsComparing (of_source first) (of_source second) error First
  first_stops (errors.Refused fault) met = met
  first_stops _ met = tt

  pub second_stops : (a : List Entry) (error : Error) → GaveAll first a → GaveError second error
      → StopsComparing (of_source first) (of_source second) error Second
  second_stops a (errors.Refused fault) whole met = ((a, whole), met)
  second_stops a _ whole met = tt

-- ---- of all bytes, of which those that were given are a prefix

module _ (first second : Observed × Observed) (file other : List ℕ)
    (prefix : (given : List ℕ) → Gave first.0 first.1 given → IsPrefixOf first.1 given file)
    (other_prefix : (given : List ℕ) → Gave second.0 second.1 given
    → IsPrefixOf second.1 given other) where
  all_typed : (a : List Entry) → GaveAll first a → Typed file a
  all_typed a all = rw ((prefix all.given all.gave).all all.ended) at all.typed

  all_other_typed : (b : List Entry) → GaveAll second b → Typed other b
  all_other_typed b all = rw ((other_prefix all.given all.gave).all all.ended) at all.typed

  stops_all : (error : Error) (which : Which)
      → StopsComparing (of_source first) (of_source second) error which
      → StopsComparing (of_bytes file) (of_bytes other) error which
  stops_all (errors.Refused fault) First f =
      first_of_all first.1 f.given file fault (prefix f.given f.gave) f.first
  stops_all (errors.Refused fault) Second ((a, whole), f) = (
    (a, all_typed a whole),
    first_of_all second.1 f.given other fault (other_prefix f.given f.gave) f.first,
  )
  stops_all _ which s = tt

  pub decides_all : (result : Result Verdict SameError)
      → DecidesSame (of_source first) (of_source second) result
      → DecidesSame (of_bytes file) (of_bytes other) result
  decides_all (Ok verdicts.Same) (a, b, whole, other_whole, alike) =
      (a, b, all_typed a whole, all_other_typed b other_whole, alike)
  decides_all (Ok (verdicts.Differ place)) (a, b, whole, other_whole, unlike, parts) =
      (a, b, all_typed a whole, all_other_typed b other_whole, unlike, parts)
  decides_all (Err error) s = stops_all error.error error.which s

-- ---- along a reader

-- all that were left were handed out
pub read_out : {R S H X : Type 0} {builds : BuildHasher.Ghosts S H} {hashes : Hasher.Ghosts H}
    (r : ReaderSince R S H builds hashes) (Wrote : List Entry → Type 0) (handed : List Entry)
    (result : Result X Error)
    → MatchResult result (λ _. IsDone r Wrote handed)
    (StopsWriting nothing (source_since r) (None, None))
    → IsReadOut (source_since r) handed result
read_out r Wrote handed (Ok x) d = (d.more, d.all)
read_out r Wrote handed (Err (errors.Refused fault)) (given, gave, (entries, met, appends)) =
    record {
      given = given;
      gave = gave;
      first = first_given (source_since r).1 given entries fault met;
    }
read_out r Wrote handed (Err _) s = tt

-- so many entries were handed out, and more may be left
pub one_fewer : (a : List Entry) (e : Entry) → length (a ++ e ∷ []) < 2 ^ 32
    → length a + 1 < 2 ^ 32
one_fewer a e few = omega (arith, few, length-append a (e ∷ []))

-- ---- along two readers

pub turned : (a b : List Entry) → Agree a b → Agree b a
turned a b g = record { many = sym g.many; bytes = sym g.bytes }

module _ {R S H : Type 0} {builds : BuildHasher.Ghosts S H} {hashes : Hasher.Ghosts H}
    (first : Observed × Observed) (second : ReaderSince R S H builds hashes)
    (comparison : Comparison S H) (a b : List Entry) (e : Entry) where
  pub refused_meets : (error : Error) → GaveError (source_since second) error
      → Meets first second comparison a b e (met_second error)
  refused_meets (errors.Refused fault) met = met
  refused_meets _ met = tt

  -- an entry of the second came, and was compared
  pub compared_meets : (f : Entry) → HasGiven second (b ++ f ∷ [])
      → (place : Option Place) (finding : Option Finding)
      → MatchOption place (finding ≡ None)
      (λ p. IsSomeAnd finding (λ parted. parted ≡ findings.Parted p))
      → Compares comparison a b e f place
      → Meets first second comparison a b e (Ok finding)
  compared_meets f given None finding is compared =
      rw is (record { f = f; given = given; compared = compared })
  compared_meets f given (Some p) None is parts = absurd is
  compared_meets f given (Some p) (Some parted) is parts =
      rw is (record { f = f; given = given; parts = parts })

  -- the second has not ended before the first
  pub not_ended : AreFirst (a ++ e ∷ []) → Agree a b → GaveAll (source_since second) b → ⊥
  not_ended order g all =
      let none : e ∷ [] ≡ [] = no_more all.given b a (e ∷ []) all.typed order (turned a b g) in
      absurd (cc)

module _ {A B S H : Type 0} {builds : BuildHasher.Ghosts S H} {hashes : Hasher.Ghosts H}
    (first : ReaderSince A S H builds hashes) (second : ReaderSince B S H builds hashes) where
  pub stepped : (comparison : Comparison S H) (a b : List Entry) (e : Entry)
      → HasGiven first (a ++ e ∷ []) → (result : Result (Option Finding) SameError)
      → Meets (source_since first) second comparison a b e result
      → StepsOn first second comparison result
  stepped comparison a b e given (Ok None) m =
      record {
        a = a ++ e ∷ [];
        b = b ++ m.f ∷ [];
        first_given = given;
        second_given = m.given;
        compared = m.compared;
      }
  stepped comparison a b e given (Ok (Some findings.Ended)) m = absurd m
  stepped comparison a b e given (Ok (Some (findings.Parted place))) m =
      record {
        a = a;
        b = b;
        e = e;
        f = m.f;
        first_given = given;
        second_given = m.given;
        parts = m.parts;
      }
  stepped comparison a b e given (Ok (Some (findings.Refused fault))) m = ((a ++ e ∷ [], given), m)
  stepped comparison a b e given (Err error) m = m

  pub first_of : (finding : Finding) → IsFound first second finding
      → (a : List Entry) × HasGiven first a
  first_of findings.Ended found = (found.a, found.first_given)
  first_of (findings.Parted place) found = (found.a ++ found.e ∷ [], found.first_given)
  first_of (findings.Refused fault) found = found.0

  -- the sources tell this once both are read out
  module _ (source other : Observed × Observed) where
    -- the first had no more
    whole_first : (h : HaveEnded first second) (rest : List Entry) → GaveAll source (h.a ++ rest)
        → GaveAll source h.a
    whole_first h rest all =
        let none : rest ≡ [] =
        no_more h.file h.a h.a rest h.typed
        (typed_first all.given (h.a ++ rest) [] (rw append-nil all.typed))
        (record { many = refl; bytes = refl }) in
        rw (none, append-nil) at all

    -- and the second has no more either
    pub ended_decides : (h : HaveEnded first second) (result : Result Verdict SameError)
        → (more : List Entry) × GaveAll source (h.a ++ more)
        → IsReadAfter other h.b verdicts.Same result
        → DecidesSame (of_source source) (of_source other) result
    ended_decides h (Ok answer) (rest, all) (same, more, other_all) =
        let whole = whole_first h rest all in
        let none : more ≡ [] =
        no_more whole.given h.a h.b more whole.typed
        (typed_first other_all.given (h.b ++ more) [] (rw append-nil other_all.typed)) h.agree in
        let other_whole = rw (none, append-nil) at other_all in
        let alike : Same h.a h.b =
        same_from_bytes h.a h.b (typed_first whole.given h.a [] (rw append-nil whole.typed))
        (typed_first other_all.given h.b more other_all.typed) h.agree.bytes in
        rw same (h.a, h.b, whole, other_whole, alike)
    ended_decides h (Err error) (rest, all) (is, met) =
        rw is (second_stops source other (h.a ++ rest) error.error all met)

    pub parted_decides : (place : Place) (h : HaveParted first second place)
        (result : Result Verdict SameError)
        → (more : List Entry) × GaveAll source ((h.a ++ h.e ∷ []) ++ more)
        → IsReadAfter other (h.b ++ h.f ∷ []) (verdicts.Differ place) result
        → DecidesSame (of_source source) (of_source other) result
    parted_decides place h (Ok answer) (more, all) (same, rest, other_all) =
        rw same (
          (h.a ++ h.e ∷ []) ++ more,
          (h.b ++ h.f ∷ []) ++ rest,
          all,
          other_all,
          not_same all.given other_all.given h.a h.b h.e h.f more rest place h.parts all.typed
              other_all.typed,
          parting all.given other_all.given h.a h.b h.e h.f more rest place h.parts all.typed
              other_all.typed,
        )
    parted_decides place h (Err error) (more, all) (is, met) =
        rw is (second_stops source other ((h.a ++ h.e ∷ []) ++ more) error.error all met)
