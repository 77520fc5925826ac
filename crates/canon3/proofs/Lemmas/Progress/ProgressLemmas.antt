-- How far the entries of a capture have come.
use Rattle.std.proofs.Common.{◌≤◌, length}
use Rattle.canon3.proofs.Common.{◌≡◌, ◌⊎◌, inl, inr, ℕ, ◌+◌, List, [], ◌∷◌, ◌++◌, Option, None, Some, refl, arith, Client, Server, Place, Entry, Begin, Call, Turn, Reply, Kind, HasPassed, IsOfKind, Side, Progress}
use Rattle.capture3.specs.declared.fault.Place.TheVariants as places
use Rattle.capture3.specs.declared.reader.entry.Kind.TheVariants as kinds
use Rattle.canon3.specs.Parting.{connections, records_after, IsMessageOf, IsPlaceOf, first_message, second_message, first_ends, second_ends, next_record}
use Rattle.canon3.specs.machinery.ProgressSteps.{place_from, side_of_kind}

-- ---- one entry more

pub connections-append : (a b : List Entry) → connections (a ++ b) ≡ connections a + connections b
connections-append [] b = omega arith
connections-append (Begin ∷ a) b = omega (arith, connections-append a b)
connections-append (_ ∷ a) b = connections-append a b

pub records-append : (n : ℕ) (a b : List Entry)
    → records_after n (a ++ b) ≡ records_after (records_after n a) b
records-append n [] b = refl
records-append n (Begin ∷ a) b = records-append 0 a b
records-append n (_ ∷ a) b = records-append _ a b

pub connections_within : (a : List Entry) → connections a ≤ length a
connections_within [] = omega arith
connections_within (Begin ∷ a) = omega (arith, connections_within a)
connections_within (_ ∷ a) = omega (arith, connections_within a)

pub records_within : (n : ℕ) (a : List Entry) → records_after n a ≤ n + length a
records_within n [] = omega arith
records_within n (Begin ∷ a) = omega (arith, records_within 0 a)
records_within n (Call items ∷ a) = omega (arith, records_within (n + 1) a)
records_within n (Turn ∷ a) = omega (arith, records_within 0 a)
records_within n (Reply id items ∷ a) = omega (arith, records_within (n + 1) a)
records_within n (_ ∷ a) = omega (arith, records_within n a)

-- whose message an entry is, and what the kind tells of it
abbrev pub side_in : Entry → Option Side
side_in (Call items) = Some Client
side_in (Reply id items) = Some Server
side_in _ = None

pub record IsPassedAs (kind : Kind) (one : Entry) : Type 0 where
  pub side : side_of_kind kind ≡ side_in one

pub passed_by : (kind : Kind) (one : Entry) → IsOfKind kind one → IsPassedAs kind one
passed_by (kinds.Call id) one is = rw is.2 (record { side = refl })
passed_by (kinds.Reply id) one is = rw is.1 (record { side = refl })
passed_by _ one is = rw is (record { side = refl })

-- ---- a place

abbrev IsSided : Entry → Type 0
IsSided e = (side : Side) × (side_in e ≡ Some side) × IsMessageOf side (Some e)

sided : (e : Entry) → (side_in e ≡ None) ⊎ IsSided e
sided (Call m) = inr (Client, refl, tt)
sided (Reply id m) = inr (Server, refl, tt)
sided _ = inl refl

no_side : (side : Side) (e : Entry) → IsMessageOf side (Some e) → side_in e ≡ None → ⊥
no_side Client (Call m) h e = absurd (cc)
no_side Server (Reply id m) h e = absurd (cc)
no_side Client _ h e = absurd h
no_side Server _ h e = absurd h

module _ (progress : Progress) (before : List Entry) (b : HasPassed progress before) where
  next_is : (side : Side)
      → next_record side before ≡ places.Record progress.connections side (1 + progress.records) 0
  next_is side = rw (b.place.connections_are, b.place.records_are)

  ending : (e f : Option Entry) (place : Place) → ((side : Side) → IsMessageOf side e → ⊥)
      → ((side : Side) → IsMessageOf side f → ⊥) → IsPlaceOf before e f place
      → IsPlaceOf before e f (places.Record (1 + progress.connections) Client 0 0)
  ending e f place none other_none (first_message side h) = absurd (none side h)
  ending e f place none other_none (second_message side h) = absurd (other_none side h)
  ending e f place none other_none first_ends = rw b.place.connections_are first_ends
  ending e f place none other_none second_ends = rw b.place.connections_are second_ends

  -- the place of two entries that differ, where they have one
  pub place_is : (e f : Entry) → (e ≡ f → side_in e ≡ None → ⊥)
      → (e ≡ f) ⊎ ((place : Place) × IsPlaceOf before (Some e) (Some f) place)
      → IsPlaceOf before (Some e) (Some f) (place_from progress (side_in e) (side_in f))
  place_is e f differ there =
      elim (sided e) [
        | inl none ↦ elim (sided f) [
          | inl other_none ↦ rw (none, other_none) (elim there [
            | inl same ↦ absurd (differ same none)
            | inr p ↦ ending (Some e) (Some f) p.0 (λ side h. no_side side e h none)
                (λ side h. no_side side f h other_none) p.1
          ])
          | inr s ↦ rw (none, s.1, ← next_is s.0) (second_message s.0 s.2)
        ]
        | inr s ↦ rw (s.1, ← next_is s.0) (first_message s.0 s.2)
      ]
