-- What was rewritten, entry by entry.
use Rattle.canon3.proofs.Common.{◌≡◌, ℕ, ◌+◌, List, [], ◌∷◌, ◌++◌, refl, sym, ap, ◌∙◌, subst, arith, Option, Result, Ok, Err, Appends, Error, magic, Entry, Begin, End, MessageWriter, bytes_of, canonical, AreFirst, IsGoing, WriterRests, connections, AppendsFront, Appends-trans}
use Rattle.std.proofs.lemmas.Bool.Decides.{nat_tests}
use Rattle.std.specs.Prelude.{MatchResult}
use Rattle.canon3.specs.Canonical.{canonical_bytes}
use Rattle.canon3.specs.machinery.MessageWriter.{values_before}
use Rattle.canon3.specs.machinery.Spelling.{Follows}
use Rattle.canon3.specs.Bytes.{magic_before}
use Rattle.canon3.proofs.Lemmas.Order.First.{first_in_order}
use Rattle.canon3.proofs.Lemmas.Canonical.Growing.{are_some, form_grows, magic_unless}
use Rattle.canon3.proofs.Lemmas.Order.Order.{Stage, Between, Over, end, Runs, steps}
use Rattle.canon3.proofs.Lemmas.Writing.SinkWritesLemmas.{front_of_first, front_of_second}

-- ---- the magic

-- nothing comes after a capture's end
none_after : (entries : List Entry) (one : Entry) (s : Stage) → Runs Over (entries ++ one ∷ []) s
    → ⊥
none_after [] one s (steps x r) = elim x [ ]
none_after (e ∷ entries) one s (steps x r) = elim x [ ]

no_magic : (count : ℕ) → magic_before (1 + count) ≡ []
no_magic count = grind (arith, nat_tests)

-- before the first entry, and then not
magic_is : (entries : List Entry) (one : Entry) (s : Stage) → Runs Between (entries ++ one ∷ []) s
    → magic_before (connections entries) ≡ magic_unless (are_some entries)
magic_is [] one s r = refl
magic_is (Begin ∷ entries) one s r = no_magic (connections entries)
magic_is (End ∷ entries) one s (steps end r) = absurd (none_after entries one s r)
magic_is (_ ∷ entries) one s (steps x r) = elim x [ ]

pub the_magic : (entries : List Entry) (one : Entry) (count : ℕ) → AreFirst (entries ++ one ∷ [])
    → count ≡ connections entries → magic_before count ≡ magic_unless (are_some entries)
the_magic entries one count first is =
    let order = first_in_order (entries ++ one ∷ []) first in
    ap magic_before is ∙ magic_is entries one order.stage order.run

-- ---- one entry more, where the sink had the old bytes first, and then these in turn

module _ {S H : Type 0} (n : MessageWriter S H) (old before between after : Option (List ℕ))
    (entries : List Entry) (one : Entry) (count : ℕ) (first : AreFirst (entries ++ one ∷ []))
    (counted : count ≡ connections entries)
    (so_far : Appends old before (bytes_of (canonical entries))) where
  with_magic : Appends before between (magic_before count)
      → Appends old between (bytes_of (canonical entries) ++ magic_unless (are_some entries))
  with_magic magic =
      Appends-trans old before between _ _ so_far
      (subst (Appends before between) (the_magic entries one count first counted) magic)

  pub written_or_cut : {X : Type 0} (r : Result X Error)
      → Appends before between (magic_before count) → Follows n between after entries one r
      → MatchResult r (λ _. IsGoing n × WriterRests n (values_before (entries ++ one ∷ []))
      × Appends old after (canonical_bytes (entries ++ one ∷ [])))
      (λ _. AppendsFront old after (canonical_bytes (entries ++ one ∷ [])))
  written_or_cut (Ok x) magic (going, stands, followed) = (
    going,
    stands,
    subst (Appends old after) (sym (form_grows entries one first))
        (Appends-trans old between after _ _ (with_magic magic) followed),
  )
  written_or_cut (Err error) magic cut =
      front_of_second old between after _ _ _ (form_grows entries one first) (with_magic magic) cut

  -- the magic was cut
  pub cut_in_magic : AppendsFront before between (magic_before count)
      → AppendsFront old between (bytes_of (canonical (entries ++ one ∷ [])))
  cut_in_magic cut =
      front_of_first old between _ _ _ (form_grows entries one first)
      (front_of_second old before between _ _ _ refl so_far
      (subst (AppendsFront before between) (the_magic entries one count first counted) cut))
