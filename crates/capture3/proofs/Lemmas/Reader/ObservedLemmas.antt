-- What is given in turn is given at once, and what is given of known bytes is a prefix of them.
use Rattle.capture3.proofs.Common.{◌≡◌, ◌∙◌, inl, inr, ap, sym, refl, subst, ℕ, Option, None, Some, Result, List, [], ◌++◌, append-nil, Error, Fault, Entry, FirstFault, Reached, append_cancel_left}
use Rattle.std.specs.Io.KnownBytes.{Appends, Consumes}
use Rattle.std.proofs.KnownBytes.{Appends-nil, Appends-trans, Consumes-all, Consumes-nil, Consumes-trans}
use Rattle.capture3.specs.Entries.{IsShownBy}
use Rattle.capture3.specs.Handing.{HandsOutGiven}
use Rattle.capture3.specs.Entry.{Call, Reply, items_of}
use Rattle.capture3.specs.MessageVisit.{HasHeard}
use Rattle.capture3.specs.Observed.{Observed, Gave, GavePrefix, IsSpent}
use Rattle.std.specs.declared.hash.BuildHasher as BuildHasher
use Rattle.std.specs.declared.hash.Hasher as Hasher
use Rattle.capture3.specs.declared.reader.entries.Entries.{Entries}
use Rattle.xdr3.specs.Item.{Item}

pub gave_none : (observed : Observed) → Gave observed observed []
gave_none observed = (Consumes-nil observed.left, Appends-nil observed.given)

pub gave_both : (a b c : Observed) (xs ys : List ℕ) → Gave a b xs → Gave b c ys
    → Gave a c (xs ++ ys)
gave_both a b c xs ys p q = (
  Consumes-trans a.left b.left c.left xs ys p.0 q.0,
  Appends-trans a.given b.given c.given xs ys p.1 q.1,
)

-- what was given before a call of a reader, and in it
pub gave_on : {R S H X : Type 0} {builds : BuildHasher.Ghosts S H} {hashes : Hasher.Ghosts H}
    {observed : R → Observed} {Is : List Entry → X → Entry → Type 0}
    {old new : Entries R S H builds hashes} {given : List ℕ} {handed : List Entry}
    {result : Result (Option X) Error} (first : Observed)
    → Gave first (observed old.source.now) given
    → (a : HandsOutGiven observed Is old new given handed result)
    → Gave first (observed new.source.now) (given ++ a.more)
gave_on {observed = observed} {old = old} {new = new} {given = given} first gave a =
    gave_both first (observed old.source.now) (observed new.source.now) given a.more gave a.consumed

-- a visitor that rests for what it represents represents the entry's items after those before
pub plainly_heard : {V : Type 0} (stands : V → List Item → Type 0) (v : V) (before : List Item)
    (entry : Entry) → HasHeard stands stands v before entry → stands v (before ++ items_of entry)
plainly_heard stands v before (Call items) heard = heard
plainly_heard stands v before (Reply id items) heard = heard
plainly_heard stands v before _ heard = rw append-nil heard

-- the bytes given are a prefix of these, and all of them where the source is spent
pub record IsPrefixOf (observed : Observed) (given bytes : List ℕ) : Type 0 where
  pub rest : List ℕ
  pub split : bytes ≡ given ++ rest
  pub all : IsSpent observed → given ≡ bytes

-- where the source told which bytes were left
module _ (observed : Observed) (given bytes : List ℕ)
    (consumed : Consumes (Some bytes) observed.left given) where
  all_left : IsSpent observed → given ≡ bytes
  all_left end = Consumes-all (Some bytes) observed.left given [] given consumed end.1 refl

  pub prefix_of_left : IsPrefixOf observed given bytes
  prefix_of_left = by_left observed.left consumed
    where
      by_left : (left : Option (List ℕ)) → Consumes (Some bytes) left given
          → IsPrefixOf observed given bytes
      by_left None c = absurd c
      by_left (Some rest) c = record { rest = rest; split = c; all = all_left }

pub prefix_of_observed : (old new : Observed) (given bytes : List ℕ) → old.left ≡ Some bytes
    → Gave old new given → IsPrefixOf new given bytes
prefix_of_observed old new given bytes tells gave =
    prefix_of_left new given bytes
    (subst (λ (o : Option (List ℕ)). Consumes o new.left given) tells gave.0)

-- where the source keeps which bytes it gave
module _ (old new : Observed) (given bytes : List ℕ) (p : GavePrefix old new bytes)
    (gave : Gave old new given) where
  appended : Appends (Some p.start) (Some (p.start ++ p.given)) given
  appended =
      subst (λ (o : Option (List ℕ)). Appends o (Some (p.start ++ p.given)) given) p.was
      (subst (λ (o : Option (List ℕ)). Appends old.given o given) p.now gave.1)

  given_is : given ≡ p.given
  given_is = append_cancel_left p.start given p.given (sym appended)

  pub prefix_of_kept : IsPrefixOf new given bytes
  prefix_of_kept = record {
    rest = p.rest;
    split = p.split ∙ ap (λ (l : List ℕ). l ++ p.rest) (sym given_is);
    all =
        λ end.
        given_is
        ∙ sym
        (p.split ∙ ap (λ (l : List ℕ). p.given ++ l) (p.all end) ∙ append-nil p.given);
  }

-- the fault that the bytes given show is the first of all bytes
pub shown_of_all : (observed : Observed) (given bytes : List ℕ) (handed : List Entry)
    (fault : Fault)
    → IsPrefixOf observed given bytes → IsShownBy observed given handed fault
    → FirstFault bytes fault × Reached bytes handed
shown_of_all observed given bytes handed fault p (inl whatever) =
    subst (λ (b : List ℕ). FirstFault b fault × Reached b handed) (sym p.split) (whatever p.rest)
shown_of_all observed given bytes handed fault p (inr (end, first, reached)) =
    subst (λ (b : List ℕ). FirstFault b fault × Reached b handed) (p.all end) (first, reached)
