-- Wholes by their parts.
use Rattle.std.proofs.Common.{◌≡◌, ℕ, zero, suc, ◌+◌, ◌-◌, ◌<◌, ◌≤◌, Bool, List, [], ◌∷◌, ◌++◌, length, refl, sym, ap, subst, ◌∙◌, append_assoc, append-nil, arith, inl, inr}
use Rattle.xdr3.proofs.Common.{length-append, big_bytes, length-bytes_high_first, Reason, Kind, Item, Word, Hyper, Fixed, WriteVerf, Opaque, Spells, word_bytes, residue, zero_spelling, Layout, Shape, choose, fixed, write_verf, both, linked, array_named, is_at_most, sized, repeated, TooLong, links, Fits, Reads, Refusal, IsShort, ThenWord, RefusesWindow, Refuses}
use Rattle.std.proofs.lemmas.Bool.{le-leb}
use Rattle.xdr3.specs.Parts.{BeginsWith, AfterByParts, IsPlaceIn, ReadsTimes, ChooseByParts, HyperByParts, EightByParts, OpaqueByParts, NothingByParts, BothByParts, LinkedByParts, CountedByParts, SizedByParts}
use Rattle.xdr3.proofs.Lemmas.Reading.Items.{Spells-append, Spells-one, length_of_spelling}

-- ---- fronts

-- more items that fit another shape, after a front
joins : (whole : Shape) (bytes front more left back : List ℕ) (xs ys : List Item)
    → Fits whole (xs ++ ys) → Spells xs front → Spells ys back → bytes ≡ front ++ more
    → more ≡ back ++ left → Reads whole bytes (xs ++ ys) left
joins whole bytes front more left back xs ys f s t e g = record {
  front = front ++ back;
  fits = f;
  spells = Spells-append xs ys front back s t;
  whole = e ∙ ap (λ (l : List ℕ). front ++ l) g ∙ sym (append_assoc front back left);
}

pub word_spelled : (name : List ℕ) (n : ℕ) (bytes more : List ℕ) → BeginsWith n bytes more
    → Spells (Word name n ∷ []) (word_bytes n)
word_spelled name n bytes more b = Spells-one (Word name n) (word_bytes n) (b.fits, refl)

len4 : (n : ℕ) → length (word_bytes n) ≡ 4
len4 n = length-bytes_high_first 4 n

-- what a word and more items are
after_word : (whole : Shape) (name : List ℕ) (n : ℕ) (bytes more left back : List ℕ)
    (ys : List Item) → BeginsWith n bytes more → Fits whole (Word name n ∷ ys) → Spells ys back
    → more ≡ back ++ left → Reads whole bytes (Word name n ∷ ys) left
after_word whole name n bytes more left back ys b f t g =
    joins whole bytes (word_bytes n) more left back (Word name n ∷ []) ys f
    (word_spelled name n bytes more b) t b.is g

regrouped : (a b c d : List ℕ) → a ++ (b ++ (c ++ d)) ≡ ((a ++ b) ++ c) ++ d
regrouped a b c d = sym (append_assoc (a ++ b) c d ∙ append_assoc a b (c ++ d))

-- what is refused after a word
then_word : (name : List ℕ) (n : ℕ) (R : Refusal) (bytes more : List ℕ) (at : ℕ) (reason : Reason)
    → BeginsWith n bytes more → R more at reason → ThenWord name n R bytes (4 + at) reason
then_word name n R bytes more at reason b r = (
  Word name n ∷ [],
  word_bytes n,
  more,
  at,
  refl,
  word_spelled name n bytes more b,
  b.is,
  r,
  omega (arith, len4 n),
)

-- ---- the cases

pub choose_by_parts : (name : List ℕ) (accepted : ℕ → Bool) (other : Reason) (next : ℕ → Shape)
    → ChooseByParts name accepted other next
choose_by_parts name accepted other next = record {
  fits = λ n more a f. (n, more, a, f, refl);
  reads =
      λ n bytes more left items b a r.
      after_word (choose name accepted other next) name n bytes more left r.front items b
      (n, items, a, r.fits, refl) r.spells r.whole;
  refuses_word = λ bytes at reason r. inl r;
  refuses_next =
      λ n bytes more at reason b a r.
      inr (n, a, then_word name n (Refuses (next n)) bytes more at reason b r);
}

pub hyper_by_parts : (name : List ℕ) → HyperByParts name
hyper_by_parts name = record {
  reads =
      λ n bytes left h e.
      record {
        front = big_bytes 8 n;
        fits = (n, refl);
        spells = Spells-one (Hyper name n) (big_bytes 8 n) (h, refl);
        whole = e;
      };
  refuses = λ bytes h. (h, refl, refl);
}

pub fixed_by_parts : (name : List ℕ) → EightByParts (fixed name) (Fixed name)
fixed_by_parts name = record {
  reads =
      λ run left l b.
      record {
        front = run;
        fits = (run, refl);
        spells = Spells-one (Fixed name run) run (l, b, refl);
        whole = refl;
      };
  refuses = λ bytes h. (h, refl, refl);
}

pub write_verf_by_parts : (name : List ℕ) → EightByParts (write_verf name) (WriteVerf name)
write_verf_by_parts name = record {
  reads =
      λ run left l b.
      record {
        front = run;
        fits = (run, refl);
        spells = Spells-one (WriteVerf name run) run (l, b, refl);
        whole = refl;
      };
  refuses = λ bytes h. (h, refl, refl);
}

pub opaque_by_parts : (kind : Kind) (name : List ℕ) (max : ℕ) → OpaqueByParts kind name max
opaque_by_parts kind name max = record {
  reads = λ bytes more run residual left w e m b l c. record {
    front = word_bytes (length run) ++ (run ++ residual);
    fits = (run, m, refl);
    spells =
        Spells-one (Opaque kind name run) (word_bytes (length run) ++ (run ++ residual))
        (residual, w.fits, b, l, c, refl);
    whole =
        w.is ∙ ap (λ (t : List ℕ). word_bytes (length run) ++ t) e
        ∙ sym (append_assoc (word_bytes (length run)) (run ++ residual) left);
  };
  refuses_length = λ bytes at reason r. inl r;
  refuses_run =
      λ n bytes more w m h.
      inr (n, m, then_word name n (IsShort (n + residue n)) bytes more 0 _ w (h, refl, refl));
}

pub nothing_by_parts : NothingByParts
nothing_by_parts bytes = record { front = []; fits = refl; spells = refl; whole = refl }

pub both_by_parts : (a b : Shape) → BothByParts a b
both_by_parts a b = record {
  fits = λ xs ys f g. (xs, ys, f, g, refl);
  reads =
      λ bytes more left xs ys r s.
      joins (both a b) bytes r.front more left s.front xs ys (xs, ys, r.fits, s.fits, refl)
      r.spells s.spells r.whole s.whole;
  refuses_first = λ bytes at reason r. inl r;
  refuses_second = λ bytes more xs at further reason r s p.
      inr (
        xs,
        r.front,
        more,
        further,
        r.fits,
        r.spells,
        r.whole,
        s,
        omega (arith, p, ap length r.whole, length-append r.front more),
      );
}

-- a link before the links that a list has
pub linked_by_parts : (name : List ℕ) (shape : Shape) → LinkedByParts name shape
linked_by_parts name shape = record {
  reads_none =
      λ bytes left b.
      after_word (linked name shape) name 0 bytes left left [] [] b ([], tt, refl) refl refl;
  reads_more = λ bytes first more left part parts b r s.
      let f = s.fits in
      let is : Word name 1 ∷ (part ++ parts) ≡ links name (part ∷ f.0) ++ Word name 0 ∷ [] =
      ap (λ (xs : List Item). Word name 1 ∷ (part ++ xs)) f.2
      ∙ sym (append_assoc (Word name 1 ∷ part) (links name f.0) (Word name 0 ∷ [])) in
      after_word (linked name shape) name 1 bytes first left (r.front ++ s.front) (part ++ parts) b
      (part ∷ f.0, (r.fits, f.1), is)
      (Spells-append part parts r.front s.front r.spells s.spells) (r.whole
      ∙ ap (λ (l : List ℕ). r.front ++ l) s.whole
      ∙ sym (append_assoc r.front s.front left));
  refuses_word =
      λ bytes at reason r. ([], [], bytes, at, ([], tt, refl), refl, refl, inl r, omega arith);
  refuses_part =
      λ bytes first at reason b r. (
        [],
        [],
        bytes,
        4 + at,
        ([], tt, refl),
        refl,
        refl,
        inr (then_word name 1 (Refuses shape) bytes first at reason b r),
        omega arith,
      );
  refuses_later = λ bytes first more part at further reason b r s p.
      let f = s.4 in (
        (Word name 1 ∷ part) ++ s.0,
        (word_bytes 1 ++ r.front) ++ s.1,
        s.2,
        s.3,
        (part ∷ f.0, (r.fits, f.1), ap (λ (xs : List Item). (Word name 1 ∷ part) ++ xs) f.2),
        Spells-append (Word name 1 ∷ part) s.0 (word_bytes 1 ++ r.front) s.1
            (Spells-append (Word name 1 ∷ []) part (word_bytes 1) r.front
            (word_spelled name 1 bytes first b) r.spells) s.5,
        b.is
            ∙ ap (λ (l : List ℕ). word_bytes 1 ++ l)
            (r.whole ∙ ap (λ (l : List ℕ). r.front ++ l) s.6)
            ∙ regrouped (word_bytes 1) r.front s.1 s.2,
        s.7,
        omega (
          arith,
          p,
          s.8,
          ap length b.is,
          ap length r.whole,
          length-append (word_bytes 1) first,
          length-append r.front more,
          length-append (word_bytes 1 ++ r.front) s.1,
          length-append (word_bytes 1) r.front,
        ),
      );
}

-- ---- counted arrays

times_read : (shape : Shape) (n : ℕ) (bytes : List ℕ) (items : List Item) (left : List ℕ)
    → ReadsTimes shape n bytes items left → Reads (repeated n shape) bytes items left
times_read shape zero bytes items left r =
    record {
      front = [];
      fits = r.0;
      spells = subst (λ (xs : List Item). Spells xs []) (sym r.0) refl;
      whole = sym r.1;
    }
times_read shape (suc n) bytes items left r =
    let by_parts = both_by_parts shape (repeated n shape) in
    let rest = times_read shape n r.2 r.1 left r.4 in
    subst (λ (xs : List Item). Reads (repeated (suc n) shape) bytes xs left) (sym r.5)
    (by_parts.reads bytes r.2 left r.0 r.1 r.3 rest)

-- what parts leave is no longer
times_leave : (shape : Shape) (n : ℕ) (bytes : List ℕ) (items : List Item) (left : List ℕ)
    → ReadsTimes shape n bytes items left → length left ≤ length bytes
times_leave shape n bytes items left r =
    let all = times_read shape n bytes items left r in
    omega (arith, ap length all.whole, length-append all.front left)

times_refuse : (shape : Shape) (n k : ℕ) (bytes more : List ℕ) (items : List Item)
    (at further : ℕ) (reason : Reason) → k < n → ReadsTimes shape k bytes items more
    → Refuses shape more further reason → IsPlaceIn bytes more at further
    → Refuses (repeated n shape) bytes at reason
times_refuse shape zero k bytes more items at further reason h r s p = absurd (omega arith)
times_refuse shape (suc n) zero bytes more items at further reason h r s p =
    let here : more ≡ bytes = r.1 in
    let place : further ≡ at = omega (arith, p, ap length here) in
    (both_by_parts shape (repeated n shape)).refuses_first bytes at reason
    (subst (λ (i : ℕ). Refuses shape bytes i reason) place
    (subst (λ (l : List ℕ). Refuses shape l further reason) here s))
times_refuse shape (suc n) (suc k) bytes more items at further reason h r s p =
    let short = times_leave shape k r.2 r.1 more r.4 in
    let later = length r.2 - length more + further in
    let inner : IsPlaceIn r.2 more later further = omega (arith, short) in
    (both_by_parts shape (repeated n shape)).refuses_second bytes r.2 r.0 at later reason r.3
    (times_refuse shape n k r.2 more r.1 later further reason (omega arith) r.4 s inner)
    (omega (arith, p, short))

pub counted_by_parts : (name : List ℕ) (max : ℕ) (shape : Shape) → CountedByParts name max shape
unfolding array_named
counted_by_parts name max shape =
    let by_parts = choose_by_parts name (is_at_most max) TooLong (λ n. repeated n shape) in
    record {
      reads = λ n bytes first left items b m r.
          by_parts.reads n bytes first left items b (le-leb n max m)
          (times_read shape n first items left r);
      refuses_count = by_parts.refuses_word;
      refuses_part = λ n k bytes first more items at further reason b m h r s p.
          let short = times_leave shape k first items more r in
          let inner = length first - length more + further in
          let size : length bytes ≡ 4 + length first =
          omega (arith, ap length b.is, length-append (word_bytes n) first, len4 n) in
          let place : 4 + inner ≡ at = omega (arith, p, short, size) in
          subst (λ (i : ℕ). Refuses (array_named name max shape) bytes i reason) place
          (by_parts.refuses_next n bytes first inner reason b (le-leb n max m)
          (times_refuse shape n k first more items inner further reason h r s
          (omega (arith, short))));
    }

pub sized_by_parts : (name : List ℕ) (shape : Shape) → SizedByParts name shape
sized_by_parts name shape = record {
  reads = λ n bytes window left items b l m r.
      let all : window ≡ r.front = r.whole ∙ append-nil r.front in
      let len : length (zero_spelling items) ≡ n =
      omega (arith, length_of_spelling items r.front r.spells, ap length all) in
      after_word (sized name shape) name n bytes (window ++ left) left r.front items b
      (items, r.fits, omega (arith, len), ap (λ (k : ℕ). Word name k ∷ items) (sym len))
      r.spells (ap (λ (w : List ℕ). w ++ left) all);
  refuses_length = λ bytes at reason r. inl r;
  refuses_cut =
      λ n bytes more b m h.
      inr (
        n,
        m,
        then_word name n (RefusesWindow n (Fits shape) (Refuses shape)) bytes more 0 _ b
            (inl (h, refl, refl)),
      );
  refuses_inside = λ n bytes window left at reason b l m r.
      inr (
        n,
        m,
        then_word name n (RefusesWindow n (Fits shape) (Refuses shape)) bytes (window ++ left)
            at _ b (inr (window, left, refl, l, inl (reason, r, refl))),
      );
  refuses_over = λ n bytes window left over items at b l m r h p.
      let place : at ≡ length (word_bytes n) + length r.front =
      omega (arith, p, len4 n, l, ap length r.whole, length-append r.front over) in
      inr (
        n,
        m,
        (
          Word name n ∷ [],
          word_bytes n,
          window ++ left,
          length r.front,
          refl,
          word_spelled name n bytes (window ++ left) b,
          b.is,
          inr (
            window,
            left,
            refl,
            l,
            inr (
              items,
              r.front,
              over,
              0,
              r.fits,
              r.spells,
              r.whole,
              (h, refl, refl),
              omega arith,
            ),
          ),
          place,
        ),
      );
}

pub after_by_parts : (shape : Shape) (next : List Item → Layout) → AfterByParts shape next
after_by_parts shape next = record {
  fits = λ xs ys f g. (xs, ys, f, g, refl);
  reads = λ bytes more left xs ys r s. (xs, ys, more, r, s, refl);
  refuses_first = λ bytes at reason r. inl r;
  refuses_next = λ bytes more xs at further reason r s p.
      inr (
        xs,
        r.fits,
        (
          xs,
          r.front,
          more,
          further,
          refl,
          r.spells,
          r.whole,
          s,
          omega (arith, p, ap length r.whole, length-append r.front more),
        ),
      );
}
