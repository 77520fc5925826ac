-- What is written of rows.
use Rattle.std.proofs.Common.{◌≡◌, ◌∙◌, ◌<◌, ◌+◌, ◌++◌, ℕ, suc, List, [], ◌∷◌, Option, Result, Ok, Err, OnErr, ap, drop, drop-cons, get_or, length, refl, subst, sym, take, take-append-drop}
use Rattle.std.specs.Io.KnownBytes.{Appends}
use Rattle.std.specs.List.{flat_map}
use Rattle.std.proofs.KnownBytes.{Appends-trans}
use Rattle.std.proofs.lemmas.Grind.{flat_map-append}
use Rattle.std.proofs.lemmas.List.{flat_map_more, take_more}
use Rattle.canon3.proofs.Lemmas.Writing.SinkWritesLemmas.{front_of_first, front_of_second}
use Rattle.canon3.specs.SinkWrites.{AppendsFront}

pub on_err : {X E P : Type 0} (r : Result X E) → P → OnErr r P
on_err (Ok x) p = tt
on_err (Err e) p = p

module _ {X : Type 0} (bytes_of : X → List ℕ) (xs : List X) (i : ℕ) (x : X) where
  -- one more row was written
  pub rows_more : (a b c : Option (List ℕ)) → i < length xs → x ≡ get_or xs i x
      → Appends a b (flat_map bytes_of (take i xs)) → Appends b c (bytes_of x)
      → Appends a c (flat_map bytes_of (take (i + 1) xs))
  rows_more a b c low is before one =
      let more : take (i + 1) xs ≡ take i xs ++ x ∷ [] =
      take_more xs i x low ∙ ap (λ (y : X). take i xs ++ y ∷ []) (sym is) in
      subst (Appends a c)
      (flat_map_more bytes_of [] (take i xs) x ∙ ap (flat_map bytes_of) (sym more))
      (Appends-trans a b c (flat_map bytes_of (take i xs)) (bytes_of x) before one)

  -- a front of one more was
  pub rows_front : (a b c : Option (List ℕ)) → i < length xs → x ≡ get_or xs i x
      → Appends a b (flat_map bytes_of (take i xs)) → AppendsFront b c (bytes_of x)
      → AppendsFront a c (flat_map bytes_of xs)
  rows_front a b c low is before one =
      let rest : drop i xs ≡ x ∷ drop (suc i) xs =
      drop-cons xs i x low ∙ ap (λ (y : X). y ∷ drop (suc i) xs) (sym is) in
      front_of_second a b c (flat_map bytes_of (take i xs))
      (bytes_of x ++ flat_map bytes_of (drop (suc i) xs)) (flat_map bytes_of xs)
      (ap (flat_map bytes_of) (sym (take-append-drop i xs))
      ∙ flat_map-append bytes_of (take i xs) (drop i xs)
      ∙ ap (λ (l : List X). flat_map bytes_of (take i xs) ++ flat_map bytes_of l) rest) before
      (front_of_first b c (bytes_of x) (flat_map bytes_of (drop (suc i) xs))
      (bytes_of x ++ flat_map bytes_of (drop (suc i) xs)) refl one)
