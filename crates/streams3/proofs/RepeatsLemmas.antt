-- Bytes that were recorded again.
use Rattle.std.proofs.Common.{◌≡◌, ◌≢◌, ◌≤◌, ◌<◌, ℕ, zero, suc, ◌+◌, ◌-◌, ◌^◌, List, [], ◌∷◌, ◌++◌, Option, None, Some, length, get_or, max, min, take, refl, sym, ◌∙◌, ap, ap₂, subst, arith, append_assoc, ◌⊎◌, inl, inr}
use Rattle.std.specs.List.{All}
use Rattle.std.proofs.lemmas.Bool.{cases_lt}
use Rattle.std.proofs.lemmas.List.{append-nil, get_or_default}
use Rattle.std.proofs.lemmas.List.Elements.{All-append}
use Rattle.streams3.specs.declared.runs.Pair.{Pair}
use Rattle.streams3.specs.declared.runs.Run.{Run}
use Rattle.streams3.specs.Repeats.{AreRepeats, Has, IsPaired, IsPartOf}
use Rattle.streams3.specs.Runs.{HasBytes, Lie, or_else, spot_in, spot_of}
use Rattle.streams3.specs.machinery.Log.{end_at, no_run, part_of, nth_run}
use Rattle.streams3.specs.machinery.Parting.{AreParted, IsOneOf}
use Rattle.streams3.specs.machinery.Repeating.{AddsRepeats, AddsRepeat, AreAgain, Repeats}
use Rattle.streams3.proofs.RunsLemmas.{cases_has, or_none_right, shown, part_spot, beyond_next, earlier, has_it, later, lie_sound, shown, spot_at}

-- ---- lists

all_map : {A : Type 0} {P Q : A → Type 0} (xs : List A) → ((x : A) → P x → Q x) → All P xs
    → All Q xs
all_map xs f a = λ k d lt. f (get_or xs k d) (a k d lt)

one_of : {A : Type 0} (P : A → Type 0) (x : A) → P x → All P (x ∷ [])
one_of P x h zero d lt = h
one_of P x h (suc k) d lt = absurd (omega (arith, lt))

paired_left : (xs ys : List Pair) (run : Run) (p : ℕ) → IsPaired xs run p
    → IsPaired (xs ++ ys) run p
paired_left [] ys run p h = absurd h
paired_left (x ∷ xs) ys run p h =
    elim h [ inl e ↦ inl e | inr k ↦ inr (paired_left xs ys run p k) ]

paired_right : (xs ys : List Pair) (run : Run) (p : ℕ) → IsPaired ys run p
    → IsPaired (xs ++ ys) run p
paired_right [] ys run p h = h
paired_right (x ∷ xs) ys run p h = inr (paired_right xs ys run p h)

-- ---- where a byte lies

pub record IsIn (rs : List Run) (p : ℕ) : Type 0 where
  pub index : ℕ
  pub within : index < length rs
  pub has : Has (nth_run rs index) p

pub where_it : (rs : List Run) (p : ℕ) → spot_of rs p ≢ None → IsIn rs p
where_it [] p n = absurd (n refl)
where_it (r ∷ rs) p n =
    elim (cases_has r p) [
      | inl h ↦ record { index = 0; within = omega arith; has = h }
      | inr h ↦
          let k : IsIn rs p = where_it rs p (λ e. n (ap₂ or_else h e)) in
          record { index = suc k.index; within = omega (arith, k.within); has = k.has }
    ]

-- ---- one pair

runs_equal : {p1 p2 a1 a2 s1 s2 f1 f2 : ℕ} → p1 ≡ p2 → a1 ≡ a2 → s1 ≡ s2 → f1 ≡ f2 →
    let R : Type 0 = Run in
    let one : R = record { position = p1; at = a1; size = s1; frame = f1 } in
    let two : R = record { position = p2; at = a2; size = s2; frame = f2 } in
    one ≡ two
runs_equal p a s f = cc

abbrev at_of : Option (ℕ × ℕ) → ℕ
at_of None = 0
at_of (Some x) = x.0

abbrev frame_of : Option (ℕ × ℕ) → ℕ
frame_of None = 0
frame_of (Some x) = x.1

-- runs of the same positions that lie in one place are one
same_place : (a b : Run) (p : ℕ) → a.position ≡ b.position → a.size ≡ b.size → Has a p → Has b p
    → spot_in b p ≡ spot_in a p → a ≡ b
same_place a b p is_p is_s h k e =
    let f : Some (b.at + (p - b.position), b.frame) ≡ Some (a.at + (p - a.position), a.frame) =
    sym (has_it b p k.0 k.1) ∙ e ∙ has_it a p h.0 h.1 in
    let at : b.at + (p - b.position) ≡ a.at + (p - a.position) = ap at_of f in
    let frame : b.frame ≡ a.frame = ap frame_of f in
    runs_equal is_p (omega (arith, at, is_p)) is_s (sym frame)

-- where a run and a payload meet
pub record Meets (runs : List Run) (run : Run) (i start stop : ℕ) : Type 0 where
  pub within : i < length runs
  pub begins : start ≡ max (nth_run runs i).position run.position
  pub ends : stop ≡ min (end_at runs i) (run.position + run.size)
  pub some : start < stop

pub is_pair : (runs : List Run) (run : Run) (i start stop : ℕ) → Lie 0 (2 ^ 63) runs
    → Meets runs run i start stop
    → (part_of (nth_run runs i) start stop ≢ part_of run start stop)
    → Repeats runs run
    (record { first = part_of (nth_run runs i) start stop; again = part_of run start stop })
is_pair runs run i start stop order m not =
    let r = nth_run runs i in
    let start_is = m.begins in
    let stop_is = m.ends in
    let some = m.some in
    record {
      some = omega (arith, some);
      position = refl;
      size = refl;
      first = λ p h.
          spot_at i runs no_run p 0 (2 ^ 63) order m.within (omega (arith, h.0, start_is))
          (omega (arith, h.1, stop_is, some))
          ∙ sym (has_it r p (omega (arith, h.0, start_is)) (omega (arith, h.1, stop_is, some)))
          ∙ sym (part_spot r start stop p (omega (arith, start_is)) (omega (arith, stop_is)) h.0
          (omega (arith, h.1, some)));
      again = λ p h.
          sym (part_spot run start stop p (omega (arith, start_is)) (omega (arith, stop_is)) h.0
          (omega (arith, h.1, some)));
      elsewhere = λ p h e.
          not (same_place (part_of r start stop) (part_of run start stop) p refl refl h h e);
    }

-- what a payload shares with a run that does not lie before or after it
pub meets : (runs : List Run) (run : Run) (i start stop : ℕ) → Lie 0 (2 ^ 63) runs → HasBytes run
    → i < length runs → (nth_run runs i).position < run.position + run.size
    → run.position < end_at runs i → start ≡ max (nth_run runs i).position run.position
    → stop ≡ min (end_at runs i) (run.position + run.size) → Meets runs run i start stop
meets runs run i start stop order sound within low high begins ends =
    let own : HasBytes (nth_run runs i) = lie_sound i runs no_run 0 (2 ^ 63) order within in
    record {
      within = within;
      begins = begins;
      ends = ends;
      some = omega (arith, low, high, begins, ends, sound.0, own.0);
    }

-- ---- the pairs of one payload

-- those with the first i runs follow others
pub record Repeating (runs : List Run) (run : Run) (before now : List Pair) (i : ℕ) : Type 0 where
  pub within : i ≤ length runs
  pub beyond : i < length runs → run.position < end_at runs i
  pub more : List Pair
  pub is : now ≡ before ++ more
  pub only : All (Repeats runs run) more
  pub all : (j p : ℕ) → j < i → j < length runs → Has (nth_run runs j) p → Has run p
      → spot_in run p ≢ spot_in (nth_run runs j) p → IsPaired more run p

pub repeating_none : (runs : List Run) (run : Run) (pairs : List Pair) (i : ℕ) → i ≤ length runs
    → Lie 0 run.position (take i runs) → (i < length runs → run.position < end_at runs i)
    → Repeating runs run pairs pairs i
repeating_none runs run pairs i within before beyond = record {
  within = within;
  beyond = beyond;
  more = [];
  is = sym (append-nil pairs);
  only = λ k d lt. absurd (omega (arith, lt));
  all = λ j p lt there has own ne.
      absurd (omega (arith, earlier i j runs no_run 0 run.position before lt there, has.1, own.0));
}

pub repeating_more : (runs : List Run) (run : Run) (before now new : List Pair) (i start stop : ℕ)
    → Lie 0 (2 ^ 63) runs → Meets runs run i start stop → Repeating runs run before now i
    → AddsRepeat (part_of (nth_run runs i) start stop) (part_of run start stop) now new
    → Repeating runs run before new (i + 1)
repeating_more runs run before now new i start stop order m h adds =
    let r = nth_run runs i in
    let first = part_of r start stop in
    let again = part_of run start stop in
    let start_is = m.begins in
    let stop_is = m.ends in
    let some = m.some in
    let beyond : i + 1 < length runs → run.position < end_at runs (i + 1) =
    λ lt. beyond_next runs i run.position order lt (h.beyond m.within) in
    let in_first : (p : ℕ) → Has r p → Has run p → spot_in first p ≡ spot_in r p =
    λ p a b.
    part_spot r start stop p (omega (arith, start_is)) (omega (arith, stop_is))
    (omega (arith, start_is, a.0, b.0)) (omega (arith, stop_is, a.1, b.1)) in
    let in_again : (p : ℕ) → Has r p → Has run p → spot_in again p ≡ spot_in run p =
    λ p a b.
    part_spot run start stop p (omega (arith, start_is)) (omega (arith, stop_is))
    (omega (arith, start_is, a.0, b.0)) (omega (arith, stop_is, a.1, b.1)) in
    elim adds [
      | inl same ↦ record {
        within = omega (arith, m.within);
        beyond = beyond;
        more = h.more;
        is = same.1 ∙ h.is;
        only = h.only;
        all = λ j p lt there has own ne.
            elim (cases_lt j i) [
              | inl k ↦ h.all j p k there has own ne
              | inr k ↦
                  let e : j ≡ i = omega (arith, lt, k) in
                  let a : Has r p = subst (λ n. Has (nth_run runs n) p) e has in
                  let n : spot_in run p ≢ spot_in r p =
                  subst (λ n. spot_in run p ≢ spot_in (nth_run runs n) p) e ne in
                  absurd (n (sym (in_again p a own)
                  ∙ ap (λ (x : Run). spot_in x p) (sym same.0) ∙ in_first p a own))
            ];
      }
      | inr new_pair ↦
          let pair : Pair = record { first = first; again = again } in
          record {
            within = omega (arith, m.within);
            beyond = beyond;
            more = h.more ++ pair ∷ [];
            is =
                new_pair.1 ∙ ap (λ (xs : List Pair). xs ++ pair ∷ []) h.is
                ∙ append_assoc before h.more (pair ∷ []);
            only =
                All-append (Repeats runs run) h.more (pair ∷ []) h.only
                (one_of (Repeats runs run) pair
                (is_pair runs run i start stop order m new_pair.0));
            all = λ j p lt there has own ne.
                elim (cases_lt j i) [
                  | inl k ↦
                      paired_left h.more (pair ∷ []) run p (h.all j p k there has own ne)
                  | inr k ↦
                      let e : j ≡ i = omega (arith, lt, k) in
                      let a : Has r p = subst (λ n. Has (nth_run runs n) p) e has in
                      paired_right h.more (pair ∷ []) run p (inl (in_again p a own))
                ];
          }
    ]

pub repeating_last : (runs : List Run) (run : Run) (before now : List Pair) (i : ℕ)
    → Lie 0 (2 ^ 63) runs → Repeating runs run before now i
    → ((i < length runs) × ((nth_run runs i).position < run.position + run.size) → ⊥)
    → AddsRepeats runs run before now
repeating_last runs run before now i order h not = record {
  more = h.more;
  is = h.is;
  only = h.only;
  all = λ p own there ne.
      let k : IsIn runs p = where_it runs p there in
      let at = spot_at k.index runs no_run p 0 (2 ^ 63) order k.within k.has.0 k.has.1 in
      let in_run = has_it (nth_run runs k.index) p k.has.0 k.has.1 in
      elim (cases_lt k.index i) [
        | inl lt ↦ h.all k.index p lt k.within k.has own (λ e. ne (e ∙ in_run ∙ sym at))
        | inr le ↦
            let low = later i k.index runs no_run 0 (2 ^ 63) order le k.within in
            absurd (not (omega (arith, le, k.within), omega (arith, low, k.has.0, own.1)))
      ];
}

-- ---- the pairs of all payloads

pub again_none : (runs : List Run) → AreAgain [] runs []
again_none runs = record {
  only = λ k d lt. absurd (omega (arith, lt));
  all = λ run h. absurd h;
}

pub one_left : (xs ys : List Run) (run : Run) → IsOneOf xs run → IsOneOf (xs ++ ys) run
one_left [] ys run h = absurd h
one_left (x ∷ xs) ys run h = elim h [ inl e ↦ inl e | inr k ↦ inr (one_left xs ys run k) ]

pub one_last : (xs : List Run) (run : Run) → IsOneOf (xs ++ run ∷ []) run
one_last [] run = inl refl
one_last (x ∷ xs) run = inr (one_last xs run)

pub one_cases : (xs : List Run) (one run : Run) → IsOneOf (xs ++ one ∷ []) run
    → IsOneOf xs run ⊎ (one ≡ run)
one_cases [] one run h = elim h [ inl e ↦ inr e | inr k ↦ absurd k ]
one_cases (x ∷ xs) one run h =
    elim h [
      | inl e ↦ inl (inl e)
      | inr k ↦ elim (one_cases xs one run k) [ inl l ↦ inl (inr l) | inr r ↦ inr r ]
    ]

pub again_more : (payloads runs : List Run) (run : Run) (pairs new : List Pair)
    → AreAgain payloads runs pairs → AddsRepeats runs run pairs new
    → AreAgain (payloads ++ run ∷ []) runs new
again_more payloads runs run pairs new h adds =
    let all = payloads ++ run ∷ [] in
    let Is : Pair → Type 0 = λ pair. (r : Run) × IsOneOf all r × Repeats runs r pair in
    let Was : Pair → Type 0 = λ pair. (r : Run) × IsOneOf payloads r × Repeats runs r pair in
    let weaker : (pair : Pair) → Was pair → Is pair =
    λ pair k. (k.0, one_left payloads (run ∷ []) k.0 k.1, k.2) in
    let own : (pair : Pair) → Repeats runs run pair → Is pair =
    λ pair k. (run, one_last payloads run, k) in
    record {
      only =
          subst (All Is) (sym adds.is)
          (All-append Is pairs adds.more
          (all_map {P = Was} {Q = Is} pairs weaker h.only)
          (all_map {P = Repeats runs run} {Q = Is} adds.more own adds.only));
      all = λ r is p has there ne.
          subst (λ (xs : List Pair). IsPaired xs r p) (sym adds.is)
          (elim (one_cases payloads run r is) [
            | inl k ↦ paired_left pairs adds.more r p (h.all r k p has there ne)
            | inr e ↦
                paired_right pairs adds.more r p
                (subst (λ x. Has x p → spot_in x p ≢ spot_of runs p → IsPaired adds.more x p) e
                (λ own other. adds.all p own there other) has ne)
          ]);
    }

part_one : (xs : List Run) (run part : Run) → IsOneOf xs run
    → ((p : ℕ) → Has part p → spot_in run p ≡ spot_in part p) → IsPartOf xs part
part_one [] run part h f = absurd h
part_one (x ∷ xs) run part h f =
    elim h [
      | inl e ↦ inl (λ p has. ap (λ (r : Run). spot_in r p) e ∙ f p has)
      | inr k ↦ inr (part_one xs run part k f)
    ]

one_at : (xs : List Run) (k : ℕ) (d : Run) → k < length xs → IsOneOf xs (get_or xs k d)
one_at [] k d lt = absurd (omega (arith, lt))
one_at (x ∷ xs) zero d lt = inl refl
one_at (x ∷ xs) (suc k) d lt = inr (one_at xs k d (omega (arith, lt)))

shown_one : (xs : List Run) (run : Run) (p : ℕ) → IsOneOf xs run → Has run p → spot_of xs p ≢ None
shown_one [] run p h has = absurd h
shown_one (x ∷ xs) run p h has =
    elim h [
      | inl e ↦
          let own : Has x p = subst (λ r. Has r p) (sym e) has in
          shown (x ∷ xs) 0 x p (omega arith) own.0 own.1
      | inr k ↦ λ none. shown_one xs run p k has (or_none_right (spot_in x p) (spot_of xs p) none)
    ]

-- those of the payloads that did not begin behind all before them are all
pub late_again : (log ahead late runs : List Run) (pairs : List Pair) → AreParted log ahead late
    → ((p : ℕ) → spot_of runs p ≡ spot_of log p) → AreAgain late runs pairs → AreRepeats log pairs
late_again log ahead late runs pairs parted same h = record {
  only = λ j d lt.
      let k = h.only j d lt in
      let is = k.2 in
      record {
        some = is.some;
        position = is.position;
        size = is.size;
        first = λ p has. sym (same p) ∙ is.first p has;
        again = part_one log k.0 (get_or pairs j d).again (parted.in_log k.0 k.1) is.again;
        elsewhere = is.elsewhere;
      };
  all = λ k d lt p has ne.
      let run = get_or log k d in
      let one : IsOneOf log run = one_at log k d lt in
      elim (parted.of_log run one) [
        | inl is_late ↦
            h.all run is_late p has (λ none. shown_one log run p one has (sym (same p) ∙ none))
            (λ e. ne (e ∙ same p))
        | inr first ↦ absurd (ne (first p has))
      ];
}

-- what was recorded in order was recorded once
pub none_again : (log : List Run) → Lie 0 (2 ^ 63) log → AreRepeats log []
none_again log order = record {
  only = λ k d lt. absurd (omega (arith, lt));
  all = λ j d lt.
      subst (λ (r : Run). (p : ℕ) → Has r p → spot_in r p ≢ spot_of log p → IsPaired [] r p)
      (get_or_default log j no_run d lt)
      (λ p has ne.
      absurd (ne (has_it (nth_run log j) p has.0 has.1
      ∙ sym (spot_at j log no_run p 0 (2 ^ 63) order lt has.0 has.1))));
}
