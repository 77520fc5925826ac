-- What a stream shows, with one more event.
use Rattle.std.proofs.Common.{◌≡◌, ◌≤◌, ℕ, ◌+◌, ◌^◌, List, [], ◌∷◌, ◌++◌, Option, None, Some, length, refl, sym, ◌∙◌, ap, subst, arith, max}
use Rattle.std.specs.List.{flat_map}
use Rattle.std.proofs.lemmas.Grind.{flat_map-append}
use Rattle.std.proofs.lemmas.List.{append-nil, length-append}
use Rattle.streams3.specs.declared.runs.Run.{Run}
use Rattle.streams3.specs.declared.segments.Mark.{Mark}
use Rattle.streams3.specs.declared.segments.Marks.{Marks}
use Rattle.streams3.specs.Events.{Event, Placed, IsPlaced, ArePlaced, payload_of, payloads}
use Rattle.streams3.specs.Runs.{top_of}
use Rattle.streams3.specs.Streams.{Shown, ShowsEvents, acknowledged_of, fin_of, first_from, higher, highest_from, lower, lowest_from, marks_of, rst_of, stray_of, syn_of}
use Rattle.streams3.specs.machinery.Marks.{with_mark}

-- what comes of one more
more : {A : Type 0} (f : Placed → List A) (xs : List Placed) (x : Placed)
    → flat_map f (xs ++ x ∷ []) ≡ flat_map f xs ++ f x
more f xs x = flat_map-append f xs (x ∷ []) ∙ ap (λ ys. flat_map f xs ++ ys) (append-nil (f x))

pub payloads_last : (xs : List Placed) (x : Placed)
    → payloads (xs ++ x ∷ []) ≡ payloads xs ++ payload_of x
payloads_last xs x = more payload_of xs x

first_append : {A : Type 0} (o : Option A) (xs ys : List A)
    → first_from o (xs ++ ys) ≡ first_from (first_from o xs) ys
first_append (Some x) xs ys = refl
first_append None [] ys = refl
first_append None (x ∷ xs) ys = refl

lowest_append : (o : Option Mark) (xs ys : List Mark)
    → lowest_from o (xs ++ ys) ≡ lowest_from (lowest_from o xs) ys
lowest_append o [] ys = refl
lowest_append o (x ∷ xs) ys = lowest_append (Some (lower o x)) xs ys

highest_append : (o : Option Mark) (xs ys : List Mark)
    → highest_from o (xs ++ ys) ≡ highest_from (highest_from o xs) ys
highest_append o [] ys = refl
highest_append o (x ∷ xs) ys = highest_append (Some (higher o x)) xs ys

pub marks_equal : {b1 b2 e1 e2 a1 a2 r1 r2 : Option Mark} {n1 n2 : ℕ} {s1 s2 : Option ℕ} → b1 ≡ b2
    → e1 ≡ e2 → a1 ≡ a2 → r1 ≡ r2 → n1 ≡ n2 → s1 ≡ s2 → let M : Type 0 = Marks in
    let one : M =
    record { begin = b1; end = e1; acknowledged = a1; reset = r1; strays = n1; stray = s1 } in
    let two : M =
    record { begin = b2; end = e2; acknowledged = a2; reset = r2; strays = n2; stray = s2 } in
    one ≡ two
marks_equal b e a r n s = cc

pub marks_last : (xs : List Placed) (x : Placed)
    → marks_of (xs ++ x ∷ []) ≡ with_mark (marks_of xs) x
marks_last xs x =
    marks_equal
    (ap (first_from None) (more syn_of xs x) ∙ first_append None (flat_map syn_of xs) (syn_of x))
    (ap (lowest_from None) (more fin_of xs x) ∙ lowest_append None (flat_map fin_of xs) (fin_of x))
    (ap (highest_from None) (more acknowledged_of xs x)
    ∙ highest_append None (flat_map acknowledged_of xs) (acknowledged_of x))
    (ap (first_from None) (more rst_of xs x) ∙ first_append None (flat_map rst_of xs) (rst_of x))
    (ap length (more stray_of xs x) ∙ length-append (flat_map stray_of xs) (stray_of x))
    (ap (first_from None) (more stray_of xs x)
    ∙ first_append None (flat_map stray_of xs) (stray_of x))

pub placed_last : (events : List Event) (before all : List Placed) (event : Event) (placed : Placed)
    (first : ℕ) → ArePlaced first before events all
    → IsPlaced first (top_of (payloads all)) event placed
    → ArePlaced first before (events ++ event ∷ []) (all ++ placed ∷ [])
placed_last [] before all event placed first e is = (
  placed,
  subst (λ (xs : List Placed). IsPlaced first (top_of (payloads xs)) event placed) e is,
  ap (λ (xs : List Placed). xs ++ placed ∷ []) e,
)
placed_last (one ∷ events) before all event placed first a is =
    (a.0, a.1, placed_last events (before ++ a.0 ∷ []) all event placed first a.2 is)

pub shows_more : (was old new : Shown) (events : List Event) (event : Event) (placed : Placed)
    → IsPlaced old.first (top_of old.log) event placed → new.first ≡ old.first
    → new.log ≡ old.log ++ payload_of placed → new.marks ≡ with_mark old.marks placed
    → old ≡ was → ShowsEvents was events → ShowsEvents new (events ++ event ∷ [])
shows_more was old new events event placed is is_first is_log is_marks same shows =
    let h : ShowsEvents old events = subst (λ s. ShowsEvents s events) (sym same) shows in
    let all = h.placed ++ placed ∷ [] in
    let at : IsPlaced old.first (top_of (payloads h.placed)) event placed =
    subst (λ (rs : List Run). IsPlaced old.first (top_of rs) event placed) h.log is in
    record {
      placed = all;
      are_placed =
          subst (λ (n : ℕ). ArePlaced n [] (events ++ event ∷ []) all) (sym is_first)
          (placed_last events [] h.placed event placed old.first h.are_placed at);
      log =
          is_log ∙ ap (λ (rs : List Run). rs ++ payload_of placed) h.log
          ∙ sym (payloads_last h.placed placed);
      marks = is_marks ∙ ap (λ m. with_mark m placed) h.marks ∙ sym (marks_last h.placed placed);
    }

pub top_last : (xs : List Run) (r : Run)
    → top_of (xs ++ r ∷ []) ≡ max (top_of xs) (r.position + r.size)
top_last [] r = omega arith
top_last (x ∷ xs) r = omega (arith, top_last xs r)

pub top_least : (xs : List Run) → 2 ^ 30 ≤ top_of xs
top_least [] = omega arith
top_least (x ∷ xs) = omega (arith, top_least xs)
